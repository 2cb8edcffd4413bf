-- What clocks that are wrong tell.
use Rattle.std.proofs.Common.{◌≡◌, ℕ, ◌+◌, ◌-◌, ◌*◌, ◌≤◌, true, List, [], ◌∷◌, get_or, Option, refl, ◌∙◌, arith}
use Rattle.std.specs.Prelude.{map, min, nat_le}
use Rattle.std.specs.List.{list_all}
use Rattle.std.proofs.lemmas.Bool.{and_parts}
use Rattle.std.proofs.lemmas.Bool.Decides.{nat_tests}
use Rattle.convoy_scenario.specs.Scenario.{Scenario}
use Rattle.convoy_traces.specs.declared.told.Told.{Told}
use Rattle.convoy_traces.specs.Traces.{Trace}
use Rattle.convoy_fits.specs.declared.teller.Teller.{Teller}
use Rattle.convoy_fits.specs.declared.teller.Teller.TheVariants as tellers
use Rattle.convoy_fits.specs.declared.departure.Verdict.{Verdict}
use Rattle.convoy_fits.specs.declared.departure.Verdict.TheVariants as verdicts
use Rattle.convoy_fits.specs.Skews.{IsSkewed, corrected, is_since, teller_of}
use Rattle.convoy_fits.specs.Fits.{Fits, FitsWithin}
use Rattle.convoy_fits.specs.Answers.{IsRightVerdict, IsVerdict}
use Rattle.convoy_fits.specs.Tests.{LagLists, is_kept, lag_by}

less_same : (a s : ℕ) → a + s - s ≡ a
less_same a s = omega arith

above_same : (a s : ℕ) → nat_le s (a + s) ≡ true
above_same a s = grind (arith, nat_tests)

at_most : (a b : ℕ) → min a b ≤ b
at_most a b = omega arith

module _ (skew : ℕ) (scenario : Scenario) where
  told_alike : (told : List Told) → told ≡ map (corrected skew (λ teller. skew) scenario) told
  told_alike [] = refl
  told_alike (x ∷ told) =
      let rest = told_alike told in
      rw (less_same x.time skew, ← rest) refl

  all_since : (told : List Told) → list_all (is_since skew (λ teller. skew) scenario) told ≡ true
  all_since [] = refl
  all_since (x ∷ told) = rw (above_same x.time skew) (all_since told)

  -- a trace tells by its own clocks what it tells, whatever they may be wrong by
  pub unmoved : (trace : Trace) → IsSkewed skew scenario trace trace
  unmoved trace = record { lag = λ teller. skew; within = λ teller. omega arith; factor = refl; told = told_alike trace.told; since = all_since trace.told }

few : (lags : LagLists) (teller : Teller) → lag_by lags teller ≤ 2 * lags.skew
few lags (tellers.Group g) = at_most (get_or lags.groups g 0) (2 * lags.skew)
few lags (tellers.Client m) = at_most (get_or lags.clients m 0) (2 * lags.skew)

since_if_kept : (skew : ℕ) (lag : Teller → ℕ) (scenario : Scenario) (told : List Told) → list_all (is_kept skew lag scenario) told ≡ true
    → list_all (is_since skew lag scenario) told ≡ true
since_if_kept skew lag scenario [] e = refl
since_if_kept skew lag scenario (x ∷ told) e =
    let p = and_parts (is_kept skew lag scenario x) (list_all (is_kept skew lag scenario) told) e in
    let q = and_parts (is_since skew lag scenario x) _ p.0 in
    rw q.0 (since_if_kept skew lag scenario told p.1)

pub moved_is : (lags : LagLists) (scenario : Scenario) (trace other : Trace) → list_all (is_kept lags.skew (lag_by lags) scenario) trace.told ≡ true
    → other.told ≡ map (corrected lags.skew (lag_by lags) scenario) trace.told → other.factor ≡ trace.factor → IsSkewed lags.skew scenario trace other
moved_is lags scenario trace other kept told factor = record {
  lag = lag_by lags;
  within = few lags;
  factor = factor;
  told = told;
  since = since_if_kept lags.skew (lag_by lags) scenario trace.told kept;
}

-- a verdict by clocks that are right is one by those that are within the skew
pub by_skewed : (skew : ℕ) (scenario : Scenario) (trace other : Trace) (verdict : Verdict) → IsSkewed skew scenario trace other → IsRightVerdict scenario other verdict
    → IsVerdict skew scenario trace verdict
by_skewed skew scenario trace other (verdicts.Fits latency) skewed right = record { other = other; skewed = skewed; fits = right }
by_skewed skew scenario trace other (verdicts.Outside departure) skewed right = absurd right
by_skewed skew scenario trace other (verdicts.Departs departure) skewed right = record { other = other; skewed = skewed; departs = right }

no_lag : (a lag : ℕ) → lag ≤ 2 * 0 → a + lag - 0 ≡ a
no_lag a lag none = omega arith

told_right : (lag : Teller → ℕ) (scenario : Scenario) → ((teller : Teller) → lag teller ≤ 2 * 0) → (told : List Told) → map (corrected 0 lag scenario) told ≡ told
told_right lag scenario none [] = refl
told_right lag scenario none (x ∷ told) =
    let rest = told_right lag scenario none told in
    rw (no_lag x.time (lag (teller_of scenario x.message x.event)) (none (teller_of scenario x.message x.event)), rest) refl

same_trace : (trace other : Trace) → other.factor ≡ trace.factor → other.told ≡ trace.told → other ≡ trace
same_trace trace other factor told = rw (← factor, ← told) refl

pub right_without : (scenario : Scenario) (trace : Trace) (latency : Option ℕ) → FitsWithin 0 scenario trace latency → Fits scenario trace latency
right_without scenario trace latency holds =
    let told = holds.skewed.told ∙ told_right holds.skewed.lag scenario holds.skewed.within trace.told in
    let same : holds.other ≡ trace = same_trace trace holds.other holds.skewed.factor told in
    rw same at holds.fits

pub right_within : (skew : ℕ) (scenario : Scenario) (trace : Trace) (latency : Option ℕ) → Fits scenario trace latency → FitsWithin skew scenario trace latency
right_within skew scenario trace latency fits = record { other = trace; skewed = unmoved skew scenario trace; fits = fits }
