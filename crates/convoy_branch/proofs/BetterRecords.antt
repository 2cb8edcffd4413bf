-- The best record of a search after a step: no worse than before, and of the latency that is known then.
use Rattle.std.specs.Prelude.{◌≡◌, ℕ, ◌≤◌, ◌<◌, nat_le, Bool, true, false, ◌||◌, if◌then◌else◌, Option, Some, None, IfSome, unwrap_or}
use Rattle.std.proofs.Common.{arith, refl, rules, subst, sym, ◌∙◌}
use Rattle.std.proofs.lemmas.Bool.{false≢true}
use Rattle.std.proofs.lemmas.Bool.Decides.{nat_tests}
use Rattle.convoy_scenario.specs.Scenario.{Scenario}
use Rattle.convoy_branch.specs.declared.bounds.Bounds.{Bounds}
use Rattle.convoy_branch.specs.SearchBounds.{closes_for}
use Rattle.convoy_packets.specs.Assignment.{Schedule}
use Rattle.convoy_sim.specs.Delivery.{latency_of}
use Rattle.convoy_sim.specs.Record.{Record, attained_by}
use Rattle.convoy_regions.specs.Regions.{Region, run_of}
use Rattle.convoy_branch.specs.Steps.{IsBetter, IsFound, found_in, known_after}

-- what was found keeps the best record as good as it was, or makes it better
pub record IsNoWorse (plan : Scenario) (best : Record) (found : Option Record) : Type 0 where
  pub scenario : (unwrap_or found best).scenario ≡ plan
  pub above : best.latency ≤ (unwrap_or found best).latency
  pub known : known_after best.latency found ≡ (unwrap_or found best).latency

-- a better record or none does so
IsNoWorse-better : (plan : Scenario) (best : Record) (found : Option Record) → best.scenario ≡ plan → IfSome found (IsBetter plan best.latency) → IsNoWorse plan best found
IsNoWorse-better plan best None scenario better =
    record { scenario = scenario; above = omega arith; known = refl }
IsNoWorse-better plan best (Some found) scenario better =
    record { scenario = better.of_scenario; above = omega (arith, better.above); known = refl }

pub IsNoWorse-found : (bounds : Bounds) (plan : Scenario) (best : Record) (region : Region) (found : Option Record) → best.scenario ≡ plan → IsFound bounds plan region best.latency found → IsNoWorse plan best found
IsNoWorse-found bounds plan best region found scenario is = IsNoWorse-better plan best found scenario is.better

-- ---- The record of the run

-- which is above the latency seen where it is found
above_seen : (closed : Bool) (latency seen : ℕ) → false ≡ (closed || nat_le latency seen) → seen < latency
above_seen true latency seen is = absurd (false≢true is)
above_seen false latency seen is = grind (arith, nat_tests)

IsBetter-tried : (plan : Scenario) (schedule : Schedule) (seen : ℕ) (closed stays : Bool) → stays ≡ (closed || nat_le (latency_of plan schedule) seen) → IfSome (if stays then None else Some (attained_by plan schedule)) (IsBetter plan seen)
IsBetter-tried plan schedule seen closed true is = search rules
IsBetter-tried plan schedule seen closed false is =
    record { of_scenario = refl; above = above_seen closed (latency_of plan schedule) seen is }

none_if_closed : (plan : Scenario) (schedule : Schedule) (seen : ℕ) (closed : Bool) → closed ≡ true → (if closed || nat_le (latency_of plan schedule) seen then None else Some (attained_by plan schedule)) ≡ None
none_if_closed plan schedule seen true is = refl
none_if_closed plan schedule seen false is = absurd (false≢true is)

-- it is what a look finds, if that finds no better one
pub IsFound-run : (bounds : Bounds) (plan : Scenario) (region : Region) (seen : ℕ) (found : Option Record) → found ≡ found_in bounds plan region seen → IsFound bounds plan region seen found
IsFound-run bounds plan region seen found is =
    let closed = closes_for bounds plan region seen in
    let better : IfSome (found_in bounds plan region seen) (IsBetter plan seen) = IsBetter-tried plan (run_of plan region) seen closed (closed || nat_le (latency_of plan (run_of plan region)) seen) refl in
    record {
      closed = λ closes. is ∙ none_if_closed plan (run_of plan region) seen closed closes;
      better = subst (λ (f : Option Record). IfSome f (IsBetter plan seen)) (sym is) better;
      greatest = λ _. is;
    }
