-- A wider range of one way keeps no deadline that a narrower one misses.
use Rattle.std.proofs.Common.{◌≡◌, ℕ, ◌≤◌, max, pos, Bool, true, false, cond, List, [], ◌∷◌, map, Ok, refl, sym, subst, arith}
use Rattle.std.specs.List.{AllZip}
use Rattle.convoy_draft.specs.Checks.{checks, is_within, judge, ticks}
use Rattle.convoy_draft.specs.declared.limits.TheConstants.{GREATEST_DELAY}
use Rattle.convoy_scenario.specs.Numbering.{scenario_of}
use Rattle.convoy_scenario.specs.Scenario.{Scenario}
use Rattle.convoy_scenario.specs.ScenarioLaws.{DraftsGiveScenarios}
use Rattle.convoy_scenario.proofs.GivenScenarios.{given, passed}
use Rattle.convoy_scenario.proofs.LinkLemmas.{ticks_again}
use Rattle.convoy_sim.specs.Greatest.{IsUpper}
use Rattle.convoy_orders.specs.GreatestAt.{TargetIsAskedFor}
use Rattle.convoy_orders.specs.NarrowerDrafts.{IsNarrowerLink, NarrowerLinksAreNoSlower}
use Rattle.convoy_orders.specs.NarrowerRanges.{IsWithinRange}
use Rattle.convoy_budget.specs.declared.kinds.Side.{Side}
use Rattle.convoy_budget.specs.declared.kinds.Side.TheVariants.{Later, Earlier}
use Rattle.convoy_budget.specs.declared.kinds.Way.{Way}
use Rattle.convoy_budget.specs.declared.kinds.Widening.{Widening}
use Rattle.convoy_budget.specs.Judging.{Keeps}
use Rattle.convoy_budget.specs.Ranges.{link_on, range_at, range_of_way, ranged_draft, widened, with_range}
use Rattle.convoy_budget.specs.Ways.{all_ways, is_same_way}

-- D of a scenario is that of its draft
delay_is : DraftsGiveScenarios → (scenario : Scenario) (way : Way) (range : ℕ × ℕ) →
    with_range scenario way range ≡ Ok (scenario_of (ranged_draft scenario way range)) →
    (ticks GREATEST_DELAY (pos (max scenario.delay range.1)) ≡ max scenario.delay range.1) × (max scenario.delay range.1 ≤ GREATEST_DELAY)
delay_is lawful scenario way range is =
    let n : ℕ = max scenario.delay range.1 in
    let well = lawful (ranged_draft scenario way range) (scenario_of (ranged_draft scenario way range)) is in
    by_test (is_within 0 GREATEST_DELAY (pos n)) refl well.delay_low well.delay_high where
      by_test : (b : Bool) → is_within 0 GREATEST_DELAY (pos (max scenario.delay range.1)) ≡ b →
          1 ≤ cond b (max scenario.delay range.1) 0 → cond b (max scenario.delay range.1) 0 ≤ GREATEST_DELAY →
          (cond b (max scenario.delay range.1) 0 ≡ max scenario.delay range.1) × (max scenario.delay range.1 ≤ GREATEST_DELAY)
      by_test true is low high = (refl, high)
      by_test false is low high = absurd (omega (arith, low))

-- the range of the breadth, within that of a greater one
record IsWider (range wide : ℕ × ℕ) : Type 0 where
  least : wide.0 ≤ range.0
  most : range.1 ≤ wide.1
  low : range.0 ≤ wide.1

wider_at : (side : Side) (range : ℕ × ℕ) (breadth wide : ℕ) → breadth ≤ wide → IsWider (range_at side range breadth) (range_at side range wide)
wider_at Later range breadth wide less = record { least = omega arith; most = omega (arith, less); low = omega arith }
wider_at Earlier range breadth wide less = record { least = omega (arith, less); most = omega arith; low = omega arith }

within_written : (range wide : ℕ × ℕ) → IsWider range wide → wide.1 ≤ GREATEST_DELAY →
    IsWithinRange (ticks GREATEST_DELAY (pos range.0), ticks GREATEST_DELAY (pos range.1)) (ticks GREATEST_DELAY (pos wide.0), ticks GREATEST_DELAY (pos wide.1))
within_written range wide is high =
    let least = is.least in
    let most = is.most in
    let low = is.low in
    rw (
      ticks_again GREATEST_DELAY range.0 (omega (arith, low, high)),
      ticks_again GREATEST_DELAY range.1 (omega (arith, most, high)),
      ticks_again GREATEST_DELAY wide.0 (omega (arith, least, low, high)),
      ticks_again GREATEST_DELAY wide.1 high,
    )
    (least, most)

narrower_on : (scenario : Scenario) (way : Way) (range wide : ℕ × ℕ) → IsWider range wide → wide.1 ≤ GREATEST_DELAY → (other : Way) →
    IsNarrowerLink (link_on scenario way wide other) (link_on scenario way range other)
narrower_on scenario way range wide is high other = record {
  sender = refl;
  to = refl;
  stamps = refl;
  range = by_test (is_same_way way other);
} where
  by_test : (b : Bool) → IsWithinRange
      (ticks GREATEST_DELAY (pos (cond b range (range_of_way scenario other)).0), ticks GREATEST_DELAY (pos (cond b range (range_of_way scenario other)).1))
      (ticks GREATEST_DELAY (pos (cond b wide (range_of_way scenario other)).0), ticks GREATEST_DELAY (pos (cond b wide (range_of_way scenario other)).1))
  by_test true = within_written range wide is high
  by_test false = (omega arith, omega arith)

all_narrower : (scenario : Scenario) (way : Way) (range wide : ℕ × ℕ) → IsWider range wide → wide.1 ≤ GREATEST_DELAY → (ways : List Way) →
    AllZip IsNarrowerLink (map (link_on scenario way wide) ways) (map (link_on scenario way range) ways)
all_narrower scenario way range wide is high [] = tt
all_narrower scenario way range wide is high (other ∷ ways) =
    (narrower_on scenario way range wide is high other, all_narrower scenario way range wide is high ways)

module _ (lawful : DraftsGiveScenarios) (asked : TargetIsAskedFor) (slower : NarrowerLinksAreNoSlower) where
  -- the same of the scenarios of the drafts
  keeps_too : (deadline : ℕ) (scenario : Scenario) (way : Way) (range wide : ℕ × ℕ) → IsWider range wide →
      with_range scenario way wide ≡ Ok (scenario_of (ranged_draft scenario way wide)) →
      with_range scenario way range ≡ Ok (scenario_of (ranged_draft scenario way range)) →
      IsUpper (scenario_of (ranged_draft scenario way wide)) deadline → IsUpper (scenario_of (ranged_draft scenario way range)) deadline
  keeps_too deadline scenario way range wide is made made_too upper =
      let w : Scenario = scenario_of (ranged_draft scenario way wide) in
      let n : Scenario = scenario_of (ranged_draft scenario way range) in
      let d = delay_is lawful scenario way wide made in
      let e = delay_is lawful scenario way range made_too in
      let most = is.most in
      let high : wide.1 ≤ GREATEST_DELAY = omega (arith, d.1) in
      let low : n.delay ≤ w.delay = rw (d.0, e.0) (omega (arith, most)) in
      (asked n w.target_message w.target_group deadline).0.1
      (slower (ranged_draft scenario way wide) (pos (max scenario.delay range.1)) (map (link_on scenario way range) (all_ways scenario))
      w n w.target_message w.target_group deadline made made_too low (all_narrower scenario way range wide is high (all_ways scenario))
      ((asked w w.target_message w.target_group deadline).0.0 upper))

  -- where a range of some breadth keeps the deadline, each of a lesser one does
  pub keeps_narrower : (deadline : ℕ) (scenario : Scenario) (widening : Widening) (breadth wide : ℕ) (one other : Scenario) → breadth ≤ wide →
      widened scenario widening wide ≡ Ok one → widened scenario widening breadth ≡ Ok other → Keeps deadline one → Keeps deadline other
  keeps_narrower deadline scenario widening breadth wide one other less made made_too keeps =
      let way : Way = widening.way in
      let range : ℕ × ℕ = range_at widening.side (range_of_way scenario way) breadth in
      let more : ℕ × ℕ = range_at widening.side (range_of_way scenario way) wide in
      let p = passed (judge (checks (ranged_draft scenario way more))) (scenario_of (ranged_draft scenario way more)) one made in
      let q = passed (judge (checks (ranged_draft scenario way range))) (scenario_of (ranged_draft scenario way range)) other made_too in
      subst (λ (s : Scenario). Keeps deadline s) q.1
      (keeps_too deadline scenario way range more (wider_at widening.side (range_of_way scenario way) breadth wide less)
      (given (ranged_draft scenario way more) p.0 p.2)
      (given (ranged_draft scenario way range) q.0 q.2)
      (subst (λ (s : Scenario). Keeps deadline s) (sym p.1) keeps))
