-- What rooms tell holds of all breadths.
use Rattle.std.proofs.Common.{◌≡◌, ℕ, ◌+◌, ◌≤◌, false, arith}
use Rattle.convoy_scenario.specs.Scenario.{Scenario}
use Rattle.convoy_scenario.specs.ScenarioLaws.{DraftsGiveScenarios}
use Rattle.convoy_branch.specs.Options.{Settings}
use Rattle.convoy_commands.specs.declared.verdict.Verdict.TheVariants.{Within, Beyond}
use Rattle.convoy_orders.specs.GreatestAt.{TargetIsAskedFor}
use Rattle.convoy_orders.specs.NarrowerDrafts.{NarrowerLinksAreNoSlower}
use Rattle.convoy_budget.specs.declared.kinds.Room.TheVariants.{Any, Until, AtLeast, Never, Unknown, OutOfMemory}
use Rattle.convoy_budget.specs.declared.kinds.Test.{Test}
use Rattle.convoy_budget.specs.declared.kinds.Widening.{Widening}
use Rattle.convoy_budget.specs.BudgetLaws.{KeepsAt, MissesAt, RoomsHold}
use Rattle.convoy_budget.specs.Judging.{IsBeyond, IsJudged, Keeps}
use Rattle.convoy_budget.specs.Ranges.{widest}
use Rattle.convoy_budget.proofs.Telling.{beyond_at, kept_at}
use Rattle.convoy_budget.proofs.Wider.{keeps_narrower}

-- what is beyond a deadline does not keep it
not_both : (deadline : ℕ) (scenario : Scenario) → IsBeyond deadline scenario → Keeps deadline scenario → ⊥
not_both deadline scenario beyond keeps =
    let above = beyond.1 in
    let below = keeps beyond.2.0 beyond.2.1 in
    let is = beyond.2.2 in
    absurd (omega (arith, above, below, is))

module _ (lawful : DraftsGiveScenarios) (asked : TargetIsAskedFor) (slower : NarrowerLinksAreNoSlower)
    (settings : Settings) (test : Test) (scenario : Scenario) (widening : Widening) (searched : test.of_ceiling ≡ false) where
  below : (breadth wide : ℕ) → breadth ≤ wide → IsJudged settings test scenario widening wide Within → KeepsAt test.deadline scenario widening breadth
  below breadth wide less is instance made =
      keeps_narrower lawful asked slower test.deadline scenario widening breadth wide is.instance instance less is.made made
      (kept_at settings test scenario widening searched wide is is.instance is.made)

  above : (narrow breadth : ℕ) → narrow ≤ breadth → IsJudged settings test scenario widening narrow Beyond → MissesAt test.deadline scenario widening breadth
  above narrow breadth less is instance made keeps =
      not_both test.deadline is.instance
      (beyond_at settings test scenario widening searched narrow is is.instance is.made)
      (keeps_narrower lawful asked slower test.deadline scenario widening narrow breadth instance is.instance less made is.made keeps)

pub rooms_hold : DraftsGiveScenarios → TargetIsAskedFor → NarrowerLinksAreNoSlower → RoomsHold
rooms_hold lawful asked slower settings test scenario widening Any breadth searched is =
    λ less. below lawful asked slower settings test scenario widening searched breadth (widest scenario widening) less is
rooms_hold lawful asked slower settings test scenario widening (Until most) breadth searched is = (
  λ less. below lawful asked slower settings test scenario widening searched breadth most less is.kept,
  λ more. above lawful asked slower settings test scenario widening searched (most + 1) breadth (omega (arith, more)) is.next,
)
rooms_hold lawful asked slower settings test scenario widening (AtLeast most) breadth searched is =
    λ less. below lawful asked slower settings test scenario widening searched breadth most less is.kept
rooms_hold lawful asked slower settings test scenario widening Never breadth searched is =
    above lawful asked slower settings test scenario widening searched 0 breadth (omega arith) is
rooms_hold lawful asked slower settings test scenario widening Unknown breadth searched is = tt
rooms_hold lawful asked slower settings test scenario widening OutOfMemory breadth searched is = tt
