-- In a run that is another one so many ticks later the same comes before the same.
use Rattle.std.proofs.Common.{◌≡◌, ℕ, List, get_or, sym, ap₂, ◌∙◌}
use Rattle.std.specs.List.{All}
use Rattle.convoy_scenario.specs.Scenario.{Scenario, GoesTo}
use Rattle.convoy_packets.specs.Assignment.{Schedule}
use Rattle.convoy_sim.specs.declared.moment.MomentKind.{MomentKind}
use Rattle.convoy_sim.specs.declared.moment.MomentKind.TheVariants.{Arrival, Commit}
use Rattle.convoy_sim.specs.Moments.{is_before}
use Rattle.convoy_regions.specs.declared.stage.Stage.{Stage}
use Rattle.convoy_regions.specs.Stages.{AreKept, IsPrecedence, IsStage, Precedence, comes_before, moment_by, moment_of}
use Rattle.convoy_origin.specs.Later.{IssuesLater, moment_later}
use Rattle.convoy_origin.proofs.LaterRuns.{arrival_later, commit_later, later_before}

module _ (by : ℕ) (plan : Scenario) (schedule : Schedule) (other : Scenario) (late : Schedule) (is : IssuesLater by plan schedule other late) where
  moment_is : (kind : MomentKind) (m g : ℕ) → GoesTo plan m g → moment_by kind other late m g ≡ moment_later by (moment_by kind plan schedule m g)
  moment_is Arrival m g goes = arrival_later by plan schedule other late is m g goes
  moment_is Commit m g goes = commit_later by plan schedule other late is m g goes

  comes_same : (a b : Stage) → IsStage plan a → IsStage plan b → comes_before other late a b ≡ comes_before plan schedule a b
  comes_same a b first second =
      ap₂ is_before (moment_is a.kind a.message a.group first.goes) (moment_is b.kind b.message b.group second.goes)
      ∙ later_before by (moment_of plan schedule a) (moment_of plan schedule b)

  module _ (before : List Precedence) (within : All (IsPrecedence plan) before) where
    pub kept_later : AreKept plan schedule before → AreKept other late before
    kept_later kept k d l =
        let pair : Precedence = get_or before k d in
        comes_same pair.0 pair.1 (within k d l).first (within k d l).second ∙ kept k d l

    pub kept_sooner : AreKept other late before → AreKept plan schedule before
    kept_sooner kept k d l =
        let pair : Precedence = get_or before k d in
        sym (comes_same pair.0 pair.1 (within k d l).first (within k d l).second) ∙ kept k d l
