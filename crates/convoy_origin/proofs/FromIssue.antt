-- The bounds of a box where the target does not wait: those from the one tick at which it is issued.
use Rattle.std.proofs.Common.{◌≡◌, sym}
use Rattle.std.proofs.lemmas.List.Elements.{All-nil}
use Rattle.convoy_scenario.specs.Scenario.{Scenario}
use Rattle.convoy_scenario.specs.WellFormed.{IsScenario}
use Rattle.convoy_intervals.specs.Bounds.{plain_bound}
use Rattle.convoy_intervals.specs.Boxes.{Box, IsBox}
use Rattle.convoy_stamps.specs.StampBounds.{stamp_bound}
use Rattle.convoy_regions.specs.Regions.{any_order}
use Rattle.convoy_regions.specs.Stages.{IsPrecedence}
use Rattle.convoy_origin.specs.FromOrigin.{plain_from_origin, stamp_from_origin}
use Rattle.convoy_origin.specs.FromOriginLaws.{AreFromIssue, FromOriginIsFromIssue}
use Rattle.convoy_scenario.specs.Widened.{target_wait}

module _ (law : FromOriginIsFromIssue) (plan : Scenario) (ranges : Box) (none : target_wait plan ≡ 0) (well : IsScenario plan) (is : IsBox plan ranges) where
  from_issue : AreFromIssue plan (any_order ranges)
  from_issue = law plan (any_order ranges) none well (record { inside = is; within = All-nil (IsPrecedence plan) })

  pub plain_from_issue : plain_bound plan ranges ≡ plain_from_origin plan ranges
  plain_from_issue = sym from_issue.plain

  pub stamp_from_issue : stamp_bound plan ranges ≡ stamp_from_origin plan ranges
  stamp_from_issue = sym from_issue.stamp
