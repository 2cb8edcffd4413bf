-- Regions of the widened scenario: they hold the members with their issues moved, and so close what they close.
use Rattle.std.proofs.Common.{get_or, ap, ◌∙◌, arith}
use Rattle.convoy_scenario.specs.Scenario.{Scenario}
use Rattle.convoy_regions.specs.declared.stage.Stage.{Stage}
use Rattle.convoy_regions.specs.Stages.{IsPrecedence, IsStage, Precedence}
use Rattle.convoy_regions.specs.Regions.{any_order}
use Rattle.convoy_scenario.specs.Widened.{widened}
use Rattle.convoy_origin.specs.Widened.{widened_schedule}
use Rattle.convoy_origin.specs.WidenedRegions.{ClosedByWidened, MembersWiden, RegionsWiden, RootWidens}
use Rattle.convoy_origin.proofs.LaterStages.{kept_later}
use Rattle.convoy_origin.proofs.WidenedParts.{is_widened, same_addressed}
use Rattle.convoy_origin.proofs.WidenedRuns.{assignment, issues_later, latency_same, left}
use Rattle.convoy_origin.proofs.WidenedBoxes.{box_widens, member_widens, root_box_widens}

module _ (plan : Scenario) where
  stage_widens : (stage : Stage) → IsStage plan stage → IsStage (widened plan) stage
  stage_widens stage is = record {
    goes = same_addressed plan (widened plan) (is_widened plan) stage.message stage.group ∙ is.goes;
    message = is.message;
    group = is.group;
  }

  precedence_widens : (pair : Precedence) → IsPrecedence plan pair → IsPrecedence (widened plan) pair
  precedence_widens pair is =
      record { first = stage_widens pair.0 is.first; second = stage_widens pair.1 is.second; one_group = is.one_group }

pub regions_widen : RegionsWiden
regions_widen plan region is = record {
  inside = box_widens plan region.ranges is.inside;
  within = λ k d l. precedence_widens plan (get_or region.before k d) (is.within k d l);
}

pub members_widen : MembersWiden
members_widen plan region schedule is given member = (
  member_widens plan region.ranges schedule member.0,
  kept_later (left plan schedule given) plan schedule (widened plan) (widened_schedule plan schedule) (issues_later plan schedule given)
      region.before is.within member.1,
)

pub root_widens : RootWidens
root_widens plan = ap any_order (root_box_widens plan)

pub closed_by_widened : ClosedByWidened
closed_by_widened plan region latency goes is closed schedule given member =
    let most = closed (widened_schedule plan schedule) (assignment plan schedule given) (members_widen plan region schedule is given member) in
    let same = latency_same plan schedule given goes in
    omega arith
