-- What is found by the run of a schedule, and by a time that no run exceeds.
use Rattle.std.proofs.Common.{◌≡◌, ℕ, Bool, true, false, Some, None, nat_lt, cond, refl, subst, sym}
use Rattle.std.proofs.lemmas.Bool.{ltb-false, ltb-true}
use Rattle.convoy_packets.specs.Assignment.{Schedule}
use Rattle.convoy_causes.specs.Causes.{IsCaused, IsUpperOfCaused, time_from}
use Rattle.convoy_causes.specs.CauseLaws.{MetUpperIsGreatest}
use Rattle.convoy_workflows.specs.Workflows.{WorkflowView}
use Rattle.convoy_workflow_answers.specs.declared.found.Found.{Found}
use Rattle.convoy_workflow_answers.specs.declared.found.Found.TheVariants.{Greatest, Between, AtMost}
use Rattle.convoy_workflow_answers.specs.declared.seeking.Sought.{Sought}
use Rattle.convoy_workflow_answers.specs.SoughtTimes.{IsRunGiven, IsSought, found_between}
use Rattle.convoy_workflow_answers.specs.WorkflowLatencies.{IsFound}
use Rattle.convoy_workflow_answers.proofs.Uppers.{at_most_more}

module _ (met : MetUpperIsGreatest) (workflow : WorkflowView) (schedule : Schedule) (time most : ℕ)
    (caused : IsCaused workflow.scenario workflow.causes schedule)
    (takes : time_from workflow.scenario workflow.origin schedule ≡ time)
    (upper : IsUpperOfCaused workflow.scenario workflow.causes workflow.origin most) where
  abbrev IsSo : Found → Type 0
  IsSo found = IsFound workflow found × IsRunGiven workflow found (Some schedule)

  by_less : (b : Bool) → nat_lt time most ≡ b → IsSo (cond b (Between time most) (Greatest time))
  by_less true e = (((schedule, caused, takes), upper, ltb-true time most e), record { caused = caused; takes = takes })
  by_less false e =
      let above = at_most_more workflow.scenario workflow.causes workflow.origin most time upper (ltb-false time most e) in
      (met workflow.scenario workflow.causes workflow.origin time (schedule, caused, takes) above, record { caused = caused; takes = takes })

  pub is_between : IsSo (found_between time most)
  is_between = by_less (nat_lt time most) refl

-- what is known once a run was found
pub sought_with_run : MetUpperIsGreatest → (workflow : WorkflowView) (schedule : Schedule) (time most : ℕ) (sought : Sought)
    → IsCaused workflow.scenario workflow.causes schedule → time ≡ time_from workflow.scenario workflow.origin schedule
    → IsUpperOfCaused workflow.scenario workflow.causes workflow.origin most
    → sought.found ≡ found_between time most → sought.schedule ≡ Some schedule → IsSought workflow sought
sought_with_run met workflow schedule time most sought caused takes upper found given =
    let so = is_between met workflow schedule time most caused (sym takes) upper in
    record {
      found = subst (IsFound workflow) (sym found) so.0;
      run = rw (found, given) so.1;
    }

-- and where none was
pub sought_without_run : (workflow : WorkflowView) (most : ℕ) (sought : Sought) → IsUpperOfCaused workflow.scenario workflow.causes workflow.origin most
    → sought.found ≡ AtMost most → sought.schedule ≡ None → IsSought workflow sought
sought_without_run workflow most sought upper found given = record {
  found = subst (IsFound workflow) (sym found) upper;
  run = rw (found, given) tt;
}
