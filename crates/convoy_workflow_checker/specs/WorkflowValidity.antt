-- What a certificate of a workflow has to meet.
use Rattle.std.specs.Prelude.{◌≡◌, ◌<◌, [], length, IsTrue}
use Rattle.convoy_causes.specs.Causes.{AreCauses, IsCaused, time_from}
use Rattle.convoy_causes.specs.CauseWindows.{closes_by, has_room_from}
use Rattle.convoy_workflow_certificate.specs.declared.workflow_certificate.WorkflowCertificate.{WorkflowCertificate}

-- Its causes are those of messages of its scenario, and time is counted from the issue of one of these, for which there is room. In the run of its schedule messages follow their causes, and it takes the time that is stated; and for that time the scenario is closed.
pub record IsValidWorkflow (certificate : WorkflowCertificate) : Type 0 where
  pub tree : certificate.run.nodes ≡ []
  pub causes : AreCauses certificate.run.scenario certificate.causes.items
  pub known : certificate.origin < length certificate.run.scenario.multicasts
  pub room : IsTrue (has_room_from certificate.run.scenario certificate.origin)
  pub caused : IsCaused certificate.run.scenario certificate.causes.items certificate.run.schedule
  pub time : time_from certificate.run.scenario certificate.origin certificate.run.schedule ≡ certificate.run.latency
  pub closed : IsTrue (closes_by certificate.run.scenario certificate.causes.items certificate.origin certificate.within.items certificate.run.latency)
