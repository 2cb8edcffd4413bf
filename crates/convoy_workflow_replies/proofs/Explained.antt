-- The explanation of a certificate of a workflow, from what its parts are.
use Rattle.std.proofs.Common.{◌≡◌, ℕ, List, Option, None, ap, ◌∙◌}
use Rattle.convoy_draft.specs.declared.duration.TimeUnit.{TimeUnit}
use Rattle.convoy_scenario.specs.Scenario.{Scenario}
use Rattle.convoy_times.specs.Measures.{measure_by}
use Rattle.convoy_times.specs.declared.measure.Measure.{Measure}
use Rattle.convoy_packets.specs.Assignment.{Schedule}
use Rattle.convoy_causes.specs.declared.cause.Cause.{Cause}
use Rattle.convoy_workflow_certificate.specs.declared.workflow_certificate.WorkflowCertificate.{WorkflowCertificate}
use Rattle.convoy_workflow_replies.specs.WorkflowExplanations.{explained_by, workflow_explained}

pub explained_so : (unit : Option TimeUnit) (certificate : WorkflowCertificate) (measure : Option Measure) (scenario : Scenario) (schedule : Schedule) (causes : List Cause)
    (origin time : ℕ) (out : List ℕ)
    → out ≡ explained_by measure scenario schedule causes origin time → measure ≡ measure_by unit None scenario → scenario ≡ certificate.run.scenario
    → schedule ≡ certificate.run.schedule → causes ≡ certificate.causes.items → origin ≡ certificate.origin → time ≡ certificate.run.latency
    → out ≡ workflow_explained unit certificate
explained_so unit certificate measure scenario schedule causes origin time out told measured of_scenario of_schedule of_causes of_origin of_time =
    told
    ∙ ap (λ (m : Option Measure). explained_by m scenario schedule causes origin time) measured
    ∙ ap (λ (s : Scenario). explained_by (measure_by unit None s) s schedule causes origin time) of_scenario
    ∙ ap (λ (s : Schedule). explained_by (measure_by unit None certificate.run.scenario) certificate.run.scenario s causes origin time) of_schedule
    ∙ ap (λ (cs : List Cause). explained_by (measure_by unit None certificate.run.scenario) certificate.run.scenario certificate.run.schedule cs origin time) of_causes
    ∙ ap (λ (x : ℕ). explained_by (measure_by unit None certificate.run.scenario) certificate.run.scenario certificate.run.schedule certificate.causes.items x time) of_origin
    ∙ ap (λ (n : ℕ). explained_by (measure_by unit None certificate.run.scenario) certificate.run.scenario certificate.run.schedule certificate.causes.items certificate.origin n) of_time
