-- What a certificate of a workflow is to be of, and in what it differs from that.
use Rattle.std.specs.Prelude.{◌≡◌, ◌⊎◌, Option, Some, None}
use Rattle.convoy_scenario.specs.Differences.{IsFirstDifference}
use Rattle.convoy_scenario.specs.declared.part.Part.{Part}
use Rattle.convoy_scenario.specs.declared.part.Part.TheVariants.{Multicasts, Target}
use Rattle.convoy_workflow_certificate.specs.declared.workflow_certificate.WorkflowCertificate.{WorkflowCertificate}
use Rattle.convoy_workflows.specs.declared.workflow.Workflow.{Workflow}
use Rattle.convoy_workflow_replies.specs.declared.reference.Reference.{Reference}
use Rattle.convoy_workflow_replies.specs.declared.reference.Reference.TheVariants as references

-- the certificate is of that workflow: it has its scenario, in it messages follow the same, and time counts from the same issue
pub record IsOfWorkflow (workflow : Workflow) (certificate : WorkflowCertificate) : Type 0 where
  pub scenario : certificate.run.scenario ≡ workflow.scenario
  pub causes : certificate.causes.items ≡ workflow.causes.items
  pub origin : certificate.origin ≡ workflow.origin

-- the scenarios are one, and messages follow others otherwise
pub record HasOtherCauses (workflow : Workflow) (certificate : WorkflowCertificate) (part : Part) : Type 0 where
  pub scenario : certificate.run.scenario ≡ workflow.scenario
  pub differ : certificate.causes.items ≡ workflow.causes.items → ⊥
  pub is_named : part ≡ Multicasts

-- these are one, too, and time counts from another issue
pub record HasOtherOrigin (workflow : Workflow) (certificate : WorkflowCertificate) (part : Part) : Type 0 where
  pub scenario : certificate.run.scenario ≡ workflow.scenario
  pub causes : certificate.causes.items ≡ workflow.causes.items
  pub differ : certificate.origin ≡ workflow.origin → ⊥
  pub is_named : part ≡ Target

-- the one or the other
abbrev pub DiffersBeside : Workflow → WorkflowCertificate → Part → Type 0
DiffersBeside workflow certificate part = HasOtherCauses workflow certificate part ⊎ HasOtherOrigin workflow certificate part

-- the first part in which it differs from the workflow: of the scenarios, or else of what is said beside these
abbrev pub DiffersFromWorkflow : Workflow → WorkflowCertificate → Part → Type 0
DiffersFromWorkflow workflow certificate part =
    IsFirstDifference workflow.scenario certificate.run.scenario part ⊎ DiffersBeside workflow certificate part

-- it is of that: of a scenario none is, since there no message follows another
abbrev pub IsOf : Reference → WorkflowCertificate → Type 0
IsOf (references.Scenario scenario) certificate = ⊥
IsOf (references.Accepted accepted) certificate = ⊥
IsOf (references.Workflow workflow) certificate = IsOfWorkflow workflow certificate

-- the part in which it differs: from a scenario in its messages
abbrev pub DiffersFrom : Reference → WorkflowCertificate → Part → Type 0
DiffersFrom (references.Scenario scenario) certificate part = part ≡ Multicasts
DiffersFrom (references.Accepted accepted) certificate part = part ≡ Multicasts
DiffersFrom (references.Workflow workflow) certificate part = DiffersFromWorkflow workflow certificate part

-- it is of what is wanted, if something is
abbrev pub IsOfWanted : Option Reference → WorkflowCertificate → Type 0
IsOfWanted None certificate = Unit {0}
IsOfWanted (Some reference) certificate = IsOf reference certificate

-- something is wanted, and in this part it differs from that
abbrev pub DiffersFromWanted : Option Reference → WorkflowCertificate → Part → Type 0
DiffersFromWanted None certificate part = ⊥
DiffersFromWanted (Some reference) certificate part = DiffersFrom reference certificate part
