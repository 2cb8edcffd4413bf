-- What a certificate of finishes is to be of, and in what it differs from that.
use Rattle.std.specs.Prelude.{◌≡◌, ◌⊎◌, ◌<◌, ℕ, length, Option, Some, None}
use Rattle.convoy_scenario.specs.Differences.{IsFirstDifference}
use Rattle.convoy_scenario.specs.declared.part.Part.{Part}
use Rattle.convoy_scenario.specs.declared.part.Part.TheVariants.{Groups, Multicasts}
use Rattle.convoy_finishes.specs.Finishes.{way_at}
use Rattle.convoy_finish_answers.specs.declared.accepted.Accepted.{Accepted}
use Rattle.convoy_finish_checker.specs.declared.finish_certificate.FinishCertificate.{FinishCertificate}
use Rattle.convoy_workflow_replies.specs.declared.reference.Reference.{Reference}
use Rattle.convoy_workflow_replies.specs.declared.reference.Reference.TheVariants as references

-- messages take the same ways by each group
abbrev pub AreSameWays : Accepted → FinishCertificate → Type 0
AreSameWays accepted certificate =
    (m k : ℕ) → m < length accepted.scenario.multicasts → k < length accepted.scenario.groups → way_at certificate.ways m k ≡ way_at accepted.ways m k

-- the certificate is of that scenario, and its messages are finished by the same ways
pub record IsOfAccepted (accepted : Accepted) (certificate : FinishCertificate) : Type 0 where
  pub scenario : certificate.run.scenario ≡ accepted.scenario
  pub ways : AreSameWays accepted certificate

-- the scenarios are one, and messages are finished by other ways, since the replicas of groups are elsewhere
pub record HasOtherWays (accepted : Accepted) (certificate : FinishCertificate) (part : Part) : Type 0 where
  pub scenario : certificate.run.scenario ≡ accepted.scenario
  pub differ : AreSameWays accepted certificate → ⊥
  pub is_named : part ≡ Groups

-- it is of that: of a scenario in which groups are not replicated by white box none is, and of no workflow
abbrev pub IsOf : Reference → FinishCertificate → Type 0
IsOf (references.Scenario scenario) certificate = ⊥
IsOf (references.Accepted accepted) certificate = IsOfAccepted accepted certificate
IsOf (references.Workflow workflow) certificate = ⊥

-- the part in which it differs
abbrev pub DiffersFrom : Reference → FinishCertificate → Part → Type 0
DiffersFrom (references.Scenario scenario) certificate part = part ≡ Groups
DiffersFrom (references.Accepted accepted) certificate part =
    IsFirstDifference accepted.scenario certificate.run.scenario part ⊎ HasOtherWays accepted certificate part
DiffersFrom (references.Workflow workflow) certificate part = part ≡ Multicasts

-- it is of what is wanted, if something is
abbrev pub IsOfWanted : Option Reference → FinishCertificate → Type 0
IsOfWanted None certificate = Unit {0}
IsOfWanted (Some reference) certificate = IsOf reference certificate

-- something is wanted, and in this part it differs from that
abbrev pub DiffersFromWanted : Option Reference → FinishCertificate → Part → Type 0
DiffersFromWanted None certificate part = ⊥
DiffersFromWanted (Some reference) certificate part = DiffersFrom reference certificate part
