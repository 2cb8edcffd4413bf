-- What reading gives that a certificate, or a trace, is to be of.
use Rattle.std.specs.Prelude.{◌≡◌, ◌⊎◌, ℕ, ◌≤◌, Bool, true, false, List, length, Result, Ok, Err}
use Rattle.std.specs.List.{FoldsTo}
use Rattle.convoy_streams.specs.declared.reading.ReadFault.TheVariants as reading
use Rattle.convoy_streams.specs.Devices.{Answer}
use Rattle.convoy_streams.specs.Reads.{ReadsText, StopsReading}
use Rattle.convoy_toml.specs.Reading.{accepts_by_text, as_written, scenario_of_text}
use Rattle.convoy_workflows.specs.Reading.{is_workflow_text, view_of, workflow_of_text}
use Rattle.convoy_commands.specs.declared.fault.Fault.{Fault}
use Rattle.convoy_commands.specs.declared.fault.Fault.TheVariants.{Memory}
use Rattle.convoy_commands.specs.declared.limits.TheConstants.{LONGEST_JOB}
use Rattle.convoy_commands.specs.Searches.{IsFaultyBy}
use Rattle.convoy_task_list.specs.declared.task.Task.{Task}
use Rattle.convoy_task_list.specs.declared.task.Task.TheVariants.{Certificate as OfCertificate}
use Rattle.convoy_workflow_answers.specs.WorkflowLatencies.{IsFaultyWorkflow}
use Rattle.convoy_workflow_replies.specs.declared.reference.Reference.{Reference}
use Rattle.convoy_workflow_replies.specs.declared.reference.Reference.TheVariants as references
use Rattle.convoy_finish_answers.specs.AcceptedTexts.{IsAccepted, IsNotAccepted}
use Rattle.convoy_tasks.specs.Runs.{IsUnread}

-- what is wanted may be more than a scenario: for a certificate, which may be one of a workflow or of finishes
abbrev pub takes_others : Task → Bool
takes_others (OfCertificate unit limit what) = true
takes_others other = false

-- how a text is read: as that of a workflow, as that of a scenario whose groups are replicated by white box, or as that of another scenario
pub data Form : Type 0 where
  OfWorkflow : Form
  OfAccepted : Form
  OfScenario : Form

-- how one is read that is that of no workflow, by whether its groups are replicated by white box
abbrev pub form_of_scenario : Bool → Form
form_of_scenario true = OfAccepted
form_of_scenario false = OfScenario

-- how a text is read of which more than a scenario may be wanted, by whether it is that of a workflow
abbrev pub form_of_other : Bool → List ℕ → Form
form_of_other true text = OfWorkflow
form_of_other false text = form_of_scenario (accepts_by_text text)

-- how a text is read
abbrev pub form_of : Bool → List ℕ → Form
form_of true text = form_of_other (is_workflow_text text) text
form_of false text = OfScenario

-- the text gives this where it is read so
abbrev pub Gives : Form → List ℕ → Reference → Type 0
Gives OfWorkflow text (references.Workflow workflow) = workflow_of_text as_written text ≡ Ok (view_of workflow)
Gives OfAccepted text (references.Accepted accepted) = IsAccepted as_written text accepted
Gives OfScenario text (references.Scenario scenario) = scenario_of_text text ≡ Ok scenario
Gives form text reference = ⊥

-- the text has this fault
abbrev pub IsFaulty : Form → List ℕ → Fault → Type 0
IsFaulty OfWorkflow text fault = IsFaultyWorkflow as_written text fault
IsFaulty OfAccepted text fault = IsNotAccepted as_written text fault
IsFaulty OfScenario text fault = IsFaultyBy as_written text fault

-- the one or the other
abbrev pub GivesOrFails : Form → List ℕ → Result Reference Fault → Type 0
GivesOrFails form text (Ok reference) = Gives form text reference
GivesOrFails form text (Err fault) = IsFaulty form text fault

-- the same, unless memory ran out
abbrev pub GivesUnlessMemory : Form → List ℕ → Result Reference Fault → Type 0
GivesUnlessMemory form text result = GivesOrFails form text result ⊎ (result ≡ Err Memory)

-- What reading gives, by whether more than a scenario may be wanted and by what the reads answered, where at most so many are made.
abbrev pub ReadsReference : Bool → ℕ → List Answer → Result Reference Fault → Type 0
-- the reads gave a text whole, of no more bytes than a job may have, and it gives this
ReadsReference takes most_reads reads (Ok reference) =
    (text : List ℕ) × ReadsText LONGEST_JOB reads text × Gives (form_of takes text) text reference
-- memory ran out, in reading or after the text was read
ReadsReference takes most_reads reads (Err Memory) =
    StopsReading LONGEST_JOB most_reads reads reading.Memory ⊎ ((text : List ℕ) × ReadsText LONGEST_JOB reads text)
-- reading stopped, or the text has a fault
ReadsReference takes most_reads reads (Err fault) =
    IsUnread LONGEST_JOB most_reads reads fault
    ⊎ ((text : List ℕ) × ReadsText LONGEST_JOB reads text × IsFaulty (form_of takes text) text fault)

-- Over a source that may answer so, from its old state to its new one, there is a reading that gives this result.
pub record IsReferenceRead {S : Type 0} (takes : Bool) (most_reads : ℕ) (may_read : S → Answer → S → Type 0) (source new_source : S)
    (result : Result Reference Fault) : Type 0 where
  pub reads : List Answer
  pub read : FoldsTo may_read source reads new_source
  pub few : length reads ≤ most_reads
  pub outcome : ReadsReference takes most_reads reads result
