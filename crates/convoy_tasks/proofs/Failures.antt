-- How many failures the answers in a run of a task have.
use Rattle.std.proofs.Common.{◌⊎◌, ◌∙◌, ◌≡◌, ℕ, List, [], Option, Ok, Err, refl, inl, inr}
use Rattle.convoy_streams.specs.declared.reading.ReadFault.{ReadFault}
use Rattle.convoy_streams.specs.declared.reading.ReadFault.TheVariants as reading
use Rattle.convoy_streams.specs.Devices.{Answer, Moved, Failed, failures}
use Rattle.convoy_streams.specs.Reads.{ReadsText, StopsReading}
use Rattle.convoy_commands.specs.declared.fault.Fault.{Fault}
use Rattle.convoy_commands.specs.declared.fault.Fault.TheVariants.{Memory, Reading, Write}
use Rattle.convoy_commands.specs.Faults.{told_of_reading}
use Rattle.convoy_streams.proofs.FailureCounts.{after_pieces, in_nothing, none_in_pieces}
use Rattle.convoy_task_list.specs.declared.task.Task.{Task}
use Rattle.convoy_workflow_replies.specs.declared.reference.Reference.{Reference}
use Rattle.convoy_tasks.specs.Tasks.{longest_for, task_says}
use Rattle.convoy_tasks.proofs.TaskFaults.{says_no_device}
use Rattle.convoy_commands.proofs.NoDevice.{IsNoDevice}
use Rattle.convoy_commands.specs.CommandLaws.{told_reads}
use Rattle.convoy_tasks.specs.TaskLaws.{FailuresAreTold}
use Rattle.convoy_tasks.specs.Runs.{IsUnread, Replied}

-- where a text was read
in_text : (longest : ℕ) (reads : List Answer) (text : List ℕ) → ReadsText longest reads text → failures reads ≡ 0
in_text longest reads text read = rw read.end (after_pieces read.pieces (Moved []) read.given.each)

-- where reading stopped
in_stop : (longest most_reads : ℕ) (reads : List Answer) (cause : ReadFault) →
    StopsReading longest most_reads reads cause → failures reads ≡ told_reads (Err (told_of_reading cause))
in_stop longest most_reads reads reading.Read stop = rw stop.last (after_pieces stop.pieces Failed stop.given.each)
in_stop longest most_reads reads (reading.TooLong limit) stop =
    let much = stop.1 in rw much.last (after_pieces much.pieces (Moved much.bytes) much.given.each)
in_stop longest most_reads reads reading.TooManyReads stop = none_in_pieces reads stop.0.each
in_stop longest most_reads reads reading.Memory stop = none_in_pieces reads stop.each

-- where the text has a fault, which is no device's
in_refusal : (fault : Fault) → IsNoDevice fault → 0 ≡ told_reads (Err fault)
in_refusal (Reading reading.Read) none = absurd none
in_refusal other none = refl

in_fault : (task : Task) (wanted : Option Reference) (most_reads : ℕ) (reads writes : List Answer) (fault : Fault) →
    IsUnread (longest_for task) most_reads reads fault ⊎ Replied (longest_for task) (task_says task wanted) reads (Err fault) →
    writes ≡ [] → (failures reads ≡ told_reads (Err fault)) × (failures writes ≡ 0)
in_fault task wanted most_reads reads writes fault (inl unread) none = (
  rw unread.told (in_stop (longest_for task) most_reads reads unread.cause unread.stopped),
  in_nothing writes none,
)
in_fault task wanted most_reads reads writes fault (inr replied) none = (
  in_text (longest_for task) reads replied.text replied.read
      ∙ in_refusal fault (says_no_device task wanted replied.text fault replied.allowed),
  in_nothing writes none,
)

in_memory : (longest most_reads : ℕ) (reads : List Answer) →
    StopsReading longest most_reads reads reading.Memory ⊎ ((text : List ℕ) × ReadsText longest reads text) → failures reads ≡ 0
in_memory longest most_reads reads (inl stop) = in_stop longest most_reads reads reading.Memory stop
in_memory longest most_reads reads (inr text) = in_text longest reads text.0 text.1

pub failures_told : (task : Task) (wanted : Option Reference) → FailuresAreTold (longest_for task) (task_says task wanted)
failures_told task wanted most_reads reads writes (Ok done) ran =
    (in_text (longest_for task) reads ran.1.text ran.1.read, none_in_pieces writes ran.2.each)
failures_told task wanted most_reads reads writes (Err Write) ran =
    (in_text (longest_for task) reads ran.2.text ran.2.read, rw ran.3.last (after_pieces ran.3.pieces Failed ran.3.each))
failures_told task wanted most_reads reads writes (Err Memory) ran =
    (in_memory (longest_for task) most_reads reads ran.0, in_nothing writes ran.1)
failures_told task wanted most_reads reads writes (Err other) ran = in_fault task wanted most_reads reads writes other ran.0 ran.1
