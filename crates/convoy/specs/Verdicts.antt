-- What the program does for a verdict on its command line.
use Rattle.std.specs.Prelude.{◌≡◌, ◌⊎◌, ℕ, Bool, true, false, MatchResult, Option, Some, None, Result, Ok, Err, string_bytes}
use Rattle.std.specs.Result.{result_map_both}
use Rattle.convoy_streams.specs.Devices.{Answer, HasRun}
use Rattle.convoy_streams.specs.Writes.{WritesAll, FailsWithin}
use Rattle.convoy_commands.specs.declared.done.Done.{Done}
use Rattle.convoy_commands.specs.declared.done.Done.TheVariants.{Fine, Open, Beyond, Faulty, Refused, PlanRefused, WorkflowRefused, FinishRefused, Differs, Departs, NotChecked}
use Rattle.convoy_commands.specs.declared.fault.Fault.{Fault}
use Rattle.convoy_commands.specs.declared.fault.Fault.TheVariants as faults
use Rattle.convoy_commands.specs.Faults.{fault_line_of}
use Rattle.convoy_commands.specs.Searches.{LatencySays}
use Rattle.convoy_batches.specs.Batches.{IsBatchRun}
use Rattle.convoy_task_list.specs.declared.task.Task.{Task}
use Rattle.convoy_task_list.specs.declared.task.Task.TheVariants.{BatchTable}
use Rattle.convoy_workflow_replies.specs.declared.reference.Reference.{Reference}
use Rattle.convoy_tasks.specs.WantedReads.{IsReferenceRead, takes_others}
use Rattle.convoy_tasks.specs.Runs.{IsRun}
use Rattle.convoy_tasks.specs.Tasks.{longest_for, task_says}
use Rattle.convoy_arguments.specs.declared.input.Input.{Input}
use Rattle.convoy_arguments.specs.declared.limits.TheConstants.{MOST_READS}
use Rattle.convoy_arguments.specs.declared.verdict.Verdict.{Verdict}
use Rattle.convoy_arguments.specs.declared.verdict.Verdict.TheVariants.{Ask, Batch, Text, Memory}
use Rattle.convoy_hints_run.specs.declared.end.End.{End}

-- the exit status for how a task ended
abbrev pub status_of_done : Done → ℕ
status_of_done Fine = 0
status_of_done Open = 3
status_of_done Beyond = 5
status_of_done Faulty = 1
status_of_done (Refused refusal) = 4
status_of_done PlanRefused = 4
status_of_done WorkflowRefused = 4
status_of_done FinishRefused = 4
status_of_done (Differs part) = 4
status_of_done Departs = 7
status_of_done NotChecked = 6

-- that of a batch, by whether the exit status is to tell how its jobs ended
abbrev pub status_told : Bool → Done → ℕ
status_told true done = status_of_done done
status_told false done = 0

-- that for a task
abbrev pub status_of_task : Task → Done → ℕ
status_of_task (BatchTable format asked options tells_status) done = status_told tells_status done
status_of_task other done = status_of_done done

-- THE EXIT STATUS of a run that had no fault: that for how its task ended, or that of the text that was written
abbrev pub status_of : Verdict → Done → ℕ
status_of (Ask task inputs manner) done = status_of_task task done
status_of (Batch asked options tells_status input manner) done = status_told tells_status done
status_of (Text text status is_quiet) done = status
status_of Memory done = 1

-- how a run ended, whatever else is known of it
abbrev pub done_of_run : Result End Fault → Result Done Fault
done_of_run result = result_map_both (λ end. end.done) (λ fault. fault) result

-- what reading gives that a certificate, or a trace, is to be of: nothing is read where no input is named for it
abbrev pub IsWantedRead : {S : Type 0} → (S → Answer → S → Type 0) → Task → Option Input → S → S → Result (Option Reference) Fault → Type 0
IsWantedRead may_read task None other new_other read = (new_other ≡ other) × (read ≡ Ok None)
IsWantedRead may_read task (Some input) other new_other read =
    (found : Result Reference Fault)
    × IsReferenceRead (takes_others task) MOST_READS may_read other new_other found
    × (read ≡ result_map_both (λ reference. Some reference) (λ fault. fault) found)

-- THE RUN OF A TASK. From the old states of the sources and the sink to the new ones a text is read and answered by the task's rule, for the scenario or the workflow that was read first from the other source, where an input is named for it; if that has a fault, the run ends with it.
abbrev pub Performs : {S K : Type 0} → (S → Answer → S → Type 0) → (K → Answer → K → Type 0) → Task → Option Input →
    S → S → S → S → K → K → Result Done Fault → Type 0
Performs may_read may_write task named source new_source other new_other sink new_sink result =
    (read : Result (Option Reference) Fault)
    × IsWantedRead may_read task named other new_other read
    × MatchResult read
    (λ wanted. IsRun (longest_for task) (task_says task wanted) MOST_READS may_read may_write source new_source sink new_sink result)
    (λ fault. (new_source ≡ source) × (new_sink ≡ sink) × (result ≡ Err fault))

-- What the command line asks for is done. Only a task and a batch read, from a file as from standard input.
abbrev pub Obeys : {S K : Type 0} → (S → Answer → S → Type 0) → (K → Answer → K → Type 0) → Verdict →
    S → S → S → S → K → K → Result Done Fault → Type 0
Obeys may_read may_write (Ask task inputs manner) source new_source other new_other sink new_sink result =
    Performs may_read may_write task inputs.wanted source new_source other new_other sink new_sink result
Obeys may_read may_write (Batch asked options tells_status input manner) source new_source other new_other sink new_sink result =
    (new_other ≡ other) × IsBatchRun (LatencySays asked options) MOST_READS may_read may_write source new_source sink new_sink result
Obeys may_read may_write (Text text status is_quiet) source new_source other new_other sink new_sink result =
    (new_source ≡ source)
    × (new_other ≡ other)
    × HasRun may_write sink new_sink (λ answers. MatchResult result
    (λ done. (done ≡ Fine) × WritesAll (string_bytes text) answers)
    (λ fault. (fault ≡ faults.Write) × FailsWithin (string_bytes text) answers))
Obeys may_read may_write Memory source new_source other new_other sink new_sink result =
    (new_source ≡ source) × (new_other ≡ other) × (new_sink ≡ sink) × (result ≡ Err faults.Memory)

-- The line of the fault went out, or a front of it and then the sink failed, or nothing was written.
abbrev pub Tells : {K : Type 0} → (K → Answer → K → Type 0) → Fault → K → K → Type 0
Tells may_write fault sink new_sink =
    (new_sink ≡ sink)
    ⊎ HasRun may_write sink new_sink
    (λ answers. WritesAll (fault_line_of fault) answers ⊎ FailsWithin (fault_line_of fault) answers)
