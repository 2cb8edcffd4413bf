-- What is proved of tasks. Each is the one clause of the function of its name in the crate's module `task_laws`.
use Rattle.std.specs.Prelude.{ℕ, List, Result}
use Rattle.convoy_streams.specs.Devices.{Answer}
use Rattle.convoy_commands.specs.declared.done.Done.{Done}
use Rattle.convoy_commands.specs.declared.fault.Fault.{Fault}
use Rattle.convoy_commands.specs.CommandLaws.{TellsFailures}
use Rattle.convoy_commands.specs.Replies.{Rule}
use Rattle.convoy_tasks.specs.Runs.{RunsTo}

-- in runs with that limit of bytes and that rule, each failure of a device is told by the result, and no failure is told that was none
abbrev pub FailuresAreTold : ℕ → Rule → Type 0
FailuresAreTold longest says =
    (most_reads : ℕ) (reads writes : List Answer) (result : Result Done Fault) →
    RunsTo longest says most_reads reads writes result → TellsFailures reads writes result
