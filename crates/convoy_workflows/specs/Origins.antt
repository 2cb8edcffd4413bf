-- From which message's issue the time counts.
use Rattle.std.specs.Prelude.{ℕ, zero, suc, ◌==◌, Bool, false, ◌||◌, if◌then◌else◌, List, length, find, position, Option, Some, None, ok_or, Result, Ok, Err}
use Rattle.std.specs.Option.{option_map_or}
use Rattle.std.specs.Str.{bytes_eq}
use Rattle.convoy_lines.specs.Results.{◌>>=◌}
use Rattle.convoy_scenario.specs.Scenario.{Scenario}
use Rattle.convoy_toml.specs.Shape.{WrittenMessage}
use Rattle.convoy_causes.specs.declared.cause.Cause.{Cause}
use Rattle.convoy_causes.specs.CauseWindows.{may_be_origin}
use Rattle.convoy_workflow_words.specs.declared.fault.WorkflowFault.{WorkflowFault}
use Rattle.convoy_workflow_words.specs.declared.fault.WorkflowFault.TheVariants.{OriginWaits, UnknownOrigin}

-- what message m follows, if it follows another
abbrev pub cause_of_message : List Cause → ℕ → Option Cause
cause_of_message causes m = find (λ cause. cause.effect == m) causes

-- in at most so many steps from one message to the one that it follows, message m comes to message x
abbrev pub comes_from : ℕ → List Cause → ℕ → ℕ → Bool
comes_from zero causes x m = false
comes_from (suc steps) causes x m =
    option_map_or (λ cause. (cause.message == x) || comes_from steps causes x cause.message) (cause_of_message causes m) false

-- message m follows message x, be it through others
abbrev pub does_follow : List Cause → ℕ → ℕ → Bool
does_follow causes x m = comes_from (length causes) causes x m

-- the message, if the target follows it and there is room to know its issue
abbrev pub checked_origin : Scenario → List Cause → ℕ → Result ℕ WorkflowFault
checked_origin scenario causes x =
    if does_follow causes x scenario.target_message
    then (if may_be_origin scenario x then Ok x else Err OriginWaits)
    else Err UnknownOrigin

-- the message from whose issue the time counts: the target, or the one of the name that is written, among messages as they are written
abbrev pub origin_of : Scenario → List Cause → List WrittenMessage → Option (List ℕ) → Result ℕ WorkflowFault
origin_of scenario causes messages None = Ok scenario.target_message
origin_of scenario causes messages (Some name) =
    ok_or (position (λ message. bytes_eq name message.name) messages) UnknownOrigin >>= checked_origin scenario causes
