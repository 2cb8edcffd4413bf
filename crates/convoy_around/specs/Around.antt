-- Scenarios around a target: it is issued at a known tick, and each other message at any tick from a span before it to twice the span after it.
use Rattle.std.specs.Prelude.{ℕ, ◌*◌, ◌==◌, nat_le, Bool, true, false, if◌then◌else◌, map, Result, Ok, Err}
use Rattle.std.specs.List.{enumerate_from}
use Rattle.convoy_draft.specs.declared.fault.ScenarioFault.{ScenarioFault}
use Rattle.convoy_draft.specs.declared.fault.ScenarioFault.TheVariants.{OverLimit}
use Rattle.convoy_draft.specs.declared.fault.Limit.TheVariants.{Until}
use Rattle.convoy_draft.specs.declared.limits.TheConstants.{LONGEST_WAIT}
use Rattle.convoy_scenario.specs.Scenario.{Message, Scenario}

-- the tick from which a message may be issued, and how long it may wait: the target is issued a span after tick 0, and any other message from tick 0 on, within three spans
abbrev pub issue_around : ℕ → Bool → ℕ × ℕ
issue_around span true = (span, 0)
issue_around span false = (0, 3 * span)

-- message number m around message number t
abbrev pub message_around : ℕ → ℕ → ℕ → Message → Message
message_around span t m message =
    record message { at = (issue_around span (m == t)).0; longest_wait = (issue_around span (m == t)).1 }

-- the scenario around that message at that group: all stays, but for the target, and for when messages are issued
unfoldable pub around_at : ℕ → Scenario → ℕ → ℕ → Scenario
around_at span scenario m g =
    record scenario { multicasts = map (λ p. message_around span m p.0 p.1) (enumerate_from 0 scenario.multicasts); target_message = m; target_group = g }

-- a message may wait three spans
abbrev pub is_span : ℕ → Bool
is_span span = nat_le (3 * span) LONGEST_WAIT

-- the scenario around its target, or the fault that the windows of other messages are longer than one may be
abbrev pub around : ℕ → Scenario → Result Scenario ScenarioFault
around span scenario =
    if is_span span then Ok (around_at span scenario scenario.target_message scenario.target_group) else Err (OverLimit Until)
