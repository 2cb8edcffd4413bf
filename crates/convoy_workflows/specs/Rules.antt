-- What messages follow, with numbers in place of names, and the rules for it, in the order in which they are asked. Each word has a value whatever is written; only where all rules hold do they mean what they say.
use Rattle.std.specs.Prelude.{ℕ, ℤ, pos, int_le, nat_le, Bool, true, false, ◌&&◌, if◌then◌else◌, List, [], ◌∷◌, flat_map, take, length, slice_index_or, position, Option, Some, None, is_some, unwrap_or, Result, Ok, Err}
use Rattle.std.specs.List.{list_all, range_with_len}
use Rattle.std.specs.Option.{option_map_or}
use Rattle.std.specs.Str.{bytes_eq}
use Rattle.convoy_lines.specs.Results.{◌>>=◌}
use Rattle.convoy_draft.specs.declared.fault.Limit.TheVariants.{Multicasts}
use Rattle.convoy_draft.specs.declared.fault.ScenarioFault.TheVariants as faults
use Rattle.convoy_draft.specs.declared.limits.TheConstants.{MOST_MULTICASTS}
use Rattle.convoy_draft.specs.Checks.{is_among, ticks}
use Rattle.convoy_draft.specs.Draft.{Draft, DraftMessage}
use Rattle.convoy_scenario.specs.Numbering.{place}
use Rattle.convoy_causes.specs.declared.cause.Cause.{Cause}
use Rattle.convoy_causes.specs.declared.event.Event.{Event}
use Rattle.convoy_causes.specs.declared.event.Event.TheVariants.{Issue, Arrival, Commit, Delivery}
use Rattle.convoy_workflow_words.specs.declared.fault.WorkflowFault.{WorkflowFault}
use Rattle.convoy_workflow_words.specs.declared.fault.WorkflowFault.TheVariants.{NotAtSender, OverLimit, Scenario, UnknownCause}
use Rattle.convoy_workflows.specs.declared.limits.TheConstants.{GREATEST_OFFSET}
use Rattle.convoy_workflows.specs.Shape.{WrittenCause}

-- what a message follows, by numbers: the message that it follows, if one of the name stands before it; the event, whether that comes where the message is sent, and the group at which it is; and how many ticks after it the message is issued at least and at most, within the limits or not
pub record DraftCause : Type 0 where
  pub effect : ℕ
  pub message : Option ℕ
  pub event : Event
  pub at_sender : Bool
  pub group : ℕ
  pub least : ℤ
  pub most : ℤ

-- what stands for a message past the last one
abbrev pub no_draft_message : DraftMessage
no_draft_message = record { name = []; sender = None; to = []; at = pos 0; until = pos 0 }

-- the message of that number
abbrev pub draft_message_at : List DraftMessage → ℕ → DraftMessage
draft_message_at messages m = slice_index_or messages m no_draft_message

-- the place of the message of that name among these, if it is one of them
abbrev pub message_named : List ℕ → List DraftMessage → Option ℕ
message_named name messages = position (λ message. bytes_eq name message.name) messages

-- the event of a message comes where another one is sent: an issue has no place, and all else comes where the message goes
abbrev pub comes_to : Event → List (List ℕ) → Option (List ℕ) → Bool
comes_to Issue to sender = true
comes_to Arrival to sender = option_map_or (λ name. is_among name to) sender false
comes_to Commit to sender = option_map_or (λ name. is_among name to) sender false
comes_to Delivery to sender = option_map_or (λ name. is_among name to) sender false

-- the first of the groups that is one of those named
abbrev pub first_among : List (List ℕ) → List (List ℕ) → ℕ
first_among to groups = unwrap_or (position (λ group. is_among group to) groups) 0

-- the group of that name, if there is one
abbrev pub group_of_sender : List (List ℕ) → Option (List ℕ) → ℕ
group_of_sender groups sender = option_map_or (λ name. place name groups) sender 0

-- the group at which the event is: of an issue the first to which the message goes, and else the one that sends
abbrev pub group_of_event : Event → List (List ℕ) → List (List ℕ) → Option (List ℕ) → ℕ
group_of_event Issue groups to sender = first_among to groups
group_of_event Arrival groups to sender = group_of_sender groups sender
group_of_event Commit groups to sender = group_of_sender groups sender
group_of_event Delivery groups to sender = group_of_sender groups sender

-- what message m follows, where that is the message of that number
abbrev pub draft_cause_from : List (List ℕ) → List DraftMessage → ℕ → Event → Option ℕ → DraftCause
draft_cause_from groups messages m event followed = record {
  effect = m;
  message = followed;
  event = event;
  at_sender = comes_to event (draft_message_at messages (unwrap_or followed 0)).to (draft_message_at messages m).sender;
  group = group_of_event event groups (draft_message_at messages (unwrap_or followed 0)).to (draft_message_at messages m).sender;
  least = (draft_message_at messages m).at;
  most = (draft_message_at messages m).until;
}

-- what message m follows, if it follows another
abbrev pub draft_cause : List (List ℕ) → List DraftMessage → ℕ → Option WrittenCause → List DraftCause
draft_cause groups messages m None = []
draft_cause groups messages m (Some cause) = draft_cause_from groups messages m cause.event (message_named cause.message (take m messages)) ∷ []

-- what messages follow, in the order of the messages
abbrev pub draft_causes : Draft → List (Option WrittenCause) → List DraftCause
draft_causes draft causes =
    flat_map (λ m. draft_cause draft.groups draft.messages m (slice_index_or causes m None)) (range_with_len 0 (length draft.messages))

-- the offsets are 0 or more, and the greatest is no less than the least, and not too great
abbrev pub has_offsets : DraftCause → Bool
has_offsets cause = int_le (pos 0) cause.least && int_le cause.least cause.most && int_le cause.most (pos GREATEST_OFFSET)

-- a rule and the fault that is told where it does not hold
abbrev pub WorkflowCheck : Type 0
WorkflowCheck = Bool × WorkflowFault

-- the rules, in order, the first of which is one of scenarios: no table is walked for more messages than these may have
abbrev pub checks : Draft → List DraftCause → List WorkflowCheck
checks draft causes =
    (nat_le (length draft.messages) MOST_MULTICASTS, Scenario (faults.OverLimit Multicasts))
    ∷ (list_all (λ cause. is_some cause.message) causes, UnknownCause)
    ∷ (list_all (λ cause. cause.at_sender) causes, NotAtSender)
    ∷ (list_all has_offsets causes, OverLimit)
    ∷ []

-- the fault of the first rule that does not hold
abbrev pub judge : List WorkflowCheck → Result (Unit {0}) WorkflowFault
judge [] = Ok tt
judge (check ∷ rest) = if check.0 then judge rest else Err check.1

-- what messages follow, unless it breaks a rule
abbrev pub checked_causes : Draft → List (Option WrittenCause) → Result (List DraftCause) WorkflowFault
checked_causes draft causes = do
  _ ← judge (checks draft (draft_causes draft causes))
  Ok (draft_causes draft causes)

-- a cause in numbers of ticks
abbrev pub cause_of : DraftCause → Cause
cause_of cause = record {
  effect = cause.effect;
  message = unwrap_or cause.message 0;
  event = cause.event;
  group = cause.group;
  least = ticks GREATEST_OFFSET cause.least;
  most = ticks GREATEST_OFFSET cause.most;
}
