-- When messages that follow others may be issued: in windows so wide that no run in which they follow is left out.
use Rattle.std.specs.Prelude.{ℕ, zero, suc, ◌+◌, ◌*◌, ◌==◌, ℤ, pos, List, [], ◌∷◌, ◌++◌, length, slice_index_or, find, unwrap_or}
use Rattle.std.specs.Option.{option_map_or}
use Rattle.convoy_draft.specs.declared.limits.TheConstants.{GREATEST_AT, GREATEST_UNTIL}
use Rattle.convoy_draft.specs.Checks.{ticks}
use Rattle.convoy_draft.specs.Draft.{Draft, DraftMessage}
use Rattle.convoy_scenario.specs.Numbering.{delay_of_draft}
use Rattle.convoy_causes.specs.declared.event.Event.{Event}
use Rattle.convoy_causes.specs.declared.event.Event.TheVariants.{Issue, Arrival, Commit, Delivery}
use Rattle.convoy_workflows.specs.declared.limits.TheConstants.{GREATEST_OFFSET}
use Rattle.convoy_workflows.specs.Rules.{DraftCause, draft_message_at}

-- an event comes at most so many times D after the message is issued
abbrev pub span : Event → ℕ
span Issue = 0
span Arrival = 1
span Commit = 2
span Delivery = 4

-- the first and the last tick at which a message may be issued
abbrev pub Window : Type 0
Window = ℤ × ℤ

-- the window of a message that follows another one with that window, where D is so much
abbrev pub window_after : ℕ → DraftCause → Window → Window
window_after delay cause followed = (
  pos (ticks GREATEST_AT followed.0 + ticks GREATEST_OFFSET cause.least),
  pos (ticks GREATEST_UNTIL followed.1 + span cause.event * delay + ticks GREATEST_OFFSET cause.most),
)

-- the window that is written for a message
abbrev pub own_window : DraftMessage → Window
own_window message = (message.at, message.until)

-- the window of message m, where those before it have these
abbrev pub window_in : Draft → List DraftCause → List Window → ℕ → Window
window_in draft causes before m =
    option_map_or (λ cause. window_after (delay_of_draft draft) cause (slice_index_or before (unwrap_or cause.message 0) (pos 0, pos 0)))
    (find (λ cause. cause.effect == m) causes) (own_window (draft_message_at draft.messages m))

-- the windows of the first so many messages, in their order
abbrev pub windows_of : Draft → List DraftCause → ℕ → List Window
windows_of draft causes zero = []
windows_of draft causes (suc m) = windows_of draft causes m ++ window_in draft causes (windows_of draft causes m) m ∷ []

-- the message, to be issued in that window
abbrev pub message_within : Window → DraftMessage → DraftMessage
message_within window message = record message { at = window.0; until = window.1 }

-- the messages, of which the first has number m, each to be issued in its window
abbrev pub messages_within : List Window → ℕ → List DraftMessage → List DraftMessage
messages_within windows m [] = []
messages_within windows m (message ∷ messages) =
    message_within (slice_index_or windows m (own_window message)) message ∷ messages_within windows (m + 1) messages

-- the draft in which each message has its window
abbrev pub in_windows : List DraftCause → Draft → Draft
in_windows causes draft = record draft { messages = messages_within (windows_of draft causes (length draft.messages)) 0 draft.messages }
