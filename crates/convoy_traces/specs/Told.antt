-- What traces tell: events of messages, each once.
use Rattle.std.specs.Prelude.{ℕ, ◌==◌, Bool, true, false, ◌&&◌, List}
use Rattle.std.specs.List.{list_any}
use Rattle.convoy_traces.specs.declared.told.Event.{Event}
use Rattle.convoy_traces.specs.declared.told.Event.TheVariants.{Issue, Arrival, Proposal, Commit, Delivery}
use Rattle.convoy_traces.specs.declared.told.Entry.{Entry}

-- both are one event, at the same groups
abbrev pub is_same_event : Event → Event → Bool
is_same_event Issue Issue = true
is_same_event (Arrival g) (Arrival h) = g == h
is_same_event (Proposal g i) (Proposal h j) = (g == h) && (i == j)
is_same_event (Commit g) (Commit h) = g == h
is_same_event (Delivery g) (Delivery h) = g == h
is_same_event Issue (Arrival h) = false
is_same_event Issue (Proposal h j) = false
is_same_event Issue (Commit h) = false
is_same_event Issue (Delivery h) = false
is_same_event (Arrival g) Issue = false
is_same_event (Arrival g) (Proposal h j) = false
is_same_event (Arrival g) (Commit h) = false
is_same_event (Arrival g) (Delivery h) = false
is_same_event (Proposal g i) Issue = false
is_same_event (Proposal g i) (Arrival h) = false
is_same_event (Proposal g i) (Commit h) = false
is_same_event (Proposal g i) (Delivery h) = false
is_same_event (Commit g) Issue = false
is_same_event (Commit g) (Arrival h) = false
is_same_event (Commit g) (Proposal h j) = false
is_same_event (Commit g) (Delivery h) = false
is_same_event (Delivery g) Issue = false
is_same_event (Delivery g) (Arrival h) = false
is_same_event (Delivery g) (Proposal h j) = false
is_same_event (Delivery g) (Commit h) = false

-- the entry is of that event of that message
abbrev pub is_of : ℕ → Event → Entry → Bool
is_of message event entry = (entry.message == message) && is_same_event entry.event event

-- some entry is of the same event of the same message
abbrev pub is_told : List Entry → Entry → Bool
is_told entries one = list_any (is_of one.message one.event) entries
