-- The timeline of a run: what happens at each group, and when messages are issued that may wait, tick by tick, as lines of text.
use Rattle.std.specs.Prelude.{ℕ, ◌==◌, nat_lt, nat_le, Bool, ◌&&◌, ◌||◌, List, [], ◌∷◌, ◌++◌, map, Option, Some, None, if◌then◌else◌, codes, decimal}
use Rattle.std.specs.List.{fold, flat_map}
use Rattle.convoy_scenario.specs.Scenario.{Scenario, message_at, message_numbers, may_wait, group_name_at}
use Rattle.convoy_scenario.specs.Naming.{sender_word}
use Rattle.convoy_draft.specs.Durations.{count_of, unit_of, unit_word}
use Rattle.convoy_packets.specs.Assignment.{Schedule}
use Rattle.convoy_sim.specs.declared.timestamp.Timestamp.{Timestamp}
use Rattle.convoy_sim.specs.Times.{issue, arrive, settle}
use Rattle.convoy_sim.specs.Stamps.{is_less, local_stamp, final_stamp}
use Rattle.convoy_sim.specs.Delivery.{deliver}
use Rattle.convoy_timeline.specs.declared.entry.Entry.{Entry}
use Rattle.convoy_timeline.specs.declared.entry.EntryKind.{EntryKind}
use Rattle.convoy_timeline.specs.declared.entry.EntryKind.TheVariants.{Propose, Commit, Deliver}
use Rattle.convoy_timeline.specs.declared.line.Line.{Line}
use Rattle.convoy_timeline.specs.declared.line.Line.TheVariants.{Issue, Happening}

-- inside a tick proposals come first, and deliveries last
abbrev pub rank : EntryKind → ℕ
rank Propose = 0
rank Commit = 1
rank Deliver = 2

-- the word that stands for a kind
abbrev pub kind_word : EntryKind → List ℕ
kind_word Propose = codes "propose"
kind_word Commit = codes "commit"
kind_word Deliver = codes "deliver"

abbrev pub is_before_by_message : Entry → Entry → Bool
is_before_by_message a b = nat_lt a.message b.message || ((a.message == b.message) && nat_lt a.group b.group)

abbrev pub is_before_by_stamp : Entry → Entry → Bool
is_before_by_stamp a b = nat_lt a.group b.group || ((a.group == b.group) && is_less a.stamp b.stamp)

-- of two entries of one tick and of that kind: deliveries by group and final stamp, all others by message and group
abbrev pub is_before_in_kind : EntryKind → Entry → Entry → Bool
is_before_in_kind Propose a b = is_before_by_message a b
is_before_in_kind Commit a b = is_before_by_message a b
is_before_in_kind Deliver a b = is_before_by_stamp a b

-- of two entries of one tick: by kind, and then as in one kind
abbrev pub is_before_in_tick : Entry → Entry → Bool
is_before_in_tick a b =
    nat_lt (rank a.kind) (rank b.kind) || ((rank a.kind == rank b.kind) && is_before_in_kind a.kind a b)

-- entry a is before entry b: by tick, and then as in one tick
abbrev pub is_before : Entry → Entry → Bool
is_before a b = nat_lt a.tick b.tick || ((a.tick == b.tick) && is_before_in_tick a b)

-- a list with one more element, before the first that passes a test
abbrev pub insert_before : {X : Type 0} → (X → Bool) → List X → X → List X
insert_before p [] x = x ∷ []
insert_before p (y ∷ ys) x = if p y then x ∷ y ∷ ys else y ∷ insert_before p ys x

-- the entries with one more, before the first that it is before
abbrev pub insert_entry : List Entry → Entry → List Entry
insert_entry entries x = insert_before (is_before x) entries x

-- what happens to message m at group g, with that stamp, at that tick
abbrev pub entry_of : EntryKind → ℕ → ℕ → Timestamp → ℕ → Entry
entry_of kind m g stamp tick = record { tick = tick; kind = kind; message = m; group = g; stamp = stamp }

-- the entries of message m at group g: it is proposed with its local stamp, and committed and delivered with the final one
abbrev pub entries_at : Scenario → Schedule → ℕ → ℕ → List Entry
entries_at scenario schedule m g =
    entry_of Propose m g (local_stamp scenario schedule m g) (arrive scenario schedule m g)
    ∷ entry_of Commit m g (final_stamp scenario schedule m) (settle scenario schedule m g)
    ∷ entry_of Deliver m g (final_stamp scenario schedule m) (deliver scenario schedule m g)
    ∷ []

-- the entries of all messages at their destinations, in no order yet
abbrev pub entries_of : Scenario → Schedule → List Entry
entries_of scenario schedule =
    flat_map (λ m. flat_map (entries_at scenario schedule m) (message_at scenario m).destinations) (message_numbers scenario)

-- the line of an entry: tick, group, kind, message and stamp, and byte 10
unfoldable pub line_of : Scenario → Entry → List ℕ
line_of scenario entry =
    decimal entry.tick
    ++ 32 ∷ (group_name_at scenario entry.group
    ++ 32 ∷ (kind_word entry.kind
    ++ 32 ∷ ((message_at scenario entry.message).name
    ++ 32 ∷ (decimal entry.stamp.time
    ++ 46 ∷ (group_name_at scenario entry.stamp.group
    ++ 10 ∷ [])))))

-- the entries of the run that follows from a schedule, in their order
abbrev pub timeline_of : Scenario → Schedule → List Entry
timeline_of scenario schedule = fold insert_entry [] (entries_of scenario schedule)

-- an issue at that tick stands before a line: before what happens at groups in its tick, and before issues of later ticks
abbrev pub is_issue_before : ℕ → Line → Bool
is_issue_before tick (Issue later m) = nat_lt tick later
is_issue_before tick (Happening entry) = nat_le tick entry.tick

-- the lines with the issue of message m at that tick, before the first that it stands before
abbrev pub insert_issue : List Line → ℕ → ℕ → List Line
insert_issue lines tick m = insert_before (is_issue_before tick) lines (Issue tick m)

-- the same where message m may wait; else the scenario says when it is issued, and no line does
abbrev pub with_issue : Scenario → Schedule → List Line → ℕ → List Line
with_issue scenario schedule lines m =
    if may_wait (message_at scenario m) then insert_issue lines (issue scenario schedule m) m else lines

-- the lines of these entries, and those of the issues of messages that may wait
abbrev pub with_issues : Scenario → Schedule → List Entry → List Line
with_issues scenario schedule entries = fold (with_issue scenario schedule) (map Happening entries) (message_numbers scenario)

-- the line of an issue: tick, the group or the clients that issue, and message, and byte 10
unfoldable pub issue_line : Scenario → ℕ → ℕ → List ℕ
issue_line scenario tick m =
    decimal tick
    ++ 32 ∷ (sender_word scenario (message_at scenario m).sender
    ++ (codes " issue " ++ ((message_at scenario m).name ++ 10 ∷ [])))

-- a line as text
abbrev pub line_text : Scenario → Line → List ℕ
line_text scenario (Issue tick m) = issue_line scenario tick m
line_text scenario (Happening entry) = line_of scenario entry

-- the line that tells the length of a tick, where it is known
abbrev pub tick_line : Option ℕ → List ℕ
tick_line None = []
tick_line (Some length) = codes "tick " ++ (decimal (count_of length) ++ 32 ∷ (unit_word (unit_of length) ++ 10 ∷ []))

-- the timeline of that run: the length of a tick, and the lines of its entries and issues
unfoldable pub timeline_text : Scenario → Schedule → List ℕ
timeline_text scenario schedule =
    tick_line scenario.tick ++ flat_map (line_text scenario) (with_issues scenario schedule (timeline_of scenario schedule))
