-- The marks by which events are found.
use Rattle.std.specs.Prelude.{ℕ, Bool, List, [], ◌∷◌, ◌++◌, codes, Option, Some, None, find, is_some}
use Rattle.std.specs.Str.{bytes_eq}
use Rattle.convoy_trace_ranges.specs.declared.entry.Kind.{Kind}
use Rattle.convoy_trace_ranges.specs.declared.entry.Kind.TheVariants.{Issue, Arrival, Proposal}
use Rattle.convoy_trace_ranges.specs.Events.{Entry}

-- the mark of an event: its kind, its groups, in whose names there is no space, and its message, with a space after each but the last; so no other event has it
unfoldable pub mark_by : Kind → List ℕ → List ℕ → List ℕ → List ℕ
mark_by Issue group from message = codes "issue " ++ message
mark_by Arrival group from message = codes "arrival " ++ (group ++ 32 ∷ message)
mark_by Proposal group from message = codes "proposal " ++ (group ++ 32 ∷ (from ++ 32 ∷ message))

-- the mark of what an entry tells
abbrev pub mark_of : Entry → List ℕ
mark_of one = mark_by one.kind one.group one.from one.message

-- the entry tells the event of that mark
abbrev pub has_mark : List ℕ → Entry → Bool
has_mark mark one = bytes_eq (mark_of one) mark

-- the first entry that tells the event of that mark
abbrev pub told_as : List Entry → List ℕ → Option Entry
told_as entries mark = find (has_mark mark) entries

-- some entry tells the same event
abbrev pub is_told : List Entry → Entry → Bool
is_told entries one = is_some (told_as entries (mark_of one))
