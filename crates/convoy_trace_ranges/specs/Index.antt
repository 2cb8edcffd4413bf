-- for private clauses: where each mark is found
use Rattle.std.specs.Prelude.{◌≡◌, ℕ, List, position}
use Rattle.std.specs.Prelude.{String}
use Rattle.std.specs.BTreeMap.{BTreeMap, get_by_text}
use Rattle.convoy_trace_ranges.specs.Events.{Entry}
use Rattle.convoy_trace_ranges.specs.Marks.{has_mark}

-- the map has for each mark the place of the first entry that has it, and for no other
abbrev pub IsIndex : {A : Type 0} → BTreeMap (String A) ℕ → List Entry → Type 0
IsIndex places entries = (mark : List ℕ) → get_by_text places mark ≡ position (has_mark mark) entries
