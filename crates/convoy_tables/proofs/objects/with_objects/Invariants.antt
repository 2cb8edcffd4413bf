use Rattle.std.proofs.Common.{◌≡◌, ◌++◌, codes, drop}
use Rattle.convoy_tables.specs.Formats.{joined, object_text}
use Rattle.convoy_tables.proofs.Pieces.{joined_from}
use Rattle.convoy_tables.proofs.objects.with_objects.Given as goal

-- the objects so far and those that are left are all of them
abbrev pub invariant-loop-i : goal.invariant-loop-i
invariant-loop-i l =
    l.text.items ++ joined_from (codes ",") (object_text l.names) l.i (drop l.i l.rows)
    ≡ l.initial.text.items ++ joined (codes ",") (object_text l.names) l.rows
