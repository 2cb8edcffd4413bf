use Rattle.std.proofs.Common.{◌≡◌, ◌++◌, drop}
use Rattle.std.specs.List.{enumerate_from, flat_map}
use Rattle.convoy_tables.specs.Formats.{json_member}
use Rattle.convoy_tables.proofs.objects.with_object.Given as goal

-- the members so far and those that are left are all of them
abbrev pub invariant-loop-column : goal.invariant-loop-column
invariant-loop-column l =
    (l.writer.before ≡ l.initial.writer.before)
    × (l.writer.tokens ++ flat_map (json_member l.names) (enumerate_from l.column (drop l.column l.cells))
    ≡ l.initial.writer.tokens ++ flat_map (json_member l.names) (enumerate_from 0 l.cells))
