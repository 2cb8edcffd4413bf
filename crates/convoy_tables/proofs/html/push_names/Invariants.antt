use Rattle.std.proofs.Common.{◌≡◌, ◌++◌, [], drop}
use Rattle.convoy_tables.specs.Formats.{html_name, html_names}
use Rattle.convoy_tables.proofs.Pieces.{joined_from}
use Rattle.convoy_tables.proofs.html.push_names.Given as goal

-- the names so far and those that are left are all of them
abbrev pub invariant-loop-column : goal.invariant-loop-column
invariant-loop-column l =
    l.out.items ++ joined_from [] (html_name l.rows) l.column (drop l.column l.names)
    ≡ l.initial.out.items ++ html_names l.rows l.names
