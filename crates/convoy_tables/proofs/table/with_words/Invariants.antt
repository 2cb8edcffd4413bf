use Rattle.std.proofs.Common.{◌≡◌, ◌∷◌, [], ◌++◌, map}
use Rattle.convoy_tables.specs.Tables.{word}
use Rattle.convoy_tables.proofs.table.with_words.Given as goal

abbrev pub invariant-loop-row : goal.invariant-loop-row
invariant-loop-row l = l.longer.items ≡ map (λ row. row ++ word l.text ∷ []) l.yielded
