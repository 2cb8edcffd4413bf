use Rattle.std.proofs.Common.{◌≡◌, ◌++◌, map, take}
use Rattle.convoy_tables.specs.Tables.{word}
use Rattle.convoy_tables.proofs.table.Row.push_words.Given as goal

-- the cells so far are those before and those of the words so far
abbrev pub invariant-loop-text : goal.invariant-loop-text
invariant-loop-text l = l.self ≡ l.initial.self ++ map (λ text. word text.now) (take l.text-index l.words)
