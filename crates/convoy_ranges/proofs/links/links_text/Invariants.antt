use Rattle.std.proofs.Common.{◌≡◌, drop}
use Rattle.std.specs.Prelude.{string_bytes}
use Rattle.convoy_ranges.specs.Answers.{links_text}
use Rattle.convoy_ranges.specs.Tables.{with_front}
use Rattle.convoy_ranges.proofs.links.links_text.Given as goal

-- the tables so far, and those that are left
abbrev pub invariant-loop-pair : goal.invariant-loop-pair
invariant-loop-pair l =
    with_front (string_bytes l.text) (links_text l.asked (drop l.pair-index l.pairs)) ≡ links_text l.asked l.pairs
