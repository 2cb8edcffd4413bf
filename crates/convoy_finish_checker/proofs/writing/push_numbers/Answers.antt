use Rattle.std.proofs.Common.{ℕ, decimal, rules}
use Rattle.convoy_lines.specs.Texts.{spaced}
use Rattle.convoy_finishes.specs.Finishes.{way_at}
use Rattle.convoy_finish_checker.proofs.Lines.{more_lines}
use Rattle.convoy_finish_checker.proofs.writing.push_numbers.Goals as goal

pub loop-group-preserved : goal.loop-group-preserved
loop-group-preserved c =
    more_lines (λ (k : ℕ). spaced (decimal (way_at c.args.ways.now c.args.message k))) c.loop-group.group c.args.text.now.items _ _ c.loop-group.invariant (search rules)
