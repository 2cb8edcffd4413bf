use Rattle.std.proofs.Common.{sym, ◌∙◌}
use Rattle.convoy_kinds_told.proofs.Greatest.{worst_tells}
use Rattle.convoy_kinds_told.proofs.worst.worst_row.Goals as goal

pub returns-clause-told : goal.returns-clause-told
returns-clause-told c = worst_tells c.args.kinds.now c.args.rows.now c.in-Some.worst c.requires (sym c.in-Some.is ∙ c.worst_of.ensures)
