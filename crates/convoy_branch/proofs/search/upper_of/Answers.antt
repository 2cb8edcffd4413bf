use Rattle.std.proofs.Common.{sym, subst}
use Rattle.std.proofs.lemmas.List.Elements.{All-get_or}
use Rattle.convoy_branch.specs.Searching.{IsWork}
use Rattle.convoy_branch.proofs.LeftBounds.{IsUpperOver-next}
use Rattle.convoy_branch.proofs.search.upper_of.Goals as goal

pub raised_over-requires : goal.raised_over-requires
raised_over-requires c =
    let Waits = IsWork c.args.origin.now c.args.seen in
    record { work = (c.args.seen, subst Waits (sym c.piece-item.is) (All-get_or Waits c.args.work.now c.loop-piece.piece-index c.piece-item.result c.loop-piece-test.true c.requires.work)) }

pub loop-piece-preserved : goal.loop-piece-preserved
loop-piece-preserved c most over =
    c.loop-piece.invariant most (IsUpperOver-next c.args.bounds c.args.origin.now c.loop-piece.upper c.in_ok-upper.upper c.args.work.now c.loop-piece.piece-index c.piece-item.result most c.uppers_raised.ensures c.loop-piece-test.true c.piece-item.is c.in_ok-upper.ensures over)
