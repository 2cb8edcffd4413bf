use Rattle.std.proofs.Common.{sym, subst}
use Rattle.std.proofs.lemmas.List.Elements.{All-get_or}
use Rattle.convoy_share.specs.Pieces.{IsPiece}
use Rattle.convoy_share.proofs.LeftUppers.{IsUpperOver-next}
use Rattle.convoy_share.proofs.settled.upper_over.Goals as goal

pub raised_over-requires : goal.raised_over-requires
raised_over-requires c =
    let Stands = IsPiece c.args.origin.now c.requires.pieces.0 c.requires.pieces.1 in
    record { piece = (c.requires.pieces.0, c.requires.pieces.1, subst Stands (sym c.piece-item.is) (All-get_or Stands c.args.pieces.now c.loop-piece.piece-index c.piece-item.result c.loop-piece-test.true c.requires.pieces.2)) }

pub loop-piece-preserved : goal.loop-piece-preserved
loop-piece-preserved c most over =
    c.loop-piece.invariant most (IsUpperOver-next c.args.bounds c.args.origin.now c.loop-piece.upper c.in_ok-upper.upper c.args.pieces.now c.loop-piece.piece-index c.piece-item.result most c.uppers_raised.ensures c.loop-piece-test.true c.piece-item.is c.in_ok-upper.ensures over)
