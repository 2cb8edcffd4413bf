use Rattle.std.proofs.Common.{List, ℕ, subst}
use Rattle.convoy_branch.specs.Uppers.{IsUpperOf}
use Rattle.convoy_share.specs.declared.piece.Piece.{Piece}
use Rattle.convoy_share.specs.Pieces.{left_regions}
use Rattle.convoy_share.proofs.Outcomes.{IsOpen-closed}
use Rattle.convoy_share.proofs.searching.Closed.into_open.Goals as goal

pub returns-clause-value : goal.returns-clause-value
returns-clause-value c workers limit is =
    let bounds = c.args.bounds in
    let scenario = c.args.origin.now in
    let upper = c.in_ok-upper.upper in
    let seen = subst (λ (n : ℕ). IsUpperOf bounds scenario n (left_regions c.deref.result.now) upper) c.latency-seen.ensures.value c.in_ok-upper.ensures in
    let over = subst (λ (ps : List Piece). IsUpperOf bounds scenario c.args.self.best.latency (left_regions ps) upper) c.deref.ensures.value seen in
    IsOpen-closed c.fronts_bound.ensures bounds scenario workers limit upper c.args.self c.requires.some c.requires.least over is
