use Rattle.std.proofs.Common.{false, List, [], ◌∷◌, ◌++◌, ◌∙◌, ap, refl, reverse}
use Rattle.convoy_share.specs.Common.{common_of}
use Rattle.convoy_share.specs.declared.workers.OwnerWorker.{OwnerWorker}
use Rattle.convoy_share.specs.declared.piece.Piece.{Piece}
use Rattle.convoy_share.specs.declared.piece.Piece.TheVariants.{Todo}
use Rattle.convoy_share.specs.Subtrees.{Subtree}
use Rattle.convoy_share.proofs.Drained.{owner_drained}
use Rattle.convoy_share.proofs.ending.drain_once.Goals as goal

pub returns-clause-owner : goal.returns-clause-owner
returns-clause-owner c =
    let old = c.args.worker.now in
    let took = c.in-Some.ensures.some in
    let new : OwnerWorker = record { means = old.means; end = c.take.new.self; trees = c.keep.new.trees; drawn_by_thieves = old.drawn_by_thieves } in
    let trees = c.in_ok-keep.ensures ∙ ap (λ (t : Subtree). old.trees.items ++ t ∷ []) c.of.ensures in
    let pieces = c.push.new.self.items in
    let left = c.in_ok-push.ensures.items ∙ ap (λ (p : Piece). c.new-pieces.result.items ++ p ∷ []) c.in_ok-left.ensures ∙ ap (λ (ps : List Piece). ps ++ Todo c.in-Some.task.branch false ∷ []) c.new-pieces.ensures.items in
    owner_drained c.fronts_better.ensures (common_of c.args.shared.now) old new c.in-Some.task (reverse pieces) c.requires took.1 refl took.0 (ap (λ (ps : List Piece). reverse ps) left) trees refl
