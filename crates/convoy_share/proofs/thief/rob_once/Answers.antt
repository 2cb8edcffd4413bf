use Rattle.std.proofs.Common.{[], ◌∷◌, ◌+◌, reverse, ◌∙◌, ap, ◌++◌, arith}
use Rattle.convoy_share.specs.Common.{common_of}
use Rattle.convoy_share.specs.declared.workers.ThiefWorker.{ThiefWorker}
use Rattle.convoy_share.specs.Subtrees.{Subtree}
use Rattle.convoy_share.proofs.Grown.{IsGrown-kept}
use Rattle.convoy_share.proofs.Worked.{thief_more}
use Rattle.convoy_share.proofs.thief.rob_once.Goals as goal

pub returns-in_ok-keep-in-Success : goal.returns-in_ok-keep-in-Success
returns-in_ok-keep-in-Success g c =
    let shared = common_of c.args.shared.now in
    let old = c.args.worker.now in
    let trees = c.in_ok-keep-in-Success.ensures ∙ ap (λ (t : Subtree). old.trees.items ++ t ∷ []) c.of.ensures in
    let new : ThiefWorker = record { means = c.search_branch.new.means; end = c.steal.new.self; trees = c.keep.new.trees } in
    let grown = IsGrown-kept shared.bounds shared.scenario old.means new.means (c.in-Success.task.number + 1) (c.in-Success.task.branch.region ∷ []) (reverse c.in_ok-pieces-in-Success.pieces.items) (c.in_ok-pieces-in-Success.ensures.grown 0 (omega arith)) in
    thief_more c.fronts_better.ensures shared old.end.deque old.means.hand.share old.means.clerk.share old new c.in-Success.task (reverse c.in_ok-pieces-in-Success.pieces.items) c.requires c.in-Success.ensures.0 grown trees
