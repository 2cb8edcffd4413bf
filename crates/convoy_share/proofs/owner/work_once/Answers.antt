use Rattle.std.proofs.Common.{List, [], ◌∷◌, ◌+◌, ◌≤◌, ◌≡◌, length, reverse, ◌∙◌, ap, refl, sym, subst, ◌++◌}
use Rattle.convoy_regions.specs.Regions.{Region}
use Rattle.convoy_share_deque.specs.Tasks.{OwnerEnd}
use Rattle.convoy_share.specs.Common.{common_of}
use Rattle.convoy_share.specs.declared.workers.OwnerWorker.{OwnerWorker}
use Rattle.convoy_share.specs.Means.{IsGrown}
use Rattle.convoy_share.specs.Subtrees.{Subtree}
use Rattle.convoy_share.proofs.Worked.{number_below, owner_more}
use Rattle.convoy_share.proofs.owner.work_once.Goals as goal

pub returns-in_ok-keep-in-Some : goal.returns-in_ok-keep-in-Some
returns-in_ok-keep-in-Some g c =
    let shared = c.args.shared.now in
    let old = c.args.worker.now in
    let trees = c.in_ok-keep-in-Some.ensures ∙ ap (λ (t : Subtree). old.trees.items ++ t ∷ []) c.of.ensures in
    let new : OwnerWorker = record { means = c.search_branch.new.means; end = c.search_branch.new.halves; trees = c.keep.new.trees; drawn_by_thieves = old.drawn_by_thieves } in
    let took = c.in-Some.ensures.some in
    let told = c.in_ok-pieces-in-Some.ensures in
    let task = c.in-Some.task in
    let end = ap (λ (o : OwnerEnd). record o { put = new.end.put }) (told.fixed ∙ ap (λ (o : OwnerEnd). record o { put = [] }) took.0) in
    let put : c.take.new.self.put ≡ old.end.put = ap (λ (o : OwnerEnd). o.put) took.0 in
    let pieces = reverse c.in_ok-pieces-in-Some.pieces.items in
    let below = subst (λ (bs : List Region). task.number + 1 ≤ length bs) (sym put) (number_below old.end.put task took.2) in
    let grown = subst (λ (bs : List Region). IsGrown shared.bounds shared.instance.now old.means new.means bs new.end.put (task.number + 1) (task.branch.region ∷ []) pieces) put (told.grown (task.number + 1) below) in
    owner_more c.fronts_better.ensures (common_of shared) old new task pieces c.requires end grown trees refl
