-- What the owner has with one branch more that it took back and left.
use Rattle.std.specs.Prelude.{◌≡◌, ◌+◌, List, [], ◌∷◌, ◌++◌, false}
use Rattle.std.proofs.Common.{ap, sym, subst, ◌∙◌}
use Rattle.std.proofs.lemmas.Bool.{false≢true}
use Rattle.convoy_regions.specs.Regions.{Region}
use Rattle.convoy_branch.specs.FrontLaws.{FrontsBetter}
use Rattle.convoy_share_deque.specs.declared.task.Task.{Task}
use Rattle.convoy_share_deque.specs.Tasks.{OwnerEnd}
use Rattle.convoy_share.specs.declared.means.Means.{Means}
use Rattle.convoy_share.specs.declared.workers.OwnerWorker.{OwnerWorker}
use Rattle.convoy_share.specs.declared.piece.Piece.{Piece}
use Rattle.convoy_share.specs.declared.piece.Piece.TheVariants.{Todo}
use Rattle.convoy_share.specs.Common.{Common}
use Rattle.convoy_share.specs.Means.{IsGrown}
use Rattle.convoy_share.specs.Workers.{StaysOwner}
use Rattle.convoy_share.proofs.Grown.{IsGrown-start}
use Rattle.convoy_share.proofs.Worked.{owner_more}

pub owner_drained : (better : FrontsBetter) (shared : Common) (old new : OwnerWorker) (task : Task) (pieces : List Piece) → StaysOwner shared old old → task.branch.scenario ≡ old.end.scenario → new.means ≡ old.means → new.end ≡ record old.end { taken = old.end.taken ++ task ∷ [] } → pieces ≡ Todo task.branch false ∷ [] → new.trees.items ≡ old.trees.items ++ record { number = task.number; pieces = pieces } ∷ [] → new.drawn_by_thieves.items ≡ old.drawn_by_thieves.items → StaysOwner shared old new
owner_drained better shared old new task pieces is of_scenario means end left trees thieves =
    let bounds = shared.bounds in
    let plan = shared.scenario in
    let put : new.end.put ≡ old.end.put = ap (λ (e : OwnerEnd). e.put) end in
    let start = IsGrown-start bounds plan old.means old.end.put (task.number + 1) task.branch false (of_scenario ∙ is.scenario_is, λ told. absurd (false≢true told)) in
    let by_means = subst (λ (m : Means). IsGrown bounds plan old.means m old.end.put old.end.put (task.number + 1) (task.branch.region ∷ []) (Todo task.branch false ∷ [])) (sym means) start in
    let by_put = subst (λ (bs : List Region). IsGrown bounds plan old.means new.means old.end.put bs (task.number + 1) (task.branch.region ∷ []) (Todo task.branch false ∷ [])) (sym put) by_means in
    let grown = subst (λ (ps : List Piece). IsGrown bounds plan old.means new.means old.end.put new.end.put (task.number + 1) (task.branch.region ∷ []) ps) (sym left) by_put in
    owner_more better shared old new task pieces is (end ∙ ap (λ (bs : List Region). record old.end { taken = old.end.taken ++ task ∷ []; put = bs }) (sym put)) grown trees thieves
