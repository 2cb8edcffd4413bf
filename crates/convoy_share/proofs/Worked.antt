-- What a worker has, with one branch more.
use Rattle.std.specs.Prelude.{◌≡◌, ℕ, ◌+◌, ◌≤◌, max, List, [], ◌∷◌, ◌++◌, length}
use Rattle.std.specs.List.{sum}
use Rattle.std.proofs.Common.{arith, refl, ap, sym, subst, ◌∙◌, get_or, length-append}
use Rattle.std.proofs.lemmas.List.{get_or_append_left}
use Rattle.std.proofs.lemmas.List.Sums.{sum_by_push}
use Rattle.std.proofs.lemmas.Option.{slice_get_within}
use Rattle.convoy_scenario.specs.Scenario.{Scenario}
use Rattle.convoy_regions.specs.Regions.{Region, any_order}
use Rattle.convoy_branch.specs.declared.bounds.Bounds.{Bounds}
use Rattle.convoy_branch.specs.FrontLaws.{FrontsBetter}
use Rattle.convoy_incumbent.specs.Boards.{Holding}
use Rattle.convoy_share_deque.specs.declared.task.Task.{Task}
use Rattle.convoy_share_deque.specs.Tasks.{DequeId, OwnerEnd, ThiefEnd, IsPut}
use Rattle.convoy_share.specs.declared.piece.Piece.{Piece}
use Rattle.convoy_share.specs.declared.workers.OwnerWorker.{OwnerWorker}
use Rattle.convoy_share.specs.declared.workers.ThiefWorker.{ThiefWorker}
use Rattle.convoy_share.specs.Common.{Common}
use Rattle.convoy_share.specs.Subtrees.{Subtree, IsResult}
use Rattle.convoy_share.specs.Means.{IsGrown, drawn}
use Rattle.convoy_share.specs.Workers.{IsOwner, IsThief, StaysOwner, HasJoined, hand_shares, clerk_shares}
use Rattle.convoy_share.proofs.Joins.{IsResult-joined}
use Rattle.convoy_share.proofs.UnderWay.{IsResult-more}

-- with its own deque and shares
pub thief_own : (shared : Common) (deque : DequeId) (hand clerk : ℕ) (worker : ThiefWorker) → IsThief shared deque hand clerk worker → IsThief shared worker.end.deque worker.means.hand.share worker.means.clerk.share worker
thief_own shared deque hand clerk worker is = record {
  board_is = is.board_is;
  ledger_is = is.ledger_is;
  hand_is = refl;
  clerk_is = refl;
  deque_is = refl;
  scenario_is = is.scenario_is;
  result = is.result;
}

-- a result by its parts
result_by : (bounds : Bounds) (scenario : Scenario) (roots : ℕ) (seen : ℕ) (tickets tickets' : ℕ) (put put' : List Region) (taken taken' : List Task) (trees trees' : List Subtree) → tickets' ≡ tickets → put' ≡ put → taken' ≡ taken → trees' ≡ trees → IsResult bounds scenario seen tickets roots put taken trees → IsResult bounds scenario seen tickets' roots put' taken' trees'
result_by bounds scenario roots seen tickets tickets' put put' taken taken' trees trees' t p k r is = rw (t, p, k, r) is

-- one branch more
pub thief_more : (better : FrontsBetter) (shared : Common) (deque : DequeId) (hand clerk : ℕ) (old new : ThiefWorker) (task : Task) (pieces : List Piece) → IsThief shared deque hand clerk old → new.end ≡ record old.end { taken = old.end.taken ++ task ∷ [] } → IsGrown shared.bounds shared.scenario old.means new.means [] [] (task.number + 1) (task.branch.region ∷ []) pieces → new.trees.items ≡ old.trees.items ++ record { number = task.number; pieces = pieces } ∷ [] → IsThief shared deque hand clerk new
thief_more better shared deque hand clerk old new task pieces is end grown trees =
    let later = grown.later in
    let more = IsResult-more better shared.bounds shared.scenario old.means.hand.seen new.means.hand.seen (drawn old.means) grown.tickets 0 [] [] old.end.taken old.trees.items task pieces later.seen is.result grown.way in
    record {
      board_is = later.board ∙ is.board_is;
      ledger_is = later.ledger ∙ is.ledger_is;
      hand_is = later.hand ∙ is.hand_is;
      clerk_is = later.clerk ∙ is.clerk_is;
      deque_is = ap (λ (e : ThiefEnd). e.deque) end ∙ is.deque_is;
      scenario_is = ap (λ (e : ThiefEnd). e.scenario) end ∙ is.scenario_is;
      result = result_by shared.bounds shared.scenario 0 new.means.hand.seen _ (drawn new.means) [] [] _ new.end.taken _ new.trees.items grown.spent refl (ap (λ (e : ThiefEnd). e.taken) end) trees more;
    }

-- the owner, with its own deque and shares
pub owner_own : (shared : Common) (deque : DequeId) (hand clerk share joined least : ℕ) (worker : OwnerWorker) → IsOwner shared deque hand clerk share joined least worker → StaysOwner shared worker worker
owner_own shared deque hand clerk share joined least worker is = record {
  board_is = is.board_is;
  ledger_is = is.ledger_is;
  hand_is = refl;
  clerk_is = refl;
  deque_is = refl;
  scenario_is = is.scenario_is;
  share_is = refl;
  some_put = is.some_put;
  root = is.root;
  result = is.result;
  joined_is = refl;
  theirs = is.theirs;
  no_less = omega arith;
}

-- a branch that the owner takes has a number below the count of those that it put
pub number_below : (put : List Region) (task : Task) → IsPut put task → task.number + 1 ≤ length put
number_below put task is =
    let low = slice_get_within put task.number task.branch.region is in omega arith

pub owner_more : (better : FrontsBetter) (shared : Common) (old new : OwnerWorker) (task : Task) (pieces : List Piece) → StaysOwner shared old old → new.end ≡ record old.end { taken = old.end.taken ++ task ∷ []; put = new.end.put } → IsGrown shared.bounds shared.scenario old.means new.means old.end.put new.end.put (task.number + 1) (task.branch.region ∷ []) pieces → new.trees.items ≡ old.trees.items ++ record { number = task.number; pieces = pieces } ∷ [] → new.drawn_by_thieves.items ≡ old.drawn_by_thieves.items → StaysOwner shared old new
owner_more better shared old new task pieces is end grown trees thieves =
    let later = grown.later in
    let put = grown.way.more in
    let plan = shared.scenario in
    let more = IsResult-more better shared.bounds plan old.means.hand.seen new.means.hand.seen (drawn old.means) grown.tickets 1 old.end.put new.end.put old.end.taken old.trees.items task pieces later.seen is.result grown.way in
    record {
      board_is = later.board ∙ is.board_is;
      ledger_is = later.ledger ∙ is.ledger_is;
      hand_is = later.hand;
      clerk_is = later.clerk;
      deque_is = ap (λ (e : OwnerEnd). e.deque) end;
      scenario_is = ap (λ (e : OwnerEnd). e.scenario) end ∙ is.scenario_is;
      share_is = ap (λ (e : OwnerEnd). e.share) end;
      some_put = omega (arith, is.some_put, ap length put.1, length-append old.end.put put.0);
      root = ap (λ (bs : List Region). get_or bs 0 (any_order [])) put.1 ∙ get_or_append_left old.end.put put.0 (any_order []) 0 is.some_put ∙ is.root;
      result = result_by shared.bounds plan 1 new.means.hand.seen _ (drawn new.means) new.end.put new.end.put _ new.end.taken _ new.trees.items grown.spent refl (ap (λ (e : OwnerEnd). e.taken) end) trees more;
      joined_is = ap length thieves;
      theirs = omega (arith, is.theirs, grown.spent, ap sum thieves);
      no_less = later.seen;
    }

-- the same of two latencies that are equal
result_at : (bounds : Bounds) (scenario : Scenario) (roots seen seen' tickets : ℕ) (put : List Region) (taken : List Task) (trees : List Subtree) → seen' ≡ seen → IsResult bounds scenario seen tickets roots put taken trees → IsResult bounds scenario seen' tickets roots put taken trees
result_at bounds scenario roots seen seen' tickets put taken trees same is = rw same is

-- what the owner has once it took in what a thief brings
pub owner_joined : (better : FrontsBetter) (shared : Common) (deque : DequeId) (hand clerk share joined least hand_too clerk_too : ℕ) (old new : OwnerWorker) (thief : ThiefWorker) → IsOwner shared deque hand clerk share joined least old → IsThief shared deque hand_too clerk_too thief
    → new.means.hand ≡ record old.means.hand { seen = max old.means.hand.seen thief.means.hand.seen; pairs = old.means.hand.pairs ++ thief.means.hand.pairs; share = old.means.hand.share + thief.means.hand.share }
    → new.means.clerk.ledger ≡ old.means.clerk.ledger → new.means.clerk.share ≡ old.means.clerk.share + thief.means.clerk.share → new.means.clerk.tickets ≡ old.means.clerk.tickets ++ thief.means.clerk.tickets
    → new.end ≡ record old.end { taken = old.end.taken ++ thief.end.taken; share = old.end.share + 1 } → new.trees.items ≡ old.trees.items ++ thief.trees.items
    → new.drawn_by_thieves.items ≡ old.drawn_by_thieves.items ++ drawn thief.means ∷ []
    → IsOwner shared deque (hand + hand_too) (clerk + clerk_too) (share + 1) (joined + 1) least new
owner_joined better shared deque hand clerk share joined least hand_too clerk_too old new thief mine theirs hands of_ledger shares tickets end trees thieves =
    let plan = shared.scenario in
    let all = ap length tickets ∙ length-append old.means.clerk.tickets thief.means.clerk.tickets in
    let both = IsResult-joined better shared.bounds plan old.means.hand.seen thief.means.hand.seen (drawn old.means) (drawn thief.means) 1 old.end.put old.end.taken thief.end.taken old.trees.items thief.trees.items mine.result theirs.result in
    let put = ap (λ (e : OwnerEnd). e.put) end in
    let listed = result_by shared.bounds plan 1 (max old.means.hand.seen thief.means.hand.seen) _ (drawn new.means) _ new.end.put _ new.end.taken _ new.trees.items all put (ap (λ (e : OwnerEnd). e.taken) end) trees both in
    record {
      board_is = ap (λ (h : Holding). h.board) hands ∙ mine.board_is;
      ledger_is = of_ledger ∙ mine.ledger_is;
      hand_is = omega (arith, ap (λ (h : Holding). h.share) hands, mine.hand_is, theirs.hand_is);
      clerk_is = omega (arith, shares, mine.clerk_is, theirs.clerk_is);
      deque_is = ap (λ (e : OwnerEnd). e.deque) end ∙ mine.deque_is;
      scenario_is = ap (λ (e : OwnerEnd). e.scenario) end ∙ mine.scenario_is;
      share_is = omega (arith, ap (λ (e : OwnerEnd). e.share) end, mine.share_is);
      some_put = omega (arith, mine.some_put, ap length put);
      root = ap (λ (bs : List Region). get_or bs 0 (any_order [])) put ∙ mine.root;
      result = result_at shared.bounds plan 1 _ new.means.hand.seen (drawn new.means) new.end.put new.end.taken new.trees.items (ap (λ (h : Holding). h.seen) hands) listed;
      joined_is = omega (arith, ap length thieves, length-append old.drawn_by_thieves.items (drawn thief.means ∷ []), mine.joined_is);
      theirs = omega (arith, ap sum thieves, sum_by_push (λ (n : ℕ). n) old.drawn_by_thieves.items (drawn thief.means), mine.theirs, all);
      no_less = omega (arith, ap (λ (h : Holding). h.seen) hands, mine.no_less);
    }

-- the owner by its shares
owner_by : (shared : Common) (deque : DequeId) (hand hand' clerk clerk' share share' joined joined' least : ℕ) (worker : OwnerWorker) → hand ≡ hand' → clerk ≡ clerk' → share ≡ share' → joined ≡ joined' → IsOwner shared deque hand clerk share joined least worker → IsOwner shared deque hand' clerk' share' joined' least worker
owner_by shared deque hand hand' clerk clerk' share share' joined joined' least worker h c s j is = rw (sym h, sym c, sym s, sym j) is

-- with one thief more
pub joined_more : (shared : Common) (owner worker : OwnerWorker) (all thieves : List ThiefWorker) (thief : ThiefWorker) → all ≡ thieves ++ thief ∷ [] → IsOwner shared owner.end.deque (owner.means.hand.share + hand_shares thieves + thief.means.hand.share) (owner.means.clerk.share + clerk_shares thieves + thief.means.clerk.share) (owner.end.share + length thieves + 1) (length owner.drawn_by_thieves.items + length thieves + 1) owner.means.hand.seen worker → HasJoined shared owner all worker
joined_more shared owner worker all thieves thief same is =
    subst (λ (ts : List ThiefWorker). HasJoined shared owner ts worker) (sym same) (owner_by shared owner.end.deque _ (owner.means.hand.share + hand_shares (thieves ++ thief ∷ [])) _ (owner.means.clerk.share + clerk_shares (thieves ++ thief ∷ [])) _ (owner.end.share + length (thieves ++ thief ∷ [])) _ (length owner.drawn_by_thieves.items + length (thieves ++ thief ∷ [])) owner.means.hand.seen worker (omega (arith, sum_by_push (λ (w : ThiefWorker). w.means.hand.share) thieves thief)) (omega (arith, sum_by_push (λ (w : ThiefWorker). w.means.clerk.share) thieves thief)) (omega (arith, length-append thieves (thief ∷ []))) (omega (arith, length-append thieves (thief ∷ []))) is)
