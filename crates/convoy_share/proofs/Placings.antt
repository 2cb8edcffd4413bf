-- The trees of all tasks are put into slots by their numbers.
use Rattle.std.specs.Prelude.{◌≡◌, ℕ, ◌+◌, ◌<◌, List, [], ◌∷◌, ◌++◌, length, replicate, reverse}
use Rattle.std.specs.List.{sum_by}
use Rattle.std.proofs.Common.{arith, refl, ap, sym, subst, ◌∙◌, inl, inr, get_or, set}
use Rattle.std.proofs.lemmas.Bool.{cases_eq, cases_lt}
use Rattle.std.proofs.lemmas.List.{reverse-append, get_or-set_same, get_or-set_other, get_or-replicate, get_or_past, length-set, length-replicate}
use Rattle.std.proofs.lemmas.List.Elements.{All-nil, All-cons, All-head, All-tail}
use Rattle.std.proofs.lemmas.List.Sums.{sum_by-cons, sum_by-set}
use Rattle.convoy_shares.specs.Shares.{once_below}
use Rattle.convoy_ledger.specs.Tickets.{times}
use Rattle.convoy_scenario.specs.Scenario.{Scenario}
use Rattle.convoy_regions.specs.Regions.{Region, any_order, root_region}
use Rattle.convoy_branch.specs.declared.bounds.Bounds.{Bounds}
use Rattle.convoy_share_deque.specs.declared.task.Task.{Task}
use Rattle.convoy_share_deque.specs.Tasks.{tasks_at, AreAllTaken, IsPut}
use Rattle.convoy_share.specs.declared.piece.Piece.{Piece}
use Rattle.convoy_share.specs.declared.piece.Piece.TheVariants.{Pushed}
use Rattle.convoy_share.specs.Pieces.{places_in, spent, IsPiece}
use Rattle.convoy_share.specs.Subtrees.{Subtree, IsSubtree, IsResult}
use Rattle.convoy_share.specs.Filling.{slot_at, there, IsSlot, IsPlacing, CanBeFilled, IsFilling}
use Rattle.convoy_share.proofs.Counts.{sum_none, own_number, other_number, tasks-cons, once_one, once_le, once_low}
use Rattle.convoy_share.proofs.Slots.{IsSlot-set, put_is}

-- a tree over a box is not empty
subtree_there : (bounds : Bounds) (scenario : Scenario) (seen : ℕ) (put : List Region) (number : ℕ) (branch : Region) (pieces : List Piece) → IsSubtree bounds scenario seen put number branch pieces → there pieces ≡ 1
subtree_there bounds scenario seen put number branch [] is = absurd is.tree
subtree_there bounds scenario seen put number branch (piece ∷ pieces) is = refl

-- and may lie in the slot of its number
subtree_slot : (bounds : Bounds) (scenario : Scenario) (seen : ℕ) (put : List Region) (number : ℕ) (pieces : List Piece) → IsSubtree bounds scenario seen put number (get_or put number (any_order [])) pieces → IsSlot bounds scenario seen put number pieces
subtree_slot bounds scenario seen put number [] is = tt
subtree_slot bounds scenario seen put number (piece ∷ pieces) is = is

none_there : (slot : List Piece) → there slot ≡ 0 → slot ≡ []
none_there [] is = refl
none_there (piece ∷ pieces) is = absurd (omega arith)

-- the first of the tasks that are left finds its slot empty, and its number is below the count
first_free : (bounds : Bounds) (scenario : Scenario) (seen : ℕ) (put : List Region) (all : List Subtree) (slots : List (List Piece)) (task : Task) (tasks : List Task) (subtrees : List Subtree) → IsPlacing bounds scenario seen put all slots (task ∷ tasks) subtrees → (slot_at slots task.number ≡ []) × (task.number < length slots)
first_free bounds scenario seen put all slots task tasks subtrees placing =
    let n = task.number in
    let once = placing.once n in
    let more = tasks-cons n task tasks in
    let own = own_number n in (
      none_there (slot_at slots n) (omega (arith, once, more, own, once_le n (length put))),
      omega (arith, placing.size, once_low n (length put) (omega (arith, once, more, own))),
    )

-- what is added up over the slots and the trees that are left stays the same
placed_sum : (f : List Piece → ℕ) (slots : List (List Piece)) (n : ℕ) (subtree : Subtree) (subtrees : List Subtree) → f [] ≡ 0 → slot_at slots n ≡ [] → n < length slots → sum_by f (set slots n subtree.pieces) + sum_by (λ (s : Subtree). f s.pieces) subtrees ≡ sum_by f slots + sum_by (λ (s : Subtree). f s.pieces) (subtree ∷ subtrees)
placed_sum f slots n subtree subtrees none empty low =
    omega (arith, sum_by-set f slots n subtree.pieces [] low, sum_by-cons (λ (s : Subtree). f s.pieces) subtree subtrees, ap f empty, none)

-- it is put there
pub IsPlacing-next : (bounds : Bounds) (scenario : Scenario) (seen : ℕ) (put : List Region) (all : List Subtree) (slots : List (List Piece)) (task : Task) (tasks : List Task) (subtree : Subtree) (subtrees : List Subtree) → IsPlacing bounds scenario seen put all slots (task ∷ tasks) (subtree ∷ subtrees) → IsPlacing bounds scenario seen put all (set slots task.number subtree.pieces) tasks subtrees
IsPlacing-next bounds scenario seen put all slots task tasks subtree subtrees placing =
    let n = task.number in
    let pieces = subtree.pieces in
    let free = first_free bounds scenario seen put all slots task tasks (subtree ∷ subtrees) placing in
    let branch = put_is put task (All-head (IsPut put) task tasks placing.right) in
    let sub : IsSubtree bounds scenario seen put n (get_or put n (any_order [])) pieces = subst (λ (b : Region). IsSubtree bounds scenario seen put n b pieces) (sym branch) placing.trees.1 in
    record {
      each_slot = IsSlot-set bounds scenario seen put slots n pieces (subtree_slot bounds scenario seen put n pieces sub) placing.each_slot free.1;
      size = length-set slots n pieces ∙ placing.size;
      trees = placing.trees.2;
      once = λ x. once x free.0 free.1 (subtree_there bounds scenario seen put n (get_or put n (any_order [])) pieces sub);
      right = All-tail (IsPut put) task tasks placing.right;
      sums = λ f none. omega (arith, placing.sums f none, placed_sum f slots n subtree subtrees none free.0 free.1);
    } where
      once : (x : ℕ) → slot_at slots task.number ≡ [] → task.number < length slots → there subtree.pieces ≡ 1 → there (slot_at (set slots task.number subtree.pieces) x) + tasks_at x tasks ≡ once_below x (length put)
      once x empty low is_there =
          let n = task.number in
          let before = placing.once x in
          elim (cases_eq n x) [
            | inl same ↦ rw (sym same, get_or-set_same slots n subtree.pieces [] low) (omega (arith, placing.once n, tasks-cons n task tasks, own_number n, is_there, ap there empty))
            | inr differ ↦ rw (get_or-set_other slots n x subtree.pieces [] (λ same. differ (sym same))) (omega (arith, before, tasks-cons x task tasks, other_number n x differ))
          ]

-- no tree has its slot yet
empty_slot : (n x : ℕ) → slot_at (replicate n []) x ≡ []
empty_slot n x = elim (cases_lt x n) [
  | inl low ↦ get_or-replicate n x [] [] low
  | inr past ↦ get_or_past (replicate n []) x [] (omega (arith, past, length-replicate {A = List Piece} n []))
]

pub IsPlacing-start : (bounds : Bounds) (scenario : Scenario) (seen tickets roots : ℕ) (put : List Region) (taken : List Task) (subtrees : List Subtree) → IsResult bounds scenario seen tickets roots put taken subtrees → AreAllTaken put taken → IsPlacing bounds scenario seen put subtrees (replicate (length put) []) taken subtrees
IsPlacing-start bounds scenario seen tickets roots put taken subtrees is all = record {
  each_slot = λ x. rw (empty_slot (length put) x) tt;
  size = length-replicate (length put) [];
  trees = is.trees;
  once = λ x. rw (empty_slot (length put) x) (omega (arith, all.once x));
  right = all.right;
  sums = λ f none. omega (arith, sum_none f (replicate (length put) []) (λ x. ap f (empty_slot (length put) x) ∙ none));
}

-- all have them: the root stands under the number 0
pub IsFilling-start : (bounds : Bounds) (scenario : Scenario) (seen tickets : ℕ) (put : List Region) (taken : List Task) (subtrees : List Subtree) (slots : List (List Piece)) → get_or put 0 (any_order []) ≡ root_region scenario → 0 < length put → IsResult bounds scenario seen tickets 1 put taken subtrees → IsPlacing bounds scenario seen put subtrees slots [] [] → IsFilling bounds scenario seen tickets put [] (Pushed 0 ∷ []) slots
IsFilling-start bounds scenario seen tickets put taken subtrees slots root some is placing = record {
  tree = (root, tt);
  settled = refl;
  each_done = All-nil (IsPiece scenario seen put);
  each_rest = All-cons (IsPiece scenario seen put) (Pushed 0) [] some (All-nil (IsPiece scenario seen put));
  each_slot = placing.each_slot;
  once = λ x. omega (arith, is.places x, once_one x, placing.once x, placing.sums (λ slot. times x (places_in slot)) refl);
  nodes = omega (arith, is.nodes, placing.sums spent refl);
}

-- the first tree that is left
first_placed : (bounds : Bounds) (scenario : Scenario) (seen : ℕ) (put : List Region) (all : List Subtree) (slots : List (List Piece)) (tasks : List Task) (tree : Subtree) (trees : List Subtree) → IsPlacing bounds scenario seen put all slots tasks (tree ∷ trees) → (tree.number < length slots) × ((rest : List Task) × IsPlacing bounds scenario seen put all (set slots tree.number tree.pieces) rest trees)
first_placed bounds scenario seen put all slots [] tree trees placing = absurd placing.trees
first_placed bounds scenario seen put all slots (task ∷ tasks) tree trees placing =
    let same = placing.trees.0 in
    let free = first_free bounds scenario seen put all slots task tasks (tree ∷ trees) placing in (
      omega (arith, free.1, same),
      (tasks, subst (λ (n : ℕ). IsPlacing bounds scenario seen put all (set slots n tree.pieces) tasks trees) (sym same) (IsPlacing-next bounds scenario seen put all slots task tasks tree trees placing)),
    )

-- the trees are put from the last of a list that is turned round
pub IsPlacing-popped : (bounds : Bounds) (scenario : Scenario) (seen : ℕ) (put : List Region) (all : List Subtree) (slots : List (List Piece)) (tasks : List Task) (trees less : List Subtree) (tree : Subtree) → trees ≡ less ++ tree ∷ [] → IsPlacing bounds scenario seen put all slots tasks (reverse trees) → (tree.number < length slots) × ((rest : List Task) × IsPlacing bounds scenario seen put all (set slots tree.number tree.pieces) rest (reverse less))
IsPlacing-popped bounds scenario seen put all slots tasks trees less tree popped placing =
    let turned : reverse trees ≡ tree ∷ reverse less = ap (λ (ts : List Subtree). reverse ts) popped ∙ reverse-append less (tree ∷ []) in
    first_placed bounds scenario seen put all slots tasks tree (reverse less) (subst (λ (ts : List Subtree). IsPlacing bounds scenario seen put all slots tasks ts) turned placing)

-- the same by what the program makes of a tree
pub IsPlacing-put : (bounds : Bounds) (scenario : Scenario) (seen : ℕ) (put : List Region) (all : List Subtree) (slots : List (List Piece)) (tasks : List Task) (trees less : List Subtree) (tree : Subtree) (number : ℕ) (pieces : List Piece) → number ≡ tree.number → pieces ≡ tree.pieces → trees ≡ less ++ tree ∷ [] → IsPlacing bounds scenario seen put all slots tasks (reverse trees) → (number < length slots) × ((rest : List Task) × IsPlacing bounds scenario seen put all (set slots number pieces) rest (reverse less))
IsPlacing-put bounds scenario seen put all slots tasks trees less tree number pieces same_number same_pieces popped placing =
    rw (same_number, same_pieces) (IsPlacing-popped bounds scenario seen put all slots tasks trees less tree popped placing)

-- once all trees have their slots
pub IsPlacing-ended : (bounds : Bounds) (scenario : Scenario) (seen : ℕ) (put : List Region) (all : List Subtree) (slots : List (List Piece)) (tasks : List Task) → IsPlacing bounds scenario seen put all slots tasks [] → IsPlacing bounds scenario seen put all slots [] []
IsPlacing-ended bounds scenario seen put all slots [] placing = placing
IsPlacing-ended bounds scenario seen put all slots (task ∷ tasks) placing = absurd placing.trees

pub IsFilling-opened : (bounds : Bounds) (scenario : Scenario) (seen tickets count : ℕ) (put : List Region) (taken : List Task) (subtrees : List Subtree) (slots : List (List Piece)) → CanBeFilled bounds scenario seen tickets count put taken subtrees → IsPlacing bounds scenario seen put subtrees slots [] [] → IsFilling bounds scenario seen tickets put [] (Pushed 0 ∷ []) slots
IsFilling-opened bounds scenario seen tickets count put taken subtrees slots can placing =
    IsFilling-start bounds scenario seen tickets put taken subtrees slots can.root can.some_put can.result placing

pub IsPlacing-opened : (bounds : Bounds) (scenario : Scenario) (seen tickets count : ℕ) (put : List Region) (taken : List Task) (subtrees : List Subtree) (slots : List (List Piece)) → slots ≡ replicate count [] → CanBeFilled bounds scenario seen tickets count put taken subtrees → IsPlacing bounds scenario seen put subtrees slots taken subtrees
IsPlacing-opened bounds scenario seen tickets count put taken subtrees slots empty can =
    subst (λ (s : List (List Piece)). IsPlacing bounds scenario seen put subtrees s taken subtrees) (ap (λ (n : ℕ). replicate n []) (sym can.count_is) ∙ sym empty) (IsPlacing-start bounds scenario seen tickets 1 put taken subtrees can.result can.all)
