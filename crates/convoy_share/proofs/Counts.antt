-- Sums and counts over pieces and tasks.
use Rattle.std.specs.Prelude.{◌≡◌, ℕ, suc, ◌+◌, ◌≤◌, ◌<◌, List, [], ◌∷◌, ◌++◌, length}
use Rattle.std.specs.List.{All, sum_by}
use Rattle.std.proofs.Common.{arith, refl, ap, ◌∙◌, get_or, length-append}
use Rattle.std.proofs.lemmas.Bool.Decides.{nat_tests}
use Rattle.std.proofs.lemmas.List.Elements.{All-nil, All-cons, All-head, All-tail, filter_map-append}
use Rattle.std.proofs.lemmas.List.Sums.{sum_by-cons, sum_by-append}
use Rattle.convoy_shares.specs.Shares.{once_below}
use Rattle.convoy_ledger.specs.Tickets.{times}
use Rattle.convoy_share_deque.specs.declared.task.Task.{Task}
use Rattle.convoy_share_deque.specs.Tasks.{tasks_at}
use Rattle.convoy_share.specs.declared.piece.Piece.{Piece}
use Rattle.convoy_share.specs.Pieces.{pushed_number, places_in, done_node, nodes_in, spent}

pub times-append : (x : ℕ) (numbers others : List ℕ) → times x (numbers ++ others) ≡ times x numbers + times x others
times-append x numbers others = sum_by-append _ numbers others

pub times-cons : (x number : ℕ) (numbers : List ℕ) → times x (number ∷ numbers) ≡ times x (number ∷ []) + times x numbers
times-cons x number numbers = times-append x (number ∷ []) numbers

pub places-append : (x : ℕ) (pieces others : List Piece) → times x (places_in (pieces ++ others)) ≡ times x (places_in pieces) + times x (places_in others)
places-append x pieces others =
    ap (times x) (filter_map-append pushed_number pieces others) ∙ times-append x (places_in pieces) (places_in others)

pub spent-append : (pieces others : List Piece) → spent (pieces ++ others) ≡ spent pieces + spent others
spent-append pieces others =
    ap length (filter_map-append done_node pieces others) ∙ length-append (nodes_in pieces) (nodes_in others)

-- a sum of nothing
pub sum_none : {X : Type 0} (f : List X → ℕ) (slots : List (List X)) → ((n : ℕ) → f (get_or slots n []) ≡ 0) → sum_by f slots ≡ 0
sum_none f [] none = refl
sum_none f (slot ∷ slots) none =
    omega (arith, sum_by-cons f slot slots, none 0, sum_none f slots (λ n. none (suc n)))

-- a number is counted under itself alone
pub own_number : (n : ℕ) → times n (n ∷ []) ≡ 1
own_number n = grind (arith, nat_tests)

pub other_number : (n x : ℕ) → (n ≡ x → ⊥) → times x (n ∷ []) ≡ 0
other_number n x differ = grind (arith, nat_tests)

-- so is a task
pub tasks-cons : (x : ℕ) (task : Task) (tasks : List Task) → tasks_at x (task ∷ tasks) ≡ times x (task.number ∷ []) + tasks_at x tasks
tasks-cons x task tasks = sum_by-append _ (task ∷ []) tasks

-- greater numbers are not counted
pub times_above : (x low : ℕ) (numbers : List ℕ) → x < low → All (λ (number : ℕ). low ≤ number) numbers → times x numbers ≡ 0
times_above x low [] less above = refl
times_above x low (number ∷ numbers) less above =
    let P : ℕ → Type 0 = λ n. low ≤ n in
    let here = All-head P number numbers above in
    omega (arith, times-cons x number numbers, other_number number x (λ same. absurd (omega (arith, here, less, same))), times_above x low numbers less (All-tail P number numbers above))

-- the two parts of what holds of each
pub All-parts : {X : Type 0} (P : X → Type 0) (xs ys : List X) → All P (xs ++ ys) → All P xs × All P ys
All-parts P [] ys all = (All-nil P, all)
All-parts P (x ∷ xs) ys all =
    let rest = All-parts P xs ys (All-tail P x (xs ++ ys) all) in
    (All-cons P x xs (All-head P x (xs ++ ys) all) rest.0, rest.1)

pub once_zero : (x : ℕ) → once_below x 0 ≡ 0
once_zero x = grind (arith, nat_tests)

pub once_one : (x : ℕ) → times x (0 ∷ []) ≡ once_below x 1
once_one x = grind (arith, nat_tests)

pub once_le : (x n : ℕ) → once_below x n ≤ 1
once_le x n = grind (arith, nat_tests)

pub once_low : (x n : ℕ) → 0 < once_below x n → x < n
once_low x n is = grind (arith, nat_tests)

pub once_more : (x n : ℕ) → once_below x (n + 1) ≡ once_below x n + times x (n ∷ [])
once_more x n = grind (arith, nat_tests)
