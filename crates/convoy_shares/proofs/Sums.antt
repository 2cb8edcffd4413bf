-- Sums over all holders, and what stands at a place of a list.
use Rattle.std.proofs.Common.{◌≡◌, ℕ, zero, suc, ◌+◌, ◌<◌, ◌≤◌, List, [], ◌∷◌, ◌++◌, length, get_or, set, sym, subst, arith}
use Rattle.std.specs.List.{All, sum_by}
use Rattle.std.proofs.lemmas.List.Elements.{All-set}
use Rattle.std.proofs.lemmas.List.Sums.{sum_by-set, sum_by_push, get_or-le-sum_by, sum_by-le}
use mathlib.Core.Option.{some, some-ne-none, some-injective}
use lib.ListN.{get_elem?}

-- what stands at a place of a list, read in two ways
pub read : {A : Type 0} (l : List A) (k : ℕ) (a : A) → get_elem? l k ≡ some a → (k < length l) × ((d : A) → get_or l k d ≡ a)
read [] k a e = absurd (some-ne-none a (sym e))
read (x ∷ xs) zero a e = (omega arith, λ d. some-injective x a e)
read (x ∷ xs) (suc k) a e = let r = read xs k a e in (omega (arith, r.0), r.1)

-- what holds of each element holds of the one at a place
pub all_at : {A : Type 0} (P : A → Type 0) (l : List A) (k : ℕ) (a : A) → get_elem? l k ≡ some a → All P l → P a
all_at P l k a e all = let r = read l k a e in subst P (r.1 a) (all k a r.0)

pub sum_set : {A : Type 0} (f : A → ℕ) (views : List A) (k : ℕ) (v w : A) → get_elem? views k ≡ some v → sum_by f (set views k w) + f v ≡ sum_by f views + f w
sum_set f views k v w e = let r = read views k v e in subst (λ u. sum_by f (set views k w) + f u ≡ sum_by f views + f w) (r.1 v) (sum_by-set f views k w v r.0)

pub sum_push : {A : Type 0} (f : A → ℕ) (views : List A) (w : A) → sum_by f (views ++ w ∷ []) ≡ sum_by f views + f w
sum_push f views w = sum_by_push f views w

pub part_le_sum : {A : Type 0} (f : A → ℕ) (views : List A) (k : ℕ) (v : A) → get_elem? views k ≡ some v → f v ≤ sum_by f views
part_le_sum f views k v e = let r = read views k v e in subst (λ u. f u ≤ sum_by f views) (r.1 v) (get_or-le-sum_by f views k v r.0)

-- where one view has all of g, and f is 0 wherever g is, that view has all of f; `none` is a view with nothing
pub sum_of_one : {A : Type 0} (f g : A → ℕ) (none : A) (views : List A) (k : ℕ) (v : A) → f none ≡ 0 → g none ≡ 0 → get_elem? views k ≡ some v → sum_by g views ≡ g v → All (λ u. g u ≡ 0 → f u ≡ 0) views → sum_by f views ≡ f v
sum_of_one f g none views k v f0 g0 e whole empty =
    let rest = set views k none in
    let nothing : All (λ u. f u ≤ 0) rest = λ j d lt.
    let part = get_or-le-sum_by g rest j d lt in
    let others = sum_set g views k v none e in
    let zero_there = All-set (λ u. g u ≡ 0 → f u ≡ 0) views k none (λ _. f0) empty j d lt (omega arith) in
    omega arith
    in
    let sum = sum_by-le f 0 rest nothing in
    let one = sum_set f views k v none e in
    omega arith
