-- A list that has each group, and no more than there are, is an order of them.
use Rattle.std.proofs.Common.{◌≡◌, ℕ, zero, suc, ◌+◌, ◌<◌, ◌==◌, Bool, true, not, List, [], ◌∷◌, length, get_or, inl, inr, refl, subst, eqb-true, arith}
use Rattle.std.specs.List.{All, Contains, list_all, range_with_len, remove}
use Rattle.std.specs.List.Sorted.{IsPermutation}
use Rattle.std.proofs.lemmas.Bool.{and_parts}
use Rattle.std.proofs.lemmas.List.Elements.{Contains-get_or}
use Rattle.std.proofs.lemmas.List.Sorted.{Contains-permutation, IsPermutation-cons, IsPermutation-refl, IsPermutation-sym, IsPermutation-trans, length_permutation}
use Rattle.convoy_scenario.specs.Scenario.{Scenario}
use Rattle.convoy_sim.proofs.Membership.{IsIn, contains-in, in_of_contains, in_of_filter, in_of_list_any, in_of_range}
use Rattle.convoy_plans.specs.Plans.{has}
use Rattle.convoy_best_order.specs.Orders.{IsOrder, group_numbers}
use Rattle.convoy_best_order.proofs.Steps.{front}
use Rattle.convoy_plan_checker.specs.Lateness.{is_order, without}

-- what passes of all passes of each
pub each_passes : {X : Type 0} (p : X → Bool) (x : X) (xs : List X) → list_all p xs ≡ true → IsIn x xs → p x ≡ true
each_passes p x [] all i = absurd i
each_passes p x (y ∷ ys) all (inl e) = subst (λ z. p z ≡ true) e (and_parts (p y) (list_all p ys) all).0
each_passes p x (y ∷ ys) all (inr i) = each_passes p x ys (and_parts (p y) (list_all p ys) all).1 i

pub in_of_has : (g : ℕ) (gs : List ℕ) → has g gs ≡ true → IsIn g gs
in_of_has g gs some =
    let found = in_of_list_any (λ n. n == g) gs some in
    subst (λ n. IsIn n gs) (eqb-true found.0 g found.2) found.1

-- the place of what is in a list
place_in : (x : ℕ) (xs : List ℕ) → IsIn x xs → (i : ℕ) × (i < length xs) × (get_or xs i 0 ≡ x)
place_in x [] i = absurd i
place_in x (y ∷ ys) (inl e) = (0, omega arith, e)
place_in x (y ∷ ys) (inr i) = let found = place_in x ys i in (suc found.0, omega (arith, found.1), found.2)

-- numbers among which all of so many are, and that are no more
all_there : (from n : ℕ) (ys : List ℕ) → length ys ≡ n → ((k : ℕ) → IsIn k (range_with_len from n) → IsIn k ys) → IsPermutation (range_with_len from n) ys
all_there from zero [] long all = IsPermutation-refl []
all_there from zero (y ∷ ys) long all = absurd (omega (arith, long))
all_there from (suc n) ys long all =
    let found = place_in from ys (all from (inl refl)) in
    let rest : List ℕ = remove ys found.0 in
    let taken : IsPermutation ys (from ∷ rest) = subst (λ k. IsPermutation ys (k ∷ rest)) found.2 (front ys found.0 found.1) in
    let fewer : length rest ≡ n = omega (arith, length_permutation ys (from ∷ rest) taken, long) in
    IsPermutation-trans (from ∷ range_with_len (from + 1) n) (from ∷ rest) ys
    (IsPermutation-cons from (range_with_len (from + 1) n) rest
    (all_there (from + 1) n rest fewer
    (λ k i.
    elim (in_of_contains k (from ∷ rest) (Contains-permutation ys (from ∷ rest) k taken (contains-in k ys (all k (inr i))))) [
      | inl e ↦ let past = in_of_range k (from + 1) n i in absurd (omega (arith, past.0, e))
      | inr j ↦ j
    ])))
    (IsPermutation-sym ys (from ∷ rest) taken)

pub order_is : (scenario : Scenario) (order : List ℕ) → is_order scenario order ≡ true → IsOrder scenario order
order_is scenario order is =
    let parts = and_parts (length order == length scenario.groups) (list_all (λ g. has g order) (group_numbers scenario)) is in
    all_there 0 (length scenario.groups) order (eqb-true _ _ parts.0)
    (λ k i. in_of_has k order (each_passes (λ g. has g order) k (group_numbers scenario) parts.1 i))

-- those behind a group are among the groups
pub among_behind : (groups : List ℕ) (g : ℕ) → All (Contains groups) (without groups g)
among_behind groups g k d l =
    let x : ℕ = get_or (without groups g) k d in
    contains-in x groups (in_of_filter (λ h. not (h == g)) x groups (in_of_contains x (without groups g) (Contains-get_or (without groups g) k d l))).0
