-- The time within which a share of packets came, among delays in ascending order.
use Rattle.std.proofs.Common.{◌≡◌, cond, ℕ, zero, suc, ◌+◌, ◌*◌, ◌<◌, ◌≤◌, true, false, Bool, List, [], ◌∷◌, length, get_or, refl, subst, ap, sym, ◌∙◌, inl, inr, arith, All, Contains, filter}
use Rattle.std.specs.Prelude.{nat_le, nat_lt, IsSorted, IsPermutation, min}
use Rattle.std.specs.Ordering.{is_lt, nat_cmp}
use Rattle.std.specs.Cmp.{nat_cmp_total}
use Rattle.std.proofs.lemmas.Bool.{cases_Bool, false≢true, leb-true}
use Rattle.std.proofs.lemmas.Bool.Decides.{nat_tests}
use Rattle.std.proofs.lemmas.List.Elements.{All-filter, All-head, All-tail, All-get_or, Contains-get_or, filter_passes}
use Rattle.std.proofs.lemmas.List.Sorted.{Contains-permutation, IsPermutation-sym, All-permutation, length_permutation, ranks_by, sorted_far, sum_by-IsPermutation}
use Rattle.std.proofs.lemmas.List.Sums.{sum_by-cons}
use Rattle.convoy_trace_ranges.specs.Shares.{count_within, has_share, least_from, least_in, share_within}

-- what is no greater than each is no greater than the least
le_least : (x n : ℕ) (ns : List ℕ) → x ≤ n → All (λ m. x ≤ m) ns → x ≤ least_from n ns
le_least x n [] here each = here
le_least x n (m ∷ ms) here each =
    let rest : x ≤ least_from m ms = le_least x m ms (All-head (λ m. x ≤ m) m ms each) (All-tail (λ m. x ≤ m) m ms each) in omega arith

-- the least is no greater than any
least_le : (n : ℕ) (ns : List ℕ) (k d : ℕ) → k < length (n ∷ ns) → least_from n ns ≤ get_or (n ∷ ns) k d
least_le n [] zero d below = omega arith
least_le n [] (suc k) d below = absurd (omega arith)
least_le n (m ∷ ms) zero d below = omega arith
least_le n (m ∷ ms) (suc k) d below = let rest : least_from m ms ≤ get_or (m ∷ ms) k d = least_le m ms k d (omega arith) in omega arith

-- one of them that is no greater than each is the least
least_is : (xs : List ℕ) (x : ℕ) → Contains xs x → All (λ y. x ≤ y) xs → least_in xs ≡ x
least_is [] x (k, below, is) each = absurd (omega arith)
least_is (n ∷ ns) x (k, below, is) each =
    let low : x ≤ least_from n ns = le_least x n ns (All-head (λ y. x ≤ y) n ns each) (All-tail (λ y. x ≤ y) n ns each) in
    let up : least_from n ns ≤ get_or (n ∷ ns) k x = least_le n ns k x below in
    omega arith

-- what is kept is one of those that were there
kept : (p : ℕ → Bool) (xs : List ℕ) (k d : ℕ) → k < length xs → p (get_or xs k d) ≡ true → Contains (filter p xs) (get_or xs k d)
kept p [] k d below passes = absurd (omega arith)
kept p (x ∷ xs) zero d below passes = rw passes (0, omega arith, refl)
kept p (x ∷ xs) (suc k) d below passes =
    let rest = kept p xs k d (omega arith) passes in
    elim (cases_Bool (p x)) [
      | inl is ↦ rw is (suc rest.0, omega (arith, rest.1), rest.2)
      | inr isnt ↦ rw isnt rest
    ]

-- one more delay counts where it is within the time
count_more : (a t : ℕ) (s : List ℕ) → nat_le a t ≡ true → count_within (a ∷ s) t ≡ 1 + count_within s t
count_more a t s is = sum_by-cons (λ delay. cond (nat_le delay t) 1 0) a s ∙ ap (λ (b : Bool). cond b 1 0 + count_within s t) is

-- and else it does not
count_same : (a t : ℕ) (s : List ℕ) → nat_le a t ≡ false → count_within (a ∷ s) t ≡ count_within s t
count_same a t s isnt =
    let none : 0 + count_within s t ≡ count_within s t = omega arith in
    sum_by-cons (λ delay. cond (nat_le delay t) 1 0) a s ∙ ap (λ (b : Bool). cond b 1 0 + count_within s t) isnt ∙ none

-- so many are within a time at least, where those up to a place are
at_least : (s : List ℕ) (t r : ℕ) → ((i d : ℕ) → i ≤ r → get_or s i d ≤ t) → r < length s → r < count_within s t
at_least [] t r low below = absurd (omega arith)
at_least (a ∷ s) t zero low below =
    let here : a ≤ t = low 0 0 (omega arith) in
    let more : count_within (a ∷ s) t ≡ 1 + count_within s t = count_more a t s (grind (arith, nat_tests)) in
    omega arith
at_least (a ∷ s) t (suc r) low below =
    let here : a ≤ t = low 0 0 (omega arith) in
    let more : count_within (a ∷ s) t ≡ 1 + count_within s t = count_more a t s (grind (arith, nat_tests)) in
    let rest : r < count_within s t = at_least s t r (λ i d le. low (suc i) d (omega arith)) (omega arith) in
    omega arith

-- no more are within a time, where those from a place on are not
at_most : (s : List ℕ) (t r : ℕ) → ((i d : ℕ) → r ≤ i → i < length s → t < get_or s i d) → count_within s t ≤ r
at_most [] t r high = omega arith
at_most (a ∷ s) t zero high =
    let here : t < a = high 0 0 (omega arith) (omega arith) in
    let same : count_within (a ∷ s) t ≡ count_within s t = count_same a t s (grind (arith, nat_tests)) in
    let rest : count_within s t ≤ 0 = at_most s t 0 (λ i d le below. high (suc i) d (omega arith) (omega arith)) in
    omega arith
at_most (a ∷ s) t (suc r) high =
    let rest : count_within s t ≤ r = at_most s t r (λ i d le below. high (suc i) d (omega arith) (omega arith)) in
    elim (cases_Bool (nat_le a t)) [
      | inl is ↦ let more : count_within (a ∷ s) t ≡ 1 + count_within s t = count_more a t s is in omega arith
      | inr isnt ↦ let same : count_within (a ∷ s) t ≡ count_within s t = count_same a t s isnt in omega arith
    ]

-- what is at a place there is no default
at_any : (s : List ℕ) (i d e : ℕ) → i < length s → get_or s i d ≡ get_or s i e
at_any [] i d e below = absurd (omega arith)
at_any (a ∷ s) zero d e below = refl
at_any (a ∷ s) (suc i) d e below = at_any s i d e (omega arith)

-- one that is there and passes is kept
contained : (p : ℕ → Bool) (xs : List ℕ) (x : ℕ) → Contains xs x → p x ≡ true → Contains (filter p xs) x
contained p xs x (k, below, is) passes = subst (Contains (filter p xs)) is (kept p xs k x below (ap p is ∙ passes))

-- not less is no less
no_less : (a b : ℕ) → is_lt (nat_cmp b a) ≡ false → a ≤ b
no_less a b e =
    elim (cases_Bool (nat_lt b a)) [
      | inl less ↦ absurd (false≢true (sym (rw less at e)))
      | inr not_less ↦ grind (arith, nat_tests)
    ]

module _ (s : List ℕ) (up : IsSorted nat_cmp s) where
  ascends : (i j d : ℕ) → i ≤ j → j < length s → get_or s i d ≤ get_or s j d
  ascends i j d le below = no_less _ _ (sorted_far (λ x y. is_lt (nat_cmp x y)) (ranks_by nat_cmp_total (λ (x : ℕ). x)) s up i j d le below)

  -- a time below the delay at a rank has no greater share
  too_few : (xs : List ℕ) (share r d t : ℕ) → IsPermutation xs s → 1000 * r < share * length s → t < get_or s r d → has_share xs share t ≡ true → ⊥
  too_few xs share r d t moved few less there =
      let many : length s ≡ length xs = length_permutation xs s moved in
      let same : count_within s t ≡ count_within xs t = sum_by-IsPermutation (λ delay. cond (nat_le delay t) 1 0) xs s moved in
      let upto : count_within s t ≤ r = at_most s t r (λ i e le below. let up : get_or s r e ≤ get_or s i e = ascends r i e le below in let one : get_or s r e ≡ get_or s r d = at_any s r e d (omega arith) in omega arith) in
      let enough : share * length xs ≤ 1000 * count_within xs t = leb-true (share * length xs) (1000 * count_within xs t) there in
      let product : share * length s ≡ share * length xs = ap (λ (n : ℕ). share * n) many in
      omega arith

  -- the delay at the rank of a share is the time within which that share came
  pub at_rank : (xs : List ℕ) (share r d : ℕ) → IsPermutation xs s → r < length s → share * length s ≤ 1000 * (r + 1) → 1000 * r < share * length s
      → share_within xs share ≡ get_or s r d
  unfolding share_within
  at_rank xs share r d moved below enough few =
      let x : ℕ = get_or s r d in
      let many : length s ≡ length xs = length_permutation xs s moved in
      let same : (t : ℕ) → count_within s t ≡ count_within xs t = λ t. sum_by-IsPermutation (λ delay. cond (nat_le delay t) 1 0) xs s moved in
      let has : Contains xs x = Contains-permutation s xs x (IsPermutation-sym xs s moved) (Contains-get_or s r d below) in
      let upto : r < count_within s x = at_least s x r (λ i e le. let up : get_or s i e ≤ get_or s r e = ascends i r e le below in let one : get_or s r e ≡ x = at_any s r e d below in omega arith) below in
      let passes : has_share xs share x ≡ true = let n : share * length xs ≤ 1000 * count_within xs x = omega (arith, same x, ap (λ (n : ℕ). share * n) many) in grind (arith, nat_tests) in
      let here : Contains (filter (has_share xs share) xs) x = contained (has_share xs share) xs x has passes in
      let least : All (λ y. has_share xs share y ≡ true → x ≤ y) xs = λ k e within share_there.
      elim (cases_Bool (nat_le x (get_or xs k e))) [
        | inl is ↦ grind (arith, nat_tests)
        | inr isnt ↦ absurd (too_few xs share r d (get_or xs k e) moved few (grind (arith, nat_tests)) share_there)
      ] in
      least_is (filter (has_share xs share) xs) x here (λ k e within. All-filter (has_share xs share) (λ y. has_share xs share y ≡ true → x ≤ y) xs least k e within (filter_passes (has_share xs share) xs k e within))
