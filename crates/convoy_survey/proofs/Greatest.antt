-- The greatest of numbers that may not be known: it is one of them, and none is greater.
use Rattle.std.proofs.Common.{All, ◌≡◌, ◌⊎◌, inl, inr, ℕ, ◌<◌, ◌≤◌, max, Bool, true, false, nat_lt, List, [], ◌∷◌, length, map, Option, Some, None, refl, ap, sym, subst, ◌∙◌, arith}
use Rattle.std.specs.List.{Contains, fold}
use Rattle.std.proofs.lemmas.Bool.{cases_Bool}
use Rattle.std.proofs.lemmas.Bool.Decides.{nat_tests}
use Rattle.std.proofs.lemmas.List.Elements.{All-cons, All-nil, Contains-append_right}
use Rattle.convoy_survey.specs.AtAll.{greater, greatest_known}

-- the number is known, and at most n
abbrev pub IsAtMost : ℕ → Option ℕ → Type 0
IsAtMost n None = ⊥
IsAtMost n (Some k) = k ≤ n

-- one of the elements has this number
pub record HasNumber {X : Type 0} (number : X → Option ℕ) (xs : List X) (n : ℕ) : Type 0 where
  pub one : X
  pub among : Contains xs one
  pub is : number one ≡ Some n

both_at_most : (a b : Option ℕ) (n : ℕ) → IsAtMost n (greater a b) → IsAtMost n a × IsAtMost n b
both_at_most None b n most = absurd most
both_at_most (Some a) None n most = absurd most
both_at_most (Some a) (Some b) n most = (omega (arith, most), omega (arith, most))

all_at_most : {X : Type 0} (number : X → Option ℕ) (xs : List X) (a : Option ℕ) (n : ℕ) → IsAtMost n (fold greater a (map number xs)) →
    IsAtMost n a × All (λ (x : X). IsAtMost n (number x)) xs
all_at_most {X = X} number [] a n most = (most, All-nil (λ (x : X). IsAtMost n (number x)))
all_at_most {X = X} number (x ∷ xs) a n most =
    let rest = all_at_most number xs (greater a (number x)) n most in
    let both = both_at_most a (number x) n rest.0 in
    (both.0, All-cons (λ (x : X). IsAtMost n (number x)) x xs both.1 rest.1)

-- the greater is one of both
one_of_both : (a b : Option ℕ) (n : ℕ) → greater a b ≡ Some n → (a ≡ Some n) ⊎ (b ≡ Some n)
one_of_both None b n is = inl is
one_of_both (Some a) None n is = inr is
one_of_both (Some a) (Some b) n is = by_test (cases_Bool (nat_lt a b)) where
  by_test : (nat_lt a b ≡ true) ⊎ (nat_lt a b ≡ false) → (Some a ≡ Some n) ⊎ (Some b ≡ Some n)
  by_test (inl less) =
      let below : a < b = grind (arith, nat_tests, less) in
      let greatest : max a b ≡ b = omega (arith, below) in
      inr (sym (ap Some greatest) ∙ is)
  by_test (inr not_less) =
      let above : b ≤ a = grind (arith, nat_tests, not_less) in
      let greatest : max a b ≡ a = omega (arith, above) in
      inl (sym (ap Some greatest) ∙ is)

one_of_all : {X : Type 0} (number : X → Option ℕ) (xs : List X) (a : Option ℕ) (n : ℕ) → fold greater a (map number xs) ≡ Some n →
    (a ≡ Some n) ⊎ HasNumber number xs n
one_of_all number [] a n is = inl is
one_of_all {X = X} number (x ∷ xs) a n is = from (one_of_all number xs (greater a (number x)) n is) where
  here : (a ≡ Some n) ⊎ (number x ≡ Some n) → (a ≡ Some n) ⊎ HasNumber number (x ∷ xs) n
  here (inl first) = inl first
  here (inr second) = inr (record { one = x; among = (0, omega arith, refl); is = second })

  from : (greater a (number x) ≡ Some n) ⊎ HasNumber number xs n → (a ≡ Some n) ⊎ HasNumber number (x ∷ xs) n
  from (inl so_far) = here (one_of_both a (number x) n so_far)
  from (inr later) = inr (record { one = later.one; among = Contains-append_right (x ∷ []) xs later.one later.among; is = later.is })

-- none is greater
pub none_above : {X : Type 0} (number : X → Option ℕ) (xs : List X) (n : ℕ) → greatest_known (map number xs) ≡ Some n → All (λ (x : X). IsAtMost n (number x)) xs
none_above number xs n is = (all_at_most number xs (Some 0) n (subst (IsAtMost n) (sym is) (omega arith))).1

-- it is one of them, where there are any
pub one_is : {X : Type 0} (number : X → Option ℕ) (xs : List X) (n : ℕ) → 0 < length xs → greatest_known (map number xs) ≡ Some n → HasNumber number xs n
one_is number [] n some is = absurd (omega (arith, some))
one_is {X = X} number (x ∷ xs) n some is = from (one_of_all number (x ∷ xs) (Some 0) n is) where
  first : (k : Option ℕ) → IsAtMost n k → n ≡ 0 → k ≡ Some n
  first None most zero = absurd most
  first (Some k) most zero = ap Some (omega (arith, most, zero))

  from : (Some 0 ≡ Some n) ⊎ HasNumber number (x ∷ xs) n → HasNumber number (x ∷ xs) n
  from (inr found) = found
  from (inl at_zero) =
      let zero : n ≡ 0 = cc in
      let most : IsAtMost n (number x) = none_above number (x ∷ xs) n is 0 x (omega arith) in
      record { one = x; among = (0, omega arith, refl); is = first (number x) most zero }

-- THE GREATEST OF NUMBERS THAT ARE KNOWN
max_above : {X : Type 0} (number : X → ℕ) (xs : List X) (a : ℕ) → (a ≤ fold max a (map number xs)) × All (λ (x : X). number x ≤ fold max a (map number xs)) xs
max_above {X = X} number [] a = (omega arith, All-nil (λ (x : X). number x ≤ a))
max_above {X = X} number (x ∷ xs) a =
    let rest = max_above number xs (max a (number x)) in
    let greatest : ℕ = fold max (max a (number x)) (map number xs) in
    (omega (arith, rest.0), All-cons (λ (x : X). number x ≤ greatest) x xs (omega (arith, rest.0)) rest.1)

pub none_above_max : {X : Type 0} (number : X → ℕ) (xs : List X) → All (λ (x : X). number x ≤ fold max 0 (map number xs)) xs
none_above_max number xs = (max_above number xs 0).1
