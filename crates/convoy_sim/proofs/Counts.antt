-- Sums over a list: what is in it, and what stands once.
use Rattle.std.proofs.Common.{◌≡◌, ℕ, ◌<◌, Bool, true, false, cond, inl, inr, List, [], ◌∷◌, filter, refl, ap, arith}
use Rattle.std.specs.List.{sum_by}
use Rattle.std.proofs.lemmas.Bool.{cases_Bool, cond-true, cond-false}
use Rattle.std.proofs.lemmas.List.Sums.{sum_by-cons}
use Rattle.convoy_sim.proofs.Membership.{IsIn, filter_keeps, filter_drops}

-- 1 for a test that is passed
abbrev pub one_if : Bool → ℕ
one_if b = cond b 1 0

pub in_of_sum : {X : Type 0} (test : X → Bool) (xs : List X) → 0 < sum_by (λ x. one_if (test x)) xs → (x : X) × IsIn x xs × (test x ≡ true)
in_of_sum test [] h = absurd (omega arith)
in_of_sum test (y ∷ ys) h =
    let sum = sum_by-cons (λ x. one_if (test x)) y ys in
    let rest = in_of_sum test ys in
    elim (cases_Bool (test y)) [
      | inl e ↦ (y, inl refl, e)
      | inr e ↦
          let here : one_if (test y) ≡ one_if false = ap one_if e in
          let r = rest (omega arith) in
          (r.0, inr r.1, r.2)
    ]

-- a sum over the elements that pass a test
pub sum_of_filter : {X : Type 0} (f : X → ℕ) (test : X → Bool) (xs : List X)
    → sum_by f (filter test xs) ≡ sum_by (λ x. cond (test x) (f x) 0) xs
sum_of_filter f test [] = refl
sum_of_filter f test (x ∷ xs) =
    let rest = sum_of_filter f test xs in
    let sum = sum_by-cons (λ y. cond (test y) (f y) 0) x xs in
    elim (cases_Bool (test x)) [
      | inl e ↦
          let here : cond (test x) (f x) 0 ≡ f x = cond-true (test x) (f x) 0 e in
          let more = sum_by-cons f x (filter test xs) in
          let kept = ap (sum_by f) (filter_keeps test x xs e) in
          omega arith
      | inr e ↦
          let here : cond (test x) (f x) 0 ≡ 0 = cond-false (test x) (f x) 0 e in
          let dropped = ap (sum_by f) (filter_drops test x xs e) in
          omega arith
    ]
