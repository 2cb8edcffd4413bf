-- Some test of a list is passed by no more runs than all of them together.
use Rattle.std.proofs.Common.{◌≡◌, ℕ, ◌+◌, ◌*◌, ◌≤◌, zero, suc, Bool, true, false, ◌||◌, cond, min, List, [], ◌∷◌, length, inl, inr, refl, ap, arith, sum_by, count_by, All}
use Rattle.std.specs.List.{list_any}
use Rattle.std.proofs.lemmas.Bool.{cases_lt}
use Rattle.std.proofs.lemmas.List.Elements.{All-head, All-tail}
use Rattle.std.proofs.lemmas.List.Sums.{sum_by-cons, count_by-le-length}
use Rattle.convoy_toml.specs.declared.share.TheConstants.{WHOLE_SHARE}
use Rattle.convoy_outside.specs.OutsideLaws.{IsShareOf}

sum_times : (a b n : ℕ) → (a + b) * n ≡ a * n + b * n
sum_times a b zero = omega arith
sum_times a b (suc n) = omega (arith, sum_times a b n)

one_of : (a b : Bool) → cond (a || b) 1 0 ≤ cond a 1 0 + cond b 1 0
one_of true b = omega arith
one_of false b = omega arith

no_more : (a b : Bool) → (a ≡ true → b ≡ true) → cond a 1 0 ≤ cond b 1 0
no_more true b h = rw (h refl) (omega arith)
no_more false b h = omega arith

module _ {R : Type 0} where
  none_pass : (runs : List R) → count_by (λ r. false) runs ≡ 0
  none_pass [] = refl
  none_pass (r ∷ rs) = omega (arith, sum_by-cons (λ x. cond false 1 0) r rs, none_pass rs)

  either : (p q : R → Bool) (runs : List R) → count_by (λ r. p r || q r) runs ≤ count_by p runs + count_by q runs
  either p q [] = omega arith
  either p q (r ∷ rs) =
      omega (arith, sum_by-cons (λ x. cond (p x || q x) 1 0) r rs, sum_by-cons (λ x. cond (p x) 1 0) r rs, sum_by-cons (λ x. cond (q x) 1 0) r rs, either p q rs, one_of (p r) (q r))

  -- a test that is passed where another is, is passed by no more runs
  pub fewer : (p q : R → Bool) (runs : List R) → All (λ r. p r ≡ true → q r ≡ true) runs → count_by p runs ≤ count_by q runs
  fewer p q [] all = omega arith
  fewer p q (r ∷ rs) all =
      omega (
        arith,
        sum_by-cons (λ x. cond (p x) 1 0) r rs,
        sum_by-cons (λ x. cond (q x) 1 0) r rs,
        no_more (p r) (q r) (All-head (λ x. p x ≡ true → q x ≡ true) r rs all),
        fewer p q rs (All-tail (λ x. p x ≡ true → q x ≡ true) r rs all),
      )

  -- where each of the tests is passed by at most its share of the runs, at most the sum of the shares passes any
  pub any_of : {X : Type 0} (share : X → ℕ) (test : R → X → Bool) (xs : List X) (runs : List R)
      → All (λ x. IsShareOf (share x) (λ r. test r x) runs) xs → IsShareOf (sum_by share xs) (λ r. list_any (test r) xs) runs
  any_of share test [] runs all = omega (arith, none_pass runs)
  any_of share test (x ∷ xs) runs all =
      let first = All-head (λ y. IsShareOf (share y) (λ r. test r y) runs) x xs all in
      let rest = any_of share test xs runs (All-tail (λ y. IsShareOf (share y) (λ r. test r y) runs) x xs all) in
      omega (arith, first, rest, either (λ r. test r x) (λ r. list_any (test r) xs) runs, ap (λ s. s * length runs) (sum_by-cons share x xs), sum_times (share x) (sum_by share xs) (length runs))

  -- and no more than all
  pub at_most_all : (billionths : ℕ) (test : R → Bool) (runs : List R) → IsShareOf billionths test runs → IsShareOf (min billionths WHOLE_SHARE) test runs
  at_most_all billionths test runs few = elim (cases_lt billionths WHOLE_SHARE) [
    | inl low ↦
        let same : min billionths WHOLE_SHARE ≡ billionths = omega arith in
        rw same few
    | inr high ↦
        let same : min billionths WHOLE_SHARE ≡ WHOLE_SHARE = omega arith in
        rw same (omega (arith, count_by-le-length test runs))
  ]
