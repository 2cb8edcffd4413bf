-- What holds of each element of a list so far holds of one more.
use Rattle.std.proofs.Common.{◌≡◌, ℕ, ◌+◌, ◌<◌, inl, inr, List, length, get_or, ap, subst, sym, ◌∙◌, arith}
use Rattle.std.proofs.lemmas.Bool.{cases_lt}
use Rattle.std.proofs.lemmas.List.{get_or_default}

pub one_more : {X : Type 0} (P : X → Type 0) (xs : List X) (i : ℕ) (e : X) → i < length xs → ((k : ℕ) (d : X) → k < i → P (get_or xs k d)) → P (get_or xs i e)
    → (k : ℕ) (d : X) → k < i + 1 → P (get_or xs k d)
one_more P xs i e within below here k d m = elim (cases_lt k i) [
  | inl less ↦ below k d less
  | inr past ↦
      let same : k ≡ i = omega arith in
      subst P (sym (ap (λ n. get_or xs n d) same ∙ get_or_default xs i d e within)) here
]
