use Rattle.std.proofs.Common.{◌≡◌, ℕ, ◌++◌, ◌∷◌, [], List, length, inl, inr, sym, subst, arith}
use Rattle.std.proofs.lemmas.Bool.{cases_lt}
use Rattle.std.proofs.lemmas.List.{get_or_append_left, get_or_push, length_push}
use Rattle.convoy_kinds.specs.Ceilings.{AreSlowest, IsSlowest}
use Rattle.convoy_kinds.specs.Kinds.{Kinds}
use Rattle.convoy_kinds.specs.declared.slowest.Slowest.{Slowest}

-- one group more
slowest_more : (kinds : Kinds) (known : List Slowest) (next : Slowest) (g : ℕ) → length known ≡ g → AreSlowest kinds known → IsSlowest kinds g next → AreSlowest kinds (known ++ next ∷ [])
slowest_more kinds known next g count are is h past within = elim (cases_lt h (length known)) [
  | inl l ↦ subst (IsSlowest kinds h) (sym (get_or_append_left known (next ∷ []) past h l)) (are h past l)
  | inr l ↦
      let longer = length_push known next in
      let same : g ≡ h = omega arith in
      let last : length known ≡ h = omega arith in
      subst (IsSlowest kinds h) (sym (get_or_push known next past h last)) (subst (λ (n : ℕ). IsSlowest kinds n next) same is)
]
