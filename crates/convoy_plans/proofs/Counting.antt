-- How many placements there are, counted up to a limit.
use Rattle.std.proofs.Common.{◌≡◌, ℕ, zero, suc, ◌+◌, ◌-◌, ◌*◌, ◌^◌, ◌<◌, ◌≤◌, min, List, ◌∷◌, length, drop, get_or, refl, ap, sym, ◌∙◌, inl, inr, add-one, drop-cons, arith}
use Rattle.std.proofs.lemmas.Bool.{cases_lt}
use Rattle.convoy_plans.specs.Checks.{placement_count}

limited : (a r m : ℕ) → m ≤ a → min (m * r) m ≡ min (a * r) m
limited a zero m h = omega arith
limited a (suc r) m h = omega arith

-- what was cut at the limit is cut there in the end
saturated : (a r m : ℕ) → min (min a m * r) m ≡ min (a * r) m
saturated a r m = elim (cases_lt a m) [
  | inl low ↦
      let e : min a m ≡ a = omega arith in
      rw e refl
  | inr high ↦
      let e : min a m ≡ m = omega arith in
      rw e (limited a r m high)
]

regroup : (count long rest : ℕ) → count * (long * rest) ≡ (count * long) * rest
regroup count long rest = omega arith

-- one list of sites more
pub few_more : (housed : List (List ℕ)) (i count next : ℕ) (sites : List ℕ) → i < length housed → sites ≡ get_or housed i sites → next ≡ min (count * length sites) (2 ^ 64 - 1)
    → min (count * placement_count (drop i housed)) (2 ^ 64 - 1) ≡ min (placement_count housed) (2 ^ 64 - 1)
    → min (next * placement_count (drop (i + 1) housed)) (2 ^ 64 - 1) ≡ min (placement_count housed) (2 ^ 64 - 1)
few_more housed i count next sites within is now so_far =
    let cut : drop i housed ≡ sites ∷ drop (i + 1) housed = rw (add-one, drop-cons housed i sites) (ap (λ (s : List ℕ). s ∷ drop (suc i) housed) (sym is)) in
    let rest = placement_count (drop (i + 1) housed) in
    ap (λ n. min (n * rest) (2 ^ 64 - 1)) now
    ∙ saturated (count * length sites) rest (2 ^ 64 - 1)
    ∙ ap (λ n. min n (2 ^ 64 - 1)) (sym (regroup count (length sites) rest))
    ∙ ap (λ (ss : List (List ℕ)). min (count * placement_count ss) (2 ^ 64 - 1)) (sym cut)
    ∙ so_far
