-- The greatest excess of some ceilings is that of one of them, and none is greater.
use Rattle.std.proofs.Common.{◌≡◌, ◌⊎◌, ℕ, ◌+◌, ◌<◌, Bool, true, false, cond, List, [], ◌∷◌, length, nat_lt, inl, inr, refl, subst, ◌∙◌, arith}
use Rattle.std.proofs.lemmas.Bool.{ltb-false, ltb-true}
use Rattle.convoy_sim.proofs.Membership.{IsIn}
use Rattle.convoy_best_order.specs.declared.excess.Excess.{Excess}
use Rattle.convoy_best_order.specs.Excesses.{IsAtMost, greater, is_less}
use Rattle.convoy_best_plan.specs.declared.floor.Floor.{Floor}
use Rattle.convoy_best_plan.specs.Floors.{IsNoHigher, excess_at, one_more}
use Rattle.convoy_plan_ceilings.specs.declared.target_ceiling.TargetCeiling.{TargetCeiling}
use Rattle.convoy_plan_ceilings.specs.LeastCeilings.{excess_of, worst_after, worst_of}

most_self : (a : Excess) → IsAtMost a a
most_self a = omega arith

pub most_after : (a b c : Excess) → IsAtMost a b → IsAtMost b c → IsAtMost a c
most_after a b c first then = omega (arith, first, then)

-- ---- the greater of two
greater_both : (a b : Excess) → IsAtMost a (greater a b) × IsAtMost b (greater a b)
greater_both a b = by_test (is_less a b) refl where
  by_test : (is : Bool) → is_less a b ≡ is → IsAtMost a (cond is b a) × IsAtMost b (cond is b a)
  by_test true is = let less = ltb-true (a.latency + b.limit) (b.latency + a.limit) is in (omega (arith, less), most_self b)
  by_test false is = (most_self a, ltb-false (a.latency + b.limit) (b.latency + a.limit) is)

greater_one : (a b : Excess) → (greater a b ≡ a) ⊎ (greater a b ≡ b)
greater_one a b = by_test (is_less a b) where
  by_test : (is : Bool) → (cond is b a ≡ a) ⊎ (cond is b a ≡ b)
  by_test true = inr refl
  by_test false = inl refl

-- ---- none is greater
after_first : (worst : Excess) (rows : List TargetCeiling) → IsAtMost worst (worst_after worst rows)
after_first worst [] = most_self worst
after_first worst (row ∷ rows) =
    most_after worst (greater worst (excess_of row)) (worst_after (greater worst (excess_of row)) rows) (greater_both worst (excess_of row)).0
    (after_first (greater worst (excess_of row)) rows)

after_each : (worst : Excess) (rows : List TargetCeiling) (row : TargetCeiling) → IsIn row rows → IsAtMost (excess_of row) (worst_after worst rows)
after_each worst [] row i = absurd i
after_each worst (first ∷ rows) row (inl e) =
    subst (λ (r : TargetCeiling). IsAtMost (excess_of r) (worst_after (greater worst (excess_of first)) rows)) e
    (most_after (excess_of first) (greater worst (excess_of first)) (worst_after (greater worst (excess_of first)) rows) (greater_both worst (excess_of first)).1
    (after_first (greater worst (excess_of first)) rows))
after_each worst (first ∷ rows) row (inr i) = after_each (greater worst (excess_of first)) rows row i

pub worst_most : (rows : List TargetCeiling) (row : TargetCeiling) → IsIn row rows → IsAtMost (excess_of row) (worst_of rows)
worst_most [] row i = absurd i
worst_most (first ∷ rows) row (inl e) = subst (λ (r : TargetCeiling). IsAtMost (excess_of r) (worst_after (excess_of first) rows)) e (after_first (excess_of first) rows)
worst_most (first ∷ rows) row (inr i) = after_each (excess_of first) rows row i

-- ---- it is that of one of them
after_one : (worst : Excess) (rows : List TargetCeiling) → (worst_after worst rows ≡ worst) ⊎ ((row : TargetCeiling) × IsIn row rows × (worst_after worst rows ≡ excess_of row))
after_one worst [] = inl refl
after_one worst (first ∷ rows) = by_rest (after_one (greater worst (excess_of first)) rows) (greater_one worst (excess_of first)) where
  by_rest : (worst_after (greater worst (excess_of first)) rows ≡ greater worst (excess_of first))
      ⊎ ((row : TargetCeiling) × IsIn row rows × (worst_after (greater worst (excess_of first)) rows ≡ excess_of row))
      → (greater worst (excess_of first) ≡ worst) ⊎ (greater worst (excess_of first) ≡ excess_of first)
      → (worst_after worst (first ∷ rows) ≡ worst) ⊎ ((row : TargetCeiling) × IsIn row (first ∷ rows) × (worst_after worst (first ∷ rows) ≡ excess_of row))
  by_rest (inl same) (inl old) = inl (same ∙ old)
  by_rest (inl same) (inr new) = inr (first, inl refl, same ∙ new)
  by_rest (inr found) one = inr (found.0, inr found.1, found.2)

pub worst_one : (rows : List TargetCeiling) → 0 < length rows → (row : TargetCeiling) × IsIn row rows × (worst_of rows ≡ excess_of row)
worst_one [] some = absurd (omega (arith, some))
worst_one (first ∷ rows) some = by_rest (after_one (excess_of first) rows) where
  by_rest : (worst_after (excess_of first) rows ≡ excess_of first) ⊎ ((row : TargetCeiling) × IsIn row rows × (worst_after (excess_of first) rows ≡ excess_of row))
      → (row : TargetCeiling) × IsIn row (first ∷ rows) × (worst_of (first ∷ rows) ≡ excess_of row)
  by_rest (inl same) = (first, inl refl, same)
  by_rest (inr found) = (found.0, inr found.1, found.2)

-- ---- floors
-- what is as great as the excess of a floor for its total is a floor that is no lower
pub no_higher_by : (reach : Floor) (worst : Excess) (total : ℕ) → IsAtMost (excess_at reach total) worst → IsNoHigher reach (record { least = worst; ties = total })
no_higher_by reach worst total = by_test (nat_lt total reach.ties) refl where
  by_test : (few : Bool) → nat_lt total reach.ties ≡ few → IsAtMost (cond few (one_more reach.least) reach.least) worst
      → IsNoHigher reach (record { least = worst; ties = total })
  by_test true few past = inl (omega (arith, past))
  by_test false few past = let many = ltb-false total reach.ties few in inr (past, many)

-- and what is no lower is as great
pub reached_by : (reach : Floor) (worst : Excess) (total : ℕ) → IsNoHigher reach (record { least = worst; ties = total }) → IsAtMost (excess_at reach total) worst
reached_by reach worst total = by_test (nat_lt total reach.ties) refl where
  by_test : (few : Bool) → nat_lt total reach.ties ≡ few → IsNoHigher reach (record { least = worst; ties = total })
      → IsAtMost (cond few (one_more reach.least) reach.least) worst
  by_test true few (inl less) = omega (arith, less)
  by_test true few (inr same) =
      let fewer = ltb-true total reach.ties few in
      let many = same.1 in
      absurd (omega arith)
  by_test false few (inl less) = omega (arith, less)
  by_test false few (inr same) = same.0
