-- Pairs that views have put.
use Rattle.std.proofs.Common.{◌≡◌, ◌≢◌, ℕ, List, ◌++◌, set, sym, ap, ◌∙◌, subst, arith}
use Rattle.std.specs.List.{Any, Contains, sum_by}
use Rattle.std.proofs.Math.Decide.{ℕ_discrete}
use mathlib.Core.Option.{some, some-injective}
use lib.ListN.{get_elem?}
use Rattle.convoy_shares.proofs.Sums.{read, sum_set, part_le_sum}
use Rattle.atomic_table.proofs.Lists.{at_index, set_here, set_else, at_longer}
use Rattle.convoy_incumbent.specs.declared.rule.Pair.{Pair}
use Rattle.convoy_incumbent.specs.declared.rule.View.{View}
use Rattle.convoy_incumbent.specs.Rule.{spent, WasPut}

any_at : {A : Type 0} (P : A → Type 0) (l : List A) (k : ℕ) (a : A) → get_elem? l k ≡ some a → P a → Any P l
any_at P l k a e p = let r = read l k a e in (k, a, r.0, r.1 a, p)

-- the view that put a pair, at its place
pub put_at : (pair : Pair) (views : List View) (put : WasPut pair views) → get_elem? views put.0 ≡ some put.1
put_at pair views put = at_index views put.0 put.1 put.2 (sym put.3)

pub was_put : (pair : Pair) (views : List View) (k : ℕ) (v : View) → get_elem? views k ≡ some v → Contains v.pairs pair → WasPut pair views
was_put pair views k v e has = any_at (λ view. Contains view.pairs pair) views k v e has

-- a pair that was put stays, where a view keeps its pairs
pub put_set : (pair : Pair) (views : List View) (id : ℕ) (v w : View) → get_elem? views id ≡ some v → (Contains v.pairs pair → Contains w.pairs pair) → WasPut pair views → WasPut pair (set views id w)
put_set pair views id v w at more put =
    let there = put_at pair views put in
    elim (ℕ_discrete put.0 id) [
      | yes e ↦ was_put pair (set views id w) id w (set_here views id w (read views id v at).0) (more (subst (λ (y : View). Contains y.pairs pair) (some-injective _ _ (sym there ∙ ap (get_elem? views) e ∙ at)) put.4))
      | no ne ↦ was_put pair (set views id w) put.0 put.1 (set_else views id put.0 w ne ∙ there) put.4
    ]

pub put_longer : (pair : Pair) (views more : List View) → WasPut pair views → WasPut pair (views ++ more)
put_longer pair views more put = was_put pair (views ++ more) put.0 put.1 (at_longer views more put.0 put.1 (put_at pair views put)) put.4

-- where one view has the whole share, the others have none
pub alone : (views : List View) (id k : ℕ) (v u : View) → get_elem? views id ≡ some v → sum_by (λ x. x.share) views ≡ v.share → k ≢ id → get_elem? views k ≡ some u → u.share ≡ 0
alone views id k v u at whole other there =
    let t = sum_set (λ x. x.share) views id v spent at in
    let l = part_le_sum (λ x. x.share) (set views id spent) k u (set_else views id k spent other ∙ there) in
    omega arith
