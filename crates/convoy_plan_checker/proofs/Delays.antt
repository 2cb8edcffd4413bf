-- What is written between two sites takes no longer than a delay may.
use Rattle.std.proofs.Common.{ℕ, ℤ, pos, negsuc, zero, suc, ◌≤◌, List, [], ◌∷◌, map, find, get_or, Option, Some, None, leb, leb-true, inl, inr, sym, subst, arith}
use Rattle.std.specs.Option.{option_map_or}
use Rattle.std.proofs.lemmas.Bool.{and_parts, cases_Bool, cond-false, cond-true}
use Rattle.convoy_draft.specs.Checks.{is_within, ticks}
use Rattle.convoy_toml.specs.Links.{Bundle}
use Rattle.convoy_plans.specs.Plans.{IsPlan, Plan, most_between}
use Rattle.convoy_plans.specs.Ranges.{leads, most_in}

ticks_low : (most : ℕ) (z : ℤ) → ticks most z ≤ most
ticks_low most (pos n) = elim (cases_Bool (is_within 0 most (pos n))) [
  | inl fits ↦
      let most_is = leb-true n most (and_parts (leb 0 n) (leb n most) fits).1 in
      omega (arith, cond-true (is_within 0 most (pos n)) n 0 fits, most_is)
  | inr past ↦ omega (arith, cond-false (is_within 0 most (pos n)) n 0 past)
]
ticks_low most (negsuc n) = omega arith

found_low : (bundles : List Bundle) (from to : List ℕ) → most_in bundles from to ≤ 65535
found_low bundles from to = by_found (find (λ (bundle : Bundle). leads bundle.ends from to) bundles) where
  by_found : (found : Option Bundle) → option_map_or (λ (bundle : Bundle). ticks 65535 bundle.most) found 0 ≤ 65535
  by_found None = omega arith
  by_found (Some bundle) = ticks_low 65535 bundle.most

row_low : (f : List ℕ → ℕ) (names : List (List ℕ)) (b : ℕ) → ((name : List ℕ) → f name ≤ 65535) → get_or (map f names) b 0 ≤ 65535
row_low f [] b low = omega arith
row_low f (name ∷ names) zero low = low name
row_low f (name ∷ names) (suc b) low = row_low f names b low

table_low : (bundles : List Bundle) (names sites : List (List ℕ)) (a b : ℕ) → get_or (get_or (map (λ from. map (most_in bundles from) sites) names) a []) b 0 ≤ 65535
table_low bundles [] sites a b = omega arith
table_low bundles (name ∷ names) sites zero b = row_low (most_in bundles name) sites b (found_low bundles name)
table_low bundles (name ∷ names) sites (suc a) b = table_low bundles names sites a b

pub most_low : (plan : Plan) → IsPlan plan → (a b : ℕ) → most_between plan a b ≤ 65535
most_low plan is a b =
    subst (λ (rows : List (List ℕ)). get_or (get_or rows a []) b 0 ≤ 65535) (sym is.most) (table_low is.bundles plan.sites plan.sites a b)
