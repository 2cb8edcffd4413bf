-- The targets that count.
use Rattle.std.proofs.Common.{◌≡◌, ◌<◌, Bool, true, false, ◌||◌, cond, List, [], ◌∷◌, filter, length, is_some, refl, arith}
use Rattle.std.specs.List.{list_any}
use Rattle.convoy_best_order.specs.declared.target.Target.{Target}
use Rattle.convoy_best_order.specs.Targets.{are_judged, counted, counts}

-- where one passes a test, some are left by it
some_pass : (test : Target → Bool) (targets : List Target) → list_any test targets ≡ true → 0 < length (filter test targets)
some_pass test [] is = cc
some_pass test (target ∷ targets) is = by_test (test target) (some_pass test targets) is where
  by_test : (b : Bool) → (list_any test targets ≡ true → 0 < length (filter test targets)) → (b || list_any test targets) ≡ true →
      0 < length (cond b (target ∷ filter test targets) (filter test targets))
  by_test true rest is = omega arith
  by_test false rest is = rest is

-- some target counts
pub some_count : (targets : List Target) → 0 < length targets → 0 < length (counted targets)
some_count [] some = some
some_count (target ∷ targets) some = by_judged (are_judged (target ∷ targets)) refl where
  by_judged : (b : Bool) → are_judged (target ∷ targets) ≡ b → 0 < length (filter (counts b) (target ∷ targets))
  by_judged true is = some_pass (λ (t : Target). is_some t.deadline) (target ∷ targets) is
  by_judged false is = omega arith
