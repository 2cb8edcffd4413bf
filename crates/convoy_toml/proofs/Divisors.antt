-- The greatest common divisor by Euclid's rule.
use Rattle.std.proofs.Common.{◌≡◌, ℕ, suc, zero, ◌+◌, ◌<◌, ◌%◌, ◌==◌, Bool, true, false, cond, refl, arith, mod-lt}
use Rattle.std.specs.Int.{IsGcd}
use Rattle.std.proofs.lemmas.Bool.{eqb-true, eqb-false}
use Rattle.std.proofs.lemmas.Nat.Gcd.{IsGcd-from_zero, IsGcd-from_mod}
use Rattle.convoy_toml.specs.Times.{divisor_within, common_divisor}

pub below : (b : ℕ) → (b ≡ 0 → ⊥) → 0 < b
below zero other = absurd (other refl)
below (suc b) other = omega arith

by_test : (t : Bool) (a b rest : ℕ) → (t ≡ true → b ≡ 0) → (t ≡ false → IsGcd b (a % b) rest) → IsGcd a b (cond t a rest)
by_test true a b rest yes_zero other = IsGcd-from_zero a b (yes_zero refl)
by_test false a b rest yes_zero other = IsGcd-from_mod a b rest (other refl)

is_divisor_within : (steps a b : ℕ) → b < steps → IsGcd a b (divisor_within steps a b)
unfolding divisor_within
is_divisor_within zero a b low = absurd (omega arith)
is_divisor_within (suc steps) a b low =
    by_test (b == 0) a b (divisor_within steps b (a % b)) (eqb-true b 0) (λ e.
    let less = mod-lt a (below b (eqb-false b 0 e)) in
    is_divisor_within steps b (a % b) (omega (arith, less)))

pub is_common_divisor : (a b : ℕ) → IsGcd a b (common_divisor a b)
is_common_divisor a b = is_divisor_within (b + 1) a b (omega arith)
