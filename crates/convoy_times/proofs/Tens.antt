-- Units by tens: a second is ten times ten times ... a nanosecond, and the first digit of a part of a unit is how many tenths it has.
use Rattle.std.proofs.Common.{◌≡◌, ℕ, zero, suc, ◌+◌, ◌*◌, ◌/◌, ◌%◌, ◌<◌, ◌≤◌, ◌==◌, false, ◌∷◌, refl, sym, ap, ◌∙◌, arith}
use Rattle.std.proofs.Math.Arith.{digits_div, digits_mod}
use Rattle.std.proofs.Math.Nat.{div-lt_iff_lt-mul, mul-pos}
use Rattle.std.proofs.lemmas.Bool.Decides.{nat_tests}
use Rattle.std.proofs.lemmas.Nat.{div-add-mod', mod_below}
use Rattle.convoy_draft.specs.declared.duration.TimeUnit.{TimeUnit}
use Rattle.convoy_draft.specs.declared.duration.TimeUnit.TheVariants.{Seconds, Milliseconds, Microseconds, Nanoseconds}
use Rattle.convoy_draft.specs.Durations.{unit_length}
use Rattle.convoy_times.specs.declared.decimals.TheConstants.{MOST_DIGITS}
use Rattle.convoy_times.specs.Measures.{fraction_digits}

-- so many times ten
abbrev pub tens : ℕ → ℕ
tens zero = 1
tens (suc m) = 10 * tens m

pub some_tens : (m : ℕ) → 0 < tens m
some_tens zero = omega arith
some_tens (suc m) = omega (arith, some_tens m)

-- how many times ten nanoseconds a unit has
pub tens_of : (unit : TimeUnit) → (m : ℕ) × (m ≤ MOST_DIGITS) × (unit_length unit ≡ tens m)
tens_of Seconds = (9, omega arith, refl)
tens_of Milliseconds = (6, omega arith, refl)
tens_of Microseconds = (3, omega arith, refl)
tens_of Nanoseconds = (0, omega arith, refl)

times_apart : (v q r w k : ℕ) → q * w + r ≡ v → v * k ≡ q * (w * k) + r * k
times_apart v q r w k e = rw (sym e) (grind arith)

times_less : (r w k : ℕ) → r < w → 0 < k → r * k < w * k
times_less r w k less some = search (arith, less, some)

-- a number and one that divides it, as many times
scaled : (v w k : ℕ) → 0 < w → 0 < k → (v * k / (w * k) ≡ v / w) × (v * k % (w * k) ≡ v % w * k)
scaled v w k some times =
    let parts : v * k ≡ v / w * (w * k) + v % w * k = times_apart v (v / w) (v % w) w k (div-add-mod' v w) in
    let less : v % w * k < w * k = times_less (v % w) w k (mod_below v w some) times in
    (ap (λ n. n / (w * k)) parts ∙ digits_div (v / w) less, ap (λ n. n % (w * k)) parts ∙ digits_mod (v / w) less)

-- the first digit of a part of so many tens, each so many times, and what is left
pub next_digit : (n v w k : ℕ) → 0 < w → 0 < k → (v == 0) ≡ false
    → fraction_digits (suc n) (10 * w * k) (v * k) ≡ (48 + v / w) ∷ fraction_digits n (w * (10 * k)) (v % w * (10 * k))
unfolding fraction_digits
next_digit n v w k some times more =
    let above : 0 < v * k = mul-pos (grind (arith, nat_tests, more)) times in
    let still : (v * k == 0) ≡ false = grind (arith, nat_tests, above) in
    let one : 10 * w * k ≡ w * (10 * k) = grind arith in
    let left : v * k * 10 ≡ v * (10 * k) = grind arith in
    let e = scaled v w (10 * k) some (omega (arith, times)) in
    rw (still, one, left, e.0, e.1) refl

-- a part of a unit has at most nine tenths of it
pub ten_below : (v w : ℕ) → 0 < w → v < 10 * w → v / w ≤ 9
ten_below v w some part = omega (arith, (div-lt_iff_lt-mul {k = w} {x = v} {y = 10} some).1 (omega (arith, part)))
