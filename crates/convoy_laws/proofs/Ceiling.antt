-- Times in finer ticks, rounded up to whole ones.
use Rattle.std.proofs.Common.{◌≡◌, ℕ, ◌+◌, ◌-◌, ◌*◌, ◌/◌, ◌%◌, ◌≤◌, min, inl, inr, ap, arith}
use Rattle.std.proofs.lemmas.Bool.{cases_lt}
use Rattle.std.proofs.lemmas.Grind.{div_ceil_times}
use Rattle.std.proofs.lemmas.Nat.{mul-le}

-- the least number of whole ticks in which there are so many finer ones
pub up : ℕ → ℕ → ℕ
up k x = x / k + min 1 (x % k)

pub times_rise : (k a b : ℕ) → a ≤ b → k * a ≤ k * b
times_rise k a b l = mul-le k a k b (omega arith) l

pub times_next : (k a : ℕ) → k * (a + 1) ≡ k * a + k
times_next k a = grind arith

pub times_plus : (k a b : ℕ) → k * (a + b) ≡ k * a + k * b
times_plus k a b = grind arith

module _ (k : ℕ) (some : 1 ≤ k) where
  pub times_fall : (a b : ℕ) → k * a ≤ k * b → a ≤ b
  times_fall a b l = elim (cases_lt b a) [
    | inl less ↦ absurd (let past = times_rise k (b + 1) a (omega arith) in omega (arith, times_next k b))
    | inr most ↦ most
  ]

  pub up_holds : (x : ℕ) → x ≤ k * up k x
  unfolding up
  up_holds x = let r = div_ceil_times x k (omega arith) in omega arith

  pub up_least : (x t : ℕ) → x ≤ k * t → up k x ≤ t
  unfolding up
  up_least x t l = elim (cases_lt t (up k x)) [
    | inl less ↦ absurd (
        let r = div_ceil_times x k (omega arith) in
        let past = times_rise k (t + 1) (up k x) (omega arith) in
        omega (arith, times_next k t))
    | inr most ↦ most
  ]

  pub up_rises : (x y : ℕ) → x ≤ y → up k x ≤ up k y
  up_rises x y l = up_least x (up k y) (let holds = up_holds y in omega arith)

  pub up_plus : (x t : ℕ) → up k (x + k * t) ≡ up k x + t
  up_plus x t =
      let most = up_least (x + k * t) (up k x + t) (let holds = up_holds x in omega (arith, times_plus k (up k x) t)) in
      let holds = up_holds (x + k * t) in
      let past = times_fall t (up k (x + k * t)) (omega arith) in
      let rest : ℕ = up k (x + k * t) - t in
      let parts : k * (rest + t) ≡ k * rest + k * t = times_plus k rest t in
      let whole : rest + t ≡ up k (x + k * t) = omega arith in
      let whole_times : k * (rest + t) ≡ k * up k (x + k * t) = ap (λ n. k * n) whole in
      let least = up_least x rest (omega arith) in
      omega arith

  pub up_zero : up k 0 ≡ 0
  up_zero = let most = up_least 0 0 (omega arith) in omega arith

  -- what takes from `least` to `most` whole ticks takes as many between times that are rounded up
  pub up_span : (x d least most : ℕ) → k * least ≤ d → d ≤ k * most → (up k x + least ≤ up k (x + d)) × (up k (x + d) ≤ up k x + most)
  up_span x d least most l h = (
    let first = up_rises (x + k * least) (x + d) (omega arith) in omega (arith, up_plus x least),
    let last = up_rises (x + d) (x + k * most) (omega arith) in omega (arith, up_plus x most),
  )
