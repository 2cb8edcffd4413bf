-- Times in finer ticks, counted from an offset of less than a tick, rounded up to whole ones.
use Rattle.std.proofs.Common.{◌≡◌, ℕ, ◌+◌, ◌-◌, ◌*◌, ◌<◌, ◌≤◌, max, nat_le, nat_lt, List, [], ◌∷◌, map, fold, inl, inr, refl, sym, ap, ◌∙◌, arith}
use Rattle.std.proofs.lemmas.Bool.{cases_lt}
use Rattle.std.proofs.lemmas.Bool.Decides.{nat_tests}
use Rattle.convoy_sim.proofs.Membership.{IsIn}
use Rattle.convoy_laws.proofs.Ceiling.{up, up_holds, up_least, up_rises, up_span, up_zero, times_rise, times_next}

-- the least number of whole ticks, from the offset on, in which there are so many finer ones; the offset itself is in none
pub up_from : ℕ → ℕ → ℕ → ℕ
up_from k o x = up k (x - o)

module _ (k : ℕ) (some : 1 ≤ k) (o : ℕ) (less : o < k) where
  pub from_holds : (x : ℕ) → x ≤ k * up_from k o x + o
  unfolding up_from
  from_holds x = let holds = up_holds k some (x - o) in omega arith

  pub from_below : (x t : ℕ) → x ≤ k * t + o → up_from k o x ≤ t
  unfolding up_from
  from_below x t l = up_least k some (x - o) t (omega arith)

  pub from_least : (x t : ℕ) → x ≤ k * t → up_from k o x ≤ t
  from_least x t l = from_below x t (omega arith)

  pub from_rises : (x y : ℕ) → x ≤ y → up_from k o x ≤ up_from k o y
  unfolding up_from
  from_rises x y l = up_rises k some (x - o) (y - o) (omega arith)

  -- a whole tick stays
  pub from_times : (t : ℕ) → up_from k o (k * t) ≡ t
  from_times t =
      let most = from_least (k * t) t (omega arith) in
      let holds = from_holds (k * t) in
      elim (cases_lt (up_from k o (k * t)) t) [
        | inl l ↦ absurd (
            let past = times_rise k (up_from k o (k * t) + 1) t (omega arith) in
            omega (arith, times_next k (up_from k o (k * t))))
        | inr l ↦ omega arith
      ]

  -- and so does one with the offset
  pub from_offset : (t : ℕ) → up_from k o (k * t + o) ≡ t
  from_offset t =
      let most = from_below (k * t + o) t (omega arith) in
      let rises = from_rises (k * t) (k * t + o) (omega arith) in
      let times = from_times t in
      omega arith

  from_zero : up_from k o 0 ≡ 0
  from_zero = let most = from_least 0 0 (omega arith) in omega arith

  from_max : (x y : ℕ) → up_from k o (max x y) ≡ max (up_from k o x) (up_from k o y)
  from_max x y = elim (cases_lt x y) [
    | inl l ↦
        let same : max x y ≡ y = omega arith in
        let rises = from_rises x y (omega arith) in
        ap (up_from k o) same ∙ omega arith
    | inr l ↦
        let same : max x y ≡ x = omega arith in
        let rises = from_rises y x l in
        ap (up_from k o) same ∙ omega arith
  ]

  from_fold : {X : Type 0} (f g : X → ℕ) (start : ℕ) (xs : List X) → ((x : X) → IsIn x xs → f x ≡ up_from k o (g x))
      → fold max (up_from k o start) (map f xs) ≡ up_from k o (fold max start (map g xs))
  from_fold f g start [] h = refl
  from_fold f g start (x ∷ xs) h =
      ap (λ n. fold max (max (up_from k o start) n) (map f xs)) (h x (inl refl))
      ∙ ap (λ n. fold max n (map f xs)) (sym (from_max start (g x)))
      ∙ from_fold f g (max start (g x)) xs (λ y i. h y (inr i))

  pub from_greatest : {X : Type 0} (f g : X → ℕ) (xs : List X) → ((x : X) → IsIn x xs → f x ≡ up_from k o (g x))
      → fold max 0 (map f xs) ≡ up_from k o (fold max 0 (map g xs))
  from_greatest f g xs h = ap (λ n. fold max n (map f xs)) (sym from_zero) ∙ from_fold f g 0 xs h

  -- what takes from `least` to `most` whole ticks takes as many between times that are rounded up
  pub from_span : (x d least most : ℕ) → k * least ≤ d → d ≤ k * most
      → (up_from k o x + least ≤ up_from k o (x + d)) × (up_from k o (x + d) ≤ up_from k o x + most)
  unfolding up_from
  from_span x d least most l h = elim (cases_lt x o) [
    | inl before ↦
        let start : x - o ≡ 0 = omega arith in
        let begins : up k (x - o) ≡ 0 = ap (up k) start ∙ up_zero k some in
        let first = from_rises (k * least) (x + d) (omega arith) in
        let low = from_times least in
        let last = from_below (x + d) most (omega arith) in
        (omega arith, omega arith)
    | inr past ↦
        let same : x + d - o ≡ x - o + d = omega arith in
        let ends = ap (up k) same in
        let span = up_span k some (x - o) d least most l h in
        let first = span.0 in
        let last = span.1 in
        (omega arith, omega arith)
  ]

  pub from_at_most : (x t : ℕ) → nat_le (up_from k o x) t ≡ nat_le x (k * t + o)
  from_at_most x t = elim (cases_lt t (up_from k o x)) [
    | inl l ↦
        let past : k * t + o < x = elim (cases_lt (k * t + o) x) [ inl p ↦ p | inr p ↦ absurd (let most = from_below x t p in omega arith) ] in
        grind (arith, nat_tests)
    | inr l ↦
        let most : x ≤ k * t + o = let rise = times_rise k (up_from k o x) t l in let holds = from_holds x in omega arith in
        grind (arith, nat_tests)
  ]

  pub from_past : (x t : ℕ) → nat_lt t (up_from k o x) ≡ nat_lt (k * t + o) x
  from_past x t = elim (cases_lt t (up_from k o x)) [
    | inl l ↦
        let past : k * t + o < x = elim (cases_lt (k * t + o) x) [ inl p ↦ p | inr p ↦ absurd (let most = from_below x t p in omega arith) ] in
        grind (arith, nat_tests)
    | inr l ↦
        let most : x ≤ k * t + o = let rise = times_rise k (up_from k o x) t l in let holds = from_holds x in omega arith in
        grind (arith, nat_tests)
  ]
