-- Times in whole ticks, told in finer ones.
use Rattle.std.proofs.Common.{◌≡◌, ℕ, ◌+◌, ◌*◌, ◌/◌, ◌<◌, ◌≤◌, ◌==◌, zero, suc, max, nat_le, nat_lt, List, [], ◌∷◌, get_or, map, fold, inl, inr, refl, sym, ap, ◌∙◌, arith}
use Rattle.std.proofs.lemmas.Bool.{cases_lt, cases_eq, eq-eqb, ne_eqb}
use Rattle.std.proofs.lemmas.Bool.Decides.{nat_tests}
use Rattle.std.proofs.lemmas.Nat.{le-div}
use Rattle.std.proofs.Math.Nat.{mul-div-le}
use Rattle.convoy_packets.specs.Assignment.{AreWithin}
use Rattle.convoy_laws.specs.FinerTicks.{finer_range}
use Rattle.convoy_laws.proofs.Ceiling.{times_rise, times_fall}

pub times_max : (k x y : ℕ) → k * max x y ≡ max (k * x) (k * y)
times_max k x y = elim (cases_lt x y) [
  | inl l ↦ let same : max x y ≡ y = omega arith in let rise = times_rise k x y (omega arith) in ap (λ n. k * n) same ∙ omega arith
  | inr l ↦ let same : max x y ≡ x = omega arith in let rise = times_rise k y x l in ap (λ n. k * n) same ∙ omega arith
]

times_fold : {X : Type 0} (k : ℕ) (f g : X → ℕ) (start : ℕ) (xs : List X) → ((x : X) → f x ≡ k * g x) → fold max (k * start) (map f xs) ≡ k * fold max start (map g xs)
times_fold k f g start [] h = refl
times_fold k f g start (x ∷ xs) h =
    ap (λ n. fold max (max (k * start) n) (map f xs)) (h x)
    ∙ ap (λ n. fold max n (map f xs)) (sym (times_max k start (g x)))
    ∙ times_fold k f g (max start (g x)) xs h

-- the greatest of some times
pub times_greatest : {X : Type 0} (k : ℕ) (f g : X → ℕ) (xs : List X) → ((x : X) → f x ≡ k * g x) → fold max 0 (map f xs) ≡ k * fold max 0 (map g xs)
times_greatest k f g xs h = let none : 0 ≡ k * 0 = omega arith in ap (λ n. fold max n (map f xs)) none ∙ times_fold k f g 0 xs h

pub times_at : (k : ℕ) (xs : List ℕ) (i : ℕ) → get_or (map (λ x. k * x) xs) i 0 ≡ k * get_or xs i 0
times_at k [] i = omega arith
times_at k (x ∷ xs) zero = refl
times_at k (x ∷ xs) (suc i) = times_at k xs i

pub times_within : (k : ℕ) (ranges : List (ℕ × ℕ)) (delays : List ℕ) → AreWithin ranges delays → AreWithin (map (finer_range k) ranges) (map (λ d. k * d) delays)
times_within k [] [] h = tt
times_within k [] (d ∷ delays) h = absurd h
times_within k (r ∷ ranges) [] h = absurd h
times_within k (r ∷ ranges) (d ∷ delays) h =
    ((times_rise k r.0 d h.0.0, times_rise k d r.1 h.0.1), times_within k ranges delays h.1)

module _ (k : ℕ) (some : 1 ≤ k) where
  -- times stand to one another as they did
  pub times_before : (x y : ℕ) → nat_lt (k * x) (k * y) ≡ nat_lt x y
  times_before x y = elim (cases_lt x y) [
    | inl l ↦ let rise = times_rise k (x + 1) y (omega arith) in let next : k * (x + 1) ≡ k * x + k = grind arith in grind (arith, nat_tests)
    | inr l ↦ let rise = times_rise k y x l in grind (arith, nat_tests)
  ]

  pub times_same : (x y : ℕ) → (k * x == k * y) ≡ (x == y)
  times_same x y = elim (cases_eq x y) [
    | inl e ↦ eq-eqb (k * x) (k * y) (ap (λ n. k * n) e) ∙ sym (eq-eqb x y e)
    | inr d ↦ ne_eqb (k * x) (k * y) (λ e. let l = times_fall k some x y (omega arith) in let r = times_fall k some y x (omega arith) in d (omega arith)) ∙ sym (ne_eqb x y d)
  ]

  -- a time in finer ticks is as good as the whole ticks that are past then
  pub floor_rises : (x late : ℕ) → k * x ≤ late → x ≤ late / k
  floor_rises x late l = le-div x late k (omega arith) (omega arith)

  pub floor_falls : (late : ℕ) → k * (late / k) ≤ late
  floor_falls late = mul-div-le late k

  pub floor_at_most : (x late : ℕ) → nat_le (k * x) late ≡ nat_le x (late / k)
  floor_at_most x late = elim (cases_lt late (k * x)) [
    | inl l ↦
        let past : late / k < x = elim (cases_lt (late / k) x) [ inl p ↦ p | inr p ↦ absurd (let rise = times_rise k x (late / k) p in let falls = floor_falls late in omega arith) ] in
        grind (arith, nat_tests)
    | inr l ↦ let most = floor_rises x late l in grind (arith, nat_tests)
  ]

  pub floor_past : (x late : ℕ) → nat_lt late (k * x) ≡ nat_lt (late / k) x
  floor_past x late = elim (cases_lt late (k * x)) [
    | inl l ↦
        let past : late / k < x = elim (cases_lt (late / k) x) [ inl p ↦ p | inr p ↦ absurd (let rise = times_rise k x (late / k) p in let falls = floor_falls late in omega arith) ] in
        grind (arith, nat_tests)
    | inr l ↦ let most = floor_rises x late l in grind (arith, nat_tests)
  ]
