-- A map of ticks on which work is slower: a tick of work becomes a number of ticks, a silent one stays one, and one tick, the target's issue, becomes as many times the number.
use Rattle.std.proofs.Common.{◌≡◌, ℕ, zero, suc, ◌+◌, ◌-◌, ◌*◌, ◌/◌, ◌≤◌, ◌==◌, max, min, nat_le, nat_lt, inl, inr, ◌⊎◌, List, [], ◌∷◌, map, fold, refl, sym, ap, ◌∙◌, arith}
use Rattle.std.proofs.lemmas.Bool.{cases_lt, cases_eq, eq-eqb, ne_eqb}
use Rattle.std.proofs.lemmas.Bool.Decides.{nat_tests}
use Rattle.std.proofs.lemmas.Grind.{div_ceil_times}
use Rattle.std.proofs.Math.Nat.{mul-div-le}
use Rattle.convoy_laws.proofs.Ceiling.{times_rise, times_plus}
use Rattle.convoy_outages.specs.Outages.{Outages, silent_ticks, worked_ticks}
use Rattle.convoy_outages.proofs.Worked.{ticks_parted, worked_joined, worked_longer}
use Rattle.convoy_outage_runs.specs.Compressed.{compressed_span, saved_ticks}

-- ---- products
pub less_one : (k x : ℕ) → 1 ≤ k → k * x ≡ (k - 1) * x + x
less_one zero x some = absurd (omega arith)
less_one (suc k) x some = let e : suc k - 1 ≡ k = omega arith in rw e (grind arith)

pub times_twice : (k times x : ℕ) → (k * times) * x ≡ k * (times * x)
times_twice k times x = grind arith

times_turned : (k times x : ℕ) → k * (times * x) ≡ times * (k * x)
times_turned k times x = grind arith

-- so many times the greater of two numbers is at most what both are, ..
times_max_most : (n a b most : ℕ) → n * a ≤ most → n * b ≤ most → n * max a b ≤ most
times_max_most n a b most first second = elim (cases_lt a b) [
  | inl l ↦ let same : max a b ≡ b = omega arith in rw same second
  | inr l ↦ let same : max a b ≡ a = omega arith in rw same first
]

-- .. and so many times the less is no less than what neither is
times_min_least : (n a b least : ℕ) → least ≤ n * a → least ≤ n * b → least ≤ n * min a b
times_min_least n a b least first second = elim (cases_lt a b) [
  | inl l ↦ let same : min a b ≡ a = omega arith in rw same first
  | inr l ↦ let same : min a b ≡ b = omega arith in rw same second
]

-- ---- the ticks that are saved, and those that are left
-- so many outages, each tick but one of which a factor saves, cost no more than the ticks that are saved
pub saved_enough : (k span : ℕ) → 1 ≤ k → (k - 1) * span ≤ k * saved_ticks k span
saved_enough k span some =
    let part : ℕ = span / k in
    let rest : ℕ = span - part in
    let falls : k * part ≤ span = mul-div-le span k in
    let one = less_one k part some in
    let whole : span ≡ part + rest = omega arith in
    let times : k * span ≡ k * part + k * rest = ap (λ n. k * n) whole ∙ times_plus k part rest in
    let all = less_one k span some in
    omega arith

-- compressed outages are long enough
pub span_enough : (k span : ℕ) → 1 ≤ k → span ≤ k * compressed_span k span
span_enough k span some =
    let most = (div_ceil_times span k (omega arith)).0 in
    let turned : k * compressed_span k span ≡ (compressed_span k span) * k = grind arith in
    omega arith

module _ (down : Outages) (k target : ℕ) where
  -- the tick that becomes of a tick
  pub slowed : ℕ → ℕ
  slowed tick = tick + (k - 1) * (worked_ticks down 0 tick + silent_ticks down 0 target)

  pub slowed_rises : (a b : ℕ) → a ≤ b → slowed a + (b - a) ≤ slowed b
  unfolding slowed
  slowed_rises a b l =
      let silent : ℕ = silent_ticks down 0 target in
      let longer = worked_longer down 0 a b l in
      let rise = times_rise (k - 1) (worked_ticks down 0 a + silent) (worked_ticks down 0 b + silent) (omega arith) in
      omega arith

  pub slowed_later : (tick : ℕ) → tick ≤ slowed tick
  unfolding slowed
  slowed_later tick = omega arith

  -- what becomes of a stretch of time
  pub slowed_by : (a b : ℕ) → a ≤ b → slowed b ≡ slowed a + (b - a) + (k - 1) * worked_ticks down a b
  unfolding slowed
  slowed_by a b l =
      let silent : ℕ = silent_ticks down 0 target in
      let first : ℕ = worked_ticks down 0 a + silent in
      let parts = worked_joined down 0 a b (omega arith) l in
      let whole : worked_ticks down 0 b + silent ≡ first + worked_ticks down a b = omega arith in
      let times : (k - 1) * (worked_ticks down 0 b + silent) ≡ (k - 1) * first + (k - 1) * worked_ticks down a b = ap (λ n. (k - 1) * n) whole ∙ times_plus (k - 1) first (worked_ticks down a b) in
      omega arith

  -- ---- ticks stand to one another as they did
  pub slowed_before : (a b : ℕ) → nat_lt (slowed a) (slowed b) ≡ nat_lt a b
  slowed_before a b = elim (cases_lt a b) [
    | inl l ↦ let rise = slowed_rises a b (omega arith) in grind (arith, nat_tests)
    | inr l ↦ let rise = slowed_rises b a l in grind (arith, nat_tests)
  ]

  pub slowed_same : (a b : ℕ) → (slowed a == slowed b) ≡ (a == b)
  slowed_same a b = elim (cases_eq a b) [
    | inl e ↦ eq-eqb (slowed a) (slowed b) (ap slowed e) ∙ sym (eq-eqb a b e)
    | inr d ↦
        ne_eqb (slowed a) (slowed b) (λ e. elim (cases_lt a b) [
          | inl l ↦ let rise = slowed_rises a b (omega arith) in absurd (omega arith)
          | inr l ↦ let rise = slowed_rises b a l in d (omega arith)
        ]) ∙ sym (ne_eqb a b d)
  ]

  slowed_max : (a b : ℕ) → slowed (max a b) ≡ max (slowed a) (slowed b)
  slowed_max a b = elim (cases_lt a b) [
    | inl l ↦ let same : max a b ≡ b = omega arith in let rise = slowed_rises a b (omega arith) in ap slowed same ∙ omega arith
    | inr l ↦ let same : max a b ≡ a = omega arith in let rise = slowed_rises b a l in ap slowed same ∙ omega arith
  ]

  slowed_fold : {X : Type 0} (f g : X → ℕ) (start : ℕ) (xs : List X) → ((x : X) → f x ≡ slowed (g x)) → fold max (slowed start) (map f xs) ≡ slowed (fold max start (map g xs))
  slowed_fold f g start [] h = refl
  slowed_fold f g start (x ∷ xs) h =
      ap (λ n. fold max (max (slowed start) n) (map f xs)) (h x)
      ∙ ap (λ n. fold max n (map f xs)) (sym (slowed_max start (g x)))
      ∙ slowed_fold f g (max start (g x)) xs h

  -- the greatest of some times, where there is one
  pub slowed_greatest : {X : Type 0} (f g : X → ℕ) (x : X) (xs : List X) → ((y : X) → f y ≡ slowed (g y)) → fold max 0 (map f (x ∷ xs)) ≡ slowed (fold max 0 (map g (x ∷ xs)))
  slowed_greatest f g x xs h =
      let first : max 0 (f x) ≡ f x = omega arith in
      let other : max 0 (g x) ≡ g x = omega arith in
      ap (λ n. fold max n (map f xs)) (first ∙ h x)
      ∙ slowed_fold f g (g x) xs h
      ∙ ap (λ n. slowed (fold max n (map g xs))) (sym other)

  -- ---- the last tick that comes no later than a time does
  latest_from : (late most : ℕ) → slowed 0 ≤ late → (last : ℕ) × (slowed last ≤ late) × ((tick : ℕ) → tick ≤ most → slowed tick ≤ late → tick ≤ last)
  latest_from late zero first = (0, first, λ tick l h. l)
  latest_from late (suc most) first = elim (cases_lt late (slowed (suc most))) [
    | inl past ↦
        let rest = latest_from late most first in (
          rest.0,
          rest.1,
          λ tick l h. elim (cases_eq tick (suc most)) [
            | inl e ↦ absurd (let same = ap slowed e in omega arith)
            | inr d ↦ rest.2 tick (omega arith) h
          ],
        )
    | inr by ↦ (suc most, by, λ tick l h. l)
  ]

  pub latest : (late : ℕ) → slowed 0 ≤ late → (last : ℕ) × (slowed last ≤ late) × ((tick : ℕ) → slowed tick ≤ late → tick ≤ last)
  latest late first =
      let r = latest_from late late first in
      (r.0, r.1, λ tick h. r.2 tick (let later = slowed_later tick in omega arith) h)

  -- what has come by that time has come by that tick, and what is past the one is past the other
  pub latest_at_most : (late last tick : ℕ) → slowed last ≤ late → ((early : ℕ) → slowed early ≤ late → early ≤ last) → nat_le (slowed tick) late ≡ nat_le tick last
  latest_at_most late last tick by least = elim (cases_lt last tick) [
    | inl past ↦ elim (cases_lt late (slowed tick)) [
      | inl too ↦ grind (arith, nat_tests)
      | inr soon ↦ absurd (let most = least tick soon in omega arith)
    ]
    | inr soon ↦ let rise = slowed_rises tick last soon in grind (arith, nat_tests)
  ]

  pub latest_past : (late last tick : ℕ) → slowed last ≤ late → ((early : ℕ) → slowed early ≤ late → early ≤ last) → nat_lt late (slowed tick) ≡ nat_lt last tick
  latest_past late last tick by least = elim (cases_lt last tick) [
    | inl past ↦ elim (cases_lt late (slowed tick)) [
      | inl too ↦ grind (arith, nat_tests)
      | inr soon ↦ absurd (let most = least tick soon in omega arith)
    ]
    | inr soon ↦ let rise = slowed_rises tick last soon in grind (arith, nat_tests)
  ]

  -- ---- the target's issue and the times before it and after it
  module _ (some : 1 ≤ k) where
    pub slowed_target : slowed target ≡ k * target
    unfolding slowed
    slowed_target =
        let parts = ticks_parted down 0 target in
        let whole : worked_ticks down 0 target + silent_ticks down 0 target ≡ target = omega arith in
        let times : (k - 1) * (worked_ticks down 0 target + silent_ticks down 0 target) ≡ (k - 1) * target = ap (λ n. (k - 1) * n) whole in
        let one = less_one k target some in
        omega arith

    -- a stretch of time, in ticks of work and in silent ones
    pub stretch : (a b : ℕ) → a ≤ b → slowed b + (k - 1) * silent_ticks down a b + k * a ≡ slowed a + k * b
    stretch a b l =
        let by = slowed_by a b l in
        let parts = ticks_parted down a b in
        let both : (k - 1) * (silent_ticks down a b + worked_ticks down a b) ≡ (k - 1) * (b - a) = ap (λ n. (k - 1) * n) parts in
        let split = times_plus (k - 1) (silent_ticks down a b) (worked_ticks down a b) in
        let span : b ≡ a + (b - a) = omega arith in
        let whole : k * b ≡ k * a + k * (b - a) = ap (λ n. k * n) span ∙ times_plus k a (b - a) in
        let one = less_one k (b - a) some in
        omega arith

    module _ (most : ℕ) (short : (a b : ℕ) → silent_ticks down a b ≤ most) where
      -- a time before the target's issue comes nearer to it, and so does one after it, by no more than silence lasts
      pub near : (tick : ℕ) → ((slowed tick ≤ k * target) × (k * tick ≤ slowed tick) × (slowed tick ≤ k * tick + (k - 1) * most))
          ⊎ ((k * target ≤ slowed tick) × (slowed tick ≤ k * tick) × (k * tick ≤ slowed tick + (k - 1) * most))
      near tick =
          let at = slowed_target in
          elim (cases_lt target tick) [
            | inl past ↦
                let whole = stretch target tick (omega arith) in
                let rise = slowed_rises target tick (omega arith) in
                let cost = times_rise (k - 1) (silent_ticks down target tick) most (short target tick) in
                inr (omega arith, omega arith, omega arith)
            | inr by ↦
                let whole = stretch tick target by in
                let rise = slowed_rises tick target by in
                let cost = times_rise (k - 1) (silent_ticks down tick target) most (short tick target) in
                inl (omega arith, omega arith, omega arith)
          ]

-- ---- windows of issue
module _ (k times span : ℕ) (some : 1 ≤ k) where
  abbrev fine : ℕ
  fine = k * times

  pub saved_cost : (k - 1) * (times * span) ≤ fine * saved_ticks k span
  saved_cost =
      let enough = times_rise times ((k - 1) * span) (k * saved_ticks k span) (saved_enough k span some) in
      let first = times_turned (k - 1) times span in
      let second = times_turned k times (saved_ticks k span) in
      let twice = times_twice k times (saved_ticks k span) in
      omega arith

  module _ (target issued slow : ℕ)
      (near : ((slow ≤ k * target) × (k * issued ≤ slow) × (slow ≤ k * issued + (k - 1) * (times * span)))
      ⊎ ((k * target ≤ slow) × (slow ≤ k * issued) × (k * issued ≤ slow + (k - 1) * (times * span)))) where
    -- a message is issued no sooner than the first tick at which it may be where ticks are saved ..
    pub window_first : (at other : ℕ) → times * at ≤ issued → times * other ≤ target → fine * max (min at other) (at - saved_ticks k span) ≤ slow
    window_first at other low target_low =
        let own = times_rise k (times * at) issued low in
        let target_own = times_rise k (times * other) target target_low in
        let twice = times_twice k times at in
        let target_twice = times_twice k times other in
        elim near [
          | inl before ↦
              let least = before.1 in
              let falls = times_rise fine (max (min at other) (at - saved_ticks k span)) at (omega arith) in
              omega arith
          | inr after ↦
              let first = after.0 in
              let last = after.2 in
              let rest : ℕ = at - saved_ticks k span in
              let cost = saved_cost in
              let falls = times_rise fine (min at other) other (omega arith) in
              let rises = times_rise fine at (rest + saved_ticks k span) (omega arith) in
              let parts = times_plus fine rest (saved_ticks k span) in
              times_max_most fine (min at other) rest slow (omega arith) (elim (cases_lt (saved_ticks k span) at) [
                | inl more ↦
                    let split : at ≡ rest + saved_ticks k span = omega arith in
                    let whole : fine * at ≡ fine * rest + fine * saved_ticks k span = ap (λ n. fine * n) split ∙ parts in
                    omega arith
                | inr few ↦
                    let none : rest ≡ 0 = omega arith in
                    let nothing : fine * rest ≡ fine * 0 = ap (λ n. fine * n) none in
                    omega arith
              ])
        ]

    -- .. and no later than the last
    pub window_last : (until other : ℕ) → issued ≤ times * until → target ≤ times * other → slow ≤ fine * min (max until other) (until + saved_ticks k span)
    window_last until other high target_high =
        let own = times_rise k issued (times * until) high in
        let target_own = times_rise k target (times * other) target_high in
        let twice = times_twice k times until in
        let target_twice = times_twice k times other in
        let cost = saved_cost in
        let parts = times_plus fine until (saved_ticks k span) in
        let one = times_rise fine until (max until other) (omega arith) in
        let two = times_rise fine other (max until other) (omega arith) in
        elim near [
          | inl before ↦
              let first = before.0 in
              let last = before.2 in
              times_min_least fine (max until other) (until + saved_ticks k span) slow (omega arith) (omega arith)
          | inr after ↦
              let most = after.1 in
              times_min_least fine (max until other) (until + saved_ticks k span) slow (omega arith) (omega arith)
        ]

-- ---- delays
module _ (down : Outages) (k target times span : ℕ) (some : 1 ≤ k) (short : (a b : ℕ) → silent_ticks down a b ≤ times * span) (start delay : ℕ) where
  -- no delay becomes less than the least, where that is so great a part of what it was ..
  pub delay_first : (least less : ℕ) → k * less ≤ least → times * least ≤ delay → (k * times) * less ≤ slowed down k target (start + delay) - slowed down k target start
  delay_first least less part low =
      let rise = slowed_rises down k target start (start + delay) (omega arith) in
      let most = times_rise times (k * less) least part in
      let twice = times_twice k times less in
      let turned = times_turned k times less in
      omega arith

  -- .. and none more than the greatest and compressed outages
  pub delay_last : (most more : ℕ) → most + compressed_span k span ≤ more → worked_ticks down start (start + delay) ≤ times * most
      → slowed down k target (start + delay) - slowed down k target start ≤ (k * times) * more
  delay_last most more great high =
      let work : ℕ = worked_ticks down start (start + delay) in
      let by = slowed_by down k target start (start + delay) (omega arith) in
      let parts = ticks_parted down start (start + delay) in
      let silent = short start (start + delay) in
      let one = less_one k work some in
      let slow = times_rise k work (times * most) high in
      let twice = times_twice k times most in
      let enough = times_rise times span (k * compressed_span k span) (span_enough k span some) in
      let turned = times_turned k times (compressed_span k span) in
      let other = times_twice k times (compressed_span k span) in
      let sum = times_plus (k * times) most (compressed_span k span) in
      let rises = times_rise (k * times) (most + compressed_span k span) more great in
      omega arith
