-- The order of arrivals that are told by ticks and numbers, and what stays before where ticks lie further apart.
use Rattle.std.proofs.Common.{◌≡◌, ℕ, ◌+◌, ◌-◌, ◌<◌, ◌≤◌, true, ◌⊎◌, ◌==◌, ◌&&◌, nat_lt, inl, inr, arith}
use Rattle.std.proofs.lemmas.Bool.{cases_lt, and_from, and_parts, or_cases, or_left, or_right, lt-ltb, ltb-true, eq-eqb, eqb-true, le-leb, leb-true}
use Rattle.convoy_draft.specs.declared.time.Time.{Time}
use Rattle.convoy_draft.specs.declared.time.Time.TheVariants.{Ticks, Real}
use Rattle.convoy_sim.specs.Stamps.{is_less}
use Rattle.convoy_sure.specs.SureLeads.{is_first, is_earlier, may_be_earlier}

first_parts : (a z b q : ℕ) → is_first a z b q ≡ true → (a < b) ⊎ ((a ≡ b) × (z < q))
first_parts a z b q t = elim (or_cases (nat_lt a b) ((a == b) && nat_lt z q) t) [
  | inl e ↦ inl (ltb-true a b e)
  | inr e ↦ let r = and_parts (a == b) (nat_lt z q) e in inr (eqb-true a b r.0, ltb-true z q r.1)
]

pub first_by_tick : (a z b q : ℕ) → a < b → is_first a z b q ≡ true
first_by_tick a z b q l = or_left (nat_lt a b) ((a == b) && nat_lt z q) (lt-ltb a b l)

first_by_number : (a z b q : ℕ) → a ≡ b → z < q → is_first a z b q ≡ true
first_by_number a z b q e l = or_right (nat_lt a b) ((a == b) && nat_lt z q) (and_from (a == b) (nat_lt z q) (eq-eqb a b e) (lt-ltb z q l))

pub first_chain : (a x b y c z : ℕ) → is_first a x b y ≡ true → is_first b y c z ≡ true → is_first a x c z ≡ true
first_chain a x b y c z one two = elim (first_parts a x b y one) [
  | inl l ↦ elim (first_parts b y c z two) [
    | inl m ↦ first_by_tick a x c z (omega arith)
    | inr m ↦ first_by_tick a x c z (omega (arith, m.0))
  ]
  | inr l ↦ elim (first_parts b y c z two) [
    | inl m ↦ first_by_tick a x c z (omega (arith, l.0))
    | inr m ↦ first_by_number a x c z (omega (arith, l.0, m.0)) (omega (arith, l.1, m.1))
  ]
]

pub first_one_way : (a x b y : ℕ) → is_first a x b y ≡ true → is_first b y a x ≡ true → ⊥
first_one_way a x b y one two = elim (first_parts a x b y one) [
  | inl l ↦ elim (first_parts b y a x two) [ inl m ↦ omega arith | inr m ↦ omega (arith, m.0) ]
  | inr l ↦ elim (first_parts b y a x two) [ inl m ↦ omega (arith, l.0) | inr m ↦ omega (arith, l.1, m.1) ]
]

-- where the first tick is no greater, and the second one no less
pub first_too : (a c b d z q : ℕ) → c ≤ a → b ≤ d → is_first a z b q ≡ true → is_first c z d q ≡ true
first_too a c b d z q low high t = elim (first_parts a z b q t) [
  | inl l ↦ first_by_tick c z d q (omega arith)
  | inr e ↦ elim (cases_lt c d) [
    | inl l ↦ first_by_tick c z d q l
    | inr l ↦ first_by_number c z d q (omega (arith, e.0)) e.1
  ]
]

pub earlier_too : (time : Time) (a c b d z q : ℕ) → c ≤ a → b ≤ d → is_earlier time a z b q ≡ true → is_earlier time c z d q ≡ true
earlier_too Ticks a c b d z q low high t = first_too a c b d z q low high t
earlier_too Real a c b d z q low high t = let l = ltb-true a b t in lt-ltb c d (omega arith)

pub may_be_earlier_too : (time : Time) (a c b d z q : ℕ) → c ≤ a → b ≤ d → may_be_earlier time a z b q ≡ true → may_be_earlier time c z d q ≡ true
may_be_earlier_too Ticks a c b d z q low high t = first_too a c b d z q low high t
may_be_earlier_too Real a c b d z q low high t = let l = leb-true a b t in le-leb c d (omega arith)

-- what is surely earlier than the least tick of an arrival is before the greatest one in the fixed order
pub first_of_earlier : (time : Time) (a b c z q : ℕ) → b ≤ c → is_earlier time a z b q ≡ true → is_first a z c q ≡ true
first_of_earlier Ticks a b c z q high t = first_too a a b c z q (omega arith) high t
first_of_earlier Real a b c z q high t = let l = ltb-true a b t in first_by_tick a z c q (omega arith)

-- a stamp below another one stays so where it grows by no more than that one does
pub less_too : (a b s t h g : ℕ) → s ≤ t → b ≤ a + (t - s)
    → is_less (record { time = a; group = h }) (record { time = s; group = g }) ≡ true → is_less (record { time = b; group = h }) (record { time = t; group = g }) ≡ true
less_too a b s t h g rise grow less = elim (first_parts a h s g less) [
  | inl l ↦ first_by_tick b h t g (omega arith)
  | inr e ↦ elim (cases_lt b t) [
    | inl l ↦ first_by_tick b h t g l
    | inr l ↦ first_by_number b h t g (omega (arith, e.0)) e.1
  ]
]
