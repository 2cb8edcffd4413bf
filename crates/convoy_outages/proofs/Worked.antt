-- Worked time adds up, and so does silent time; and together they are all the time there is.
use Rattle.std.proofs.Common.{◌≡◌, ℕ, ◌+◌, ◌-◌, ◌≤◌, zero, suc, inl, inr, Bool, true, false, not, cond, refl, ap, subst, ◌∙◌, arith}
use Rattle.std.specs.List.{count_by, range_with_len}
use Rattle.std.proofs.lemmas.Bool.{cases_lt}
use Rattle.std.proofs.lemmas.List.Sums.{sum_by-cons}
use Rattle.convoy_outages.specs.Outages.{Outages, silent_ticks, worked_ticks}

-- the first of some numbers, and those after it
count_first : (p : ℕ → Bool) (a n : ℕ) → count_by p (range_with_len a (suc n)) ≡ cond (p a) 1 0 + count_by p (range_with_len (a + 1) n)
count_first p a n = sum_by-cons (λ x. cond (p x) 1 0) a (range_with_len (a + 1) n)

-- some numbers, and those after them
count_joined : (p : ℕ → Bool) (a n b k : ℕ) → a + n ≡ b → count_by p (range_with_len a (n + k)) ≡ count_by p (range_with_len a n) + count_by p (range_with_len b k)
count_joined p a zero b k e =
    let same : a ≡ b = omega arith in
    let none : 0 + k ≡ k = omega arith in
    rw none (subst (λ (x : ℕ). count_by p (range_with_len a k) ≡ 0 + count_by p (range_with_len x k)) same (omega arith))
count_joined p a (suc n) b k e =
    let more : suc n + k ≡ suc (n + k) = omega arith in
    let rest = count_joined p (a + 1) n b k (omega arith) in
    let one = count_first p a n in
    let all = count_first p a (n + k) in
    rw more (omega arith)

-- a number passes a test, or it does not
count_parted : (p : ℕ → Bool) (a n : ℕ) → count_by p (range_with_len a n) + count_by (λ x. not (p x)) (range_with_len a n) ≡ n
count_parted p a zero = refl
count_parted p a (suc n) =
    let rest = count_parted p (a + 1) n in
    let passing = count_first p a n in
    let others = count_first (λ x. not (p x)) a n in
    let one = by_test (p a) in
    omega arith
  where
    by_test : (b : Bool) → cond b 1 0 + cond (not b) 1 0 ≡ 1
    by_test true = refl
    by_test false = refl

between_joined : (p : ℕ → Bool) (a b c : ℕ) → a ≤ b → b ≤ c
    → count_by p (range_with_len a (c - a)) ≡ count_by p (range_with_len a (b - a)) + count_by p (range_with_len b (c - b))
between_joined p a b c first second =
    let whole : c - a ≡ (b - a) + (c - b) = omega arith in
    ap (λ n. count_by p (range_with_len a n)) whole ∙ count_joined p a (b - a) b (c - b) (omega arith)

-- time up to a tick, and time after it
pub worked_joined : (down : Outages) (a b c : ℕ) → a ≤ b → b ≤ c → worked_ticks down a c ≡ worked_ticks down a b + worked_ticks down b c
unfolding worked_ticks
worked_joined down a b c first second = between_joined (λ tick. not (down tick)) a b c first second

-- a tick is worked, or it is silent
pub ticks_parted : (down : Outages) (a b : ℕ) → silent_ticks down a b + worked_ticks down a b ≡ b - a
unfolding worked_ticks silent_ticks
ticks_parted down a b = count_parted down a (b - a)

-- before a time that is to come there is no tick
none_between : (p : ℕ → Bool) (a b : ℕ) → b ≤ a → count_by p (range_with_len a (b - a)) ≡ 0
none_between p a b before =
    let none : b - a ≡ 0 = omega arith in
    ap (λ n. count_by p (range_with_len a n)) none

pub worked_none : (down : Outages) (a b : ℕ) → b ≤ a → worked_ticks down a b ≡ 0
unfolding worked_ticks
worked_none down a b before = none_between (λ tick. not (down tick)) a b before

-- up to a later tick no less is worked
pub worked_longer : (down : Outages) (a b c : ℕ) → b ≤ c → worked_ticks down a b ≤ worked_ticks down a c
worked_longer down a b c later = elim (cases_lt a b) [
  | inl before ↦ let parts = worked_joined down a b c (omega arith) later in omega arith
  | inr after ↦ let none = worked_none down a b after in omega arith
]

-- from a later tick on no more is worked
pub worked_shorter : (down : Outages) (a b c : ℕ) → a ≤ b → worked_ticks down b c ≤ worked_ticks down a c
worked_shorter down a b c later = elim (cases_lt b c) [
  | inl before ↦ let parts = worked_joined down a b c later (omega arith) in omega arith
  | inr after ↦ let none = worked_none down b c after in omega arith
]

-- by way of any other tick no less is worked
pub worked_by_way : (down : Outages) (a b c : ℕ) → worked_ticks down a c ≤ worked_ticks down a b + worked_ticks down b c
worked_by_way down a b c = elim (cases_lt b a) [
  | inl before ↦ let less = worked_shorter down b a c (omega arith) in omega arith
  | inr later ↦ elim (cases_lt c b) [
    | inl past ↦ let less = worked_longer down a c b (omega arith) in omega arith
    | inr between ↦ let parts = worked_joined down a b c later between in omega arith
  ]
]

-- no more is worked than there are ticks
pub worked_most : (down : Outages) (a n : ℕ) → worked_ticks down a (a + n) ≤ n
worked_most down a n = let parts = ticks_parted down a (a + n) in omega arith
