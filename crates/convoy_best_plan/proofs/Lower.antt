-- Of two floors the lower, and that what reaches the one reaches the other that is no higher.
use Rattle.std.proofs.Common.{◌≡◌, ℕ, ◌+◌, ◌≤◌, Bool, true, false, cond, nat_lt, not, ◌&&◌, ◌||◌, ◌⊎◌, inl, inr, refl, arith}
use Rattle.std.proofs.lemmas.Bool.{ltb-true, ltb-false}
use Rattle.convoy_best_order.specs.declared.excess.Excess.{Excess}
use Rattle.convoy_best_order.specs.Excesses.{IsAtMost, IsLess, is_less, lesser}
use Rattle.convoy_best_plan.specs.declared.floor.Floor.{Floor}
use Rattle.convoy_best_plan.specs.Floors.{IsNoHigher, excess_at, is_lower, lower, one_more}

pub no_higher_self : (floor : Floor) → IsNoHigher floor floor
no_higher_self floor = inr (omega arith, omega arith)

less_less : (a b c : Excess) → IsLess a b → IsLess b c → IsLess a c
less_less a b c first then = omega (arith, first, then)

less_most : (a b c : Excess) → IsLess a b → IsAtMost b c → IsLess a c
less_most a b c first then = omega (arith, first, then)

most_less : (a b c : Excess) → IsAtMost a b → IsLess b c → IsLess a c
most_less a b c first then = omega (arith, first, then)

pub most_most : (a b c : Excess) → IsAtMost a b → IsAtMost b c → IsAtMost a c
most_most a b c first then = omega (arith, first, then)

pub no_higher_after : (a b c : Floor) → IsNoHigher a b → IsNoHigher b c → IsNoHigher a c
no_higher_after a b c (inl less) (inl more) = inl (less_less a.least b.least c.least less more)
no_higher_after a b c (inl less) (inr more) = inl (less_most a.least b.least c.least less more.0)
no_higher_after a b c (inr same) (inl more) = inl (most_less a.least b.least c.least same.0 more)
no_higher_after a b c (inr same) (inr more) =
    let fewer = same.1 in
    let more_fewer = more.1 in
    inr (most_most a.least b.least c.least same.0 more.0, omega arith)

less_of : (a b : Excess) → is_less a b ≡ true → IsLess a b
less_of a b is = ltb-true (a.latency + b.limit) (b.latency + a.limit) is

most_of : (a b : Excess) → is_less a b ≡ false → IsAtMost b a
most_of a b is = ltb-false (a.latency + b.limit) (b.latency + a.limit) is

most_of_less : (a b : Excess) → IsLess a b → IsAtMost a b
most_of_less a b less = omega (arith, less)

-- the one is less, or the other is no greater
pub less_or_most : (a b : Excess) → IsLess a b ⊎ IsAtMost b a
less_or_most a b = by_test (is_less a b) refl where
  by_test : (is : Bool) → is_less a b ≡ is → IsLess a b ⊎ IsAtMost b a
  by_test true is = inl (less_of a b is)
  by_test false is = inr (most_of a b is)

-- the lesser of two is no greater than either; and unless the first is the less, the second is no greater than it
pub lesser_both : (a b : Excess) → IsAtMost (lesser a b) a × IsAtMost (lesser a b) b × (IsLess a b ⊎ IsAtMost b (lesser a b))
lesser_both a b = by_test (is_less b a) refl where
  by_test : (is : Bool) → is_less b a ≡ is → IsAtMost (cond is b a) a × IsAtMost (cond is b a) b × (IsLess a b ⊎ IsAtMost b (cond is b a))
  by_test true is = (most_of_less b a (less_of b a is), omega arith, inr (omega arith))
  by_test false is = (omega arith, most_of b a is, less_or_most a b)

-- a floor that is lower is no higher, and one that is not is no lower
pub no_higher_of : (a b : Floor) → is_lower a b ≡ true → IsNoHigher a b
no_higher_of a b is = by_tests (is_less a.least b.least) refl (is_less b.least a.least) refl (nat_lt a.ties b.ties) refl is where
  by_tests : (first : Bool) → is_less a.least b.least ≡ first → (second : Bool) → is_less b.least a.least ≡ second → (third : Bool) → nat_lt a.ties b.ties ≡ third
      → (first || (not second && third)) ≡ true → IsNoHigher a b
  by_tests true less second greater third ties is = inl (less_of a.least b.least less)
  by_tests false less false greater true ties is =
      let fewer = ltb-true a.ties b.ties ties in
      inr (most_of b.least a.least greater, omega arith)
  by_tests false less false greater false ties is = absurd cc
  by_tests false less true greater third ties is = absurd cc

pub no_lower_of : (a b : Floor) → is_lower a b ≡ false → IsNoHigher b a
no_lower_of a b is = by_tests (is_less a.least b.least) refl (is_less b.least a.least) refl (nat_lt a.ties b.ties) refl is where
  by_tests : (first : Bool) → is_less a.least b.least ≡ first → (second : Bool) → is_less b.least a.least ≡ second → (third : Bool) → nat_lt a.ties b.ties ≡ third
      → (first || (not second && third)) ≡ false → IsNoHigher b a
  by_tests true less second greater third ties is = absurd cc
  by_tests false less true greater third ties is = inl (less_of b.least a.least greater)
  by_tests false less false greater true ties is = absurd cc
  by_tests false less false greater false ties is = inr (most_of a.least b.least less, ltb-false a.ties b.ties ties)

-- the lower of two is no higher than either
pub lower_both : (a b : Floor) → IsNoHigher (lower a b) a × IsNoHigher (lower a b) b
lower_both a b = by_test (is_lower b a) refl where
  by_test : (is : Bool) → is_lower b a ≡ is → IsNoHigher (cond is b a) a × IsNoHigher (cond is b a) b
  by_test true is = (no_higher_of b a is, no_higher_self b)
  by_test false is = (no_higher_self a, no_lower_of b a is)

-- what is no higher than either is no higher than the lower of two
under_lower : (reach a b : Floor) → IsNoHigher reach a → IsNoHigher reach b → IsNoHigher reach (lower a b)
under_lower reach a b first second = by_test (is_lower b a) where
  by_test : (is : Bool) → IsNoHigher reach (cond is b a)
  by_test true = second
  by_test false = first

-- the same where something else may hold
pub under_or : (Else : Type 0) (reach a b : Floor) → IsNoHigher reach a ⊎ Else → IsNoHigher reach b ⊎ Else → IsNoHigher reach (lower a b) ⊎ Else
under_or Else reach a b (inl first) (inl second) = inl (under_lower reach a b first second)
under_or Else reach a b (inl first) (inr other) = inr other
under_or Else reach a b (inr other) second = inr other

pub after_or : (Else : Type 0) (a b c : Floor) → IsNoHigher a b ⊎ Else → IsNoHigher b c ⊎ Else → IsNoHigher a c ⊎ Else
after_or Else a b c (inl first) (inl second) = inl (no_higher_after a b c first second)
after_or Else a b c (inl first) (inr other) = inr other
after_or Else a b c (inr other) second = inr other

-- ---- what a choice of a total reaches
pub reached_lower : (floor other : Floor) (total : ℕ) → IsNoHigher floor other → IsAtMost (excess_at floor total) (excess_at other total)
reached_lower floor other total low = by_tests (nat_lt total floor.ties) refl (nat_lt total other.ties) refl low where
  by_tests : (here : Bool) → nat_lt total floor.ties ≡ here → (there : Bool) → nat_lt total other.ties ≡ there → IsNoHigher floor other
      → IsAtMost (cond here (one_more floor.least) floor.least) (cond there (one_more other.least) other.least)
  by_tests true here true there (inl less) = omega (arith, less)
  by_tests true here true there (inr same) = let most = same.0 in omega (arith, most)
  by_tests true here false there (inl less) = omega (arith, less)
  by_tests true here false there (inr same) =
      let few = ltb-true total floor.ties here in
      let many = ltb-false total other.ties there in
      let fewer = same.1 in
      absurd (omega arith)
  by_tests false here true there (inl less) = omega (arith, less)
  by_tests false here true there (inr same) = let most = same.0 in omega (arith, most)
  by_tests false here false there (inl less) = omega (arith, less)
  by_tests false here false there (inr same) = let most = same.0 in omega (arith, most)

-- of a lesser total no less is reached
pub reached_total : (floor : Floor) (part total : ℕ) → part ≤ total → IsAtMost (excess_at floor total) (excess_at floor part)
reached_total floor part total within = by_tests (nat_lt total floor.ties) refl (nat_lt part floor.ties) refl where
  by_tests : (here : Bool) → nat_lt total floor.ties ≡ here → (there : Bool) → nat_lt part floor.ties ≡ there
      → IsAtMost (cond here (one_more floor.least) floor.least) (cond there (one_more floor.least) floor.least)
  by_tests true here true there = omega arith
  by_tests true here false there =
      let few = ltb-true total floor.ties here in
      let many = ltb-false part floor.ties there in
      absurd (omega arith)
  by_tests false here true there = omega arith
  by_tests false here false there = omega arith

-- at the total of the ties it is the excess of the floor
pub reached_own : (floor : Floor) → IsAtMost (excess_at floor floor.ties) floor.least
reached_own floor = by_test (nat_lt floor.ties floor.ties) refl where
  by_test : (here : Bool) → nat_lt floor.ties floor.ties ≡ here → IsAtMost (cond here (one_more floor.least) floor.least) floor.least
  by_test true here = let few = ltb-true floor.ties floor.ties here in absurd (omega arith)
  by_test false here = omega arith
