-- The plain bound of a widened box, from the tables of the box.
use Rattle.std.proofs.Common.{◌≡◌, ◌≢◌, ℕ, ◌+◌, ◌-◌, ◌≤◌, ◌==◌, max, not, nat_le, Bool, true, false, cond, inl, inr, List, [], ◌∷◌, map, fold, filter, refl, sym, ap, ap₂, subst, ◌∙◌, arith}
use Rattle.std.specs.List.{range_with_len}
use Rattle.std.proofs.lemmas.Bool.{cases_Bool, cases_eq, eq-eqb, ne_eqb}
use Rattle.std.proofs.lemmas.Bool.Decides.{nat_tests}
use Rattle.convoy_scenario.specs.Scenario.{Scenario, GoesTo, message_at, message_numbers, is_addressed}
use Rattle.convoy_packets.specs.declared.packet.Packet.TheVariants.{Wait}
use Rattle.convoy_sim.specs.Delivery.{addressed_to}
use Rattle.convoy_sim.proofs.Membership.{IsIn as IsAmong, filter_keeps, filter_drops}
use Rattle.convoy_sim.proofs.Addressed.{goes_of_addressed, number_of_goes}
use Rattle.convoy_intervals.specs.Boxes.{Box, IsBox}
use Rattle.convoy_intervals.specs.Bounds.{Tables, plain_bound, rivals, tables_of}
use Rattle.convoy_origin.proofs.Lists.{filter_same}
use Rattle.convoy_scenario.specs.Widened.{target_wait, widened}
use Rattle.convoy_origin.specs.Widened.{HasTarget}
use Rattle.convoy_origin.specs.WidenedBoxes.{range_in, widened_box}
use Rattle.convoy_origin.specs.WidenedTables.{AreMoved, PlainBoundIsTold, other_rivals, plain_bound_told}
use Rattle.convoy_origin.proofs.LaterRuns.{plus_greatest}
use Rattle.convoy_origin.proofs.WidenedParts.{IsWidened, is_widened, same_addressed}
use Rattle.convoy_origin.proofs.WidenedBoxes.{inside_wait}
use Rattle.convoy_origin.proofs.WidenedTables.{tables_widen}

-- ---- the greatest of some numbers
from_start : (a : ℕ) (xs : List ℕ) → fold max a xs ≡ max a (fold max 0 xs)
from_start a [] = omega arith
from_start a (x ∷ xs) =
    let mine = from_start (max a x) xs in
    let other = from_start (max 0 x) xs in
    omega arith

abbrev but : ℕ → ℕ → Bool
but t n = not (n == t)

-- one that is no greater than the first may be left out
left_out : (f : ℕ → ℕ) (t a : ℕ) (xs : List ℕ) → f t ≤ a → fold max a (map f xs) ≡ fold max a (map f (filter (but t) xs))
left_out f t a [] low = refl
left_out f t a (x ∷ xs) low = elim (cases_eq x t) [
  | inl e ↦
      let same = ap f e in
      let most : max a (f x) ≡ a = omega arith in
      ap (λ n. fold max n (map f xs)) most ∙ left_out f t a xs low
      ∙ ap (λ ys. fold max a (map f ys)) (sym (filter_drops (but t) x xs (ap not (eq-eqb x t e))))
  | inr d ↦
      left_out f t (max a (f x)) xs (omega arith)
      ∙ ap (λ ys. fold max a (map f ys)) (sym (filter_keeps (but t) x xs (ap not (ne_eqb x t d))))
]

-- tests that agree on all but one let through the same of the others
module _ (t x : ℕ) (xs ys : List ℕ) (rest : filter (but t) xs ≡ filter (but t) ys) where
  one_dropped : (b : Bool) (zs : List ℕ) → x ≡ t → filter (but t) (cond b (x ∷ zs) zs) ≡ filter (but t) zs
  one_dropped true zs e = filter_drops (but t) x zs (ap not (eq-eqb x t e))
  one_dropped false zs e = refl

  both_kept : (b : Bool) → x ≢ t → filter (but t) (cond b (x ∷ xs) xs) ≡ filter (but t) (cond b (x ∷ ys) ys)
  both_kept true d =
      filter_keeps (but t) x xs (ap not (ne_eqb x t d)) ∙ ap (λ l. x ∷ l) rest ∙ sym (filter_keeps (but t) x ys (ap not (ne_eqb x t d)))
  both_kept false d = rest

  step : (b c : Bool) → (x ≢ t → b ≡ c) → filter (but t) (cond b (x ∷ xs) xs) ≡ filter (but t) (cond c (x ∷ ys) ys)
  step b c h = elim (cases_eq x t) [
    | inl e ↦ one_dropped b xs e ∙ rest ∙ sym (one_dropped c ys e)
    | inr d ↦ ap (λ k. filter (but t) (cond k (x ∷ xs) xs)) (h d) ∙ both_kept c d
  ]

same_others : (t : ℕ) (p q : ℕ → Bool) (xs : List ℕ) → ((x : ℕ) → IsAmong x xs → x ≢ t → p x ≡ q x) → filter (but t) (filter p xs) ≡ filter (but t) (filter q xs)
same_others t p q [] h = refl
same_others t p q (x ∷ xs) h =
    step t x (filter p xs) (filter q xs) (same_others t p q xs (λ y i d. h y (inr i) d)) (p x) (q x) (λ d. h x (inl refl) d)

-- numbers that are moved, counted from two starts
counted : (f g : ℕ → ℕ) (l w at : ℕ) (xs : List ℕ) → l ≤ w → ((x : ℕ) → IsAmong x xs → f x + l ≡ g x + w)
    → fold max 0 (map f xs) - (at + w) ≡ fold max 0 (map g xs) - (at + l)
counted f g l w at [] few h = omega arith
counted f g l w at (x ∷ xs) few h =
    let mine = plus_greatest l (λ y. f y + l) f (x ∷ xs) x (inl refl) (λ y i. refl) in
    let moved = plus_greatest w (λ y. f y + l) g (x ∷ xs) x (inl refl) h in
    let same : fold max 0 (map f (x ∷ xs)) + l ≡ fold max 0 (map g (x ∷ xs)) + w = sym mine ∙ moved in
    omega arith

-- what is left of some passes the test of what it is left of
in_filter : (p : ℕ → Bool) (x : ℕ) (xs : List ℕ) → IsAmong x (filter p xs) → IsAmong x xs × (p x ≡ true)
in_filter p x [] i = absurd i
in_filter p x (y ∷ ys) i = elim (cases_Bool (p y)) [
  | inl e ↦ elim (subst (IsAmong x) (filter_keeps p y ys e) i) [
    | inl same ↦ (inl same, ap p (sym same) ∙ e)
    | inr j ↦ let r = in_filter p x ys j in (inr r.0, r.1)
  ]
  | inr e ↦ let r = in_filter p x ys (subst (IsAmong x) (filter_drops p y ys e) i) in (inr r.0, r.1)
]

module _ (plan : Scenario) (ranges : Box) (goes : HasTarget plan) (box : IsBox plan ranges) where
  abbrev wide : Scenario
  wide = widened plan

  abbrev is : IsWidened plan (widened plan)
  is = is_widened plan

  abbrev t : ℕ
  t = plan.target_message

  abbrev g : ℕ
  g = plan.target_group

  abbrev told : Tables
  told = tables_of plan ranges

  abbrev moved : Tables
  moved = tables_of wide (widened_box plan ranges)

  abbrev rivals_at : Scenario → Tables → ℕ → ℕ → List ℕ
  rivals_at scenario tables m k = filter (λ n. nat_le (tables.least_arrival n k) (tables.greatest_settling m k)) (addressed_to scenario k)

  abbrev bound_at : ℕ → ℕ → ℕ
  bound_at m k = fold max 0 (map (λ n. moved.greatest_settling n k) (m ∷ rivals_at wide moved m k)) - (message_at wide m).at

  same_addressed_to : addressed_to wide g ≡ addressed_to plan g
  same_addressed_to =
      filter_same (λ n. is_addressed (message_at wide n) g) (λ n. is_addressed (message_at plan n) g) (message_numbers wide) (λ n. same_addressed plan wide is n g)
      ∙ ap (λ n. filter (λ n. is_addressed (message_at plan n) g) (range_with_len 0 n)) is.alike.count

  target_moved : AreMoved plan ranges (range_in plan ranges (Wait t)).0 (range_in plan ranges (Wait t)).1 t g
  target_moved = (tables_widen plan ranges box t g goes).0 refl

  other_moved : (n : ℕ) → n ≢ t → GoesTo plan n g → AreMoved plan ranges (range_in plan ranges (Wait t)).1 (range_in plan ranges (Wait t)).0 n g
  other_moved n d there = (tables_widen plan ranges box n g there).1 d

  same_test : (n : ℕ) → n ≢ t → GoesTo plan n g
      → nat_le (moved.least_arrival n g) (moved.greatest_settling t g) ≡ nat_le (told.least_arrival n g) (told.greatest_settling t g)
  same_test n d there =
      let mine = (other_moved n d there).least_arrival in
      let targets = target_moved.greatest_settling in
      grind (arith, nat_tests, mine, targets)

  others_same : filter (but t) (rivals_at wide moved t g) ≡ other_rivals plan told
  others_same =
      ap (λ xs. filter (but t) (filter (λ n. nat_le (moved.least_arrival n g) (moved.greatest_settling t g)) xs)) same_addressed_to
      ∙ same_others t (λ n. nat_le (moved.least_arrival n g) (moved.greatest_settling t g)) (λ n. nat_le (told.least_arrival n g) (told.greatest_settling t g)) (addressed_to plan g)
      (λ n i d. same_test n d (goes_of_addressed plan n g i))

  other_goes : (n : ℕ) → IsAmong n (other_rivals plan told) → (n ≢ t) × GoesTo plan n g
  other_goes n i =
      let first = in_filter (but t) n (rivals plan told) i in
      let second = in_filter (λ k. nat_le (told.least_arrival k g) (told.greatest_settling t g)) n (addressed_to plan g) first.0 in
      (λ e. let same = ap not (eq-eqb n t e) in let both : true ≡ false = sym first.1 ∙ same in cc, goes_of_addressed plan n g second.0)

  parts : bound_at t g ≡ plain_bound_told plan ranges
  parts =
      let f : ℕ → ℕ = λ n. moved.greatest_settling n g in
      let start : max 0 (f t) ≡ f t = omega arith in
      let whole : fold max 0 (map f (t ∷ rivals_at wide moved t g)) ≡ max (f t) (fold max 0 (map f (other_rivals plan told))) =
      ap (λ n. fold max n (map f (rivals_at wide moved t g))) start
      ∙ left_out f t (f t) (rivals_at wide moved t g) (omega arith)
      ∙ ap (λ xs. fold max (f t) (map f xs)) others_same
      ∙ from_start (f t) (map f (other_rivals plan told)) in
      let at_end = is.target_at (number_of_goes plan t g goes) in
      let targets = inside_wait plan ranges t box in
      let ordered = targets.0 in
      let most = targets.1 in
      let mine = target_moved.greatest_settling in
      let others = counted f (λ n. told.greatest_settling n g) (range_in plan ranges (Wait t)).0 (target_wait plan) (message_at plan t).at (other_rivals plan told) (omega arith)
      (λ n i. let r = other_goes n i in (other_moved n r.0 r.1).greatest_settling) in
      omega arith

  pub bound_told : plain_bound wide (widened_box plan ranges) ≡ plain_bound_told plan ranges
  unfolding plain_bound
  bound_told = ap₂ bound_at is.target_message is.target_group ∙ parts

pub plain_told : PlainBoundIsTold
plain_told plan ranges goes box = bound_told plan ranges goes box
