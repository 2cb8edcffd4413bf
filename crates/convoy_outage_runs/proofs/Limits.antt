-- The limits of the compressed scenario, told by the messages of the scenario itself.
use Rattle.std.proofs.Common.{◌≡◌, ℕ, zero, suc, ◌+◌, ◌-◌, ◌<◌, ◌==◌, min, nat_le, Bool, ◌&&◌, ◌||◌, List, [], ◌∷◌, length, get_or, refl, sym, ap, ap₂, ◌∙◌, arith}
use Rattle.std.specs.List.{list_all, range_with_len}
use Rattle.std.proofs.lemmas.List.{get_or-map, length-map}
use Rattle.std.proofs.lemmas.List.Folds.{list_all-map}
use Rattle.convoy_draft.specs.declared.limits.TheConstants.{GREATEST_AT, GREATEST_DELAY, LONGEST_WAIT}
use Rattle.convoy_scenario.specs.Room.{has_room, is_target_or_has_room}
use Rattle.convoy_scenario.specs.Scenario.{Message, Scenario, message_at, message_numbers, no_message}
use Rattle.convoy_outage_runs.specs.Compressed.{compressed, compressed_span, first_tick_saved, is_within_limits, message_saved, saved_ticks}

-- ---- tests of all numbers below a count
alike : (p q : ℕ → Bool) (from n : ℕ) → ((m : ℕ) → m < from + n → p m ≡ q m) → list_all p (range_with_len from n) ≡ list_all q (range_with_len from n)
alike p q from zero same = refl
alike p q from (suc n) same = ap₂ ◌&&◌ (same from (omega arith)) (alike p q (from + 1) n (λ m l. same m (omega (arith, l))))

shifted : (p : ℕ → Bool) (from n : ℕ) → list_all p (range_with_len (from + 1) n) ≡ list_all (λ m. p (m + 1)) (range_with_len from n)
shifted p from zero = refl
shifted p from (suc n) = ap (λ b. p (from + 1) && b) (shifted p (from + 1) n)

-- a test of all messages is one of all their numbers
by_numbers : (p : Message → Bool) (xs : List Message) → list_all p xs ≡ list_all (λ m. p (get_or xs m no_message)) (range_with_len 0 (length xs))
by_numbers p [] = refl
by_numbers p (x ∷ xs) = ap (λ b. p x && b) (by_numbers p xs ∙ rest) where
  next : (m : ℕ) → get_or xs m no_message ≡ get_or (x ∷ xs) (m + 1) no_message
  next m = let e : suc m ≡ m + 1 = omega arith in ap (λ k. get_or (x ∷ xs) k no_message) e

  rest : list_all (λ m. p (get_or xs m no_message)) (range_with_len 0 (length xs)) ≡ list_all (λ m. p (get_or (x ∷ xs) m no_message)) (range_with_len 1 (length xs))
  rest = alike _ _ 0 (length xs) (λ m l. ap p (next m)) ∙ sym (shifted (λ m. p (get_or (x ∷ xs) m no_message)) 0 (length xs))

module _ (factor span : ℕ) (plan : Scenario) (known : plan.target_message < length plan.multicasts) where
  abbrev saved : ℕ
  saved = saved_ticks factor span

  abbrev target : Message
  target = message_at plan plan.target_message

  abbrev made : Scenario
  made = compressed factor span plan

  -- how long a message may wait then
  abbrev wait_of : ℕ → ℕ
  wait_of m = (message_saved saved target (message_at plan m)).longest_wait

  -- the tests that are made
  abbrev waits : Bool
  waits = list_all (λ m. nat_le (wait_of m) LONGEST_WAIT) (message_numbers plan)

  abbrev others_have_room : Bool
  others_have_room = list_all (λ m. m == plan.target_message || nat_le (wait_of m + (message_saved saved target target).longest_wait) LONGEST_WAIT) (message_numbers plan)

  abbrev has_room_then : Bool
  has_room_then = nat_le (first_tick_saved saved target target + (message_saved saved target target).longest_wait) GREATEST_AT && others_have_room

  pub message_is : (m : ℕ) → m < length plan.multicasts → message_at made m ≡ message_saved saved target (message_at plan m)
  unfolding compressed
  message_is m l = get_or-map (message_saved saved target) plan.multicasts m no_message no_message l

  waits_are : list_all (λ message. nat_le message.longest_wait LONGEST_WAIT) made.multicasts ≡ waits
  unfolding compressed
  waits_are =
      list_all-map (λ message. nat_le message.longest_wait LONGEST_WAIT) (message_saved saved target) plan.multicasts
      ∙ by_numbers (λ message. nat_le (message_saved saved target message).longest_wait LONGEST_WAIT) plan.multicasts

  numbers_are : message_numbers made ≡ message_numbers plan
  unfolding compressed
  numbers_are = ap (range_with_len 0) (length-map plan.multicasts (message_saved saved target))

  others_are : list_all (is_target_or_has_room made) (message_numbers made) ≡ others_have_room
  unfolding compressed
  others_are =
      ap (list_all (is_target_or_has_room made)) numbers_are
      ∙ alike _ _ 0 (length plan.multicasts)
      (λ m l. ap₂ (λ (x y : Message). (m == plan.target_message) || nat_le (x.longest_wait + y.longest_wait) LONGEST_WAIT)
      (message_is m (omega (arith, l))) (message_is plan.target_message known))

  room_is : has_room made ≡ has_room_then
  unfolding compressed
  room_is = ap₂ (λ (x : Message) b. nat_le (x.at + x.longest_wait) GREATEST_AT && b) (message_is plan.target_message known) others_are

  pub limits_are : is_within_limits made ≡ (nat_le (plan.delay + compressed_span factor span + min (factor - 1) 1) GREATEST_DELAY && waits && has_room_then)
  unfolding compressed
  limits_are = ap₂ (λ a b. nat_le (plan.delay + compressed_span factor span + min (factor - 1) 1) GREATEST_DELAY && a && b) waits_are room_is

  -- the same where the number of ticks that are saved has been computed
  abbrev waits_by : ℕ → Bool
  waits_by ticks = list_all (λ m. nat_le (message_saved ticks target (message_at plan m)).longest_wait LONGEST_WAIT) (message_numbers plan)

  abbrev has_room_by : ℕ → Bool
  has_room_by ticks =
      nat_le (first_tick_saved ticks target target + (message_saved ticks target target).longest_wait) GREATEST_AT
      && list_all (λ m. m == plan.target_message || nat_le ((message_saved ticks target (message_at plan m)).longest_wait + (message_saved ticks target target).longest_wait) LONGEST_WAIT)
      (message_numbers plan)

  pub decided : (ticks : ℕ) (fit roomy : Bool) → ticks ≡ saved → fit ≡ waits_by ticks → roomy ≡ has_room_by ticks
      → is_within_limits made ≡ (nat_le (plan.delay + compressed_span factor span + min (factor - 1) 1) GREATEST_DELAY && fit && roomy)
  decided ticks fit roomy is fits rooms =
      limits_are
      ∙ ap₂ (λ a b. nat_le (plan.delay + compressed_span factor span + min (factor - 1) 1) GREATEST_DELAY && a && b)
      (sym (fits ∙ ap waits_by is)) (sym (rooms ∙ ap has_room_by is))
