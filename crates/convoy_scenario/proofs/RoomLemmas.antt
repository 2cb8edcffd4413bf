-- Whether the target has room, as a test on numbers.
use Rattle.std.proofs.Common.{◌≡◌, ◌≢◌, ℕ, ◌+◌, ◌<◌, ◌≤◌, nat_le, Bool, true, Ok, inl, inr, length, get_or, subst, sym, ◌∙◌, zero-add, arith}
use Rattle.std.specs.List.{list_all, range_with_len}
use Rattle.std.proofs.lemmas.Bool.{and_from, and_parts, cases_eq, cond-true, eq-eqb, le-leb, leb-true, ne_eqb}
use Rattle.std.proofs.lemmas.Bool.Decides.{nat_tests}
use Rattle.std.proofs.lemmas.List.Elements.{All-get_or}
use Rattle.std.proofs.lemmas.List.FromFn.{length-range_with_len, get_or-range_with_len}
use Rattle.std.proofs.lemmas.List.Sums.{AllPass-from_list_all, list_all-from_AllPass}
use Rattle.convoy_draft.specs.declared.limits.TheConstants.{GREATEST_AT, LONGEST_WAIT}
use Rattle.convoy_scenario.specs.Numbering.{with_room}
use Rattle.convoy_scenario.specs.Room.{HasRoom, has_room, is_target_or_has_room}
use Rattle.convoy_scenario.specs.Scenario.{Scenario, message_at, message_numbers, no_message}
use Rattle.convoy_scenario.specs.WellFormed.{IsMulticast}
use Rattle.convoy_scenario.specs.Widened.{target_wait}
use Rattle.convoy_scenario.specs.WidenedLaws.{RoomIsDecided, StillTargetsHaveRoom}

number_at : (n m d : ℕ) → m < n → get_or (range_with_len 0 n) m d ≡ m
number_at n m d l = get_or-range_with_len 0 n m d l ∙ zero-add m

-- a test of all numbers below n
below_pass : (p : ℕ → Bool) (n m : ℕ) → list_all p (range_with_len 0 n) ≡ true → m < n → p m ≡ true
below_pass p n m h l =
    subst (λ k. p k ≡ true) (number_at n m 0 l) (AllPass-from_list_all p (range_with_len 0 n) h m 0 (omega (arith, length-range_with_len 0 n)))

all_pass : (p : ℕ → Bool) (n : ℕ) → ((m : ℕ) → m < n → p m ≡ true) → list_all p (range_with_len 0 n) ≡ true
all_pass p n each =
    list_all-from_AllPass p (range_with_len 0 n)
    (λ m d within. let l : m < n = omega (arith, length-range_with_len 0 n) in subst (λ k. p k ≡ true) (sym (number_at n m d l)) (each m l))

module _ (plan : Scenario) where
  beside_told : (m : ℕ) → m ≢ plan.target_message → is_target_or_has_room plan m ≡ true → (message_at plan m).longest_wait + target_wait plan ≤ LONGEST_WAIT
  beside_told m d h = let other = ne_eqb m plan.target_message d in grind (arith, nat_tests, h, other)

  beside_from : (m : ℕ) → (m ≢ plan.target_message → (message_at plan m).longest_wait + target_wait plan ≤ LONGEST_WAIT) → is_target_or_has_room plan m ≡ true
  beside_from m most = elim (cases_eq m plan.target_message) [
    | inl e ↦ let same = eq-eqb m plan.target_message e in grind (arith, same)
    | inr d ↦ let high = le-leb _ _ (most d) in grind (arith, high)
  ]

  pub room_told : has_room plan ≡ true → HasRoom plan
  room_told h =
      let parts = and_parts (nat_le ((message_at plan plan.target_message).at + target_wait plan) GREATEST_AT) (list_all (is_target_or_has_room plan) (message_numbers plan)) h in
      record {
        last = leb-true _ _ parts.0;
        others = λ m d l. beside_told m d (below_pass (is_target_or_has_room plan) (length plan.multicasts) m parts.1 l);
      }

  pub room_from : HasRoom plan → has_room plan ≡ true
  room_from room =
      and_from _ _ (le-leb _ _ room.last)
      (all_pass (is_target_or_has_room plan) (length plan.multicasts) (λ m l. beside_from m (λ d. room.others m d l)))

pub with_room_is : (plan : Scenario) → has_room plan ≡ true → with_room plan ≡ Ok plan
with_room_is plan room = cond-true (has_room plan) _ _ room

pub room_decided : RoomIsDecided
room_decided plan = (room_told plan, room_from plan)

-- a message that does not wait has room
pub still_room : StillTargetsHaveRoom
still_room plan m g is known none =
    let formed : (k : ℕ) → k < length plan.multicasts → IsMulticast (length plan.groups) (length plan.places) (message_at plan k) =
    λ k l. All-get_or (IsMulticast (length plan.groups) (length plan.places)) plan.multicasts k no_message l is.messages in
    record {
      last = let at = (formed m known).at in omega (arith, at, none);
      others = λ k d l. let wait = (formed k l).wait in omega (arith, wait, none);
    }
