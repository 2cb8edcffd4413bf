-- The destinations of messages are groups of the scenario.
use Rattle.std.specs.Prelude.{◌≡◌, ℕ, ◌<◌, ◌≤◌, ◌==◌, Bool, true, false, ◌||◌, List, [], ◌∷◌, length, All}
use Rattle.std.specs.List.{list_any}
use Rattle.std.proofs.Common.{refl, subst, arith, inl, inr}
use Rattle.std.proofs.lemmas.Bool.{cases_lt, false≢true}
use Rattle.std.proofs.lemmas.Bool.Decides.{nat_tests}
use Rattle.std.proofs.lemmas.List.{get_or_past}
use Rattle.std.proofs.lemmas.List.Elements.{All-head, All-tail}
use Rattle.convoy_scenario.specs.Scenario.{Scenario, no_message, message_at, is_addressed, GoesTo}
use Rattle.convoy_scenario.specs.WellFormed.{IsScenario}
use Rattle.convoy_packets.specs.Assignment.{IsAssignment, Schedule, ranges_of}
use Rattle.convoy_packets.specs.Table.{least_of, least_delays, greatest_delays}
use Rattle.convoy_packets.proofs.Orders.{fixed_is_order}
use Rattle.convoy_sim.specs.Times.{issue}
use Rattle.convoy_sim.specs.ProtocolLaws.{ArrivesWithinOneDelay}
use Rattle.convoy_sim.proofs.Destinations.{issued_soon}
use Rattle.convoy_intervals.specs.Boxes.{IsBox, greatest_of}
use Rattle.convoy_intervals.specs.Spans.{arrival_span}
use Rattle.convoy_intervals.proofs.Members.{AreRanges-box, AreWithin-outer, IsIn-least, IsIn-greatest}

-- a message that goes somewhere is one of the scenario
pub message_of_goes : (plan : Scenario) (m g : ℕ) → GoesTo plan m g → m < length plan.multicasts
message_of_goes plan m g goes = elim (cases_lt m (length plan.multicasts)) [
  | inl below ↦ below
  | inr past ↦ absurd (false≢true (subst (λ x. is_addressed x g ≡ true) (get_or_past plan.multicasts m no_message past) goes))
]

-- what is listed among numbers below n is below n
below_any : (g n : ℕ) (hs : List ℕ) → All (λ h. h < n) hs → list_any (λ h. h == g) hs ≡ true → g < n
below_any g n [] below listed = absurd (false≢true listed)
below_any g n (h ∷ hs) below listed =
    by_test (h == g) refl (All-head (λ k. k < n) h hs below) (λ rest. below_any g n hs (All-tail (λ k. k < n) h hs below) rest) listed where
      by_test : (same : Bool) → (h == g) ≡ same → h < n → (list_any (λ k. k == g) hs ≡ true → g < n) → (same || list_any (λ k. k == g) hs) ≡ true → g < n
      by_test true is here rest found = grind (arith, nat_tests, is, here)
      by_test false is here rest found = rest found

module _ (plan : Scenario) (well : IsScenario plan) where
  -- it goes to a group of the scenario
  pub group_of_goes : (m g : ℕ) → GoesTo plan m g → g < length plan.groups
  group_of_goes m g goes =
      below_any g (length plan.groups) (message_at plan m).destinations (well.messages m no_message (message_of_goes plan m g goes)).known goes

  -- and no message is issued later than it may be
  pub issued_by : {schedule : Schedule} → IsAssignment plan schedule → (m : ℕ) → m < length plan.multicasts → issue plan schedule m ≤ 1065535
  issued_by {schedule} is m known = issued_soon plan well schedule is m known

  -- so over a box of the scenario each arrival fits into its number
  pub arrival_fits : ArrivesWithinOneDelay → (ranges : List (ℕ × ℕ)) → IsBox plan ranges → (m g : ℕ) → m < length plan.multicasts → ((arrival_span plan ranges m g).0 ≤ 1131070) × ((arrival_span plan ranges m g).1 ≤ 1131070)
  arrival_fits soon ranges box m g known =
      let all = AreRanges-box (ranges_of plan) ranges box in
      let least : IsAssignment plan (least_of ranges) = record {
        delays = AreWithin-outer (ranges_of plan) ranges (least_delays ranges) box (IsIn-least ranges all);
        order = fixed_is_order plan;
      } in
      let most : IsAssignment plan (greatest_of ranges) = record {
        delays = AreWithin-outer (ranges_of plan) ranges (greatest_delays ranges) box (IsIn-greatest ranges all);
        order = fixed_is_order plan;
      } in
      let low = soon plan (least_of ranges) well least m g in
      let high = soon plan (greatest_of ranges) well most m g in
      (omega (arith, low, issued_by least m known, well.delay_high), omega (arith, high, issued_by most m known, well.delay_high))
