-- No wait in the widened box is longer than the limit; and the widened box, range by range.
use Rattle.std.proofs.Common.{◌≡◌, ℕ, ◌+◌, ◌-◌, ◌<◌, ◌≤◌, IsTrue, inl, inr, length, get_or, slice_set, Some, sym, ap, subst, ◌∙◌, arith}
use Rattle.std.specs.List.{slice_get}
use Rattle.std.proofs.lemmas.Bool.{cases_eq}
use Rattle.std.proofs.lemmas.List.{get_or-map, get_or-set_same, get_or-set_other, length-map, length-set, same_lists}
use Rattle.std.proofs.lemmas.Option.{same_Some, slice_get-get_or, slice_get_within}
use Rattle.std.proofs.lemmas.List.Elements.{All-get_or}
use Rattle.convoy_draft.specs.declared.limits.TheConstants.{LONGEST_WAIT}
use Rattle.convoy_scenario.specs.Scenario.{Scenario, no_message}
use Rattle.convoy_scenario.specs.WellFormed.{IsMulticast, IsScenario}
use Rattle.convoy_packets.specs.declared.packet.Packet.{Packet}
use Rattle.convoy_packets.specs.declared.packet.Packet.TheVariants.{Wait}
use Rattle.convoy_packets.specs.Packets.{packets_of}
use Rattle.convoy_packets.specs.ScheduleLaws.{is_sent}
use Rattle.convoy_intervals.specs.Boxes.{Box, IsBox}
use Rattle.convoy_scenario.specs.Widened.{target_wait, widened}
use Rattle.convoy_origin.specs.WidenedBoxes.{range_in, target_range, widened_box, widened_range}
use Rattle.convoy_origin.proofs.WidenedParts.{is_widened, waits_there}
use Rattle.convoy_origin.proofs.WidenedBoxes.{range_inside}

module _ (plan : Scenario) (ranges : Box) (is : IsBox plan ranges) where
  -- a message waits in the widened box no longer than the limit
  wait_fits : IsScenario (widened plan) → (m : ℕ) → IsTrue (is_sent (widened plan) (Wait m)) → (widened_range plan ranges (Wait m)).1 ≤ LONGEST_WAIT
  wait_fits well m sent =
      let there = waits_there plan (widened plan) (is_widened plan) m sent in
      let many = (is_widened plan).alike.count in
      let message = All-get_or (IsMulticast (length (widened plan).groups) (length (widened plan).places)) (widened plan).multicasts m no_message (omega (arith, many, there.1)) well.messages in
      let longest = message.wait in
      let inside = (range_inside plan ranges (Wait m) is sent).2 in
      omega arith

  -- the same, told from the range of the wait and that of the target's
  pub told_wait_fits : IsScenario (widened plan) → (p : Packet) (m : ℕ) → p ≡ Wait m → IsTrue (is_sent (widened plan) p)
      → (mine targets : ℕ × ℕ) (longest : ℕ) → mine ≡ range_in plan ranges (Wait m) → targets ≡ target_range plan ranges → longest ≡ target_wait plan
      → (mine.1 + longest) - targets.0 ≤ LONGEST_WAIT
  told_wait_fits well p m here sent mine targets longest is_mine is_targets is_longest =
      let fits = wait_fits well m (subst (λ q. IsTrue (is_sent (widened plan) q)) here sent) in
      let most = ap (λ (r : ℕ × ℕ). r.1) is_mine in
      let first = ap (λ (r : ℕ × ℕ). r.0) is_targets in
      omega arith

-- ---- the widened box, range by range
-- a list of ranges has those of the widened box before a place, and as many in all
pub record IsMovedTo (place : ℕ) (plan : Scenario) (ranges wide : Box) : Type 0 where
  pub long : length wide ≡ length (packets_of (widened plan))
  pub moved : (i : ℕ) (d : ℕ × ℕ) → i < place → get_or wide i d ≡ get_or (widened_box plan ranges) i d

module _ (plan : Scenario) (ranges wide : Box) where
  pub one_moved : (place : ℕ) (p : Packet) (range : ℕ × ℕ) → slice_get (packets_of (widened plan)) place ≡ Some p → range ≡ widened_range plan ranges p
      → IsMovedTo place plan ranges wide → IsMovedTo (place + 1) plan ranges (slice_set wide place range)
  unfolding widened_box
  one_moved place p range stands is so_far =
      let here = slice_get_within (packets_of (widened plan)) place p stands in
      let same : get_or (packets_of (widened plan)) place p ≡ p =
      same_Some (get_or (packets_of (widened plan)) place p) p (sym (slice_get-get_or (packets_of (widened plan)) place p here) ∙ stands) in
      let long = so_far.long in
      let at_place : (d : ℕ × ℕ) → get_or (slice_set wide place range) place d ≡ get_or (widened_box plan ranges) place d = λ d.
      get_or-set_same wide place range d (omega arith) ∙ is
      ∙ sym (get_or-map (widened_range plan ranges) (packets_of (widened plan)) place p d here ∙ ap (widened_range plan ranges) same) in
      record {
        long = length-set wide place range ∙ so_far.long;
        moved = λ i d l. elim (cases_eq i place) [
          | inl e ↦ subst (λ k. get_or (slice_set wide place range) k d ≡ get_or (widened_box plan ranges) k d) (sym e) (at_place d)
          | inr other ↦ get_or-set_other wide place i range d other ∙ so_far.moved i d (omega arith)
        ];
      }

  pub all_moved : (place : ℕ) → length (packets_of (widened plan)) ≤ place → IsMovedTo place plan ranges wide → wide ≡ widened_box plan ranges
  unfolding widened_box
  all_moved place l is =
      let long = is.long in
      let made = length-map (packets_of (widened plan)) (widened_range plan ranges) in
      same_lists wide (widened_box plan ranges) (omega arith) (λ i d here. is.moved i d (omega arith))
