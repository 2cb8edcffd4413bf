-- What is kept of a box, and of one in which a packet has got a smaller range.
use Rattle.std.specs.Prelude.{◌≡◌, ℕ, ◌<◌, ◌≤◌, List, length, Some}
use Rattle.std.specs.List.{slice_get}
use Rattle.std.proofs.Common.{sym, ap, subst, ◌∙◌, arith, set}
use Rattle.convoy_scenario.specs.Scenario.{Scenario}
use Rattle.convoy_scenario.specs.WellFormed.{IsScenario}
use Rattle.convoy_packets.specs.Assignment.{ranges_of}
use Rattle.convoy_packets.specs.Packets.{packets_of}
use Rattle.convoy_packets.specs.Table.{PacketTable, table_of}
use Rattle.convoy_packets.specs.declared.packet.Packet.{Packet}
use Rattle.convoy_intervals.specs.declared.spans.Span.{Span}
use Rattle.convoy_intervals.specs.Boxes.{Box, IsBox, range_at}
use Rattle.convoy_intervals.specs.Bounds.{plain_bound, plain_bound_over, tables_of}
use Rattle.convoy_intervals.specs.BoxLaws.{SpansAreCarried}
use Rattle.convoy_intervals.specs.Spans.{AreSpans, AreSpansBut, tables_in}
use Rattle.convoy_intervals.specs.Tracked.{Tracked, IsTracked}
use Rattle.convoy_intervals.proofs.Destinations.{group_of_goes, message_of_goes}
use Rattle.convoy_intervals.proofs.Following.{AreSpansBut-carried}
use Rattle.convoy_intervals.proofs.Halves.{AllZip-set_inside}
use Rattle.convoy_intervals.proofs.PacketDelays.{length-box}
use Rattle.convoy_intervals.proofs.PlainBound.{plain_bound_over-same}

-- the bound over the spans of a box is that of the box
pub plain_bound-spans : (plan : Scenario) (ranges : Box) (spans : List Span) → IsScenario plan → AreSpans plan ranges spans → plain_bound_over plan (tables_in plan spans) ≡ plain_bound plan ranges
unfolding plain_bound
plain_bound-spans plan ranges spans well are =
    let g = plan.target_group in
    plain_bound_over-same plan (tables_in plan spans) (tables_of plan ranges) well.addressed (record {
      arrivals = λ n goes. ap (λ (p : ℕ × ℕ). p.0) (are.arrivals n (message_of_goes plan n g goes) g (group_of_goes plan well n g goes));
      settlings = λ n goes. ap (λ (p : ℕ × ℕ). p.1) (are.settlings n (message_of_goes plan n g goes) g (group_of_goes plan well n g goes));
    })

-- a box of the scenario with a smaller range in one place
module _ (plan : Scenario) (fields whole : Tracked) (spans : List Span) (bound : ℕ) (is : IsTracked fields spans bound) (same : fields ≡ whole) (of_scenario : whole.scenario ≡ plan) where
  abbrev over : Scenario → Tracked
  over scenario = record { scenario = scenario; delay_box = whole.delay_box }

  tracked : IsTracked (over plan) spans bound
  tracked = subst (λ (t : Tracked). IsTracked t spans bound) (same ∙ ap over of_scenario) is

  module _ (packet : ℕ) (place : packet < length whole.delay_box) where
    -- the packet is one of the table
    pub stands_in_table : (table : PacketTable) → table ≡ table_of plan → packet < length table.packets
    stands_in_table table packets =
        omega (arith, place, length-box plan whole.delay_box tracked.inside, ap (λ (t : PacketTable). length t.packets) packets)

    module _ (range : ℕ × ℕ) (new : Box) (is_new : new ≡ set fields.delay_box packet range) where
      new_box : new ≡ set whole.delay_box packet range
      new_box = is_new ∙ ap (λ (t : Tracked). set t.delay_box packet range) same

      pub narrower_box : range.0 ≤ range.1 → (range_at whole.delay_box packet).0 ≤ range.0 → range.1 ≤ (range_at whole.delay_box packet).1 → IsBox plan new
      narrower_box holds low high =
          rw new_box (AllZip-set_inside (ranges_of plan) whole.delay_box packet range tracked.inside place holds low high)

      -- the spans are those of the new box, but for what the packet moves
      pub narrower_spans : (now : List Span) (p : Packet) (table : PacketTable) → SpansAreCarried → table ≡ table_of plan → slice_get table.packets packet ≡ Some p → now ≡ spans → AreSpansBut p plan new now
      narrower_spans now p table carried packets stands is_now =
          let stands' : slice_get (packets_of plan) packet ≡ Some p = ap (λ (t : PacketTable). slice_get t.packets packet) (sym packets) ∙ stands in
          rw (new_box, is_now) (AreSpansBut-carried plan whole.delay_box packet range p spans carried stands' tracked.kept)
