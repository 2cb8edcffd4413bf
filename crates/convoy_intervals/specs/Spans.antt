-- Spans: from when to when a message may arrive at a group, and be committed there, over the members of a box.
use Rattle.std.specs.Prelude.{◌≡◌, ◌≢◌, ℕ, ◌+◌, ◌*◌, ◌<◌, ◌==◌, Bool, false, ◌&&◌, List, length, slice_index_or, IsFalse}
use Rattle.convoy_scenario.specs.Scenario.{Scenario}
use Rattle.convoy_packets.specs.declared.packet.Packet.{Packet}
use Rattle.convoy_packets.specs.declared.packet.Packet.TheVariants.{Wait, Multicast, Propose}
use Rattle.convoy_intervals.specs.declared.spans.Span.{Span}
use Rattle.convoy_intervals.specs.Boxes.{Box}
use Rattle.convoy_intervals.specs.Bounds.{Tables, tables_of}

-- the least and the greatest tick of the arrival of message m at group g, in the tables of a box
abbrev pub arrival_span : Scenario → Box → ℕ → ℕ → ℕ × ℕ
arrival_span scenario ranges m g =
    ((tables_of scenario ranges).least_arrival m g, (tables_of scenario ranges).greatest_arrival m g)

-- the least and the greatest tick of its commit there
abbrev pub settling_span : Scenario → Box → ℕ → ℕ → ℕ × ℕ
settling_span scenario ranges m g =
    ((tables_of scenario ranges).least_settling m g, (tables_of scenario ranges).greatest_settling m g)

-- the span of message m at group g over a box
abbrev pub span_of : Scenario → Box → ℕ → ℕ → Span
span_of scenario ranges m g =
    record { arrival = arrival_span scenario ranges m g; settling = settling_span scenario ranges m g }

-- the delay of the packet is a part of the arrival of message m at group g: the message waits so long for its issue, or it brings the message there
abbrev pub moves_arrival : Packet → ℕ → ℕ → Bool
moves_arrival (Wait n) m g = n == m
moves_arrival (Multicast n h) m g = (n == m) && (h == g)
moves_arrival (Propose n h k) m g = false

-- the delay of the packet is a part of the settling of message m at group g: the message waits so long for its issue, or it brings the message to some group, or a stamp of it to this one
abbrev pub moves_settling : Packet → ℕ → ℕ → Bool
moves_settling (Wait n) m g = n == m
moves_settling (Multicast n h) m g = n == m
moves_settling (Propose n h k) m g = (n == m) && (k == g)

-- what stands for a span past the last one
abbrev pub no_span : Span
no_span = record { arrival = (0, 0); settling = (0, 0) }

-- the place of message m at group g in a list of spans, group by group and then message by message
abbrev pub span_place : Scenario → ℕ → ℕ → ℕ
span_place scenario m g = m * length scenario.groups + g

abbrev pub span_at : Scenario → List Span → ℕ → ℕ → Span
span_at scenario spans m g = slice_index_or spans (span_place scenario m g) no_span

-- there is a span for each group of each message
abbrev pub AreAllSpans : Scenario → List Span → Type 0
AreAllSpans scenario spans = length spans ≡ length scenario.groups * length scenario.multicasts

-- the spans of message m at the first groups say of its arrival, and of its settling, what the box does
abbrev pub AreArrivals : Scenario → Box → List Span → ℕ → ℕ → Type 0
AreArrivals scenario ranges spans m groups =
    (g : ℕ) → g < groups → (span_at scenario spans m g).arrival ≡ arrival_span scenario ranges m g

abbrev pub AreSettlings : Scenario → Box → List Span → ℕ → ℕ → Type 0
AreSettlings scenario ranges spans m groups =
    (g : ℕ) → g < groups → (span_at scenario spans m g).settling ≡ settling_span scenario ranges m g

-- the spans of all messages but m are kept
abbrev pub AreOthersKept : Scenario → ℕ → List Span → List Span → Type 0
AreOthersKept scenario m old new =
    (n g : ℕ) → n ≢ m → g < length scenario.groups → span_at scenario new n g ≡ span_at scenario old n g

-- the spans of all messages at all groups are those of the box
pub record AreSpans (scenario : Scenario) (ranges : Box) (spans : List Span) : Type 0 where
  pub all : AreAllSpans scenario spans
  pub arrivals : (m : ℕ) → m < length scenario.multicasts → AreArrivals scenario ranges spans m (length scenario.groups)
  pub settlings : (m : ℕ) → m < length scenario.multicasts → AreSettlings scenario ranges spans m (length scenario.groups)

-- the spans are those of the box, but for what the delay of one packet is a part of
pub record AreSpansBut (packet : Packet) (scenario : Scenario) (ranges : Box) (spans : List Span) : Type 0 where
  pub all : AreAllSpans scenario spans
  pub arrivals : (m g : ℕ) → m < length scenario.multicasts → g < length scenario.groups → IsFalse (moves_arrival packet m g)
      → (span_at scenario spans m g).arrival ≡ arrival_span scenario ranges m g
  pub settlings : (m g : ℕ) → m < length scenario.multicasts → g < length scenario.groups → IsFalse (moves_settling packet m g)
      → (span_at scenario spans m g).settling ≡ settling_span scenario ranges m g

-- the spans as tables
abbrev pub tables_in : Scenario → List Span → Tables
tables_in scenario spans = record {
  least_arrival = λ m g. (span_at scenario spans m g).arrival.0;
  greatest_arrival = λ m g. (span_at scenario spans m g).arrival.1;
  least_settling = λ m g. (span_at scenario spans m g).settling.0;
  greatest_settling = λ m g. (span_at scenario spans m g).settling.1;
}
