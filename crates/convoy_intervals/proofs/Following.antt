-- The spans of a box in which one packet has got another range.
use Rattle.std.specs.Prelude.{◌≡◌, ◌≢◌, ℕ, ◌<◌, ◌==◌, Bool, true, false, ◌&&◌, not, List, length, Some, IsFalse, IsTrue}
use Rattle.std.specs.List.{slice_get}
use Rattle.std.proofs.Common.{refl, sym, ap, ◌∙◌, arith, set, inl, inr}
use Rattle.std.proofs.lemmas.Bool.{cases_eq}
use Rattle.std.proofs.lemmas.Bool.Decides.{nat_tests}
use Rattle.convoy_scenario.specs.Scenario.{Scenario, GoesTo, message_at, is_addressed, stamp_takes_time}
use Rattle.convoy_packets.specs.ScheduleLaws.{is_sent}
use Rattle.convoy_packets.specs.declared.packet.Packet.{Packet}
use Rattle.convoy_packets.specs.declared.packet.Packet.TheVariants.{Propose}
use Rattle.convoy_packets.specs.Packets.{packets_of}
use Rattle.convoy_intervals.specs.declared.spans.Span.{Span}
use Rattle.convoy_intervals.specs.BoxLaws.{SpansAreCarried}
use Rattle.convoy_intervals.specs.Spans.{AreSpans, AreSpansBut, moves_settling, span_at, span_place, arrival_span, settling_span}
use Rattle.convoy_intervals.proofs.SpanRows.{written, kept_message, kept_group, all_set}

-- the spans of a box are those of one in which a packet has another range, but for what the packet moves
pub AreSpansBut-carried : (plan : Scenario) (ranges : List (ℕ × ℕ)) (i : ℕ) (range : ℕ × ℕ) (packet : Packet) (spans : List Span) → SpansAreCarried → slice_get (packets_of plan) i ≡ Some packet → AreSpans plan ranges spans → AreSpansBut packet plan (set ranges i range) spans
AreSpansBut-carried plan ranges i range packet spans carried stands are = record {
  all = are.all;
  arrivals = λ m g known group still. are.arrivals m known g group ∙ sym ((carried plan ranges i range packet m g stands).0 still);
  settlings = λ m g known group still. are.settlings m known g group ∙ sym ((carried plan ranges i range packet m g stands).1 still);
}

-- what a stamp of another message, or to another group, does not move
still_message : (n h k m g : ℕ) → m ≢ n → IsFalse (moves_settling (Propose n h k) m g)
still_message n h k m g differs = grind (arith, nat_tests, differs)

still_group : (n h k m g : ℕ) → g ≢ k → IsFalse (moves_settling (Propose n h k) m g)
still_group n h k m g differs = grind (arith, nat_tests, differs)

module _ (plan : Scenario) (ranges : List (ℕ × ℕ)) (old : List Span) where
  -- a stamp of a message to a group: the settling of the message at the group is written
  module _ (m h k : ℕ) (span : Span) (known : m < length plan.multicasts) (group : k < length plan.groups) (but : AreSpansBut (Propose m h k) plan ranges old) (arrival : span.arrival ≡ (span_at plan old m k).arrival) (settling : span.settling ≡ settling_span plan ranges m k) where
    abbrev new : List Span
    new = set old (span_place plan m k) span

    here : span_at plan new m k ≡ span
    here = written plan old but.all m k known group span

    new_arrival : (n g : ℕ) → n < length plan.multicasts → g < length plan.groups → (span_at plan new n g).arrival ≡ arrival_span plan ranges n g
    new_arrival n g is_known in_group = elim (cases_eq n m) [
      | inr differs ↦ ap (λ (s : Span). s.arrival) (kept_message plan old but.all m k known group n g span differs in_group) ∙ but.arrivals n g is_known in_group refl
      | inl e ↦ elim (cases_eq g k) [
        | inr differs ↦ ap (λ (s : Span). s.arrival) (kept_group plan old but.all m k known group n g span differs in_group) ∙ but.arrivals n g is_known in_group refl
        | inl f ↦ ap (λ x. (span_at plan new x g).arrival) e ∙ ap (λ y. (span_at plan new m y).arrival) f ∙ ap (λ (s : Span). s.arrival) here ∙ arrival ∙ but.arrivals m k known group refl ∙ ap (λ x. arrival_span plan ranges x k) (sym e) ∙ ap (λ y. arrival_span plan ranges n y) (sym f)
      ]
    ]

    new_settling : (n g : ℕ) → n < length plan.multicasts → g < length plan.groups → (span_at plan new n g).settling ≡ settling_span plan ranges n g
    new_settling n g is_known in_group = elim (cases_eq n m) [
      | inr differs ↦ ap (λ (s : Span). s.settling) (kept_message plan old but.all m k known group n g span differs in_group) ∙ but.settlings n g is_known in_group (still_message m h k n g differs)
      | inl e ↦ elim (cases_eq g k) [
        | inr differs ↦ ap (λ (s : Span). s.settling) (kept_group plan old but.all m k known group n g span differs in_group) ∙ but.settlings n g is_known in_group (still_group m h k n g differs)
        | inl f ↦ ap (λ x. (span_at plan new x g).settling) e ∙ ap (λ y. (span_at plan new m y).settling) f ∙ ap (λ (s : Span). s.settling) here ∙ settling ∙ ap (λ x. settling_span plan ranges x k) (sym e) ∙ ap (λ y. settling_span plan ranges n y) (sym f)
      ]
    ]

    pub AreSpans-propose : AreSpans plan ranges new
    AreSpans-propose = record {
      all = all_set plan old but.all m k known group span;
      arrivals = λ n is_known g in_group. new_arrival n g is_known in_group;
      settlings = λ n is_known g in_group. new_settling n g is_known in_group;
    }

-- a stamp that the scenario sends goes to a destination of its message
pub propose_goes : (plan : Scenario) (m h k : ℕ) → IsTrue (is_sent plan (Propose m h k)) → GoesTo plan m k
propose_goes plan m h k sent =
    and_both (is_addressed (message_at plan m) h) (is_addressed (message_at plan m) k) (stamp_takes_time plan h k) sent where
      and_both : (a b c : Bool) → (a && b && c) ≡ true → b ≡ true
      and_both a true c both = refl
      and_both true false c both = both
      and_both false false c both = both
