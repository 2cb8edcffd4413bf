use Rattle.std.proofs.Common.{◌≡◌, ◌∙◌, ap, length, refl, subst, sym}
use Rattle.std.proofs.lemmas.List.{length-map}
use Rattle.convoy_packets.specs.Assignment.{range_of, ranges_of}
use Rattle.convoy_packets.proofs.Ranges.{ranges_whole}
use Rattle.convoy_packets.specs.Table.{AreWholeDelays, IsTable}
use Rattle.convoy_packets.proofs.table.PacketTable.of.Goals as goal

listed : (c : goal.In_ok-slots) → c.in_ok-ranges.ranges.items ≡ ranges_of c.args.scenario.now
unfolding ranges_of
listed c = rw (c.in_ok-ranges.ensures.value, c.deref.ensures.value, c.in_ok-packets.ensures.value) refl

lawful : (c : goal.In_ok-slots) → IsTable (record { timed = c.is_timed-timed.result; packets = c.in_ok-packets.packets.items; ranges = c.in_ok-ranges.ranges.items })
lawful c = record {
  one_each = ap length c.in_ok-ranges.ensures.value ∙ length-map c.deref.result.now (range_of c.args.scenario.now) ∙ ap length c.deref.ensures.value;
  few = c.in_ok-packets.ensures.few;
  ranges = c.in_ok-ranges.ensures.lawful;
  whole = λ untimed.
      let ranges : c.in_ok-ranges.ranges.items ≡ ranges_of c.args.scenario.now = listed c in
      subst AreWholeDelays (sym ranges) (ranges_whole c.args.scenario.now c.is_timed-timed.ensures.lawful (sym c.is_timed-timed.ensures.value ∙ untimed));
}

pub invariant_of-result : goal.invariant_of-result
invariant_of-result c = record {
  lawful = lawful c;
  known = c.in_ok-packets.ensures.known;
  held = rw c.deref-2.ensures.value at c.in_ok-slots.ensures;
}

pub returns-clause-value : goal.returns-clause-value
unfolding ranges_of
returns-clause-value c =
    rw (c.is_timed-timed.ensures.value, c.in_ok-ranges.ensures.value, c.deref.ensures.value, c.in_ok-packets.ensures.value) refl

pub returns-clause-lawful : goal.returns-clause-lawful
returns-clause-lawful c = lawful c
