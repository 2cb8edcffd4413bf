use Rattle.std.proofs.Common.{arith, sym, ap}
use Rattle.convoy_packets.specs.OrderLists.{rank_count_at}
use Rattle.convoy_packets.proofs.OrderLists.{counted_more, counted_skipped, marks_over}
use Rattle.convoy_packets.proofs.order.Order.rank_count.Goals.{then-has_moments, else-has_moments}
use Rattle.convoy_packets.proofs.order.Order.rank_count.Goals as goal

pub loop-place-preserved : goal.loop-place-preserved
loop-place-preserved c =
    let plan = c.args.scenario.now in
    let l = c.loop-place in
    elim c.if-has_moments.branch [
      | then-has_moments w ↦
          let more = counted_more plan l.place c.loop-place-test.true (sym (w.if-has_moments.ensures)) in
          rw w.count-is (record { so_far = omega (arith, more, l.invariant.so_far); few = omega (arith, l.invariant.few) })
      | else-has_moments w ↦
          let same = counted_skipped plan l.place c.loop-place-test.true (sym (w.if-has_moments.ensures)) in
          rw w.count-is (record { so_far = omega (arith, same, l.invariant.so_far); few = omega (arith, l.invariant.few) })
    ]

pub returns-clause-value : goal.returns-clause-value
returns-clause-value c =
    let none = ap rank_count_at (marks_over c.args.scenario.now c.loop-place.place c.loop-place-test.false) in
    omega (arith, none, c.loop-place.invariant.so_far)
