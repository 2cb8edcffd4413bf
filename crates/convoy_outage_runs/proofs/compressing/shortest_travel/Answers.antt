use Rattle.std.proofs.Common.{◌≡◌, ℕ, ◌+◌, min, Some, length, drop, arith, ap, refl, subst, sym, ◌∙◌}
use Rattle.std.specs.List.{slice_get}
use Rattle.convoy_packets.specs.Assignment.{range_of, ranges_of}
use Rattle.convoy_packets.specs.Packets.{packets_of}
use Rattle.convoy_packets.specs.Table.{PacketTable}
use Rattle.convoy_outage_runs.specs.Compressed.{shortest_travel}
use Rattle.convoy_outage_runs.proofs.Shortest.{none_left, range_at, shortest_of, travels_next, waits_next}
use Rattle.convoy_outage_runs.proofs.compressing.shortest_travel.Goals as goal
use Rattle.convoy_outage_runs.proofs.compressing.shortest_travel.Goals.{then-not-is_wait, else-not-is_wait}

pub loop-place-init : goal.loop-place-init
unfolding shortest_travel
loop-place-init c = refl

pub loop-place-preserved : goal.loop-place-preserved
unfolding ranges_of
loop-place-preserved c =
    let plan = c.args.instance.now in
    let place = c.loop-place.place in
    let packet = c.packet.result in
    let table = c.table-table.ensures.value in
    let at = subst (λ packets. slice_get packets place ≡ Some packet) (ap (λ (t : PacketTable). t.packets) table) c.packet.ensures in
    let next = λ (so_far : ℕ). shortest_of (range_of plan) so_far (drop (place + 1) (packets_of plan)) in
    elim c.if-not-is_wait.branch [
      | then-not-is_wait w ↦
          let range_is = subst (λ ranges. slice_get ranges place ≡ Some w.range.result) (ap (λ (t : PacketTable). t.ranges) table) w.range.ensures.value in
          let found = range_at (range_of plan) (packets_of plan) place packet w.range.result at range_is in
          ap next (w.shortest-is ∙ w.min-shortest.ensures ∙ ap (λ (r : ℕ × ℕ). min c.loop-place.shortest r.0) found)
          ∙ travels_next (range_of plan) (packets_of plan) _ _ place c.loop-place.invariant packet at (sym c.is_wait.ensures ∙ w.if-not-is_wait.true)
      | else-not-is_wait w ↦
          ap next w.shortest-is
          ∙ waits_next (range_of plan) (packets_of plan) _ _ place c.loop-place.invariant packet at (sym c.is_wait.ensures ∙ w.if-not-is_wait.false)
    ]

pub returns : goal.returns
returns c =
    let is = ap (λ (t : PacketTable). length t.packets) c.table-table.ensures.value in
    let count = c.len-place-end.ensures.value in
    none_left (range_of c.args.instance.now) (packets_of c.args.instance.now) _ _ c.loop-place.place c.loop-place.invariant
    (omega (arith, is, count, c.loop-place-test.false))
