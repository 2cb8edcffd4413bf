use Rattle.std.proofs.Common.{ℕ, refl}
use Rattle.convoy_packets.specs.declared.packet.Packet.TheVariants.{Wait}
use Rattle.convoy_intervals.proofs.PacketDelays.{place_in_box, issue_at_end}
use Rattle.convoy_intervals.proofs.times.issues.Goals as goal

pub range_of-least-requires : goal.range_of-least-requires
range_of-least-requires c =
    place_in_box _ _ _ (Wait c.args.message) _ c.table.ensures.value c.requires.inside c.wait.ensures

pub returns-clause-least : goal.returns-clause-least
returns-clause-least c =
    let e = issue_at_end c.args.instance.now c.table.result.now c.args.delay_box.now c.table.ensures.value (λ (r : ℕ × ℕ). r.0) refl c.args.message in
    cc

pub returns-clause-greatest : goal.returns-clause-greatest
returns-clause-greatest c =
    let e = issue_at_end c.args.instance.now c.table.result.now c.args.delay_box.now c.table.ensures.value (λ (r : ℕ × ℕ). r.1) refl c.args.message in
    cc
