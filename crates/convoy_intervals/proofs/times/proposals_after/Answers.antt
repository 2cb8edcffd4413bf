use Rattle.std.proofs.Common.{ℕ, refl, ap}
use Rattle.convoy_packets.specs.declared.packet.Packet.TheVariants.{Propose}
use Rattle.convoy_intervals.proofs.PacketDelays.{place_in_box, propose_at_end}
use Rattle.convoy_intervals.proofs.times.proposals_after.Goals as goal

pub range_of-least-requires : goal.range_of-least-requires
range_of-least-requires c =
    place_in_box _ _ _ (Propose c.args.message c.args.from c.args.to) _ c.table.ensures.value c.requires.inside c.propose.ensures

pub returns-clause-least : goal.returns-clause-least
returns-clause-least c =
    let a = ap (λ (x : ℕ × ℕ). x.0) c.requires.arrival in
    let e = propose_at_end c.args.instance.now c.table.result.now c.args.delay_box.now c.table.ensures.value (λ (r : ℕ × ℕ). r.0) refl c.args.message c.args.to c.args.from in
    cc

pub returns-clause-greatest : goal.returns-clause-greatest
returns-clause-greatest c =
    let a = ap (λ (x : ℕ × ℕ). x.1) c.requires.arrival in
    let e = propose_at_end c.args.instance.now c.table.result.now c.args.delay_box.now c.table.ensures.value (λ (r : ℕ × ℕ). r.1) refl c.args.message c.args.to c.args.from in
    cc
