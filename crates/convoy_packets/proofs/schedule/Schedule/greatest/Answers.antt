use Rattle.std.proofs.Common.{sym, subst}
use Rattle.convoy_packets.specs.Assignment.{Schedule, AreWithin}
use Rattle.convoy_packets.proofs.Ranges.{AreWithin-greatest}
use Rattle.convoy_packets.proofs.schedule.Schedule.greatest.Goals as goal

pub returns-clause-within : goal.returns-clause-within
returns-clause-within c =
    let table = c.args.table.now in
    subst (λ (s : Schedule). AreWithin table.ranges s.delays) (sym c.of.ensures)
    (rw (c.in_ok-delays.ensures, c.ranges-2.ensures.value) (AreWithin-greatest table.ranges c.ranges-2.ensures.lawful.ranges))
