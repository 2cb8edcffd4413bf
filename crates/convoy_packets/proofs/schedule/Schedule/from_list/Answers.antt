use Rattle.std.proofs.Common.{◌≡◌, length, sym, subst, rules}
use Rattle.convoy_packets.specs.Assignment.{Schedule, AreWithin}
use Rattle.convoy_packets.proofs.GivenLists.{given_within}
use Rattle.convoy_packets.proofs.schedule.Schedule.from_list.Goals as goal

pub returns-clause-within : goal.returns-clause-within
returns-clause-within c =
    let long : length c.args.list.now ≡ length c.ranges-ranges.result.now = search rules in
    subst (λ (s : Schedule). AreWithin c.args.table.now.ranges s.delays) (sym c.of.ensures)
    (rw (← c.ranges-ranges.ensures.value) (given_within c.ranges-ranges.result.now c.args.list.now c.in_ok-delays.delays.items long c.in_ok-delays.ensures))
