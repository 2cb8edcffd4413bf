use Rattle.std.proofs.Common.{◌≡◌, drop}
use Rattle.std.specs.List.{list_all}
use Rattle.convoy_packets.specs.Packets.{packets_of}
use Rattle.convoy_fits.specs.Finer.{has_finer_range}
use Rattle.convoy_fits.proofs.fine_test.have_finer_ranges.Given as goal

-- all have such ranges if those have that are left
abbrev pub invariant-loop-at : goal.invariant-loop-at
invariant-loop-at l =
    list_all (has_finer_range l.factor l.scenario l.finer) (drop l.at (packets_of l.finer)) ≡ list_all (has_finer_range l.factor l.scenario l.finer) (packets_of l.finer)
