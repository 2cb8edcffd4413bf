use Rattle.std.proofs.Common.{◌≡◌, drop}
use Rattle.convoy_sim.specs.StampTables.{no_stamps, with_moments, IsBelow}
use Rattle.convoy_sim.proofs.stamps.Stamps.of.Given as goal

-- reading the moments that are left gives what the whole gives
abbrev pub invariant-loop-at : goal.invariant-loop-at
invariant-loop-at l = record {
  read : with_moments l.stamps (drop l.at l.agenda) ≡ with_moments no_stamps l.agenda;
  below : IsBelow l.at l.stamps;
}
