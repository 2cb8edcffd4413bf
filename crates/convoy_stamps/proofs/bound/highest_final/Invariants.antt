use Rattle.std.proofs.Common.{◌≡◌, map, take, fold}
use Rattle.convoy_sim.specs.Stamps.{later, no_stamp}
use Rattle.convoy_stamps.specs.StampBounds.{highest_stamp}
use Rattle.convoy_stamps.specs.Spans.{tables_in}
use Rattle.convoy_stamps.proofs.bound.highest_final.Given as goal

abbrev pub invariant-loop-group : goal.invariant-loop-group
invariant-loop-group l =
    l.highest
    ≡ fold later no_stamp (map (highest_stamp l.spans.scenario (tables_in l.spans) l.spans.scenario.target_message) (take l.group-index l.group-items))
