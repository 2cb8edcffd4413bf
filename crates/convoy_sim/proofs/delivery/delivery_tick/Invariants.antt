use Rattle.std.proofs.Common.{◌≡◌, ◌-◌, map, max, length}
use Rattle.std.specs.List.{fold, filter, range_with_len}
use Rattle.convoy_sim.specs.Times.{settle}
use Rattle.convoy_sim.specs.StampTables.{is_ahead}
use Rattle.convoy_sim.proofs.delivery.delivery_tick.Given as goal

-- the last commit of those that have been looked at and those that are left is the last of all
abbrev pub invariant-loop-other : goal.invariant-loop-other
invariant-loop-other over l =
    fold max l.tick (map (λ n. settle (over.T.Ticks.scheduled l.times).scenario (over.T.Ticks.scheduled l.times).schedule n l.group)
    (filter (is_ahead l.stamps l.group l.last) (range_with_len l.other (length (over.T.Ticks.scheduled l.times).scenario.multicasts - l.other))))
    ≡ fold max (settle (over.T.Ticks.scheduled l.times).scenario (over.T.Ticks.scheduled l.times).schedule l.message l.group) (map (λ n. settle (over.T.Ticks.scheduled l.times).scenario (over.T.Ticks.scheduled l.times).schedule n l.group)
    (filter (is_ahead l.stamps l.group l.last) (range_with_len 0 (length (over.T.Ticks.scheduled l.times).scenario.multicasts))))
