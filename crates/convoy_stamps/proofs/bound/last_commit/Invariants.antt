use Rattle.std.proofs.Common.{◌≡◌, max, map, filter, fold}
use Rattle.std.specs.List.{range_with_len}
use Rattle.convoy_stamps.specs.Spans.{tables_in, may_hold_back}
use Rattle.convoy_stamps.proofs.bound.last_commit.Given as goal

abbrev pub invariant-loop-message : goal.invariant-loop-message
invariant-loop-message l =
    l.last
    ≡ fold max l.target.settling.1 (map (λ n. (tables_in l.spans).greatest_settling n l.spans.scenario.target_group)
    (filter (may_hold_back l.spans l.target.settling.1 l.highest) (range_with_len 0 l.message)))
