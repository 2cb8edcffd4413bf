use Rattle.std.proofs.Common.{◌<◌, ap, arith, length}
use Rattle.std.specs.List.{list_any, range_with_len}
use Rattle.convoy_regions.specs.Stages.{stages_of}
use Rattle.convoy_regions.specs.Regions.{Region, is_open_tie}
use Rattle.convoy_regions.proofs.Walks.{none_up_to}
use Rattle.convoy_regions.proofs.ties.open_tie.Goals as goal

pub returns-clause-none : goal.returns-clause-none
returns-clause-none c =
    let plan = c.args.instance.now in
    let region : Region = record { ranges = c.args.tracked.now.delay_box; before = c.args.before.now } in
    let count = length (stages_of plan) in
    let all = ap length c.in_ok-stages.ensures.value in
    let same = ap (λ p. length (stages_of p)) c.scenario.ensures.value in
    none_up_to (λ k. list_any (is_open_tie plan region k) (range_with_len 0 count)) count
    (λ k below.
    let passed : k < c.loop-first.first = grind (arith, below, c.loop-first-test.false, c.len-first-end.ensures, all, same) in
    rw (← c.of-known.ensures) (c.loop-first.invariant k passed))
