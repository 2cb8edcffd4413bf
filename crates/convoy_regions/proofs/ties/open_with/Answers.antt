use Rattle.std.proofs.Common.{ap, arith, length}
use Rattle.convoy_regions.specs.Stages.{stages_of}
use Rattle.convoy_regions.specs.Regions.{is_open_tie}
use Rattle.convoy_regions.proofs.Walks.{none_up_to}
use Rattle.convoy_regions.proofs.ties.open_with.Goals as goal

pub returns-clause-none : goal.returns-clause-none
returns-clause-none c =
    let all = ap length c.requires.stages in
    none_up_to (is_open_tie c.args.instance.now (record { ranges = c.args.tracked.now.delay_box; before = c.args.known.now }) c.args.first)
    (length (stages_of c.args.instance.now))
    (λ k below. c.loop-second.invariant k (omega (arith, c.loop-second-test.false, all, below)))
