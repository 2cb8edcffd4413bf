use Rattle.std.proofs.Common.{arith}
use Rattle.convoy_share.proofs.searching.search_from.Goals as goal

pub returns-in-Ended-clause-value : goal.returns-in-Ended-clause-value
returns-in-Ended-clause-value g c =
    (c.in-Ended.ensures c.args.bounds c.args.instance.now c.args.workers c.in-Some.few c.in-Some.ensures c.in_ok-ended.ensures.value).0

pub returns-in-Ended-clause-opened : goal.returns-in-Ended-clause-opened
returns-in-Ended-clause-opened g c =
    let same = (c.in-Ended.ensures c.args.bounds c.args.instance.now c.args.workers c.in-Some.few c.in-Some.ensures c.in_ok-ended.ensures.value).1 in
    omega (arith, c.loop-pass.invariant.risen, c.in_ok-ended.ensures.opened, same)

pub loop-pass-preserved : goal.loop-pass-preserved
loop-pass-preserved g c =
    let goes = c.in-Again.ensures c.args.bounds c.args.instance.now c.args.workers c.in-Some.few c.in-Some.ensures c.in_ok-ended.ensures.value in
    record {
      of_scenario = goes.0;
      risen = omega (arith, c.loop-pass.invariant.risen, c.in_ok-ended.ensures.opened, goes.1);
    }
