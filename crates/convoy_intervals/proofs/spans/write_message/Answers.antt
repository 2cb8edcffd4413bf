use Rattle.std.proofs.Common.{◌<◌, length, refl, arith}
use Rattle.convoy_intervals.proofs.SpanRows.{arrivals_kept, settlings_more, others_more, all_set}
use Rattle.convoy_intervals.proofs.spans.write_message.Goals as goal

pub loop-group-preserved : goal.loop-group-preserved
loop-group-preserved c =
    let plan = c.args.instance.now in
    let before = c.loop-group.invariant in
    let group : c.loop-group.group < length plan.groups = omega (arith, c.loop-group-test.true, c.group_count-group-end.ensures.value) in
    rw c.write_settling.ensures (record {
      arrivals = arrivals_kept plan c.loop-group.spans before.all c.args.message c.loop-group.group c.requires.known group c.args.delay_box.now _ before.arrivals refl;
      settlings = settlings_more plan c.loop-group.spans before.all c.args.message c.loop-group.group c.requires.known group c.args.delay_box.now _ before.settlings refl;
      others = others_more plan c.loop-group.spans before.all c.args.message c.loop-group.group c.requires.known group c.args.spans.now _ before.others;
      all = all_set plan c.loop-group.spans before.all c.args.message c.loop-group.group c.requires.known group _;
    })
