use Rattle.std.proofs.Common.{◌≡◌, ℕ, ◌<◌, length, ap₂, arith}
use Rattle.convoy_intervals.specs.Spans.{arrival_span}
use Rattle.convoy_intervals.proofs.SpanRows.{arrivals_more, others_more, all_set}
use Rattle.convoy_intervals.proofs.spans.write_arrivals.Goals as goal

pub loop-group-preserved : goal.loop-group-preserved
loop-group-preserved c =
    let plan = c.args.instance.now in
    let before = c.loop-group.invariant in
    let group : c.loop-group.group < length plan.groups = omega (arith, c.loop-group-test.true, c.group_count-group-end.ensures.value) in
    let here : c.arrivals-span.result ≡ arrival_span plan c.args.delay_box.now c.args.message c.loop-group.group = ap₂ (λ (a b : ℕ). (a, b)) c.arrivals-span.ensures.least c.arrivals-span.ensures.greatest in
    rw c.place.ensures.value (record {
      arrivals = arrivals_more plan c.loop-group.spans before.all c.args.message c.loop-group.group c.requires.known group c.args.delay_box.now _ before.arrivals here;
      others = others_more plan c.loop-group.spans before.all c.args.message c.loop-group.group c.requires.known group c.args.spans.now _ before.others;
      all = all_set plan c.loop-group.spans before.all c.args.message c.loop-group.group c.requires.known group _;
    })
