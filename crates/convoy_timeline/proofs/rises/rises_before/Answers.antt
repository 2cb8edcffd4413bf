use Rattle.std.proofs.Common.{◌++◌, ap, sym, ◌∙◌, append_assoc}
use Rattle.convoy_timeline.specs.Causes.{rises_before}
use Rattle.convoy_timeline.proofs.Finding.{one_rise}
use Rattle.convoy_timeline.proofs.rises.rises_before.Goals as goal

pub loop-rise-smaller : goal.loop-rise-smaller
loop-rise-smaller c =
    (one_rise c.args.rises.now c.loop-rise.next.time c.loop-rise.next.group c.in-Some.rise (sym c.rise_before.ensures ∙ c.in-Some.is)).0

pub loop-rise-preserved : goal.loop-rise-preserved
loop-rise-preserved c =
    let rest = rises_before c.args.rises.now c.in-Some.rise.stamped.stamp.time c.in-Some.rise.stamped.stamp.group in
    let step = one_rise c.args.rises.now c.loop-rise.next.time c.loop-rise.next.group c.in-Some.rise (sym c.rise_before.ensures ∙ c.in-Some.is) in
    ap (λ found. found ++ rest) c.in_ok-push.ensures.items
    ∙ append_assoc c.loop-rise.found.items _ rest
    ∙ ap (λ l. c.loop-rise.found.items ++ l) (sym step.1)
    ∙ c.loop-rise.invariant
