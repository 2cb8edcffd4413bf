use Rattle.std.proofs.Common.{◌≡◌, arith}
use Rattle.convoy_intervals.specs.Bounds.{plain_bound}
use Rattle.convoy_intervals.proofs.Rivals.{passing_step, passing_end, plain_bound_is}
use Rattle.convoy_intervals.proofs.bounds.bound.Goals as goal
use Rattle.convoy_intervals.proofs.bounds.bound.Goals.{then-is_rival, else-is_rival}

pub loop-message-preserved : goal.loop-message-preserved
loop-message-preserved c =
    passing_step _ _ _ _ c.loop-message.last _ c.loop-message.message _ c.loop-message-test.true (elim c.if-is_rival.branch [ then-is_rival w ↦ grind arith | else-is_rival w ↦ grind arith ]) c.loop-message.invariant

is_bound : (c : goal.After-saturating_sub) → c.saturating_sub.result ≡ plain_bound c.args.instance.now c.args.delay_box.now
is_bound c =
    let total = passing_end _ _ _ _ c.loop-message.last c.loop-message.message _ c.loop-message-test.false c.loop-message.invariant in
    let whole = plain_bound_is c.args.instance.now c.args.delay_box.now c.settlings-committed.result.1 (cc) in
    cc

pub returns : goal.returns
returns c = record {
  value = is_bound c;
  holds = λ schedule member. omega (arith, is_bound c, c.plain_bound_holds.ensures c.args.instance.now c.args.delay_box.now schedule c.issue_tick.ensures.lawful member);
}
