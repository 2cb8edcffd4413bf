use Rattle.std.proofs.Common.{arith, ◌∙◌}
use Rattle.convoy_ceiling.proofs.Passing.{passing_step, passing_end, passing_all}
use Rattle.convoy_outages.proofs.computing.slowest_to_commit.Goals as goal
use Rattle.convoy_outages.proofs.computing.slowest_to_commit.Goals.{then-goes_to, else-goes_to}

pub loop-message-preserved : goal.loop-message-preserved
loop-message-preserved c = record {
  value =
      passing_step _ _ _ c.loop-message.longest _ c.loop-message.message _ c.loop-message-test.true
      (elim c.if-goes_to.branch [ then-goes_to w ↦ grind arith | else-goes_to w ↦ grind arith ]) c.loop-message.invariant.value;
  fits = elim c.if-goes_to.branch [ then-goes_to w ↦ grind arith | else-goes_to w ↦ grind arith ];
}

pub returns-clause-value : goal.returns-clause-value
returns-clause-value c =
    passing_end _ _ _ c.loop-message.longest c.loop-message.message _ c.loop-message-test.false c.loop-message.invariant.value
    ∙ passing_all _ _ _ _ c.message_count-message-end.ensures.value
