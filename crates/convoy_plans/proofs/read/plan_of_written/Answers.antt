use Rattle.convoy_plans.proofs.Passing.{passes}
use Rattle.convoy_plans.proofs.read.plan_of_written.Goals as goal

pub plan_in-requires-clause-differ : goal.plan_in-requires-clause-differ
plan_in-requires-clause-differ c = (passes c.args.written c.in_ok-draft.draft c.deref.result.now c.in_ok-check.ensures).differ

pub plan_in-requires-clause-addressed : goal.plan_in-requires-clause-addressed
plan_in-requires-clause-addressed c = (passes c.args.written c.in_ok-draft.draft c.deref.result.now c.in_ok-check.ensures).addressed

pub plan_in-requires-clause-sent : goal.plan_in-requires-clause-sent
plan_in-requires-clause-sent c = (passes c.args.written c.in_ok-draft.draft c.deref.result.now c.in_ok-check.ensures).sent
