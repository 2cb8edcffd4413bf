use Rattle.std.proofs.Common.{ℕ, ap, arith}
use Rattle.convoy_sim.specs.Record.{Record}
use Rattle.convoy_branch.specs.Outcomes.{IsOutcome}
use Rattle.convoy_branch.specs.declared.outcome.Outcome.{Outcome}
use Rattle.convoy_branch.proofs.SearchSteps.{IsSearching-popped}
use Rattle.convoy_branch.proofs.Withins.{returns_all, returns_spent}
use Rattle.convoy_branch.proofs.search.search_over.Goals as goal

pub loop-work-init : goal.loop-work-init
loop-work-init g c = record {
  searching = c.in_ok-search.ensures.searching c.args.bounds;
  few = omega (arith, c.in_ok-search.ensures.tickets);
  opened = omega (arith, ap (λ (r : Record). r.latency) c.in_ok-search.ensures.best);
}

pub loop-work-preserved-in-Continue-branch-2 : goal.loop-work-preserved-in-Continue-branch-2
loop-work-preserved-in-Continue-branch-2 g c = record {
  searching = IsSearching-popped c.args.bounds c.args.origin.now c.loop-work.search.best c.loop-work.search.work.items c.pop.new.self.items c.loop-work.search.nodes.items c.push.new.self.items c.loop-work.search.tickets c.in-Some.work c.in-Write.node c.in-Some.ensures.items c.in-Write.is c.in_ok-push-in-Write.ensures.items c.loop-work.invariant.searching;
  few = c.loop-work.invariant.few;
  opened = c.loop-work.invariant.opened;
}

pub returns-in-Branch-2-clause-value : goal.returns-in-Branch-2-clause-value
returns-in-Branch-2-clause-value g c =
    let spent = c.loop-work.search.tickets in
    let IsAnswer : ℕ → Outcome → Type 0 = IsOutcome c.args.bounds c.args.origin.now 1 in
    let over = c.allows.ensures.none c.if-allows.false in
    returns_spent c.into_open.result c.args.limit IsAnswer spent c.loop-work.invariant.few over c.into_open.ensures.value

pub returns-clause-value : goal.returns-clause-value
returns-clause-value g c =
    let limit = c.args.limit in
    let IsAnswer : ℕ → Outcome → Type 0 = IsOutcome c.args.bounds c.args.origin.now 1 in
    returns_all c.into_proved.result limit IsAnswer (c.into_proved.ensures.value limit.tickets c.loop-work.invariant.few)
