use Rattle.std.proofs.Common.{◌≤◌, arith, subst, sym}
use Rattle.convoy_branch.specs.Outcomes.{best_of}
use Rattle.convoy_branch.specs.declared.outcome.Outcome.{Outcome}
use Rattle.convoy_branch.proofs.Withins.{IsWithinBothWays-ended, IsWithinBothWays-second, left_best, left_of_scenario}
use Rattle.convoy_branch.proofs.ways.search_both_ways.Goals as goal

pub search_alone_from-requires-in-ByLeads : goal.search_alone_from-requires-in-ByLeads
search_alone_from-requires-in-ByLeads g c =
    let first = c.in_ok-first.first in
    let best = c.in-ByLeads.best in
    let upper = c.in-ByLeads.upper in
    let left = c.in-ByLeads.ensures.0 in
    record {
      of_scenario = left_of_scenario c.by_plain-plain.result c.args.instance.now 1 best upper first left c.in_ok-first.ensures.value;
      least = omega (arith, c.requires.least, c.in_ok-first.ensures.opened, left_best best upper first left);
    }

pub returns-in-Ended : goal.returns-in-Ended
returns-in-Ended g c =
    let first = c.in_ok-first.first in
    let outcome = c.in-Ended.outcome in
    record {
      value = IsWithinBothWays-ended c.args.limit c.by_plain-plain.result c.args.instance.now 1 first outcome c.by_plain-plain.ensures c.in_ok-first.ensures.value c.in-Ended.ensures;
      opened = subst (λ (o : Outcome). c.args.opening.latency ≤ best_of o) (sym c.in-Ended.ensures.0) c.in_ok-first.ensures.opened;
    }

pub returns-in_ok-second-in-ByLeads : goal.returns-in_ok-second-in-ByLeads
returns-in_ok-second-in-ByLeads g c =
    let first = c.in_ok-first.first in
    let second = c.in_ok-second-in-ByLeads.second in
    let best = c.in-ByLeads.best in
    let upper = c.in-ByLeads.upper in
    let left = c.in-ByLeads.ensures.0 in
    let by_leads = c.in_ok-second-in-ByLeads.ensures in
    record {
      value = IsWithinBothWays-second c.args.limit c.by_plain-plain.result c.by_leads-lead.result c.args.instance.now 1 first second c.with_upper.result best upper c.by_plain-plain.ensures c.by_leads-lead.ensures c.in_ok-first.ensures.value left by_leads.value by_leads.opened c.with_upper.ensures.value;
      opened = omega (arith, c.in_ok-first.ensures.opened, left_best best upper first left, by_leads.opened, c.with_upper.ensures.best);
    }
