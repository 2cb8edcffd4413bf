use Rattle.std.proofs.Common.{◌≤◌, ap, arith, subst, sym}
use Rattle.convoy_branch.specs.declared.limit.Limit.{Limit}
use Rattle.convoy_ledger.specs.Tickets.{most_tickets}
use Rattle.convoy_branch.specs.Outcomes.{best_of}
use Rattle.convoy_branch.specs.declared.outcome.Outcome.{Outcome}
use Rattle.convoy_branch.proofs.Withins.{IsWithinBothWays-ended, IsWithinBothWays-second, left_best, left_of_scenario}
use Rattle.convoy_share.proofs.ways.search_both_ways.Goals as goal

pub search_from-requires-in-ByLeads-clause-of_scenario : goal.search_from-requires-in-ByLeads-clause-of_scenario
search_from-requires-in-ByLeads-clause-of_scenario g c =
    let same = left_of_scenario c.by_plain-plain.result c.args.instance.now c.args.workers c.in-ByLeads.best c.in-ByLeads.upper c.in_ok-first.first c.in-ByLeads.ensures.0 c.in_ok-first.ensures.value in
    search same

pub search_from-requires-in-ByLeads-clause-least : goal.search_from-requires-in-ByLeads-clause-least
search_from-requires-in-ByLeads-clause-least g c =
    omega (arith, c.requires.least, c.in_ok-first.ensures.opened, left_best c.in-ByLeads.best c.in-ByLeads.upper c.in_ok-first.first c.in-ByLeads.ensures.0)

pub search_from-requires-in-ByLeads-clause-tickets : goal.search_from-requires-in-ByLeads-clause-tickets
search_from-requires-in-ByLeads-clause-tickets g c =
    let tickets = ap (λ (l : Limit). l.tickets) c.by_leads-lead.ensures in
    let some : 1 ≤ c.by_leads-lead.result.tickets = omega (arith, tickets, c.in-ByLeads.ensures.1) in
    let few : c.by_leads-lead.result.tickets ≤ most_tickets = omega (arith, tickets, c.requires.tickets.1) in
    search (some, few)

pub returns-in-Ended : goal.returns-in-Ended
returns-in-Ended g c =
    let first = c.in_ok-first.first in
    let outcome = c.in-Ended.outcome in
    record {
      value = IsWithinBothWays-ended c.args.limit c.by_plain-plain.result c.args.instance.now c.args.workers first outcome c.by_plain-plain.ensures c.in_ok-first.ensures.value c.in-Ended.ensures;
      opened = subst (λ (o : Outcome). c.args.opening.latency ≤ best_of o) (sym c.in-Ended.ensures.0) c.in_ok-first.ensures.opened;
    }

pub returns-in_ok-second-in-ByLeads : goal.returns-in_ok-second-in-ByLeads
returns-in_ok-second-in-ByLeads g c =
    let first = c.in_ok-first.first in
    let second = c.in_ok-second-in-ByLeads.second in
    let best = c.in-ByLeads.best in
    let upper = c.in-ByLeads.upper in
    let left = c.in-ByLeads.ensures.0 in
    let by_leads = c.in_ok-second-in-ByLeads.ensures in
    record {
      value = IsWithinBothWays-second c.args.limit c.by_plain-plain.result c.by_leads-lead.result c.args.instance.now c.args.workers first second c.with_upper.result best upper c.by_plain-plain.ensures c.by_leads-lead.ensures c.in_ok-first.ensures.value left by_leads.value by_leads.opened c.with_upper.ensures.value;
      opened = omega (arith, c.in_ok-first.ensures.opened, left_best best upper first left, by_leads.opened, c.with_upper.ensures.best);
    }
