use Rattle.std.proofs.Common.{ℕ, arith, inr, subst}
use Rattle.convoy_branch.specs.Fronts.{IsFront}
use Rattle.convoy_branch.specs.declared.bounds.Bounds.TheVariants.{Lead, Plain}
use Rattle.convoy_branch.proofs.outcome.Outcome.with_upper.Goals as goal

pub returns-in-Open-clause-value : goal.returns-in-Open-clause-value
returns-in-Open-clause-value c scenario workers by_plain by_leads best tickets by_worker plain outcome no_worse =
    let lead = rw c.in-Open.is at outcome in
    let above = rw c.in-Open.is at no_worse in
    inr (record {
      of_scenario = lead.of_scenario;
      reached = lead.reached;
      none_greater = λ schedule is. omega (arith, c.min.ensures, plain.none_greater schedule is, lead.none_greater schedule is);
      fronts = record {
        plain_best = best.latency;
        plain_upper = c.args.upper;
        lead_upper = c.in-Open.by_leads;
        by_plain = subst (λ (n : ℕ). IsFront Plain scenario best.latency c.args.upper n) plain.all plain.front;
        by_leads = subst (λ (n : ℕ). IsFront Lead scenario c.in-Open.best.latency c.in-Open.by_leads n) lead.all lead.front;
        no_worse = above;
        lesser = c.min.ensures;
      };
      all = lead.all;
      shares = lead.shares;
    })
