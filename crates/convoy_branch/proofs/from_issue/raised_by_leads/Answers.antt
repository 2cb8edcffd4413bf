use Rattle.std.proofs.Common.{◌≡◌, ℕ, ◌+◌, ◌-◌, ◌/◌, nat_le, true, sym, subst, ◌∙◌, arith}
use Rattle.std.proofs.lemmas.Bool.{or_right}
use Rattle.convoy_leads.specs.Closing.{Tested, closes_by_leads, closes_over}
use Rattle.convoy_leads.specs.Openings.{is_closed}
use Rattle.convoy_narrowing.specs.Narrowing.{closes_narrowed, closes_region}
use Rattle.convoy_branch.proofs.from_issue.raised_by_leads.Goals as goal

pub loop-low-preserved-then-is_closed : goal.loop-low-preserved-then-is_closed
unfolding closes_region
loop-low-preserved-then-is_closed c =
    let plan = c.args.instance.now in
    let region = c.args.branch.now.region in
    let middle : ℕ = c.loop-low.low + (c.loop-low.high - c.loop-low.low) / 2 in
    let told = subst (λ (t : Tested). is_closed c.in_ok-shows.field-0 ≡ closes_over t.scenario t.windows middle) c.in_ok-test.ensures c.in_ok-shows.ensures.closed in
    let narrowed_closed : closes_narrowed plan region middle ≡ true = sym told ∙ sym c.is_closed.ensures ∙ c.if-is_closed.true in
    let closed = or_right (closes_by_leads plan region.ranges middle) (closes_narrowed plan region middle) narrowed_closed in
    record {
      low = c.loop-low.invariant.low;
      order = omega arith;
      closes = or_right (nat_le c.args.bound middle) (closes_region plan region middle) closed;
      within = omega (arith, c.loop-low.invariant.within, c.loop-low.invariant.order);
    }
