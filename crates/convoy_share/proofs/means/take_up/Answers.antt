use Rattle.std.proofs.Common.{ℕ, ◌≤◌, sym, ap, subst, ◌∙◌, arith}
use Rattle.std.proofs.lemmas.Bool.{false≢true}
use Rattle.convoy_scenario.specs.Scenario.{Scenario}
use Rattle.convoy_regions.specs.Regions.{IsRegion}
use Rattle.convoy_incumbent.specs.Boards.{Holding}
use Rattle.convoy_branch.specs.Steps.{known_after}
use Rattle.convoy_share.proofs.Turns.{IsTurned-step}
use Rattle.convoy_share.proofs.means.take_up.Goals as goal

pub step_of-requires-clause-known : goal.step_of-requires-clause-known
step_of-requires-clause-known g c told = omega (arith, c.requires.known told, c.look-seen.ensures.least.0)

pub returns : goal.returns
returns g c =
    let shared = c.args.shared.now in
    let look = c.look-seen.ensures in
    let seen = ap (λ (h : Holding). h.seen) look.hand in
    let step = c.in_ok-step.step in
    let is = c.in_ok-step.ensures in
    let ticket = c.if-not-has_drawn.ensures.some in
    let publish = c.in_ok-publish_found.ensures in
    let after = c.publish_found.new.hand.seen in
    let lawful = c.table.ensures.lawful in
    let inside = subst (λ (s : Scenario). IsRegion s c.args.branch.region) c.requires.of_scenario c.delay_box-delay_box.ensures.lawful in
    let known = known_after c.look-seen.result step.found in
    let above : known ≤ after = subst (λ (n : ℕ). known_after n step.found ≤ after) seen publish.known in
    record {
      later = record {
        board = publish.same.0 ∙ sym c.requires.hand;
        ledger = c.has_drawn.ensures.same.0 ∙ sym c.requires.clerk;
        hand = publish.same.1 ∙ ap (λ (h : Holding). h.share) look.hand;
        clerk = c.has_drawn.ensures.same.1;
        seen = omega (arith, look.least.0, seen, publish.seen);
        done = λ done. absurd (false≢true (sym ticket.2 ∙ done));
      };
      ticket = (
        ticket.0,
        ticket.1,
        ticket.2,
        IsTurned-step c.fronts_better.ensures c.turns_are_fronts.ensures c.turns_are_nodes.ensures shared.bounds shared.instance.now known after c.args.branch.region step.turn lawful inside above is.turn,
      );
    }
