use Rattle.std.specs.Prelude.{◌≡◌, ◌-◌, length}
use Rattle.convoy_library_tests.proofs.tickets.draw_all.Given as goal

abbrev pub invariant-loop : goal.invariant-loop
invariant-loop l = record {
  ledger : l.clerk.ledger ≡ l.fn.clerk.ledger;
  share : l.clerk.share ≡ l.fn.clerk.share;
}

abbrev pub decreases-loop : goal.decreases-loop
decreases-loop l = l.clerk.ledger.most - length l.clerk.tickets
