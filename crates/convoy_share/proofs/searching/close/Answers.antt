use Rattle.std.proofs.Common.{List, ℕ, ◌≡◌, ◌+◌, ◌∙◌, length, refl, subst}
use Rattle.convoy_share.specs.declared.searching.Closed.{Closed}
use Rattle.convoy_share.specs.Common.{common_by}
use Rattle.convoy_share.proofs.Closings.{IsClosed-ended, IsTreeAtEnd-ended}
use Rattle.convoy_share.proofs.searching.close.Goals as goal

pub returns-clause-closed : goal.returns-clause-closed
returns-clause-closed c joined least is =
    let plan = c.args.instance.now in
    let common = common_by c.args.bounds plan c.args.board c.args.ledger c.args.limit.may_stop in
    let closed : Closed = record { best = c.in-Ok-close.best; tickets = c.in-Ok.tickets; by_worker = c.in_ok-by_worker.by_worker; pieces = c.args.ended.pieces } in
    let told = c.in-Ok-close.ensures in
    let count = subst (λ (ts : List ℕ). length c.in_ok-by_worker.by_worker.items ≡ length ts + 1) c.deref.ensures.value c.in_ok-by_worker.ensures.count in
    let tree = IsTreeAtEnd-ended c.fronts_better.ensures common joined least c.args.ended c.in-Ok-close.best.latency c.in-Ok.tickets c.args.limit c.args.ledger refl refl c.requires.limit is told.least c.in-Ok.ensures.all in
    IsClosed-ended common joined least c.args.limit c.args.ended closed is (told.attained.0 ∙ c.requires.of_scenario) told.attained.1 count c.in_ok-by_worker.ensures.all tree
