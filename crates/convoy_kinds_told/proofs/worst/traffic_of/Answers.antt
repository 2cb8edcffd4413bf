use Rattle.std.proofs.Common.{◌≤◌, ℕ, subst}
use Rattle.convoy_scenario.specs.Scenario.{Scenario}
use Rattle.convoy_ceiling.specs.Ceiling.{ceiling_of}
use Rattle.convoy_ceiling.specs.Finding.{IsFound}
use Rattle.convoy_kinds_told.proofs.worst.traffic_of.Goals as goal

pub returns : goal.returns
returns c =
    let kinds = c.args.kinds.now in
    let row = c.args.row in
    let traffic = c.in_ok-found.found.traffic in
    let run = c.in_ok-found.found.record in
    let asked = subst (λ (pair : Scenario). IsFound pair traffic run) c.in_ok-pair.ensures c.in_ok-found.ensures.found in
    let within = subst (λ (pair : Scenario). run.latency ≤ ceiling_of pair) c.in_ok-pair.ensures c.in_ok-found.ensures.within in
    record {
      asked = asked;
      of_kinds = c.traffic_of_pairs_is_of_kinds.ensures kinds row.kind row.rival row.group traffic c.requires.kind c.requires.known asked.asks.kinds;
      within = subst (λ (n : ℕ). run.latency ≤ n) c.requires.beside within;
    }
