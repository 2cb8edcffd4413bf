use Rattle.std.proofs.Common.{ℕ, ◌+◌, ◌∙◌, ap, subst, sym}
use Rattle.convoy_branch.specs.Searching.{work_after, nodes_after}
use Rattle.convoy_branch.specs.Steps.{IsTriedIf}
use Rattle.convoy_branch.specs.declared.search.Search.{Search}
use Rattle.convoy_branch.proofs.SearchSteps.{HasTurned-taken, next_is, on_ok_all}
use Rattle.convoy_branch.proofs.search.Search.take_up.Goals as goal

pub step_branch-requires-clause-of_scenario : goal.step_branch-requires-clause-of_scenario
step_branch-requires-clause-of_scenario c =
    let old = c.args.self.now in
    (next_is c.args.bounds c.args.origin.now old.best old.work.items old.nodes.items old.tickets c.args.branch c.args.tried c.requires.searching).2

pub step_branch-requires-clause-known : goal.step_branch-requires-clause-known
step_branch-requires-clause-known c =
    let old = c.args.self.now in
    subst (λ (n : ℕ). IsTriedIf c.args.origin.now c.args.branch.region c.args.tried n) (sym c.latency-seen.ensures.value)
    (next_is c.args.bounds c.args.origin.now old.best old.work.items old.nodes.items old.tickets c.args.branch c.args.tried c.requires.searching).1

pub returns-clause-turned : goal.returns-clause-turned
returns-clause-turned c =
    let bounds = c.args.bounds in
    let plan = c.args.origin.now in
    let old = c.args.self.now in
    let new = c.follow.new.self in
    let step = c.in-Ok.step in
    let turn = step.turn in
    let shows = c.in-Ok.ensures.value in
    let told = c.follow.ensures in
    let noted = c.note.ensures in
    on_ok_all c.follow.result told.best told.work told.nodes told.tickets (λ best work nodes tickets.
    HasTurned-taken bounds plan old new c.latency-seen.result c.args.branch c.args.tried step.found turn c.halves_are_regions.ensures c.requires.lawful c.latency-seen.ensures.value shows.found shows.turn
    (best ∙ ap (λ (s : Search). s.best) noted)
    (work ∙ ap (λ (s : Search). work_after s.work.items turn) noted)
    (nodes ∙ ap (λ (s : Search). nodes_after s.nodes.items turn) noted)
    (tickets ∙ ap (λ (s : Search). s.tickets + 1) noted)
    c.requires.searching)
