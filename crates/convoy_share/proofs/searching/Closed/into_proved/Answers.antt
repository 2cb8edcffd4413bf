use Rattle.std.proofs.Common.{ap, sym, subst, ◌∙◌, List}
use Rattle.std.specs.List.{All}
use Rattle.convoy_scenario.specs.Scenario.{Scenario}
use Rattle.convoy_certificate.specs.Certificate.{IsNode}
use Rattle.convoy_certificate.specs.declared.node.Node.{Node}
use Rattle.convoy_branch.specs.Outcomes.{IsProved}
use Rattle.convoy_branch.proofs.Withins.{IsWithin-all}
use Rattle.convoy_share.specs.declared.piece.Piece.{Piece}
use Rattle.convoy_share.specs.Pieces.{nodes_in}
use Rattle.convoy_share.proofs.Outcomes.{IsProved-closed, certificate_is, nodes_closed}
use Rattle.convoy_share.proofs.searching.Closed.into_proved.Goals as goal

pub new-requires-clause-nodes : goal.new-requires-clause-nodes
new-requires-clause-nodes c =
    let nodes = c.in_ok-nodes.ensures ∙ ap (λ (ps : List Piece). nodes_in ps) c.deref.ensures.value in
    let of_plan = nodes_closed c.args.bounds c.args.origin.now c.requires.closed.0 c.requires.closed.1 c.args.self c.requires.closed.2 in
    let of_copy = subst (λ (s : Scenario). All (IsNode s) (nodes_in c.args.self.pieces.items)) (sym (c.in_ok-copy.ensures ∙ c.instance-instance.ensures.value)) of_plan in
    subst (λ (ns : List Node). All (IsNode c.in_ok-copy.field-0) ns) (sym nodes) of_copy

pub returns-clause-value : goal.returns-clause-value
returns-clause-value c workers limit is =
    let nodes = c.in_ok-nodes.ensures ∙ ap (λ (ps : List Piece). nodes_in ps) c.deref.ensures.value in
    let same = certificate_is (c.in_ok-copy.ensures ∙ c.instance-instance.ensures.value) c.latency-latency.ensures.value (c.in_ok-schedule.ensures ∙ c.schedule.ensures.value) nodes in
    IsWithin-all limit (λ tickets. IsProved c.args.bounds c.args.origin.now workers tickets c.new.result c.args.self.tickets c.args.self.by_worker.items) (IsProved-closed c.whole_fronts_are_trees.ensures c.trees_cover.ensures c.plain_fronts_have_no_stamps.ensures c.only_leads_have_lead_leaves.ensures c.whole_fronts_are_readable.ensures c.args.bounds c.args.origin.now workers limit c.args.self c.new.result c.requires.none (c.new.ensures ∙ same) is)
