use Rattle.std.proofs.Common.{◌≡◌, ℕ, ap, ◌∙◌}
use Rattle.convoy_scenario.specs.Scenario.{Link, group_name_at}
use Rattle.convoy_scenario_lines.proofs.Texts.{link_in_pieces}
use Rattle.convoy_scenario_lines.proofs.line_writing.push_link.Goals as goal

pub returns : goal.returns
returns c =
    let to : c.link.inside.to ≡ c.args.link.now.to = ap (λ (l : Link). l.to) c.link.view_is in
    let name = c.group_name.ensures ∙ ap (λ (g : ℕ). group_name_at c.args.scenario.now g) to in
    link_in_pieces c.args.scenario.now c.args.link.now c.link.inside.sender c.group_name.result.now c.from.result c.from-2.result c.link.inside.stamps c.args.text.now.items _ _ _ _ _ _ _ _ _
    (ap (λ (l : Link). l.sender) c.link.view_is) name (c.from.ensures ∙ ap (λ (l : Link). l.least) c.link.view_is) (c.from-2.ensures ∙ ap (λ (l : Link). l.most) c.link.view_is) (ap (λ (l : Link). l.stamps) c.link.view_is)
    c.in_ok-extend_from_slice.ensures.items c.in_ok-push_sender.ensures c.in_ok-push_further_word.ensures c.in_ok-push.ensures.items c.in_ok-push_number.ensures.ok c.in_ok-push-2.ensures.items c.in_ok-push_number-2.ensures.ok c.in_ok-push_stamps.ensures c.in_ok-push-3.ensures.items
