use Rattle.std.proofs.Common.{◌≡◌, ◌∙◌, inl, inr, Result, Ok, ap}
use Rattle.convoy_draft.specs.declared.fault.ScenarioFault.{ScenarioFault}
use Rattle.convoy_scenario.specs.Numbering.{scenario_of_draft}
use Rattle.convoy_scenario.specs.Scenario.{Scenario}
use Rattle.convoy_kinds.specs.Pairs.{pair_of}
use Rattle.convoy_kinds.proofs.pairs.pair_of.Goals as goal

same_pair : (a b : Scenario) (want : Result Scenario ScenarioFault) → want ≡ Ok b → Ok a ≡ want → a ≡ b
same_pair a b want made is = cc

pub returns-in-Ok : goal.returns-in-Ok
returns-in-Ok c =
    let pair : Scenario = pair_of c.args.kinds.now c.args.kind c.args.other c.args.group in
    let well = c.pairs_are_scenarios.ensures c.args.kinds.now c.kind_count-count.ensures.lawful c.args.kind c.args.other c.args.group c.requires.kind c.requires.other c.requires.goes in
    let made : scenario_of_draft c.in_ok-draft.draft ≡ Ok pair = ap scenario_of_draft c.in_ok-draft.ensures ∙ c.scenarios_have_drafts.ensures pair well in
    elim c.in-Ok.ensures [ inl e ↦ same_pair _ pair _ made e | inr e ↦ cc ]
