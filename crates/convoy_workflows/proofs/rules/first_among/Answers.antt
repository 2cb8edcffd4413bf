use Rattle.std.proofs.Common.{◌∙◌, ap, rules, tests, unwrap_or}
use Rattle.std.proofs.lemmas.Iterator.{YieldsList-from_slice}
use Rattle.std.proofs.lemmas.Iterator.Search.{position_from_yields_List}
use Rattle.convoy_draft.specs.Checks.{is_among}
use Rattle.convoy_workflows.proofs.rules.first_among.Goals as goal

pub returns : goal.returns
returns c =
    let found = position_from_yields_List (λ group. is_among group c.args.to.now) _ _ c.position.result c.position.ensures.ran (YieldsList-from_slice c.args.groups.now c.iter.ensures.rest) (λ x b q k. search (rules, tests)) in
    c.unwrap_or.ensures ∙ ap (λ o. unwrap_or o 0) found
