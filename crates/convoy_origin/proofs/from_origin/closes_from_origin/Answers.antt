use Rattle.std.proofs.Common.{rules, All, sym, ap, subst, ◌∙◌}
use Rattle.std.proofs.lemmas.Result.{IfOk-weaker}
use Rattle.convoy_scenario.specs.Scenario.{Scenario}
use Rattle.convoy_regions.specs.Regions.{IsRegion, Region}
use Rattle.convoy_regions.specs.Stages.{IsPrecedence}
use Rattle.convoy_narrowing.specs.Narrowing.{closes_region}
use Rattle.convoy_origin.specs.FromOrigin.{closes_from_origin}
use Rattle.convoy_origin.proofs.from_origin.closes_from_origin.Goals as goal

pub returns-in_default : goal.returns-in_default
returns-in_default c =
    let region : Region = record { ranges = c.args.delay_box.now; before = c.args.before.now } in
    let is : IsRegion c.args.origin.now region = record { inside = c.requires.inside; within = c.requires.within } in
    let from_issue = c.from_origin_is_from_issue.ensures c.args.origin.now region c.in_default.ensures.none c.moved.ensures.lawful is in
    let same = ap (λ s. closes_region s region c.args.latency) c.instance.ensures.value ∙ sym (from_issue.leads c.args.latency) in
    IfOk-weaker c.closes_region.result _ _ (λ closed value. value ∙ same) c.closes_region.ensures

pub closes_region-requires-2-clause-within : goal.closes_region-requires-2-clause-within
closes_region-requires-2-clause-within c =
    let region : Region = record { ranges = c.args.delay_box.now; before = c.args.before.now } in
    let is : IsRegion c.args.origin.now region = record { inside = c.requires.inside; within = c.requires.within } in
    subst (λ (s : Scenario). All (IsPrecedence s) c.args.before.now) (sym c.in-Some.ensures.some) (c.regions_widen.ensures c.args.origin.now region is).within

pub returns : goal.returns
unfolding closes_from_origin
returns c = search rules
