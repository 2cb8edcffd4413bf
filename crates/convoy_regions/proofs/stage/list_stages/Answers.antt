use Rattle.std.proofs.Common.{◌≡◌, ◌++◌, ◌∙◌, All, ap, arith, subst, sym}
use Rattle.std.specs.List.{flat_map, range_with_len}
use Rattle.convoy_regions.specs.Stages.{IsStage, stages_in, stages_of}
use Rattle.convoy_regions.proofs.StageLists.{are_stages}
use Rattle.convoy_regions.proofs.Walks.{stages_more}
use Rattle.convoy_regions.proofs.stage.list_stages.Goals as goal

pub loop-place-preserved : goal.loop-place-preserved
loop-place-preserved c =
    let scenario = c.args.scenario.now in
    let place = c.loop-place.place in
    c.in_ok-push_stages.ensures ∙ ap (λ xs. xs ++ stages_in scenario place) c.loop-place.invariant ∙ sym (stages_more scenario place)

pub returns-clause-value : goal.returns-clause-value
unfolding stages_of
returns-clause-value c =
    let over : c.loop-place.place ≡ 128 = omega (arith, c.loop-place-test.false, c.loop-place.auto.place-end) in
    c.loop-place.invariant ∙ ap (λ n. flat_map (stages_in c.args.scenario.now) (range_with_len 0 n)) over

pub returns-clause-lawful : goal.returns-clause-lawful
unfolding stages_of
returns-clause-lawful c =
    let over : c.loop-place.place ≡ 128 = omega (arith, c.loop-place-test.false, c.loop-place.auto.place-end) in
    let value = c.loop-place.invariant ∙ ap (λ n. flat_map (stages_in c.args.scenario.now) (range_with_len 0 n)) over in
    subst (All (IsStage c.args.scenario.now)) (sym value) (are_stages c.args.scenario.now)
