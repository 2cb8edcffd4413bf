use Rattle.std.proofs.Common.{◌++◌, List, [], ◌∷◌, ap, subst, sym, ◌∙◌}
use Rattle.convoy_intervals.specs.Tracked.{Tracked}
use Rattle.convoy_regions.specs.Stages.{IsPrecedence, Precedence}
use Rattle.convoy_regions.specs.Branches.{Branch}
use Rattle.convoy_regions.specs.Regions.{IsRegion}
use Rattle.convoy_regions.proofs.Walks.{region_more}
use Rattle.convoy_regions.proofs.branch.Branch.with_order.Goals as goal

pub invariant_of-result : goal.invariant_of-result
invariant_of-result c =
    let tracked = c.self.inside.tracked in
    let own = ap (λ (branch : Branch). branch.scenario) c.self.view_is in
    let is = subst (λ plan. IsPrecedence plan c.args.pair) (sym own) c.requires in
    let more = c.in_ok-push.ensures.items ∙ ap (λ (xs : List Precedence). xs ++ c.args.pair ∷ []) (c.in_ok-before.ensures.items ∙ c.deref.ensures.value) in
    subst (λ (t : Tracked). IsRegion t.scenario (record { ranges = t.delay_box; before = c.push.new.self.items })) (sym c.in_ok-copy.ensures)
    (region_more tracked.scenario tracked.delay_box c.self.inside.before.items c.push.new.self.items c.args.pair c.self.invariant is more)
