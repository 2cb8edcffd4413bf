use Rattle.std.proofs.Common.{sym, ◌∙◌}
use Rattle.convoy_checker.proofs.NextNode.{after_are_regions, can_stand, none_from_test}
use Rattle.convoy_checker.proofs.StepLimits.{seen-no_region, seen-passed}
use Rattle.convoy_checker.proofs.checking.first_fault.Goals as goal

pub returns-in_default : goal.returns-in_default
returns-in_default c =
    sym (seen-no_region c.args.claim.now.origin c.args.claim.now.latency c.loop-number.number c.loop-number.walk c.args.nodes.now c.loop-number.left c.loop-number-test.true (sym c.in_default.ensures))
    ∙ c.loop-number.invariant.so_far

pub pass-requires : goal.pass-requires
pass-requires c =
    let right = sym c.in_ok-fault.ensures ∙ none_from_test c.in_ok-fault.fault c.if-is_some.ensures in
    rw c.instance-in-loop-number.ensures.value (can_stand c.args.claim.now.origin c.args.claim.now.latency c.loop-number.number _ c.loop-number.walk c.in-Some.region.now (sym c.in-Some.ensures) right)

pub loop-number-preserved : goal.loop-number-preserved
loop-number-preserved c =
    let none = none_from_test c.in_ok-fault.fault c.if-is_some.ensures in
    let right = sym c.in_ok-fault.ensures ∙ none in
    let enough = sym c.in_ok-spend.ensures.enough ∙ c.if-not-branch.false in
    let after = rw c.instance-in-loop-number.ensures.value at c.in_ok-pass.ensures in
    record {
      so_far = rw c.in_ok-spend.ensures.left (seen-passed c.args.claim.now.origin c.args.claim.now.latency c.loop-number.number c.loop-number.walk c.in-Some.region.now c.args.nodes.now _ c.loop-number.left c.pass.new.self c.loop-number-test.true (sym c.in-Some.ensures) enough right after) ∙ c.loop-number.invariant.so_far;
      regions = after_are_regions c.args.claim.now.origin c.args.claim.now.latency c.loop-number.number _ c.loop-number.walk c.pass.new.self c.in-Some.region.now c.halves_are_regions.ensures (sym c.in-Some.ensures) right after c.loop-number.invariant.regions;
    }
