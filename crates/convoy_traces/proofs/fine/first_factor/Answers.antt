use Rattle.std.proofs.Common.{◌≡◌, ◌∙◌, sym, rules, true, false, arith}
use Rattle.convoy_traces.proofs.Numbers.{factor_met, factor_passed, no_factor}
use Rattle.convoy_traces.proofs.fine.first_factor.Goals as goal

pub returns-then-are_whole : goal.returns-then-are_whole
returns-then-are_whole c =
    let test : c.are_whole.result ≡ true = search rules in
    factor_met c.args.tick c.args.entries.now c.args.most c.loop-before.before _ (omega arith) c.loop-before.invariant (sym c.are_whole.ensures ∙ test)

pub loop-before-preserved : goal.loop-before-preserved
loop-before-preserved c =
    let test : c.are_whole.result ≡ false = search rules in
    factor_passed c.args.tick c.args.entries.now c.args.most c.loop-before.before _ (omega arith) c.loop-before.invariant (sym c.are_whole.ensures ∙ test)

pub returns : goal.returns
returns c = no_factor c.args.tick c.args.entries.now c.args.most c.loop-before.before _ (omega arith) c.loop-before.invariant
