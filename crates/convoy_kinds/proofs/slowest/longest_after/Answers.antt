use Rattle.std.proofs.Common.{[], arith, sym, ◌∙◌}
use Rattle.std.proofs.lemmas.List.{length-map}
use Rattle.convoy_ceiling.proofs.Passing.{passing_step, passing_end, passing_all}
use Rattle.convoy_kinds.specs.Kinds.{named}
use Rattle.convoy_kinds.proofs.slowest.longest_after.Goals as goal
use Rattle.convoy_kinds.proofs.slowest.longest_after.Goals.{then-goes_to, else-goes_to}

pub loop-kind-preserved : goal.loop-kind-preserved
loop-kind-preserved c = record {
  value =
      passing_step _ _ _ c.loop-kind.longest _ c.loop-kind.kind _ c.loop-kind-test.true
      (elim c.if-goes_to.branch [ then-goes_to w ↦ grind arith | else-goes_to w ↦ grind arith ]) c.loop-kind.invariant.value;
  fits = elim c.if-goes_to.branch [ then-goes_to w ↦ grind arith | else-goes_to w ↦ grind arith ];
}

pub returns-clause-value : goal.returns-clause-value
returns-clause-value c =
    passing_end _ _ _ c.loop-kind.longest c.loop-kind.kind _ c.loop-kind-test.false c.loop-kind.invariant.value
    ∙ passing_all _ _ _ _ (c.kind_count-kind-end.ensures.value ∙ sym (length-map c.args.kinds.now.kinds (named [])))
