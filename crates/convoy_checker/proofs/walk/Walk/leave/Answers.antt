use Rattle.std.proofs.Common.{sym, ◌∙◌}
use Rattle.convoy_checker.proofs.OpenRegions.{changed_lawful, changed_opens}
use Rattle.convoy_checker.proofs.walk.Walk.leave.Goals as goal

pub invariant_of-self : goal.invariant_of-self
invariant_of-self c =
    changed_lawful _ c.loop-change.self-inside.current _ _ _ c.in-Some.change c.loop-change.invariant.lawful c.in-Some.ensures.items c.change.ensures

pub loop-change-preserved : goal.loop-change-preserved
loop-change-preserved c = record {
  opens = sym (changed_opens c.loop-change.self-inside.current _ _ _ c.in-Some.change c.in-Some.ensures.items c.change.ensures c.if-change.false) ∙ c.loop-change.invariant.opens;
  lawful = changed_lawful _ c.loop-change.self-inside.current _ _ _ c.in-Some.change c.loop-change.invariant.lawful c.in-Some.ensures.items c.change.ensures;
}
