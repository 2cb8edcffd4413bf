use Rattle.std.proofs.Common.{ℕ, ◌+◌, List, drop, sym, ap, subst, ◌∙◌, arith}
use Rattle.std.proofs.lemmas.List.{at_drop_more}
use Rattle.convoy_sim.specs.declared.moment.Moment.{Moment}
use Rattle.convoy_sim.specs.StampTables.{StampTable, with_moment, with_moments, IsBelow}
use Rattle.convoy_sim.proofs.StampBounds.{none_below, moment_below}
use Rattle.convoy_sim.proofs.stamps.Stamps.of.Goals as goal

pub loop-at-init : goal.loop-at-init
loop-at-init c = record {
  read = ap (λ s. with_moments s c.args.agenda.now) c.new-stamps.ensures;
  below = subst (IsBelow 0) (sym c.new-stamps.ensures) none_below;
}

pub loop-at-preserved : goal.loop-at-preserved
loop-at-preserved c =
    let agenda : List Moment = c.args.agenda.now in
    let stamps : StampTable = c.loop-at.stamps in
    let at : ℕ = c.loop-at.at in
    let len = c.len-at-end.ensures in
    record {
      read = ap (λ s. with_moments s (drop (at + 1) agenda)) (c.read.ensures ∙ ap (with_moment stamps) c.moment.ensures)
          ∙ sym (at_drop_more (with_moments stamps) agenda at c.moment.result (omega arith))
          ∙ c.loop-at.invariant.read;
      below = subst (IsBelow (at + 1)) (sym c.read.ensures) (moment_below at stamps c.moment.result c.loop-at.invariant.below);
    }
