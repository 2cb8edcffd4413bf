use Rattle.std.proofs.Common.{All, ◌++◌, ◌∷◌, [], List, ℕ, map, sym, ap, ap₂, subst, ◌∙◌}
use Rattle.std.proofs.lemmas.List.{map_push, take_more}
use Rattle.std.proofs.lemmas.List.Elements.{All-push}
use Rattle.convoy_kinds.specs.Ceilings.{IsCeilingRow, row_target}
use Rattle.convoy_kinds.specs.declared.ceiling_row.CeilingRow.{CeilingRow}
use Rattle.convoy_kinds.proofs.rows.ceiling_rows.Goals as goal

pub loop-target-preserved : goal.loop-target-preserved
loop-target-preserved c =
    let pushed = c.in_ok-push.ensures.items in
    let tells = c.row_of.ensures in
    record {
      targets = ap (map row_target) pushed
          ∙ map_push row_target c.loop-target.rows.items c.row_of.result
          ∙ ap₂ (λ (xs : List (ℕ × ℕ)) (x : ℕ × ℕ). xs ++ x ∷ []) c.loop-target.invariant.targets tells.of_target
          ∙ sym (take_more c.deref-target-items.result.now c.loop-target.target-index _ c.loop-target-test.true);
      told = subst (λ (rows : List CeilingRow). All (IsCeilingRow c.args.kinds.now) rows) (sym pushed)
          (All-push (IsCeilingRow c.args.kinds.now) c.loop-target.rows.items c.row_of.result c.loop-target.invariant.told tells.told);
    }
