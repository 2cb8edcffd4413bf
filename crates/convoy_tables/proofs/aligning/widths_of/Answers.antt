use Rattle.std.proofs.Common.{List, ℕ, [], ◌∷◌, ◌++◌, sym, ap, ◌∙◌, arith}
use Rattle.std.proofs.lemmas.List.FromFn.{map-range_with_len_more}
use Rattle.convoy_tables.specs.Formats.{width_at}
use Rattle.convoy_tables.proofs.aligning.widths_of.Goals as goal

pub loop-column-preserved : goal.loop-column-preserved
loop-column-preserved c =
    let width : ℕ → ℕ = width_at c.args.table.now.columns c.args.table.now.rows in
    let column : ℕ = c.loop-column.column in
    let pushed = rw (c.width_at.ensures, c.columns-columns.ensures, c.rows.ensures) at c.in_ok-push.ensures.items in
    pushed ∙ ap (λ (ws : List ℕ). ws ++ width column ∷ []) c.loop-column.invariant ∙ sym (map-range_with_len_more width 0 column column (omega arith))
