use Rattle.std.proofs.Common.{◌++◌, ◌∷◌, [], codes}
use Rattle.std.proofs.lemmas.Result.{IfOk-weaker}
use Rattle.convoy_draw.specs.Legends.{color_lines, holder_lines, target_line}
use Rattle.convoy_draw.specs.Shown.{ShowsMore}
use Rattle.convoy_draw.proofs.Showing.{more_then}
use Rattle.convoy_draw.proofs.legend.LegendRows.push_colors.Goals as goal

pub returns : goal.returns
returns c =
    let scenario = c.args.scenario.now in
    let holder = c.args.holder.now in
    let others = codes "other messages" ∷ [] in
    IfOk-weaker c.push_line.result _ (λ done. ShowsMore (color_lines scenario holder) c.args.self.now c.push_line.new.self)
    (λ done last. more_then (target_line scenario ∷ []) (holder_lines scenario holder ++ others) _ _ _ c.in_ok-push_target.ensures
    (more_then (holder_lines scenario holder) others _ _ _ c.in_ok-push_holder.ensures last))
    c.push_line.ensures
