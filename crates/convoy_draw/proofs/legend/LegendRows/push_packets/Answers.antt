use Rattle.std.proofs.Common.{refl, ◌∷◌, [], codes}
use Rattle.std.proofs.lemmas.Result.{IfOk-weaker}
use Rattle.convoy_draw.specs.Shown.{ShowsMore, no_words_after}
use Rattle.convoy_draw.specs.Legends.{packet_lines}
use Rattle.convoy_draw.proofs.Showing.{more_then}
use Rattle.convoy_draw.proofs.legend.LegendRows.push_packets.Goals as goal

pub returns : goal.returns
returns c =
    IfOk-weaker c.push_line-3.result _ (λ done. ShowsMore packet_lines c.args.self.now c.push_line-3.new.self)
    (λ done last. more_then (codes "a message on its way" ∷ []) _ _ _ _ c.in_ok-push_line.ensures
    (more_then (codes "a proposal on its way" ∷ []) _ _ _ _ c.in_ok-push_line-2.ensures last))
    c.push_line-3.ensures
