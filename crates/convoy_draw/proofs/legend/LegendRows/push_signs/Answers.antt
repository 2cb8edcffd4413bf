use Rattle.std.proofs.Common.{◌∷◌, [], codes}
use Rattle.std.proofs.lemmas.Result.{IfOk-weaker}
use Rattle.convoy_draw.specs.Legends.{sign_lines, wait_lines}
use Rattle.convoy_draw.specs.Shown.{ShowsMore}
use Rattle.convoy_draw.proofs.Showing.{more_then}
use Rattle.convoy_draw.proofs.legend.LegendRows.push_signs.Goals as goal

pub returns : goal.returns
returns c =
    IfOk-weaker c.push_sign-4.result _ (λ done. ShowsMore (sign_lines c.args.holder.now) c.args.self.now c.push_sign-4.new.self)
    (λ done last. more_then (codes "issue" ∷ []) _ _ _ _ c.in_ok-push_sign.ensures
    (more_then (codes "arrival, with the local stamp" ∷ []) _ _ _ _ c.in_ok-push_sign-2.ensures
    (more_then (codes "commit, with the final stamp" ∷ []) _ _ _ _ c.in_ok-push_sign-3.ensures
    (more_then (wait_lines c.args.holder.now) (codes "delivery" ∷ []) _ _ _ c.in_ok-push_wait.ensures last))))
    c.push_sign-4.ensures
