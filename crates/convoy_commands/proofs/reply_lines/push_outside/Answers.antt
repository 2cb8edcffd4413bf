use Rattle.std.proofs.Common.{◌≡◌, ◌++◌, ℕ, List, ap, ◌∙◌, append_assoc}
use Rattle.convoy_commands.proofs.reply_lines.push_outside.Goals as goal

joined : (out head percent end begun told ended : List ℕ) → begun ≡ out ++ head → told ≡ begun ++ percent → ended ≡ told ++ end → ended ≡ out ++ (head ++ (percent ++ end))
joined out head percent end begun told ended first second third =
    third ∙ ap (λ t. t ++ end) (second ∙ ap (λ t. t ++ percent) first) ∙ append_assoc (out ++ head) percent end ∙ append_assoc out head (percent ++ end)

pub returns : goal.returns
returns c =
    rw c.in-Some.is
    (joined _ _ _ _ _ _ _ c.in_ok-extend_from_slice.ensures.items c.in_ok-push_percent.ensures c.in_ok-extend_from_slice-2.ensures.items)
