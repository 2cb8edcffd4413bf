use Rattle.std.proofs.Common.{◌∙◌, List, ℕ, ◌==◌, length, ap}
use Rattle.convoy_lines.proofs.Cutting.{are_over}
use Rattle.convoy_lines.proofs.words.Words.are_over.Goals as goal

pub returns : goal.returns
returns c = are_over c.self.inside.rest c.is_none.result c.is_none.ensures ∙ ap (λ (ws : List (List ℕ)). length ws == 0) c.self.view_is
