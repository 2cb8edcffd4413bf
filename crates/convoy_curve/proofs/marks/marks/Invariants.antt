use Rattle.std.proofs.Common.{string_bytes, take}
use Rattle.std.specs.List.{All}
use Rattle.convoy_draw.specs.Drawings.{Tells}
use Rattle.convoy_curve.specs.Curves.{dot_text}
use Rattle.convoy_curve.proofs.marks.marks.Given as goal

-- the text tells of the values so far
abbrev pub invariant-loop-dot : goal.invariant-loop-dot
invariant-loop-dot l = All (λ dot. Tells (dot_text l.curve dot) (string_bytes l.text)) (take l.dot-index l.dots)
