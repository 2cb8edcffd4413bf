use Rattle.std.proofs.Common.{take}
use Rattle.std.specs.List.{All}
use Rattle.convoy_picture.specs.Words.{entry_text}
use Rattle.convoy_draw.specs.Layers.{IsToldIn}
use Rattle.convoy_draw.proofs.signs.push_entry_signs.Given as goal

-- the layers tell the entries so far
abbrev pub invariant-loop-i : goal.invariant-loop-i
invariant-loop-i l = All (λ entry. IsToldIn l.layers (entry_text l.scene.scenario.now entry)) (take l.i l.entry-items)
