use Rattle.std.proofs.Common.{take}
use Rattle.std.specs.List.{All}
use Rattle.convoy_picture.specs.Words.{flight_text}
use Rattle.convoy_draw.specs.Layers.{IsToldIn}
use Rattle.convoy_draw.proofs.packets.flight_layers.Given as goal

-- the layers tell the flights so far
abbrev pub invariant-loop-flight : goal.invariant-loop-flight
invariant-loop-flight l =
    All (λ flight. IsToldIn l.layers (flight_text l.scene.scenario.now flight)) (take l.flight-index l.flight-items)
