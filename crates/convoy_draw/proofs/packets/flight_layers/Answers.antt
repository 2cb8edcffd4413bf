use Rattle.std.proofs.Common.{◌≡◌, ◌<◌, length, take, arith}
use Rattle.std.proofs.lemmas.List.{take_all}
use Rattle.std.proofs.lemmas.List.Elements.{All-more, All-weaker}
use Rattle.convoy_picture.specs.Words.{flight_text}
use Rattle.convoy_draw.specs.Layers.{IsToldIn}
use Rattle.convoy_draw.proofs.packets.flight_layers.Goals as goal

pub loop-flight-preserved : goal.loop-flight-preserved
loop-flight-preserved c =
    let flights = c.flights-flight-items.result.now in
    let i = c.loop-flight.flight-index in
    let within : i < length flights = omega arith in
    All-more (λ flight. IsToldIn c.push_flight.new.layers (flight_text c.args.scene.now.scenario.now flight)) flights i _ within
    (All-weaker (λ flight. IsToldIn c.loop-flight.layers (flight_text c.args.scene.now.scenario.now flight))
    (λ flight. IsToldIn c.push_flight.new.layers (flight_text c.args.scene.now.scenario.now flight))
    (λ flight told. c.in_ok-push_flight.ensures.still (flight_text c.args.scene.now.scenario.now flight) told) (take i flights) c.loop-flight.invariant)
    c.in_ok-push_flight.ensures.told

pub returns : goal.returns
returns c =
    let flights = c.flights-flight-items.result.now in
    let all : take c.loop-flight.flight-index flights ≡ flights = take_all c.loop-flight.flight-index flights (omega arith) in
    rw (← c.flights-flight-items.ensures) (rw all at c.loop-flight.invariant)
