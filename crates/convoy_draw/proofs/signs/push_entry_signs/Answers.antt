use Rattle.std.proofs.Common.{◌≡◌, ◌<◌, length, take, arith}
use Rattle.std.proofs.lemmas.List.{take_all}
use Rattle.std.proofs.lemmas.List.Elements.{All-more, All-weaker}
use Rattle.convoy_picture.specs.Words.{entry_text}
use Rattle.convoy_draw.specs.Layers.{IsToldIn}
use Rattle.convoy_draw.proofs.signs.push_entry_signs.Goals as goal

pub loop-i-preserved : goal.loop-i-preserved
loop-i-preserved c =
    let entries = c.entries-entry-items.result.now in
    let i = c.loop-i.i in
    let within : i < length entries = omega arith in
    All-more (λ entry. IsToldIn c.push_entry_sign.new.layers (entry_text c.args.scene.now.scenario.now entry)) entries i _ within
    (All-weaker (λ entry. IsToldIn c.loop-i.layers (entry_text c.args.scene.now.scenario.now entry))
    (λ entry. IsToldIn c.push_entry_sign.new.layers (entry_text c.args.scene.now.scenario.now entry))
    (λ entry told. c.in_ok-push_entry_sign.ensures.still (entry_text c.args.scene.now.scenario.now entry) told) (take i entries) c.loop-i.invariant)
    c.in_ok-push_entry_sign.ensures.told

pub returns : goal.returns
returns c =
    let entries = c.entries-entry-items.result.now in
    let all : take c.loop-i.i entries ≡ entries = take_all c.loop-i.i entries (omega arith) in
    rw (← c.entries-entry-items.ensures) (rw all at c.loop-i.invariant)
