use Rattle.std.proofs.Common.{◌≡◌, ◌++◌, IfOk, codes, rules, string_bytes}
use Rattle.std.proofs.lemmas.Result.{IfOk-weaker}
use Rattle.convoy_draw.specs.Drawings.{IsDrawing}
use Rattle.convoy_draw.proofs.Telling.{drawing_tells}
use Rattle.convoy_draw.proofs.drawing.drawing.Goals as goal

pub returns : goal.returns
returns c =
    let start = string_bytes c.in_ok-start.start in
    let head = string_bytes c.in_ok-head.head in
    let ground = string_bytes c.in_ok-ground.ground in
    let windows = string_bytes c.in_ok-windows.windows in
    let packets = string_bytes c.in_ok-packets.packets in
    let signs = string_bytes c.in_ok-signs.signs in
    let labels = string_bytes c.in_ok-labels.labels in
    let legend = string_bytes c.in_ok-legend.legend in
    let whole : IfOk c.format.result (λ text. string_bytes text
    ≡ start ++ (head ++ (ground ++ (windows ++ (packets ++ (signs ++ (labels ++ (legend ++ codes "</svg>\n")))))))) = search rules in
    IfOk-weaker c.format.result _ (λ text. IsDrawing c.args.measure.now c.args.scenario.now c.args.picture.now c.args.origin (string_bytes text))
    (λ text is. drawing_tells c.args.measure.now c.args.scenario.now c.args.picture.now c.args.origin start head ground windows packets signs labels legend (string_bytes text) _ is
    c.in_ok-start.ensures c.in_ok-head.ensures c.in_ok-windows.ensures c.in_ok-packets.ensures c.in_ok-signs.ensures c.in_ok-legend.ensures.1) whole
