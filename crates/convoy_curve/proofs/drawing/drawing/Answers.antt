use Rattle.std.proofs.Common.{◌≡◌, ◌++◌, IfOk, codes, rules, string_bytes}
use Rattle.std.proofs.lemmas.Result.{IfOk-weaker}
use Rattle.convoy_curve.specs.Curves.{IsCurve}
use Rattle.convoy_curve.proofs.Telling.{curve_tells}
use Rattle.convoy_curve.proofs.drawing.drawing.Goals as goal

pub returns : goal.returns
returns c =
    let start = string_bytes c.in_ok-start.start in
    let title = string_bytes c.in_ok-title.title in
    let ground = string_bytes c.in_ok-ground.ground in
    let axes = string_bytes c.in_ok-axes.axes in
    let marks = string_bytes c.in_ok-marks.marks in
    let line = string_bytes c.in_ok-line.line in
    let notes = string_bytes c.in_ok-notes.notes in
    let whole : IfOk c.format.result (λ text. string_bytes text ≡ start ++ (title ++ (ground ++ (axes ++ (marks ++ (line ++ (notes ++ codes "</svg>\n"))))))) = search rules in
    IfOk-weaker c.format.result _ (λ text. IsCurve c.args.curve.now (string_bytes text))
    (λ text is. curve_tells c.args.curve.now start title ground axes marks line notes (string_bytes text) is
    c.in_ok-title.ensures c.in_ok-marks.ensures c.in_ok-line.ensures) whole
