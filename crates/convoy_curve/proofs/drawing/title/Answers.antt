use Rattle.std.proofs.Common.{◌≡◌, ◌++◌, ◌∷◌, [], IfOk, codes, rules, string_bytes}
use Rattle.std.proofs.lemmas.Result.{IfOk-weaker}
use Rattle.convoy_draw.specs.Drawings.{Tells}
use Rattle.convoy_draw.proofs.Telling.{tells_title}
use Rattle.convoy_curve.proofs.drawing.title.Goals as goal

pub returns : goal.returns
returns c =
    let whole : IfOk c.format.result (λ text. string_bytes text ≡ codes "<title>" ++ (c.args.words.now ++ codes "</title>\n")) = search rules in
    IfOk-weaker c.format.result _ (λ text. Tells c.args.words.now (string_bytes text))
    (λ text is. tells_title c.args.words.now [] (10 ∷ []) (string_bytes text) is) whole
