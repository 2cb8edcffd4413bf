use Rattle.std.proofs.Common.{◌≡◌, ◌∙◌, ◌++◌, IfOk, append_assoc, codes, rules, string_bytes, sym}
use Rattle.std.proofs.lemmas.Result.{IfOk-weaker}
use Rattle.convoy_draft.specs.Keys.{key_word}
use Rattle.convoy_sweep.specs.Keys.{dotted}
use Rattle.convoy_sweep.proofs.columns.dotted.Goals as goal

pub returns : goal.returns
returns c =
    let whole : IfOk c.format.result (λ text. string_bytes text ≡ c.args.name.now ++ (codes "." ++ key_word c.args.key)) = search rules in
    IfOk-weaker c.format.result _ (λ text. string_bytes text ≡ dotted c.args.name.now c.args.key)
    (λ text is. is ∙ sym (append_assoc c.args.name.now (codes ".") (key_word c.args.key))) whole
