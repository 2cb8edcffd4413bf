use Rattle.std.proofs.Common.{◌≡◌, ◌∙◌, sym, ap}
use Rattle.std.specs.Option.{option_copied}
use Rattle.convoy_lines.specs.Words.{words_of, words_left, next_word}
use Rattle.convoy_lines.proofs.Cutting.{cut_words}
use Rattle.convoy_lines.proofs.words.Words.next.Goals as goal

pub returns-clause-word : goal.returns-clause-word
returns-clause-word c =
    let words = cut_words c.in_ok-line.line.now c.cut.result.0.now (option_copied c.cut.result.1) c.cut.ensures.front c.cut.ensures.whole in
    let now : words_of c.in_ok-line.line.now ≡ c.args.self.now = ap (λ r. words_left (option_copied r)) (sym c.in_ok-line.was) ∙ c.self.view_is in
    ap next_word (sym now ∙ words)
