use Rattle.std.proofs.Common.{◌≡◌, ◌==◌, false, ◌++◌, ◌∷◌, [], arith, codes, decimal, rules}
use Rattle.std.proofs.lemmas.Bool.{cond-false}
use Rattle.std.proofs.lemmas.Bool.Decides.{nat_tests}
use Rattle.std.proofs.lemmas.Result.{IfOk-weaker}
use Rattle.convoy_draw.specs.Legends.{wordless_lines}
use Rattle.convoy_draw.specs.Shown.{ShowsMore}
use Rattle.convoy_draw.proofs.legend.LegendRows.push_wordless.Goals as goal

pub returns : goal.returns
returns c =
    let count = c.args.count in
    let words = codes "signs without room for words: " ++ decimal count in
    let is : c.deref.result.now ≡ words = search rules in
    let some : (count == 0) ≡ false = grind (arith, nat_tests, c.if-count-eq0.false) in
    let one : wordless_lines count ≡ words ∷ [] = cond-false (count == 0) [] (words ∷ []) some in
    IfOk-weaker c.push_words.result _ (λ done. ShowsMore (wordless_lines count) c.args.self.now c.push_words.new.self)
    (λ done more. rw one (rw is at more)) c.push_words.ensures
