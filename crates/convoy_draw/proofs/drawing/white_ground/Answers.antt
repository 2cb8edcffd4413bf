use Rattle.std.proofs.Common.{◌≡◌, ◌++◌, ◌<◌, ◌^◌, IfOk, IsTrue, arith, codes, decimal, refl, rules, string_bytes}
use Rattle.std.proofs.lemmas.Result.{IfOk-weaker}
use Rattle.convoy_draw.specs.Shown.{is_wordless, no_words_after}
use Rattle.convoy_draw.proofs.Showing.{numbers_wordless}
use Rattle.convoy_draw.proofs.drawing.white_ground.Goals as goal

pub returns : goal.returns
unfolding no_words_after
returns c =
    let front = codes "<rect width=\"" in
    let by = codes "\" height=\"" in
    let back = codes "\" fill=\"#ffffff\"/>\n" in
    let whole : IfOk c.format.result (λ text. string_bytes text ≡ front ++ (decimal c.args.wide ++ (by ++ (decimal c.args.high ++ back)))) = search rules in
    IfOk-weaker c.format.result _ (λ text. IsTrue (is_wordless (string_bytes text)))
    (λ text is. rw is (numbers_wordless front by back c.args.wide c.args.high (omega arith) (omega arith) refl refl refl)) whole
