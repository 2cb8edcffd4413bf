use Rattle.std.proofs.Common.{◌≡◌, ◌++◌, ◌/◌, ◌<◌, ◌^◌, IfOk, IsTrue, arith, codes, decimal, refl, rules, string_bytes}
use Rattle.std.proofs.lemmas.Result.{IfOk-weaker}
use Rattle.convoy_draw.specs.Shown.{is_wordless, no_words_after}
use Rattle.convoy_draw.proofs.Showing.{numbers_wordless, wordless_then}
use Rattle.convoy_draw.proofs.drawing.start.Goals as goal

pub returns : goal.returns
unfolding no_words_after
returns c =
    let wide = c.args.wide in
    let high = c.args.high in
    let ground = string_bytes c.in_ok-ground.ground in
    let front = codes "<svg xmlns=\"http://www.w3.org/2000/svg\" width=\"" in
    let third = codes "\" font-family=\"sans-serif\" font-size=\"110\">\n" in
    let box = codes "\" viewBox=\"0 0 " in
    let by = codes "\" height=\"" in
    let back = box ++ (decimal wide ++ (codes " " ++ (decimal high ++ (third ++ ground)))) in
    let last : IsTrue (is_wordless (third ++ ground)) = wordless_then third ground refl c.in_ok-ground.ensures in
    let ends : IsTrue (is_wordless back) = numbers_wordless box (codes " ") (third ++ ground) wide high (omega arith) (omega arith) refl refl last in
    let whole : IfOk c.format.result (λ text. string_bytes text ≡ front ++ (decimal (wide / 10) ++ (by ++ (decimal (high / 10) ++ back)))) = search rules in
    IfOk-weaker c.format.result _ (λ text. IsTrue (is_wordless (string_bytes text)))
    (λ text is. rw is (numbers_wordless front by back (wide / 10) (high / 10) (omega arith) (omega arith) refl refl ends)) whole
