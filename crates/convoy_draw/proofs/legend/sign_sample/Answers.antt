use Rattle.std.proofs.Common.{◌≡◌, ◌++◌, IfOk, IsTrue, codes, refl, rules, string_bytes}
use Rattle.std.proofs.lemmas.Result.{IfOk-weaker}
use Rattle.convoy_draw.specs.Shown.{is_wordless, no_words_after}
use Rattle.convoy_draw.proofs.Showing.{wordless_then}
use Rattle.convoy_draw.proofs.legend.sign_sample.Goals as goal

pub returns : goal.returns
unfolding no_words_after
returns c =
    let front = codes "<g stroke=\"#000000\">" in
    let sign = string_bytes c.in_ok-sign.sign in
    let whole : IfOk c.format.result (λ sample. string_bytes sample ≡ front ++ (sign ++ codes "</g>")) = search rules in
    IfOk-weaker c.format.result _ (λ sample. IsTrue (is_wordless (string_bytes sample)))
    (λ sample is. rw is (wordless_then front (sign ++ codes "</g>") refl (wordless_then sign (codes "</g>") c.in_ok-sign.ensures refl))) whole
