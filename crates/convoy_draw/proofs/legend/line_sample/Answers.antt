use Rattle.std.proofs.Common.{◌≡◌, ◌<◌, ◌^◌, IfOk, IsTrue, arith, rules, string_bytes}
use Rattle.std.proofs.lemmas.Result.{IfOk-weaker}
use Rattle.convoy_draw.specs.Shown.{is_wordless}
use Rattle.convoy_draw.proofs.Showing.{line_drawn, line_wordless}
use Rattle.convoy_draw.proofs.legend.line_sample.Goals as goal

pub returns : goal.returns
returns c =
    let middle = c.saturating_sub-middle.result in
    let color = c.args.color.now in
    let style = c.args.style.now in
    let whole : IfOk c.format.result (λ text. string_bytes text ≡ line_drawn c.args.across middle color style) = search rules in
    IfOk-weaker c.format.result _ (λ text. IsTrue (is_wordless (string_bytes text)))
    (λ text is. rw is (line_wordless c.args.across middle color style (omega arith) (omega arith) c.requires.color c.requires.style)) whole
