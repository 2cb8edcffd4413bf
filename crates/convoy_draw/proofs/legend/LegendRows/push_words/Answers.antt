use Rattle.std.proofs.Common.{◌≡◌, ◌++◌, ◌∷◌, [], IfOk, refl, rules, string_bytes}
use Rattle.std.proofs.lemmas.Result.{IfOk-weaker}
use Rattle.convoy_draw.specs.Shown.{ShowsMore}
use Rattle.convoy_draw.proofs.Showing.{more_words}
use Rattle.convoy_draw.proofs.legend.LegendRows.push_words.Goals as goal

pub returns : goal.returns
returns c =
    let old = string_bytes c.self.inside.text in
    let new = string_bytes c.push_str.new.self in
    let told : IfOk c.push_str.result (λ done. new ≡ old ++ c.deref.result.now) = search rules in
    rw (← c.self.view_is) (IfOk-weaker c.push_str.result (λ done. new ≡ old ++ c.deref.result.now) (λ done. ShowsMore (c.args.words.now ∷ []) old new)
    (λ done is. more_words c.args.words.now c.self.inside.across c.self.inside.down old new (rw (is, c.deref.ensures, c.in_ok-line.ensures) refl))
    told)
