use Rattle.std.proofs.Common.{◌≡◌, ℕ, List, [], ◌∙◌, sym, refl}
use Rattle.std.specs.Str.{is_utf8, IsUtf8}
use Rattle.std.proofs.lemmas.Bool.{false_from_ne_true}
use Rattle.std.proofs.lemmas.Str.{IsUtf8-from_is_utf8, is_utf8-from_IsUtf8}
use Rattle.convoy_scenario_lines.specs.LineForms.{name_of}
use Rattle.convoy_scenario_lines.proofs.line_forms.text_of.Goals as goal

itself : (word : List ℕ) → IsUtf8 word → name_of word ≡ word
itself word utf8 = rw (is_utf8-from_IsUtf8 word utf8) refl

none : (word : List ℕ) → (IsUtf8 word → ⊥) → name_of word ≡ []
none word other = rw (false_from_ne_true (is_utf8 word) (λ e. other (IsUtf8-from_is_utf8 word e))) refl

pub returns-in-Ok : goal.returns-in-Ok
returns-in-Ok c =
    let text = c.in-Ok.ensures.cases in
    text.0 ∙ sym (itself c.args.word.now text.1)

pub returns-in-Err : goal.returns-in-Err
returns-in-Err c =
    let other = c.in-Err.ensures.cases in
    sym (none c.args.word.now other.0)
