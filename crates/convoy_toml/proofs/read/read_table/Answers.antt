use Rattle.std.proofs.Common.{inl, inr, refl}
use Rattle.std.proofs.lemmas.Bool.{cases_Bool, false≢true}
use Rattle.std.proofs.lemmas.Str.{is_utf8-from_IsUtf8, IsUtf8-from_is_utf8}
use Rattle.std.specs.Str.{is_utf8}
use Rattle.toml.specs.Errors.{IsMemory}
use Rattle.convoy_toml.proofs.read.read_table.Goals as goal

pub returns-in-Ok : goal.returns-in-Ok
returns-in-Ok c =
    let ok = c.in-Ok.ensures.ok in
    inl (rw (is_utf8-from_IsUtf8 c.args.text.now ok.0, ok.1) refl)

pub returns-else-is_memory : goal.returns-else-is_memory
returns-else-is_memory c =
    let text = c.args.text.now in
    let no_memory : IsMemory c.in-Err.error → ⊥ = λ memory. false≢true (c.if-is_memory.ensures.1 memory) in
    elim (cases_Bool (is_utf8 text)) [
      | inl is ↦ inl (rw (is, c.in-Err.ensures.refused no_memory (IsUtf8-from_is_utf8 text is)) refl)
      | inr not ↦ inl (rw not refl)
    ]
