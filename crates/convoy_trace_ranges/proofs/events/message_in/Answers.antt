use Rattle.std.proofs.Common.{inl, inr, refl, sym, ap, ◌∙◌, Ok}
use Rattle.std.specs.Str.{is_utf8}
use Rattle.std.proofs.lemmas.Bool.{cases_Bool}
use Rattle.std.proofs.lemmas.Str.{IsUtf8-from_is_utf8, is_utf8-from_IsUtf8}
use Rattle.convoy_trace_ranges.proofs.events.message_in.Goals as goal

pub returns-in_ok-new-in-Ok : goal.returns-in_ok-new-in-Ok
returns-in_ok-new-in-Ok c =
    let some = sym c.if-is_empty.ensures in
    let text = is_utf8-from_IsUtf8 c.args.cell.now c.in-Ok.ensures.cases.1 in
    inl (rw (some, text) (ap Ok (c.in_ok-new-in-Ok.ensures ∙ c.in-Ok.ensures.cases.0)))

pub returns-in-Err : goal.returns-in-Err
returns-in-Err c =
    let some = sym c.if-is_empty.ensures in
    elim (cases_Bool (is_utf8 c.args.cell.now)) [
      | inl is ↦ absurd (c.in-Err.ensures.cases.0 (IsUtf8-from_is_utf8 c.args.cell.now is))
      | inr isnt ↦ inl (rw (some, isnt) refl)
    ]
