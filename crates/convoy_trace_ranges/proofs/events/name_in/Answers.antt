use Rattle.std.proofs.Common.{inl, inr, refl}
use Rattle.std.proofs.lemmas.Bool.{cases_Bool}
use Rattle.convoy_draft.specs.Names.{is_group_name}
use Rattle.convoy_ranges.proofs.NameTexts.{name_text}
use Rattle.convoy_trace_ranges.proofs.events.name_in.Goals as goal

pub returns-in_default : goal.returns-in_default
returns-in_default c =
    elim (cases_Bool (is_group_name c.args.cell.now)) [
      | inl is ↦ absurd (c.in_default.ensures.cases.0 (name_text c.args.cell.now is))
      | inr isnt ↦ inl (rw isnt refl)
    ]
