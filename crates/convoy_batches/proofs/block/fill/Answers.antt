use Rattle.std.proofs.Common.{inl, refl, ap, sym, ◌∙◌, ◌++◌}
use Rattle.convoy_commands.specs.Faults.{fault_line_of}
use Rattle.convoy_batches.proofs.Blocks.{has_room, no_room}
use Rattle.convoy_batches.proofs.block.fill.Goals as goal

pub returns-then-is_err : goal.returns-then-is_err
returns-then-is_err c =
    rw c.in-Ok.is
    (no_room _ _ _ _ c.append.result _ _ _ (sym c.is_err.ensures.value ∙ c.if-is_err.true) c.append.ensures.err c.start.ensures.line c.push_fault.ensures)

pub returns-else-is_err : goal.returns-else-is_err
returns-else-is_err c =
    rw c.in-Ok.is
    (has_room _ _ _ _ _ c.append.result _ _ (sym c.is_err.ensures.value ∙ c.if-is_err.false) (rw c.deref.ensures.value at c.append.ensures.ok) c.start.ensures.line (c.end_of_answer.ensures _))

pub returns-in-Err : goal.returns-in-Err
returns-in-Err c =
    rw c.in-Err.is
    (record { reply = _; told = inl refl; end_is = refl; block = c.push_fault-in-Err.ensures ∙ ap (λ x. x ++ fault_line_of c.in-Err.fault) c.start.ensures.line })
