use Rattle.std.proofs.Common.{◌∙◌, sym}
use Rattle.convoy_plan_proof.proofs.proving.accepted.Goals as goal

-- what the checker has read of the text
pub returns-in-Ok : goal.returns-in-Ok
returns-in-Ok c = record {
  certificate = c.in-Ok.field-0;
  written = sym c.deref.ensures.value ∙ c.in-Ok.ensures.text;
  valid = c.in-Ok.ensures.valid;
  best = c.in-Ok.ensures.best;
}
