use Rattle.std.proofs.Common.{◌∙◌, arith, refl, sym}
use Rattle.std.proofs.lemmas.Bool.{false≢true}
use Rattle.convoy_regions.proofs.Tables.{no_entry}
use Rattle.convoy_regions.proofs.known.own_table.Goals as goal

pub loop-message-init : goal.loop-message-init
loop-message-init c = record {
  long = refl;
  set = λ m below. absurd (omega (arith, below));
  only = λ r c in' has. absurd (false≢true (sym (no_entry r c) ∙ has));
}
