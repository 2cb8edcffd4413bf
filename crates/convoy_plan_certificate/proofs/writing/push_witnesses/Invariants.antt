use Rattle.std.proofs.Common.{◌≡◌, ◌++◌, take}
use Rattle.std.specs.List.{flat_map}
use Rattle.convoy_plan_certificate.specs.PlanTexts.{witness_text}
use Rattle.convoy_plan_certificate.proofs.writing.push_witnesses.Given as goal

abbrev pub invariant-loop-witness : goal.invariant-loop-witness
invariant-loop-witness l = l.text.items ≡ l.fn.text.items ++ flat_map witness_text (take l.witness-index l.witnesses)
