use Rattle.std.proofs.Common.{◌≡◌, ◌++◌, codes, decimal, take}
use Rattle.std.specs.List.{flat_map}
use Rattle.convoy_lines.specs.Texts.{spaced}
use Rattle.convoy_workflow_certificate.proofs.writing.push_within.Given as goal

abbrev pub invariant-loop-ticks : goal.invariant-loop-ticks
invariant-loop-ticks l = l.text.items ≡ l.fn.text.items ++ codes "within" ++ flat_map (λ number. spaced (decimal number)) (take l.ticks-index l.within)
