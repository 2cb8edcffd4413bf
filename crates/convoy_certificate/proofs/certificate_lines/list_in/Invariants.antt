use Rattle.std.proofs.Common.{◌≡◌, ◌++◌, length, option_map}
use Rattle.convoy_certificate.specs.Forms.{numbers_in, list_in}
use Rattle.convoy_certificate.proofs.certificate_lines.list_in.Given as goal

abbrev pub invariant-loop-word : goal.invariant-loop-word
invariant-loop-word l = option_map (λ more. l.numbers.items ++ more) (numbers_in l.words) ≡ list_in l.label l.line

abbrev pub decreases-loop-word : goal.decreases-loop-word
decreases-loop-word l = length l.words
