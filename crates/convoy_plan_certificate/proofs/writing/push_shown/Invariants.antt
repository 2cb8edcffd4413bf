use Rattle.std.proofs.Common.{◌≡◌, ◌++◌, take}
use Rattle.std.specs.List.{flat_map}
use Rattle.convoy_certificate.specs.Text.{certificate_text}
use Rattle.convoy_plan_certificate.proofs.writing.push_shown.Given as goal

abbrev pub invariant-loop-certificate : goal.invariant-loop-certificate
invariant-loop-certificate l = l.text.items ≡ l.fn.text.items ++ flat_map certificate_text (take l.certificate-index l.shown)
