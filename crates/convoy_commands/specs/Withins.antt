-- Commands that check a certificate and may take no more steps for that than a limit.
use Rattle.std.specs.Prelude.{◌≡◌, ℕ, nat_le, Bool, true, false, List, Option, Some, None, Result, Ok, Err}
use Rattle.convoy_certificate.specs.Certificate.{Certificate, IsCertificate}
use Rattle.convoy_certificate.specs.Reading.{IsTextOf, certificate_of}
use Rattle.convoy_certificate.specs.declared.text_fault.TextFault.{TextFault}
use Rattle.convoy_checker.specs.Steps.{steps_of}
use Rattle.convoy_commands.specs.declared.done.Done.{Done}
use Rattle.convoy_commands.specs.ReplyLines.{not_checked_line}
use Rattle.convoy_commands.specs.Replies.{Reply, Rule, SaysUnlessMemory}

-- how many steps it takes to check what was read: none where that is no certificate
abbrev pub steps_of_reading : Result Certificate TextFault → ℕ
steps_of_reading (Ok certificate) = steps_of certificate
steps_of_reading (Err fault) = 0

-- how many it takes to check the certificate of a text
abbrev pub steps_of_text : List ℕ → ℕ
steps_of_text text = steps_of_reading (certificate_of text)

-- what the rule allows, if that is to be answered, and else just that end and that line
abbrev pub SaysIf : Bool → Done → List ℕ → Rule → Rule
SaysIf true end line says text reply = says text reply
SaysIf false end line says text reply = reply ≡ Ok (end, line)

-- What the rule allows, and nothing else, for a text that takes no more steps than the limit, if there is one; for each other text, just that end and that it is not checked.
abbrev pub SaysWithin : Option ℕ → Done → Rule → Rule
SaysWithin None end says text reply = says text reply
SaysWithin (Some limit) end says text reply =
    SaysIf (nat_le (steps_of_text text) limit) end (not_checked_line limit) says text reply

-- the rule allows the reply, unless memory ran out, for each text that is read as the certificate
abbrev pub AnswersCertificate : Rule → Certificate → Reply → Type 0
AnswersCertificate says certificate reply =
    (text : List ℕ) → IsCertificate certificate → certificate_of text ≡ Ok certificate → IsTextOf certificate text → SaysUnlessMemory says text reply
