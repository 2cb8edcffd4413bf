-- Texts that are a scenario or a certificate: the first line decides.
use Rattle.std.specs.Prelude.{ℕ, nat_le, if◌then◌else◌, List, length, Result, Ok, Err}
use Rattle.convoy_streams.specs.declared.reading.ReadFault.TheVariants.{TooLong}
use Rattle.convoy_certificate.specs.Certificate.{Certificate}
use Rattle.convoy_certificate.specs.Reading.{certificate_of}
use Rattle.convoy_certificate.specs.TextForms.{form_of}
use Rattle.convoy_certificate.specs.declared.form.Form.{Form}
use Rattle.convoy_certificate.specs.declared.form.Form.TheVariants as forms
use Rattle.convoy_certificate.specs.declared.text_fault.TextFault.{TextFault}
use Rattle.convoy_commands.specs.declared.done.Done.TheVariants.{Fine}
use Rattle.convoy_commands.specs.declared.fault.Fault.{Fault}
use Rattle.convoy_commands.specs.declared.fault.Fault.TheVariants.{Reading}
use Rattle.convoy_commands.specs.declared.limits.TheConstants.{LONGEST_JOB}
use Rattle.convoy_commands.specs.Checks.{reply_of_text}
use Rattle.convoy_commands.specs.Replies.{Reply, fine}

-- what is written for a certificate that was read; else its text is refused, as by `check`
abbrev pub reply_of_reading : (Certificate → List ℕ) → Result Certificate TextFault → Reply
reply_of_reading made (Ok certificate) = Ok (Fine, made certificate)
reply_of_reading made (Err fault) = reply_of_text (Err fault)

-- the answer for a scenario's text, where that has no more bytes than it may have
abbrev pub reply_of_job : (List ℕ → Result (List ℕ) Fault) → List ℕ → Reply
reply_of_job answer text = if nat_le (length text) LONGEST_JOB then fine (answer text) else Err (Reading (TooLong LONGEST_JOB))

-- the reply to a text of the form of a certificate, and to any other
abbrev pub reply_to_form : (Certificate → List ℕ) → (List ℕ → Result (List ℕ) Fault) → List ℕ → Form → Reply
reply_to_form made answer text (forms.Certificate version) = reply_of_reading made (certificate_of text)
reply_to_form made answer text forms.Other = reply_of_job answer text

-- the reply to a certificate, and to a scenario
abbrev pub reply_by_form : (Certificate → List ℕ) → (List ℕ → Result (List ℕ) Fault) → List ℕ → Reply
reply_by_form made answer text = reply_to_form made answer text (form_of text)
