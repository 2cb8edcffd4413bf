-- Whether a text is of the form of a certificate: its first line decides.
use Rattle.std.specs.Prelude.{ℕ, nat_le, ◌==◌, Bool, ◌&&◌, if◌then◌else◌, List, length, slice_index, take, codes}
use Rattle.convoy_lines.specs.Labels.{begins_with}
use Rattle.convoy_lines.specs.Words.{words_of}
use Rattle.convoy_draft.specs.Names.{is_digit}
use Rattle.convoy_certificate.specs.declared.form.Form.{Form}
use Rattle.convoy_certificate.specs.declared.form.Form.TheVariants.{Certificate, Other}
use Rattle.convoy_certificate.specs.Forms.{version_in}

-- the first line is the word `convoy` and a digit, as in certificates: no scenario begins so
unfoldable pub is_certificate_text : List ℕ → Bool
is_certificate_text text =
    nat_le 9 (length text) && begins_with (codes "convoy") (words_of text) && is_digit (slice_index text 7) && (slice_index text 8 == 10)

-- what a text is: where it is of the form of a certificate, in the version that its first line, of eight bytes, names
unfoldable pub form_of : List ℕ → Form
form_of text = if is_certificate_text text then Certificate (version_in (take 8 text)) else Other
