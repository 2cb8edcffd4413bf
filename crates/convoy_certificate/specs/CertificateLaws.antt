-- What is proved of the texts of certificates. Each is the one clause of the function of its name in the crate's module `certificate_laws`.
use Rattle.std.specs.Prelude.{◌≡◌, ℕ, ◌≤◌, List, length, Ok}
use Rattle.convoy_certificate.specs.declared.certificate.TheConstants.{LONGEST_TEXT, MOST_NODES}
use Rattle.convoy_certificate.specs.Certificate.{Certificate, IsCertificate}
use Rattle.convoy_certificate.specs.Text.{certificate_text}
use Rattle.convoy_certificate.specs.Reading.{certificate_of, AreReadable, IsTextOf}

-- no two certificates have one text
abbrev pub TextsDiffer : Type 0
TextsDiffer = (b c : Certificate) → IsCertificate b → IsCertificate c → certificate_text b ≡ certificate_text c → b ≡ c

-- the text of a certificate that has no more nodes than may be read is read as the certificate
abbrev pub TextsAreRead : Type 0
TextsAreRead =
    (certificate : Certificate)
    → IsCertificate certificate
    → AreReadable certificate.nodes
    → certificate_of (certificate_text certificate) ≡ Ok certificate

-- the text of a certificate that has no more nodes than may be read is within the limit of bytes
abbrev pub TextsAreShort : Type 0
TextsAreShort =
    (certificate : Certificate)
    → IsCertificate certificate
    → length certificate.nodes ≤ MOST_NODES
    → length (certificate_text certificate) ≤ LONGEST_TEXT

-- a certificate that is read from a text has this text
abbrev pub TextsAreKept : Type 0
TextsAreKept =
    (text : List ℕ) (certificate : Certificate) → certificate_of text ≡ Ok certificate → IsTextOf certificate text
