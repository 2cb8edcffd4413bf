-- What the command `draw` writes.
use Rattle.std.specs.Prelude.{◌≡◌, ℕ, List, Option, Ok}
use Rattle.convoy_certificate.specs.Certificate.{Certificate, IsCertificate}
use Rattle.convoy_certificate.specs.Reading.{IsTextOf}
use Rattle.convoy_checker.specs.Validity.{IsValid}
use Rattle.convoy_draw.specs.Drawings.{IsDrawing}
use Rattle.convoy_picture.specs.Pictures.{picture_of}
use Rattle.convoy_sim.specs.Greatest.{IsGreatest}
use Rattle.convoy_commands.specs.declared.done.Done.TheVariants.{Fine}
use Rattle.convoy_commands.specs.Checks.{check_reply}
use Rattle.convoy_commands.specs.Measured.{measure_of}
use Rattle.convoy_commands.specs.Replies.{Reply, Rule}
use Rattle.convoy_draft.specs.declared.duration.TimeUnit.{TimeUnit}

-- the image is one of the run of the certificate's schedule, which tells how late the target is from the issue of message x, with times in the unit that is asked for
abbrev pub IsImageFrom : ℕ → Option TimeUnit → Certificate → List ℕ → Type 0
IsImageFrom x asked certificate out =
    IsDrawing (measure_of asked certificate.scenario) certificate.scenario (picture_of certificate.scenario certificate.schedule) x out

-- the same from the target's own issue
abbrev pub IsImageOf : Option TimeUnit → Certificate → List ℕ → Type 0
IsImageOf asked certificate out = IsImageFrom certificate.scenario.target_message asked certificate out

-- an image in place of a yes to the certificate, and else what `check` says
abbrev pub DrawsFor : Option TimeUnit → Certificate → Reply → Reply → Type 0
DrawsFor asked certificate (Ok (Fine, line)) reply = (out : List ℕ) × (reply ≡ Ok (Fine, out)) × IsImageOf asked certificate out
DrawsFor asked certificate other reply = reply ≡ other

-- something is written in place of a yes, and else what `check` says
abbrev pub IsInPlaceOfYes : Reply → Reply → Type 0
IsInPlaceOfYes (Ok (Fine, line)) reply = (out : List ℕ) × (reply ≡ Ok (Fine, out))
IsInPlaceOfYes other reply = reply ≡ other

-- the text is that of a valid certificate, whose latency is the greatest of its scenario, and this is an image of its run
pub record IsDrawn (asked : Option TimeUnit) (text out : List ℕ) : Type 0 where
  pub certificate : Certificate
  pub lawful : IsCertificate certificate
  pub written : IsTextOf certificate text
  pub valid : IsValid certificate
  pub greatest : IsGreatest certificate.scenario certificate.latency
  pub drawn : IsImageOf asked certificate out

-- what an image means
abbrev pub MeansDrawn : Option TimeUnit → Rule
MeansDrawn asked text (Ok (Fine, out)) = IsDrawn asked text out
MeansDrawn asked text other = Unit {0}

-- what `draw` may answer: an image where `check` says yes, and that of a valid certificate; and else just what `check` says
pub record DrawSays (asked : Option TimeUnit) (text : List ℕ) (reply : Reply) : Type 0 where
  pub as_check : IsInPlaceOfYes (check_reply text) reply
  pub means : MeansDrawn asked text reply
