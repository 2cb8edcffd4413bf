-- The text of a certificate of a workflow: the one text of each.
use Rattle.std.specs.Prelude.{ℕ, List, [], ◌∷◌, ◌++◌, map, flat_map, codes, decimal}
use Rattle.convoy_lines.specs.Texts.{ended, line_of}
use Rattle.convoy_causes.specs.declared.cause.Cause.{Cause}
use Rattle.convoy_causes.specs.declared.event.Event.{Event}
use Rattle.convoy_causes.specs.declared.event.Event.TheVariants.{Issue, Arrival, Commit, Delivery}
use Rattle.convoy_certificate.specs.Text.{certificate_text}
use Rattle.convoy_workflow_certificate.specs.declared.workflow_certificate.WorkflowCertificate.{WorkflowCertificate}

-- the first line, by which such a text is known
abbrev pub first_line : List ℕ
first_line = codes "convoy workflow 1"

-- the word of an event
abbrev pub event_word : Event → List ℕ
event_word Issue = codes "issue"
event_word Arrival = codes "arrival"
event_word Commit = codes "commit"
event_word Delivery = codes "delivery"

-- what a message follows: its number, that of its cause, the event and its group, and the offsets
abbrev pub follow_text : Cause → List ℕ
follow_text cause =
    ended
    (line_of (codes "follow")
    (decimal cause.effect ∷ decimal cause.message ∷ event_word cause.event ∷ decimal cause.group ∷ decimal cause.least ∷ decimal cause.most ∷ []))

-- within how many ticks deliveries come that are followed
abbrev pub within_text : List ℕ → List ℕ
within_text within = ended (line_of (codes "within") (map decimal within))

-- the message from whose issue time is counted
abbrev pub from_text : ℕ → List ℕ
from_text origin = ended (line_of (codes "from") (decimal origin ∷ []))

-- the text of a certificate
abbrev pub workflow_certificate_text : WorkflowCertificate → List ℕ
workflow_certificate_text certificate =
    ended first_line
    ++ (flat_map follow_text certificate.causes.items
    ++ (within_text certificate.within.items ++ (from_text certificate.origin ++ certificate_text certificate.run)))
