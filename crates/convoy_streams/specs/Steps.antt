-- What a byte does to the line that is being read.
use Rattle.std.specs.Prelude.{ℕ, ◌==◌, nat_lt, Bool, true, false, not, ◌&&◌, if◌then◌else◌, List, [], ◌∷◌}
use Rattle.convoy_streams.specs.declared.label.TheConstants.{LONGEST_LABEL}
use Rattle.convoy_streams.specs.declared.line.Line.{Line}
use Rattle.convoy_streams.specs.declared.line.Line.TheVariants.{Start, OneDash, TwoDashes, Dashes, Named, Other}
use Rattle.convoy_streams.specs.declared.line.Step.{Step}
use Rattle.convoy_streams.specs.declared.line.Step.TheVariants.{Ends, Waits, Adds, Keeps}
use Rattle.convoy_streams.specs.Jobs.{is_label_byte}

-- the front of a divider that the line is, without what has come of a label
abbrev pub front_of : Line → List ℕ
front_of Start = []
front_of OneDash = 45 ∷ []
front_of TwoDashes = 45 ∷ 45 ∷ []
front_of Dashes = 45 ∷ 45 ∷ 45 ∷ []
front_of Named = 45 ∷ 45 ∷ 45 ∷ 32 ∷ []
front_of Other = []

-- the line is a whole divider, where so many bytes of a label have come
abbrev pub is_whole : Line → ℕ → Bool
is_whole Dashes named = true
is_whole Named named = not (named == 0)
is_whole _ named = false

-- what byte 10 does, by whether the line is a whole divider
abbrev pub step_at_end : Bool → Step
step_at_end true = Ends
step_at_end false = Keeps Start

-- what a byte does that is to be the next one of a divider
abbrev pub waits_for : Bool → Line → Step
waits_for true line = Waits line
waits_for false line = Keeps Other

-- what a byte does after `--- ` and what has come of a label, by whether it may go on with this byte
abbrev pub adds_if : Bool → Step
adds_if true = Adds
adds_if false = Keeps Other

-- what any other byte does
abbrev pub step_within : Line → ℕ → ℕ → Step
step_within Start named byte = waits_for (byte == 45) OneDash
step_within OneDash named byte = waits_for (byte == 45) TwoDashes
step_within TwoDashes named byte = waits_for (byte == 45) Dashes
step_within Dashes named byte = waits_for (byte == 32) Named
step_within Named named byte = adds_if (is_label_byte byte && nat_lt named LONGEST_LABEL)
step_within Other named byte = Keeps Other

-- what a byte does, where so many bytes of a label have come
abbrev pub step_of : Line → ℕ → ℕ → Step
step_of line named byte = if byte == 10 then step_at_end (is_whole line named) else step_within line named byte
