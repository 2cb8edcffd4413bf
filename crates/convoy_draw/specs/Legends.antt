-- What the legend of an image says, line by line.
use Rattle.std.specs.Prelude.{ℕ, ◌==◌, Bool, List, [], ◌∷◌, ◌++◌, Option, None, Some, codes, decimal, if◌then◌else◌}
use Rattle.std.specs.List.{list_any}
use Rattle.convoy_scenario.specs.Scenario.{Scenario, may_wait, message_at, message_numbers}
use Rattle.convoy_timeline.specs.Explanations.{message_name_at}
use Rattle.convoy_timeline.specs.declared.explanation.Explanation.{Explanation}
use Rattle.convoy_timeline.specs.declared.explanation.Holder.{Holder}

-- a line, or none
abbrev pub line_if : Bool → List ℕ → List (List ℕ)
line_if holds line = if holds then line ∷ [] else []

-- what the colour of the target stands for
abbrev pub target_line : Scenario → List ℕ
target_line scenario = message_name_at scenario scenario.target_message ++ codes ", whose delivery it is about"

-- what the colour of the message stands for that holds the target back
abbrev pub holder_lines : Scenario → Option Holder → List (List ℕ)
holder_lines scenario None = []
holder_lines scenario (Some holder) = (message_name_at scenario holder.message ++ codes ", which holds it back") ∷ []

-- what the colours of messages stand for
abbrev pub color_lines : Scenario → Option Holder → List (List ℕ)
color_lines scenario holder = target_line scenario ∷ (holder_lines scenario holder ++ codes "other messages" ∷ [])

-- what the lines of packets stand for
abbrev pub packet_lines : List (List ℕ)
packet_lines = codes "a message on its way" ∷ codes "a proposal on its way" ∷ codes "what the delivery waits for" ∷ []

-- some message may wait before its issue
abbrev pub has_windows : Scenario → Bool
has_windows scenario = list_any (λ m. may_wait (message_at scenario m)) (message_numbers scenario)

-- what the bars of messages that may wait stand for, if there are any
abbrev pub bar_lines : Scenario → List (List ℕ)
bar_lines scenario = line_if (has_windows scenario) (codes "when it may be issued")

-- how many signs have no words beside them, if there are any
abbrev pub wordless_lines : ℕ → List (List ℕ)
wordless_lines wordless = if wordless == 0 then [] else (codes "signs without room for words: " ++ decimal wordless) ∷ []

-- what the sign of the target's wait stands for, if it waits
abbrev pub wait_lines : Option Holder → List (List ℕ)
wait_lines None = []
wait_lines (Some holder) = codes "from its commit on the target waits" ∷ []

-- what the signs stand for
abbrev pub sign_lines : Option Holder → List (List ℕ)
sign_lines holder =
    codes "issue" ∷ codes "arrival, with the local stamp" ∷ codes "commit, with the final stamp" ∷ (wait_lines holder ++ codes "delivery" ∷ [])

-- what stamps are called, and where signs stand
abbrev pub note_line : List ℕ
note_line =
    codes "2.b is the stamp that group b gives at time 2 of its clock; of several messages the later ones have their signs a little to the right of their tick"

-- all lines of the legend, of an image with so many signs that have no words
unfoldable pub legend_lines : Scenario → Explanation → ℕ → List (List ℕ)
legend_lines scenario why wordless =
    color_lines scenario why.holder
    ++ (packet_lines ++ (bar_lines scenario ++ (wordless_lines wordless ++ (sign_lines why.holder ++ note_line ∷ []))))
