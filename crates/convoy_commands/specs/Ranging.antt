-- What is answered for a table of round trips.
use Rattle.std.specs.Prelude.{ℕ, List, Result}
use Rattle.std.specs.Result.{result_map_both}
use Rattle.convoy_ranges.specs.Answers.{ranges_text}
use Rattle.convoy_ranges.specs.declared.asked.RangeRules.{RangeRules}
use Rattle.convoy_commands.specs.declared.fault.Fault.{Fault}
use Rattle.convoy_commands.specs.Faults.{told_of_ranges}
use Rattle.convoy_commands.specs.Replies.{Answers, Rule, fine}

-- the links that the table gives by these rules, or why it gives none
abbrev pub links_told : RangeRules → List ℕ → Result (List ℕ) Fault
links_told asked text = result_map_both (λ links. links) told_of_ranges (ranges_text asked text)

-- what `ranges` may answer: just those
abbrev pub RangesSay : RangeRules → Rule
RangesSay asked = Answers (λ text. fine (links_told asked text))
