-- How sure an answer is: in at most which share of runs a packet leaves its range, and so the answer may not hold.
use Rattle.std.specs.Prelude.{ℕ, List, [], ◌++◌, Option, Some, None, codes}
use Rattle.convoy_lines.specs.Texts.{ended}
use Rattle.convoy_scenario.specs.Scenario.{Scenario}
use Rattle.convoy_toml.specs.Reading.{shares_of_text}
use Rattle.convoy_outside.specs.Percents.{percent_of}
use Rattle.convoy_outside.specs.Sums.{outside_told}

-- the share of runs of the scenario of a text, in billionths, where the links of the text tell shares
abbrev pub outside_of_text : List ℕ → Scenario → Option ℕ
outside_of_text text scenario = outside_told (shares_of_text text) scenario

-- the line that tells it, in per cent
abbrev pub outside_line : ℕ → List ℕ
outside_line billionths = codes "a packet leaves its range in at most " ++ (percent_of billionths ++ ended (codes " % of runs"))

-- the same where it is known; else nothing
abbrev pub outside_text : Option ℕ → List ℕ
outside_text None = []
outside_text (Some billionths) = outside_line billionths
