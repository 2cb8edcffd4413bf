-- The cases of a text, as they are asked about one by one: who sends each message, and at which group.
use Rattle.std.specs.Prelude.{ℕ, Bool, true, false, List, map, flat_map, Some}
use Rattle.std.specs.List.{range_with_len}
use Rattle.convoy_toml.specs.declared.asked.Asked.{Asked}
use Rattle.convoy_toml.specs.declared.target.TargetKey.TheVariants.{Named}
use Rattle.convoy_toml.specs.Shape.{WrittenTarget}
use Rattle.convoy_case_answers.specs.declared.late.Late.{Late}
use Rattle.convoy_case_answers.specs.declared.late.Late.TheVariants as lates

-- groups may be replicated by white box
abbrev pub accepts : Late → Bool
accepts lates.Nothing = false
accepts (lates.Outages outage) = false
accepts (lates.Answers span) = true

-- the first case, whatever its targets
abbrev pub first_asked : Late → Asked → Asked
first_asked late asked = record asked { case = Some 0; accept = accepts late }

-- that case at that target
abbrev pub asked_in : Late → Asked → ℕ → WrittenTarget → Asked
asked_in late asked case target = record asked { target = Named target.message target.group; case = Some case; accept = accepts late }

-- so many cases at each of the targets
abbrev pub asked_cases : Late → Asked → List WrittenTarget → ℕ → List Asked
asked_cases late asked targets count = flat_map (λ case. map (asked_in late asked case) targets) (range_with_len 0 count)
