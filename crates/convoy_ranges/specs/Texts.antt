-- The text of ranges: links in TOML, each number with its rule beside it.
use Rattle.std.specs.Prelude.{ℕ, ◌+◌, ◌==◌, if◌then◌else◌, List, [], ◌++◌, Option, Some, None, codes, decimal}
use Rattle.std.specs.Str.{bytes_eq}
use Rattle.convoy_draft.specs.declared.duration.TimeUnit.TheVariants.{Milliseconds}
use Rattle.convoy_times.specs.Measures.{told_ticks}
use Rattle.convoy_ranges.specs.declared.asked.RangeRules.{RangeRules}
use Rattle.convoy_ranges.specs.Rules.{kilometres_in}
use Rattle.convoy_ranges.specs.Tables.{Sighting}
use Rattle.convoy_ranges.specs.Ranges.{Range}

-- so many ticks in milliseconds, with the unit
unfoldable pub told : RangeRules → ℕ → List ℕ
told rules ticks = told_ticks (record { tick = rules.tick; unit = Milliseconds }) ticks ++ codes " ms"

-- the line that says that the link leads both ways; one from a place to itself has none
abbrev pub both_text : Sighting → List ℕ
both_text pair = if bytes_eq pair.from pair.to then [] else codes "both = true\n"

-- by which rule a packet takes the least
unfoldable pub least_rule : RangeRules → Option ℕ → List ℕ
least_rule rules None = codes "no distance is known"
least_rule rules (Some distance) =
    decimal distance ++ (codes " km at " ++ (decimal (kilometres_in rules.speed) ++ codes " km a millisecond"))

-- the margin, where there is one
unfoldable pub margin_text : RangeRules → List ℕ
margin_text rules = if rules.margin == 0 then [] else codes " with " ++ (decimal rules.margin ++ codes " % more")

-- the line of the least
unfoldable pub least_text : RangeRules → Option ℕ → ℕ → List ℕ
least_text rules kilometres least =
    codes "least = \"" ++ (told rules least ++ (codes "\" # " ++ (least_rule rules kilometres ++ codes "\n")))

-- the line of the most, which is the rest of the round trip of a line
unfoldable pub most_text : RangeRules → ℕ → ℕ → ℕ → List ℕ
most_text rules line least most =
    codes "most = \"" ++ (told rules most ++ (codes "\" # " ++ (told rules (least + most)
    ++ (codes ", the round trip of line " ++ (decimal line ++ (margin_text rules ++ (codes ", less " ++ (told rules least
    ++ codes " of the way back\n"))))))))

-- the table of a pair, after an empty line
unfoldable pub link_text : RangeRules → Sighting → Range → List ℕ
link_text rules pair range =
    codes "\n[[link]]\nfrom = \"" ++ (pair.from ++ (codes "\"\nto = \"" ++ (pair.to ++ (codes "\"\n" ++ (both_text pair
    ++ (least_text rules pair.kilometres range.least ++ most_text rules pair.line range.least range.most))))))

-- what stands above the tables: the rules, and the length of a tick
unfoldable pub head_text : RangeRules → List ℕ
head_text rules =
    codes "# Ranges of one way, from round trips: at least what the distance takes, at most the greatest round trip less the\n# least of the way back, in whole ticks of "
    ++ (told rules 1 ++ codes ": the least is rounded down, the round trip up.\n")
