-- The text of the links of a trace: in TOML, each number with its rule beside it.
use Rattle.std.specs.Prelude.{ℕ, ◌==◌, if◌then◌else◌, List, [], ◌++◌, length, codes, decimal}
use Rattle.convoy_draft.specs.declared.duration.TimeUnit.TheVariants.{Milliseconds}
use Rattle.convoy_ranges.specs.declared.asked.RangeRules.{RangeRules}
use Rattle.convoy_ranges.specs.Texts.{told}
use Rattle.convoy_times.specs.Measures.{told_ticks}
use Rattle.convoy_trace_ranges.specs.declared.ranges.TickRange.{TickRange}
use Rattle.convoy_trace_ranges.specs.declared.shares.Shares.{Shares}
use Rattle.convoy_trace_ranges.specs.Links.{Link}
use Rattle.convoy_trace_ranges.specs.Shares.{shares_of}

-- so many nanoseconds in milliseconds, with the unit
unfoldable pub time_text : ℕ → List ℕ
time_text time = told_ticks (record { tick = time; unit = Milliseconds }) 1 ++ codes " ms"

-- how many packets there are
unfoldable pub packets_text : ℕ → List ℕ
packets_text count = decimal count ++ (if count == 1 then codes " packet" else codes " packets")

-- the line that says from which group the link leads; one that leads from the clients has none
unfoldable pub from_text : List ℕ → List ℕ
from_text from = if length from == 0 then [] else codes "from = \"" ++ (from ++ codes "\"\n")

-- the margin, where there is one, and whether it is more or less
unfoldable pub margin_text : RangeRules → List ℕ → List ℕ
margin_text rules word = if rules.margin == 0 then [] else codes ", with " ++ (decimal rules.margin ++ (codes " % " ++ word))

-- the line of the least
unfoldable pub least_text : RangeRules → Link → ℕ → List ℕ
least_text rules link least =
    codes "least = \"" ++ (told rules least ++ (codes "\" # " ++ (time_text link.least ++ (codes ", the least of "
    ++ (packets_text (length link.delays) ++ (margin_text rules (codes "less") ++ codes "\n"))))))

-- within which times shares of the packets came
unfoldable pub shares_text : Shares → List ℕ
shares_text shares =
    codes "half within " ++ (time_text shares.half ++ (codes ", 90 % within " ++ (time_text shares.most ++ (codes ", 99 % within "
    ++ (time_text shares.nearly_all ++ (codes ", 99.9 % within " ++ time_text shares.all_but_few))))))

-- the line of the most
unfoldable pub most_text : RangeRules → Link → ℕ → List ℕ
most_text rules link most =
    codes "most = \"" ++ (told rules most ++ (codes "\" # " ++ (time_text link.greatest ++ (codes ", the greatest of "
    ++ (packets_text (length link.delays) ++ (margin_text rules (codes "more") ++ (codes "; " ++ (shares_text (shares_of link.delays) ++ codes "\n"))))))))

-- the table of a link, after an empty line
unfoldable pub link_text : RangeRules → Link → TickRange → List ℕ
link_text rules link range =
    codes "\n[[link]]\n" ++ (from_text link.from ++ (codes "to = \"" ++ (link.to ++ (codes "\"\n"
    ++ (least_text rules link range.least ++ most_text rules link range.most)))))

-- what stands above the tables: the rules, and the length of a tick
unfoldable pub head_text : RangeRules → List ℕ
head_text rules =
    codes "# Ranges of the packets of a trace: at least the least time that one took, at most the greatest, each with the margin,\n# in whole ticks of "
    ++ (told rules 1 ++ codes ": the least is rounded down, the greatest up. A packet that was not seen may take longer.\n")
