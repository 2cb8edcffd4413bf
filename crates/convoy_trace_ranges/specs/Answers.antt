-- What is written for a trace.
use Rattle.std.specs.Prelude.{ℕ, List, [], ◌∷◌, ◌++◌, Some, Result, Ok}
use Rattle.convoy_lines.specs.Results.{◌>>=◌}
use Rattle.convoy_draft.specs.declared.duration.TimeUnit.{TimeUnit}
use Rattle.convoy_ranges.specs.declared.asked.RangeRules.{RangeRules}
use Rattle.convoy_traces.specs.declared.fault.TraceFault.{TraceFault}
use Rattle.convoy_trace_ranges.specs.Links.{Link, links_of_text}
use Rattle.convoy_trace_ranges.specs.Ranges.{range_of}
use Rattle.convoy_trace_ranges.specs.Texts.{head_text, link_text}

-- a text with the tables of links, where each has a range
unfoldable pub with_links : RangeRules → List ℕ → List Link → Result (List ℕ) TraceFault
with_links rules text [] = Ok text
with_links rules text (link ∷ links) = range_of rules link >>= (λ range. with_links rules (text ++ link_text rules link range) links)

-- THE HEADLINE. What is written for a trace, whose numbers without a unit are of this one: the ranges of its links.
unfoldable pub trace_ranges_text : RangeRules → TimeUnit → List ℕ → Result (List ℕ) TraceFault
trace_ranges_text rules unit text = links_of_text (Some unit) text >>= with_links rules (head_text rules)
