-- Tables of links, one after the other.
use Rattle.std.proofs.Common.{◌≡◌, ℕ, ◌+◌, ◌<◌, ◌≤◌, List, ◌++◌, length, get_or, drop, Result, Ok, Err, ap, sym, ◌∙◌, inl}
use Rattle.std.proofs.lemmas.List.{drop_all, drop_more}
use Rattle.convoy_lines.specs.Results.{◌>>=◌}
use Rattle.convoy_ranges.specs.declared.asked.RangeRules.{RangeRules}
use Rattle.convoy_scenario.specs.Memory.{IsUnlessMemory}
use Rattle.convoy_traces.specs.declared.fault.TraceFault.{TraceFault}
use Rattle.convoy_traces.specs.declared.fault.TraceFault.TheVariants.{Memory}
use Rattle.convoy_traces.proofs.Chains.{goes_on, stops}
use Rattle.convoy_trace_ranges.specs.Answers.{with_links}
use Rattle.convoy_trace_ranges.specs.Links.{Link}
use Rattle.convoy_trace_ranges.specs.Ranges.{range_of}
use Rattle.convoy_trace_ranges.specs.Texts.{link_text}
use Rattle.convoy_trace_ranges.specs.declared.ranges.TickRange.{TickRange}

module _ (rules : RangeRules) (text : List ℕ) (links : List Link) (link : Link) (i : ℕ) (total : Result (List ℕ) TraceFault) (below : i < length links) (is : link ≡ get_or links i link)
    (so_far : with_links rules text (drop i links) ≡ total) where
  -- the link at hand stands before those that are left
  opened : (range_of rules link >>= (λ range. with_links rules (text ++ link_text rules link range) (drop (i + 1) links))) ≡ total
  unfolding with_links
  opened = sym (ap (with_links rules text) (rw (← is) at (drop_more links i link below))) ∙ so_far

  pub table_more : (range : TickRange) → range_of rules link ≡ Ok range → with_links rules (text ++ link_text rules link range) (drop (i + 1) links) ≡ total
  table_more range given =
      goes_on (range_of rules link) (λ range. with_links rules (text ++ link_text rules link range) (drop (i + 1) links)) range total (inl (sym given)) opened

  pub table_stops : (fault : TraceFault) → range_of rules link ≡ Err fault → IsUnlessMemory Memory total (Err fault)
  table_stops fault given =
      stops (range_of rules link) (λ range. with_links rules (text ++ link_text rules link range) (drop (i + 1) links)) fault total (inl (sym given)) opened

pub tables_done : (rules : RangeRules) (text : List ℕ) (links : List Link) (i : ℕ) (total : Result (List ℕ) TraceFault) → length links ≤ i → with_links rules text (drop i links) ≡ total
    → IsUnlessMemory Memory total (Ok text)
unfolding with_links
tables_done rules text links i total past so_far = inl (sym (ap (with_links rules text) (drop_all i links past)) ∙ so_far)
