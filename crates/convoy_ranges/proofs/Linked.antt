-- Tables of pairs, one after the other.
use Rattle.std.proofs.Common.{◌≡◌, ℕ, ◌+◌, ◌<◌, ◌≤◌, List, ◌∷◌, ◌++◌, length, get_or, drop, Result, Ok, Err, ap, sym, ◌∙◌, inl}
use Rattle.std.proofs.lemmas.List.{append-nil, drop_all, drop_more}
use Rattle.convoy_scenario.specs.Memory.{IsUnlessMemory}
use Rattle.convoy_ranges.specs.declared.asked.RangeRules.{RangeRules}
use Rattle.convoy_ranges.specs.declared.fault.RangesFault.{RangesFault}
use Rattle.convoy_ranges.specs.declared.fault.RangesFault.TheVariants.{Memory}
use Rattle.convoy_ranges.specs.Tables.{Sighting, with_front}
use Rattle.convoy_ranges.specs.Ranges.{Range, range_at}
use Rattle.convoy_ranges.specs.Texts.{link_text}
use Rattle.convoy_ranges.specs.Answers.{links_text}
use Rattle.convoy_ranges.proofs.Chains.{goes_on, stops}

-- the pair at hand stands before those that are left
opened : (rules : RangeRules) (pairs : List Sighting) (pair : Sighting) (i : ℕ) → i < length pairs → pair ≡ get_or pairs i pair
    → links_text rules (drop i pairs) ≡ links_text rules (pair ∷ drop (i + 1) pairs)
opened rules pairs pair i below is = ap (links_text rules) (rw (← is) at (drop_more pairs i pair below))

pub link_more : (rules : RangeRules) (pairs : List Sighting) (pair : Sighting) (i : ℕ) (text : List ℕ) (range : Range) (total : Result (List ℕ) RangesFault)
    → i < length pairs → pair ≡ get_or pairs i pair → range_at rules pair ≡ Ok range
    → with_front text (links_text rules (drop i pairs)) ≡ total
    → with_front (text ++ link_text rules pair range) (links_text rules (drop (i + 1) pairs)) ≡ total
unfolding links_text
link_more rules pairs pair i text range total below is given so_far =
    goes_on text (link_text rules pair) (range_at rules pair) range (links_text rules (drop (i + 1) pairs)) total (inl (sym given))
    (sym (ap (with_front text) (opened rules pairs pair i below is)) ∙ so_far)

pub link_stops : (rules : RangeRules) (pairs : List Sighting) (pair : Sighting) (i : ℕ) (text : List ℕ) (fault : RangesFault) (total : Result (List ℕ) RangesFault)
    → i < length pairs → pair ≡ get_or pairs i pair → range_at rules pair ≡ Err fault
    → with_front text (links_text rules (drop i pairs)) ≡ total
    → IsUnlessMemory Memory total (Err fault)
unfolding links_text
link_stops rules pairs pair i text fault total below is given so_far =
    stops text (link_text rules pair) (range_at rules pair) fault (links_text rules (drop (i + 1) pairs)) total (inl (sym given))
    (sym (ap (with_front text) (opened rules pairs pair i below is)) ∙ so_far)

pub link_done : (rules : RangeRules) (pairs : List Sighting) (i : ℕ) (text : List ℕ) (total : Result (List ℕ) RangesFault)
    → length pairs ≤ i
    → with_front text (links_text rules (drop i pairs)) ≡ total
    → IsUnlessMemory Memory total (Ok text)
unfolding links_text
link_done rules pairs i text total past so_far =
    let none = ap (λ (ps : List Sighting). with_front text (links_text rules ps)) (drop_all i pairs past) in
    inl (ap Ok (sym (append-nil text)) ∙ sym none ∙ so_far)
