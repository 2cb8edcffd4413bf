-- What the cells of a line and the lines of a table tell, one after the other.
use Rattle.std.proofs.Common.{◌≡◌, ℕ, ◌+◌, ◌<◌, ◌≤◌, true, false, List, [], ◌∷◌, length, get_or, drop, Some, None, Result, Ok, Err, refl, ap, sym, ◌∙◌, inl, arith}
use Rattle.std.proofs.lemmas.List.{append-nil, drop_all, drop_more}
use Rattle.convoy_lines.specs.Places.{Place, line_at, past_line}
use Rattle.convoy_lines.specs.Results.{◌>>=◌}
use Rattle.convoy_scenario.specs.Memory.{IsUnlessMemory}
use Rattle.convoy_ranges.specs.declared.fault.RangesFault.{RangesFault}
use Rattle.convoy_ranges.specs.declared.fault.RangesFault.TheVariants.{Empty, Memory}
use Rattle.convoy_ranges.specs.Tables.{Head, Sighting, all_seen, cell_at, cells_of, head_of, is_blank, line_in, rows_in, seen_in, table_in, with_front}
use Rattle.convoy_ranges.proofs.Chains.{goes_on_behind, stops_behind}

module _ (line : ℕ) (from : List ℕ) (cells columns : List (List ℕ)) where
  -- the column at hand stands before those that are left
  opened : (to : List ℕ) (i : ℕ) → i < length columns → to ≡ get_or columns i to
      → all_seen line from cells (i + 1) (drop i columns) ≡ all_seen line from cells (i + 1) (to ∷ drop (i + 1) columns)
  opened to i below is = ap (all_seen line from cells (i + 1)) (rw (← is) at (drop_more columns i to below))

  pub cell_more : (to : List ℕ) (i : ℕ) (front new : List Sighting) (total : Result (List Sighting) RangesFault)
      → i < length columns → to ≡ get_or columns i to
      → IsUnlessMemory Memory (with_front front (seen_in line from to (cell_at cells (i + 1)))) (Ok new)
      → with_front front (all_seen line from cells (i + 1) (drop i columns)) ≡ total
      → with_front new (all_seen line from cells (i + 1 + 1) (drop (i + 1) columns)) ≡ total
  cell_more to i front new total below is told so_far =
      goes_on_behind front new (seen_in line from to (cell_at cells (i + 1))) (all_seen line from cells (i + 1 + 1) (drop (i + 1) columns)) total told
      (sym (ap (with_front front) (opened to i below is)) ∙ so_far)

  pub cell_stops : (to : List ℕ) (i : ℕ) (front : List Sighting) (fault : RangesFault) (total : Result (List Sighting) RangesFault)
      → i < length columns → to ≡ get_or columns i to
      → IsUnlessMemory Memory (with_front front (seen_in line from to (cell_at cells (i + 1)))) (Err fault)
      → with_front front (all_seen line from cells (i + 1) (drop i columns)) ≡ total
      → IsUnlessMemory Memory total (Err fault)
  cell_stops to i front fault total below is told so_far =
      stops_behind front (seen_in line from to (cell_at cells (i + 1))) fault (all_seen line from cells (i + 1 + 1) (drop (i + 1) columns)) total told
      (sym (ap (with_front front) (opened to i below is)) ∙ so_far)

  pub cells_done : (i : ℕ) (front : List Sighting) (total : Result (List Sighting) RangesFault)
      → length columns ≤ i
      → with_front front (all_seen line from cells (i + 1) (drop i columns)) ≡ total
      → IsUnlessMemory Memory total (Ok front)
  cells_done i front total past so_far =
      let none = ap (λ (cs : List (List ℕ)). with_front front (all_seen line from cells (i + 1) cs)) (drop_all i columns past) in
      inl (ap Ok (sym (append-nil front)) ∙ sym none ∙ so_far)

-- the next line stands before those that are left
next_line : (ended : List (List ℕ)) (rest : List ℕ) (number : ℕ) (line : List ℕ)
    → line_at (record { ended = ended; rest = rest; number = number }) ≡ Some line
    → (ended ≡ line ∷ (past_line (record { ended = ended; rest = rest; number = number })).ended)
    × ((past_line (record { ended = ended; rest = rest; number = number })).number ≡ number + 1)
next_line [] rest number line is = absurd cc
next_line (first ∷ lines) rest number line is = let same : first ≡ line = cc in (ap (λ (l : List ℕ). l ∷ lines) same, refl)

no_line : (ended : List (List ℕ)) (rest : List ℕ) (number : ℕ) → line_at (record { ended = ended; rest = rest; number = number }) ≡ None → ended ≡ []
no_line [] rest number is = refl
no_line (first ∷ lines) rest number is = absurd cc

pub fewer_left : (p : Place) (line : List ℕ) → line_at p ≡ Some line → length (past_line p).ended < length p.ended
fewer_left p line is = let next = next_line p.ended p.rest p.number line is in rw next.0 (omega arith)

row_opened : (head : Head) (p : Place) (line : List ℕ) → line_at p ≡ Some line
    → rows_in head p.number p.ended ≡ (line_in head p.number line >>= (λ seen. with_front seen (rows_in head (past_line p).number (past_line p).ended)))
unfolding rows_in
row_opened head p line is =
    let next = next_line p.ended p.rest p.number line is in
    ap (rows_in head p.number) next.0 ∙ ap (λ (n : ℕ). line_in head p.number line >>= (λ seen. with_front seen (rows_in head n (past_line p).ended))) (sym next.1)

pub row_more : (head : Head) (p : Place) (line : List ℕ) (front new : List Sighting) (total : Result (List Sighting) RangesFault)
    → line_at p ≡ Some line
    → IsUnlessMemory Memory (with_front front (line_in head p.number line)) (Ok new)
    → with_front front (rows_in head p.number p.ended) ≡ total
    → with_front new (rows_in head (past_line p).number (past_line p).ended) ≡ total
row_more head p line front new total is told so_far =
    goes_on_behind front new (line_in head p.number line) (rows_in head (past_line p).number (past_line p).ended) total told
    (sym (ap (with_front front) (row_opened head p line is)) ∙ so_far)

pub row_stops : (head : Head) (p : Place) (line : List ℕ) (front : List Sighting) (fault : RangesFault) (total : Result (List Sighting) RangesFault)
    → line_at p ≡ Some line
    → IsUnlessMemory Memory (with_front front (line_in head p.number line)) (Err fault)
    → with_front front (rows_in head p.number p.ended) ≡ total
    → IsUnlessMemory Memory total (Err fault)
row_stops head p line front fault total is told so_far =
    stops_behind front (line_in head p.number line) fault (rows_in head (past_line p).number (past_line p).ended) total told
    (sym (ap (with_front front) (row_opened head p line is)) ∙ so_far)

pub rows_done : (head : Head) (p : Place) (front : List Sighting) (total : Result (List Sighting) RangesFault)
    → line_at p ≡ None
    → with_front front (rows_in head p.number p.ended) ≡ total
    → IsUnlessMemory Memory total (Ok front)
unfolding rows_in
rows_done head p front total is so_far =
    let none = ap (λ (lines : List (List ℕ)). with_front front (rows_in head p.number lines)) (no_line p.ended p.rest p.number is) in
    inl (ap Ok (sym (append-nil front)) ∙ sym none ∙ so_far)

-- a blank line is passed over
pub blank_passed : (p : Place) (line : List ℕ) (total : Result (List Sighting) RangesFault)
    → line_at p ≡ Some line → is_blank (cells_of line) ≡ true
    → table_in p.number p.ended ≡ total
    → table_in (past_line p).number (past_line p).ended ≡ total
unfolding table_in
blank_passed p line total is blank so_far =
    let next = next_line p.ended p.rest p.number line is in
    rw next.1 (rw (next.0, blank) at so_far)

-- the first line that is not blank
pub head_met : (p : Place) (line : List ℕ) (total : Result (List Sighting) RangesFault)
    → line_at p ≡ Some line → is_blank (cells_of line) ≡ false
    → table_in p.number p.ended ≡ total
    → total ≡ (head_of p.number (cells_of line) >>= (λ head. rows_in head (past_line p).number (past_line p).ended))
unfolding table_in
head_met p line total is some so_far =
    let next = next_line p.ended p.rest p.number line is in
    rw next.1 (sym (rw (next.0, some) at so_far))

pub none_met : (p : Place) (total : Result (List Sighting) RangesFault) → line_at p ≡ None → table_in p.number p.ended ≡ total → total ≡ Err Empty
unfolding table_in
none_met p total is so_far = sym (rw (no_line p.ended p.rest p.number is) at so_far)
