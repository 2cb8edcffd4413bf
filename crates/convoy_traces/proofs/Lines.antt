-- What the lines of a trace tell, one after the other.
use Rattle.std.proofs.Common.{◌≡◌, ℕ, ◌+◌, ◌<◌, ◌≤◌, true, false, List, [], ◌∷◌, length, Some, None, Result, Ok, Err, refl, ap, sym, ◌∙◌, inl, arith}
use Rattle.convoy_lines.specs.Places.{Place, line_at, past_line}
use Rattle.convoy_lines.specs.Results.{◌>>=◌}
use Rattle.convoy_ranges.specs.Tables.{cells_of, is_blank}
use Rattle.convoy_scenario.specs.Memory.{IsUnlessMemory}
use Rattle.convoy_scenario.specs.Scenario.{Scenario}
use Rattle.convoy_traces.specs.declared.clock.Clock.{Clock}
use Rattle.convoy_traces.specs.declared.columns.Head.{Head}
use Rattle.convoy_traces.specs.declared.told.Entry.{Entry}
use Rattle.convoy_traces.specs.declared.fault.TraceFault.{TraceFault}
use Rattle.convoy_traces.specs.declared.fault.TraceFault.TheVariants.{Empty, Memory}
use Rattle.convoy_traces.specs.Rows.{head_of}
use Rattle.convoy_traces.specs.Traces.{rows_below, rows_from, table_in, with_line}
use Rattle.convoy_traces.proofs.Chains.{goes_on, stops}

-- the next line stands before those that are left
pub next_line : (ended : List (List ℕ)) (rest : List ℕ) (number : ℕ) (line : List ℕ)
    → line_at (record { ended = ended; rest = rest; number = number }) ≡ Some line
    → (ended ≡ line ∷ (past_line (record { ended = ended; rest = rest; number = number })).ended)
    × ((past_line (record { ended = ended; rest = rest; number = number })).number ≡ number + 1)
next_line [] rest number line is = absurd cc
next_line (first ∷ lines) rest number line is = let same : first ≡ line = cc in (ap (λ (l : List ℕ). l ∷ lines) same, refl)

pub no_line : (ended : List (List ℕ)) (rest : List ℕ) (number : ℕ) → line_at (record { ended = ended; rest = rest; number = number }) ≡ None → ended ≡ []
no_line [] rest number is = refl
no_line (first ∷ lines) rest number is = absurd cc

pub fewer_left : (p : Place) (line : List ℕ) → line_at p ≡ Some line → length (past_line p).ended < length p.ended
fewer_left p line is = let next = next_line p.ended p.rest p.number line is in rw next.0 (omega arith)

pub numbered_next : (p : Place) (line : List ℕ) → line_at p ≡ Some line → (past_line p).number ≡ p.number + 1
numbered_next p line is = (next_line p.ended p.rest p.number line is).1

module _ (scenario : Scenario) (clock : Clock) where
  module _ (head : Head) (p : Place) (line : List ℕ) (entries : List Entry) (total : Result (List Entry) TraceFault) (is : line_at p ≡ Some line)
      (so_far : rows_from scenario clock head p.number entries p.ended ≡ total) where
    row_opened : (with_line scenario clock head p.number entries line >>= (λ more. rows_from scenario clock head (past_line p).number more (past_line p).ended)) ≡ total
    unfolding rows_from
    row_opened =
        let next = next_line p.ended p.rest p.number line is in
        sym (ap (rows_from scenario clock head p.number entries) next.0
        ∙ ap (λ (n : ℕ). with_line scenario clock head p.number entries line >>= (λ more. rows_from scenario clock head n more (past_line p).ended)) (sym next.1))
        ∙ so_far

    pub row_more : (new : List Entry) → IsUnlessMemory Memory (with_line scenario clock head p.number entries line) (Ok new)
        → rows_from scenario clock head (past_line p).number new (past_line p).ended ≡ total
    row_more new told =
        goes_on (with_line scenario clock head p.number entries line) (λ more. rows_from scenario clock head (past_line p).number more (past_line p).ended) new total told row_opened

    pub row_stops : (fault : TraceFault) → IsUnlessMemory Memory (with_line scenario clock head p.number entries line) (Err fault) → IsUnlessMemory Memory total (Err fault)
    row_stops fault told =
        stops (with_line scenario clock head p.number entries line) (λ more. rows_from scenario clock head (past_line p).number more (past_line p).ended) fault total told row_opened

  pub rows_done : (head : Head) (p : Place) (entries : List Entry) (total : Result (List Entry) TraceFault) → line_at p ≡ None
      → rows_from scenario clock head p.number entries p.ended ≡ total → IsUnlessMemory Memory total (Ok entries)
  unfolding rows_from
  rows_done head p entries total is so_far =
      inl (sym (ap (rows_from scenario clock head p.number entries) (no_line p.ended p.rest p.number is)) ∙ so_far)

  -- a blank line is passed over
  pub blank_passed : (p : Place) (line : List ℕ) (total : Result (List Entry) TraceFault) → line_at p ≡ Some line → is_blank (cells_of line) ≡ true
      → table_in scenario clock p.number p.ended ≡ total
      → table_in scenario clock (past_line p).number (past_line p).ended ≡ total
  unfolding table_in
  blank_passed p line total is blank so_far =
      let next = next_line p.ended p.rest p.number line is in
      rw next.1 (rw (next.0, blank) at so_far)

  -- the first line that is not blank
  pub head_met : (p : Place) (line : List ℕ) (total : Result (List Entry) TraceFault) → line_at p ≡ Some line → is_blank (cells_of line) ≡ false
      → table_in scenario clock p.number p.ended ≡ total
      → (head_of p.number (cells_of line) >>= rows_below scenario clock p.number line (past_line p).ended) ≡ total
  unfolding table_in
  head_met p line total is some so_far =
      let next = next_line p.ended p.rest p.number line is in
      rw (next.0, some) at so_far

  pub none_met : (p : Place) (total : Result (List Entry) TraceFault) → line_at p ≡ None → table_in scenario clock p.number p.ended ≡ total → total ≡ Err Empty
  unfolding table_in
  none_met p total is so_far = sym (rw (no_line p.ended p.rest p.number is) at so_far)
