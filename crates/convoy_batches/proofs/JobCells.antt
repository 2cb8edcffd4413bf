-- The rows of a table, one after the other, and the words of a fault.
use Rattle.std.proofs.Common.{◌≡◌, ℕ, ◌+◌, ◌-◌, ◌<◌, Bool, List, [], ◌∷◌, ◌++◌, length, map, take, get_or, refl, ap, sym, ◌∙◌, arith, append_assoc, length-append, codes, decimal}
use Rattle.std.specs.List.{enumerate_from}
use Rattle.std.proofs.lemmas.List.{length-take-le, take-append-le, take_more}
use Rattle.std.proofs.Math.Seq.{take-length}
use Rattle.convoy_tables.specs.Tables.{Cell, Table}
use Rattle.convoy_commands.specs.declared.fault.Fault.{Fault}
use Rattle.convoy_commands.specs.Faults.{fault_line_of, row_of}
use Rattle.convoy_batches.specs.declared.job_row.JobRow.{JobRow}
use Rattle.convoy_batches.specs.JobTables.{cells_of, fault_words, table_with}

-- the cells of rows, which are those of the jobs from a number on
abbrev cells_from : Bool → Bool → ℕ → List JobRow → List (List Cell)
cells_from judged sure n rows = map (λ p. cells_of judged sure p.0 p.1) (enumerate_from n rows)

cells_push : (judged sure : Bool) (n last : ℕ) (rows : List JobRow) (row : JobRow) → last ≡ n + length rows →
    cells_from judged sure n (rows ++ row ∷ []) ≡ cells_from judged sure n rows ++ cells_of judged sure last row ∷ []
cells_push judged sure n last [] row is =
    let same : n ≡ last = omega (arith, is) in
    ap (λ i. cells_of judged sure i row ∷ []) same
cells_push judged sure n last (first ∷ rows) row is =
    let next : last ≡ (n + 1) + length rows = omega (arith, is) in
    ap (λ cells. cells_of judged sure n first ∷ cells) (cells_push judged sure (n + 1) last rows row next)

next_cells : (judged sure : Bool) (rows : List JobRow) (i : ℕ) (row : JobRow) → i < length rows → row ≡ get_or rows i row →
    cells_from judged sure 1 (take (i + 1) rows) ≡ cells_from judged sure 1 (take i rows) ++ cells_of judged sure (i + 1) row ∷ []
next_cells judged sure rows i row within is =
    let next : i + 1 ≡ 1 + length (take i rows) = omega (arith, length-take-le i rows (omega (arith, within))) in
    ap (cells_from judged sure 1) (take_more rows i row within ∙ ap (λ (last : JobRow). take i rows ++ last ∷ []) (sym is))
    ∙ cells_push judged sure 1 (i + 1) (take i rows) row next

-- the table of the rows so far, and a row more
pub one_more_row : (judged sure : Bool) (rows : List JobRow) (i : ℕ) (row : JobRow) (table : Table) (cells : List Cell) → i < length rows → row ≡ get_or rows i row →
    table ≡ table_with judged sure (take i rows) → cells ≡ cells_of judged sure (i + 1) row →
    record { columns = table.columns; rows = table.rows ++ cells ∷ [] } ≡ table_with judged sure (take (i + 1) rows)
one_more_row judged sure rows i row table cells within is so_far made = rw (so_far, made, next_cells judged sure rows i row within is) refl

-- a text without the byte at its end
without_end : (text : List ℕ) (end : ℕ) → take (length (text ++ end ∷ []) - 1) (text ++ end ∷ []) ≡ text
without_end text end =
    let most : length (text ++ end ∷ []) - 1 ≡ length text = omega (arith, length-append text (end ∷ [])) in
    ap (λ n. take n (text ++ end ∷ [])) most ∙ take-append-le (length text) text (end ∷ []) (omega arith) ∙ take-length text

-- the words of a fault are its number and its text
pub words_of_fault : (fault : Fault) → fault_words fault ≡ codes "fault " ++ (decimal (row_of fault).0 ++ 32 ∷ (row_of fault).1)
unfolding fault_line_of
words_of_fault fault =
    let words : List ℕ = codes "fault " ++ (decimal (row_of fault).0 ++ 32 ∷ (row_of fault).1) in
    let line : fault_line_of fault ≡ words ++ 10 ∷ [] = simp append_assoc in
    ap (λ (whole : List ℕ). take (length whole - 1) whole) line ∙ without_end words 10
