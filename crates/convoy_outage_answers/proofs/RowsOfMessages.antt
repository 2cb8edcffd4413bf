-- The rows of one message.
use Rattle.std.proofs.Common.{All, ◌≡◌, ◌<◌, ◌==◌, ℕ, true, List, arith}
use Rattle.std.proofs.lemmas.Bool.Decides.{nat_tests}
use Rattle.std.proofs.lemmas.List.Elements.{All-weaker, filter_passes}
use Rattle.convoy_outage_answers.specs.declared.row_through.RowThrough.{RowThrough}
use Rattle.convoy_outage_answers.specs.TablesThrough.{rows_through_of}

-- they are of a known message, if that is one
pub rows_known : (n m : ℕ) (rows : List RowThrough) → m < n → All (λ (row : RowThrough). row.surveyed.message < n) (rows_through_of m rows)
rows_known n m rows less =
    All-weaker (λ (row : RowThrough). (row.surveyed.message == m) ≡ true) (λ (row : RowThrough). row.surveyed.message < n)
    (λ row is. let same : row.surveyed.message ≡ m = grind (arith, nat_tests, is) in omega (arith, less, same))
    (rows_through_of m rows) (filter_passes (λ (row : RowThrough). row.surveyed.message == m) rows)
