use Rattle.std.proofs.Common.{◌∙◌, sym, ap, [], List, ℕ, Option}
use Rattle.std.specs.Prelude.{unwrap_or}
use Rattle.csv.specs.Records.{fields_of}
use Rattle.convoy_ranges.proofs.CellsRead.{field_there}
use Rattle.convoy_traces.proofs.cells.cell_at.Goals as goal

pub returns-in-Some : goal.returns-in-Some
returns-in-Some c =
    let there = rw c.in-Some.is at c.get.ensures.value in
    ap (λ (o : Option (List ℕ)). unwrap_or o []) there ∙ sym (field_there (fields_of c.args.cells.now) c.args.place)

pub returns-in-None : goal.returns-in-None
returns-in-None c =
    let there = rw c.in-None.is at c.get.ensures.value in
    ap (λ (o : Option (List ℕ)). unwrap_or o []) there ∙ sym (field_there (fields_of c.args.cells.now) c.args.place)
