use Rattle.std.proofs.Common.{◌∙◌, ap, inr, map, Some, List, ℕ, Bor}
use Rattle.csv.specs.Reading.{strip_bom}
use Rattle.csv.specs.Records.{trimmed}
use Rattle.csv.specs.declared.parser.Config.{Config}
use Rattle.convoy_ranges.specs.Tables.{cells_of, table_config}
use Rattle.convoy_ranges.proofs.CellsRead.{read_found, read_none}
use Rattle.convoy_traces.proofs.cells.cells_of.Goals as goal

pub returns-in-Ok-true : goal.returns-in-Ok-true
unfolding cells_of
returns-in-Ok-true c =
    let made = c.from_reader-reader.ensures in
    let config = rw (c.trim.ensures, c.comment.ensures, c.has_headers.ensures) at made.config in
    let headers = rw (c.trim.ensures, c.comment.ensures, c.has_headers.ensures) at made.has_headers in
    let trim = rw c.trim.ensures at made.trim in
    let whole = config ∙ ap (λ (k : Config). record k { comment = Some 35 }) c.new.ensures.config in
    let read = rw c.in-Ok-true.field-0-test at c.in-Ok-true.ensures.trims (inr (inr (headers, made.headers))) in
    let found = read_found (λ (s : Bor (List ℕ)). Some s.now) c.from_reader-reader.result c.read_byte_record.new.self table_config (strip_bom c.args.line.now) read.0 whole made.state made.source read.1 in
    rw (read.2, trim) (ap (map trimmed) found)

pub returns-in-Ok-false : goal.returns-in-Ok-false
unfolding cells_of
returns-in-Ok-false c =
    let made = c.from_reader-reader.ensures in
    let config = rw (c.trim.ensures, c.comment.ensures, c.has_headers.ensures) at made.config in
    let headers = rw (c.trim.ensures, c.comment.ensures, c.has_headers.ensures) at made.has_headers in
    let whole = config ∙ ap (λ (k : Config). record k { comment = Some 35 }) c.new.ensures.config in
    let read = rw c.in-Ok-false.field-0-test at c.in-Ok-false.ensures.trims (inr (inr (headers, made.headers))) in
    let none = read_none (λ (s : Bor (List ℕ)). Some s.now) c.from_reader-reader.result c.read_byte_record.new.self table_config (strip_bom c.args.line.now) read.0 whole made.state made.source read.1 in
    rw none c.new-in-Ok-false.ensures.fields
