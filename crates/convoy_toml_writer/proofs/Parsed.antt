-- The text of a scenario with a schedule is a TOML text, of the document's table.
use Rattle.std.proofs.Common.{◌≡◌, ℕ, suc, ◌<◌, ◌^◌, ◌==◌, false, List, [], length, Some, Ok, refl, ap, ◌∙◌, arith, IfSome}
use Rattle.std.specs.Str.{IsAscii}
use Rattle.std.proofs.lemmas.Bool.Decides.{nat_tests}
use Rattle.std.proofs.lemmas.Str.{IsUtf8-from_ascii, is_utf8-from_IsUtf8}
use Rattle.toml_parser.specs.Lexical.{first}
use Rattle.toml.specs.Parse.{skip_bom, parse_document}
use Rattle.toml.specs.Tables.{no_nodes}
use Rattle.toml.proofs.ReadLines.{read_lines}
use Rattle.toml.proofs.Turns.{document_some}
use Rattle.convoy_draft.specs.Durations.{count_of}
use Rattle.convoy_scenario.specs.Scenario.{Scenario}
use Rattle.convoy_packets.specs.Assignment.{Schedule}
use Rattle.convoy_toml.specs.Reading.{table_of_text}
use Rattle.convoy_toml_writer.specs.Text.{toml_text}
use Rattle.convoy_toml_writer.proofs.Ascii.{document_ascii}
use Rattle.convoy_toml_writer.proofs.Document.{document_lines, document_table}
use Rattle.convoy_toml_writer.proofs.Filled.{document_filled}
use Rattle.convoy_toml_writer.proofs.Printed.{document_printed}
use Rattle.convoy_toml_writer.proofs.Written.{IsWritable, document_written}

-- no byte order mark stands before ASCII
no_mark : (text : List ℕ) → IsAscii text → skip_bom text ≡ text
unfolding skip_bom
no_mark text ascii =
    let low = ascii 0 in
    let other : (first text == 239) ≡ false = grind (arith, nat_tests, low) in
    rw other refl

-- the table of the text
pub text_read : (scenario : Scenario) (schedule : Schedule) → IsWritable scenario schedule → IfSome scenario.tick (λ t. count_of t < 2 ^ 32) → table_of_text (toml_text scenario schedule) ≡ Ok (document_table scenario schedule)
text_read scenario schedule is short =
    let text = toml_text scenario schedule in
    let es = document_lines scenario schedule in
    let ascii = document_ascii scenario schedule is short in
    let read = read_lines false false es text text (no_nodes, []) (suc (length text)) (document_written scenario schedule is).lines (document_printed scenario schedule) refl (omega arith) in
    let (doc, ran, closed) = document_filled scenario schedule in
    let parsed : parse_document text ≡ Some (document_table scenario schedule) = document_some text doc (rw (no_mark text ascii) (read ∙ ran)) ∙ ap Some closed in
    rw (is_utf8-from_IsUtf8 text (IsUtf8-from_ascii text ascii), parsed) refl
