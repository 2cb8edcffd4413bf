-- What a table is as JSON, read again: its text is that of the tokens of an array, with a gap before some.
use Rattle.std.proofs.Common.{◌≡◌, ℕ, ◌+◌, ◌==◌, Bool, true, false, not, List, [], ◌∷◌, ◌++◌, map, codes, refl, sym, ap, ◌∙◌, append_assoc, inl, inr, arith, fold, All}
use Rattle.std.proofs.lemmas.List.{map-append}
use Rattle.std.proofs.lemmas.List.Elements.{All-head, All-tail}
use Rattle.std.specs.List.{enumerate_from, flat_map}
use Rattle.json.specs.Lex.{tokens}
use Rattle.json.specs.Print.{ends, print_from, ArePrintable, IsPrintable}
use Rattle.json.specs.Spaced.{print_spaced, AreGaps}
use Rattle.json.specs.Token.{Token}
use Rattle.json.proofs.Printed.Tokens.{ends_push, tokens-print_spaced}
use Rattle.convoy_tables.specs.declared.cell.Kind.{Kind}
use Rattle.convoy_tables.specs.declared.cell.Kind.TheVariants.{Word, Number, Nothing}
use Rattle.convoy_tables.specs.Formats.{array_text, before, json_array, json_member, json_object, json_value, object_text}
use Rattle.convoy_tables.specs.Tables.{Cell, Table, IsTextOf}
use Rattle.convoy_tables.specs.TableLaws.{AreTexts}
use Rattle.convoy_tables.proofs.Pieces.{joined_from}

abbrev pub Spaced : Type 0
Spaced = List (List ℕ × Token)

abbrev bare : Token → List ℕ × Token
bare t = ([], t)

-- the tokens of a row after the first
abbrev members : List Cell → List Cell → List Token
members names cells = flat_map (json_member names) (enumerate_from 0 cells) ++ Token.end_object ∷ []

abbrev spaced_row : List Cell → List Cell → Spaced
spaced_row names cells = (codes "\n  ", Token.begin_object) ∷ map bare (members names cells)

abbrev spaced_rows : List Cell → List (List Cell) → Spaced
spaced_rows names rows = flat_map (spaced_row names) rows ++ (codes "\n", Token.end_array) ∷ []

abbrev pub spaced : Table → Spaced
spaced table = ([], Token.begin_array) ∷ spaced_rows table.columns table.rows

-- THE TEXT
print_bare : (c : Bool) (ts : List Token) (ps : Spaced) → print_spaced c (map bare ts ++ ps) ≡ print_from c ts ++ print_spaced (fold (λ _ t. ends t) c ts) ps
unfolding print_spaced print_from
print_bare c [] ps = refl
print_bare c (t ∷ ts) ps = rw (print_bare (ends t) ts ps) (simp append_assoc)

print_members : (names cells : List Cell) (ps : Spaced) → print_spaced false (map bare (members names cells) ++ ps) ≡ print_from false (members names cells) ++ print_spaced true ps
print_members names cells ps =
    print_bare false (members names cells) ps
    ∙ ap (λ c. print_from false (members names cells) ++ print_spaced c ps) (ends_push false (flat_map (json_member names) (enumerate_from 0 cells)) Token.end_object)

print_row : (c : Bool) (i : ℕ) (names cells : List Cell) (ps : Spaced) → (i == 0) ≡ not c
    → print_spaced c (spaced_row names cells ++ ps) ≡ (before i (codes ",") ++ object_text names i cells) ++ print_spaced true ps
unfolding print_spaced print_from
print_row true i names cells ps e = rw e (ap (λ text. codes ",\n  {" ++ text) (print_members names cells ps))
print_row false i names cells ps e = rw e (ap (λ text. codes "\n  {" ++ text) (print_members names cells ps))

print_end : (c : Bool) → print_spaced c ((codes "\n", Token.end_array) ∷ []) ≡ codes "\n]"
unfolding print_spaced
print_end true = refl
print_end false = refl

print_rows : (c : Bool) (i : ℕ) (names : List Cell) (rows : List (List Cell)) → (i == 0) ≡ not c
    → print_spaced c (spaced_rows names rows) ≡ joined_from (codes ",") (object_text names) i rows ++ codes "\n]"
print_rows c i names [] e = print_end c
print_rows c i names (cells ∷ rows) e =
    let row = spaced_row names cells in
    let rest = joined_from (codes ",") (object_text names) (i + 1) rows in
    let piece = before i (codes ",") ++ object_text names i cells in
    ap (print_spaced c) (append_assoc row (flat_map (spaced_row names) rows) ((codes "\n", Token.end_array) ∷ []))
    ∙ print_row c i names cells (spaced_rows names rows) e
    ∙ ap (λ text. piece ++ text) (print_rows true (i + 1) names rows (grind arith))
    ∙ sym (append_assoc piece rest (codes "\n]"))

pub array_again : (table : Table) → array_text table ≡ print_spaced false (spaced table) ++ 10 ∷ []
unfolding print_spaced
array_again table = rw (print_rows false 0 table.columns table.rows refl) (simp append_assoc)

-- THE TOKENS
bare_tokens : (ts : List Token) → map (λ (p : List ℕ × Token). p.1) (map bare ts) ≡ ts
bare_tokens [] = refl
bare_tokens (t ∷ ts) = ap (λ us. t ∷ us) (bare_tokens ts)

row_tokens : (names : List Cell) (rows : List (List Cell)) → map (λ (p : List ℕ × Token). p.1) (flat_map (spaced_row names) rows) ≡ flat_map (json_object names) rows
row_tokens names [] = refl
row_tokens names (cells ∷ rows) =
    map-append (λ (p : List ℕ × Token). p.1) (spaced_row names cells) (flat_map (spaced_row names) rows)
    ∙ rw (bare_tokens (members names cells), row_tokens names rows) refl

array_tokens : (table : Table) → map (λ (p : List ℕ × Token). p.1) (spaced table) ≡ json_array table
array_tokens table =
    ap (λ ts. Token.begin_array ∷ ts) (map-append (λ (p : List ℕ × Token). p.1) (flat_map (spaced_row table.columns) table.rows) _
    ∙ ap (λ ts. ts ++ Token.end_array ∷ []) (row_tokens table.columns table.rows))

-- GAPS
gaps_append : (ps qs : Spaced) → AreGaps ps → AreGaps qs → AreGaps (ps ++ qs)
gaps_append [] qs h k = k
gaps_append (p ∷ ps) qs h k = (h.0, gaps_append ps qs h.1 k)

bare_gaps : (ts : List Token) → AreGaps (map bare ts)
bare_gaps [] = tt
bare_gaps (t ∷ ts) = (tt, bare_gaps ts)

rows_gaps : (names : List Cell) (rows : List (List Cell)) → AreGaps (flat_map (spaced_row names) rows)
rows_gaps names [] = tt
rows_gaps names (cells ∷ rows) =
    gaps_append (spaced_row names cells) _ ((inr refl, (inl refl, (inl refl, tt))), bare_gaps (members names cells)) (rows_gaps names rows)

-- WHAT CAN BE WRITTEN
printable_append : (ts us : List Token) → ArePrintable ts → ArePrintable us → ArePrintable (ts ++ us)
unfolding ArePrintable
printable_append [] us h k = k
printable_append (t ∷ ts) us h k = (h.0, printable_append ts us h.1 k)

abbrev IsText : Cell → Type 0
IsText cell = IsTextOf cell.kind cell.text

value_printable : (kind : Kind) (text : List ℕ) → IsTextOf kind text → IsPrintable (json_value kind text)
value_printable Word text h = tt
value_printable Number text h = h
value_printable Nothing text h = tt

members_printable : (names : List Cell) (i : ℕ) (cells : List Cell) → All IsText cells → ArePrintable (flat_map (json_member names) (enumerate_from i cells))
unfolding ArePrintable
members_printable names i [] h = tt
members_printable names i (cell ∷ cells) h =
    (tt, (value_printable cell.kind cell.text (All-head IsText cell cells h), members_printable names (i + 1) cells (All-tail IsText cell cells h)))

rows_printable : (names : List Cell) (rows : List (List Cell)) → All (All IsText) rows → ArePrintable (flat_map (json_object names) rows)
unfolding ArePrintable
rows_printable names [] h = tt
rows_printable names (cells ∷ rows) h =
    printable_append (json_object names cells) _
    (tt, printable_append (flat_map (json_member names) (enumerate_from 0 cells)) _ (members_printable names 0 cells (All-head (All IsText) cells rows h)) (tt, tt))
    (rows_printable names rows (All-tail (All IsText) cells rows h))

array_printable : (table : Table) → AreTexts table → ArePrintable (json_array table)
unfolding ArePrintable
array_printable table h = (tt, printable_append (flat_map (json_object table.columns) table.rows) _ (rows_printable table.columns table.rows h) (tt, tt))

pub tokens_again : (table : Table) → AreTexts table → tokens (print_spaced false (spaced table)) ≡ json_array table
tokens_again table h =
    let same = array_tokens table in
    tokens-print_spaced (spaced table)
    (tt, gaps_append (flat_map (spaced_row table.columns) table.rows) _ (rows_gaps table.columns table.rows) ((inr refl, tt), tt))
    (rw same (array_printable table h))
    ∙ same
