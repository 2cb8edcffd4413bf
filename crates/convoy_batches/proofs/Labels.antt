-- The labels of the jobs of a text are texts.
use Rattle.std.proofs.Common.{◌≡◌, ◌<◌, ◌≤◌, ℕ, zero, suc, ◌==◌, nat_le, Bool, true, false, ◌&&◌, if◌then◌else◌, List, [], ◌∷◌, ◌++◌, All, refl, arith}
use Rattle.std.specs.List.{AllByRecursion, fold, list_all}
use Rattle.std.specs.Str.{IsAscii, IsUtf8}
use Rattle.std.proofs.lemmas.Bool.{and_parts, leb-true}
use Rattle.std.proofs.lemmas.List.Elements.{All-from_recursion, All-nil, All-push, recursion_from_All}
use Rattle.std.proofs.lemmas.Str.{IsUtf8-from_ascii}
use Rattle.convoy_lines.specs.Places.{lines_in}
use Rattle.convoy_lines.specs.Texts.{ended}
use Rattle.convoy_streams.specs.Jobs.{Divided, Job, after_bytes, after_divider, after_line, at_end, is_divider, is_label, is_label_byte, is_label_part, jobs_of, label_in, may_be_label, names, progress_of, undivided}
use Rattle.convoy_toml.specs.declared.asked.Asked.{Asked}
use Rattle.convoy_branch.specs.Options.{Settings}
use Rattle.convoy_batches.specs.declared.job_row.JobRow.{JobRow}
use Rattle.convoy_batches.specs.JobRows.{AreJobRows}

-- a label that a divider may have, or none
abbrev IsLabelled : Job → Type 0
IsLabelled job = may_be_label job.label ≡ true

record AreLabelled (divided : Divided) : Type 0 where
  jobs : All IsLabelled divided.jobs
  last : IsLabelled divided.last

label_of_part : (label : List ℕ) → is_label label ≡ true → may_be_label label ≡ true
label_of_part [] is = cc
label_of_part (first ∷ others) is = is

-- the label in a divider
label_of_divider : (line : List ℕ) → is_divider line ≡ true → may_be_label (label_in line) ≡ true
label_of_divider [] is = cc
label_of_divider (a ∷ []) is = cc
label_of_divider (a ∷ b ∷ []) is = cc
label_of_divider (a ∷ b ∷ c ∷ []) is = refl
label_of_divider (a ∷ b ∷ c ∷ space ∷ label) is =
    let part = (and_parts ((a == 45) && ((b == 45) && (c == 45))) (is_label_part (space ∷ label)) is).1 in
    label_of_part label (and_parts (space == 32) (is_label label) part).1

either_list : (b : Bool) (xs ys : List Job) → All IsLabelled xs → All IsLabelled ys → All IsLabelled (if b then xs else ys)
either_list true xs ys first second = first
either_list false xs ys first second = second

labelled_divider : (label : List ℕ) (so_far : Divided) → may_be_label label ≡ true → AreLabelled so_far → AreLabelled (after_divider label so_far)
labelled_divider label so_far is are = record {
  jobs = either_list (names label so_far.last) so_far.jobs (so_far.jobs ++ so_far.last ∷ []) are.jobs
      (All-push IsLabelled so_far.jobs so_far.last are.jobs are.last);
  last = is;
}

-- a line more, which may be a divider, whatever bytes it adds where it is none
labelled_by : (divides : Bool) (label bytes : List ℕ) (so_far : Divided) → (divides ≡ true → may_be_label label ≡ true) → AreLabelled so_far →
    AreLabelled (if divides then after_divider label so_far else after_bytes bytes so_far)
labelled_by true label bytes so_far is are = labelled_divider label so_far (is refl) are
labelled_by false label bytes so_far is are = record { jobs = are.jobs; last = are.last }

labelled_lines : (lines : List (List ℕ)) (so_far : Divided) → AreLabelled so_far → AreLabelled (fold after_line so_far lines)
labelled_lines [] so_far are = are
labelled_lines (line ∷ lines) so_far are =
    labelled_lines lines (after_line so_far line)
    (labelled_by (is_divider line) (label_in line) (ended line) so_far (label_of_divider line) are)

-- the jobs of a text have labels that dividers may have, or none
labelled_jobs : (text : List ℕ) → All IsLabelled (jobs_of text)
labelled_jobs text =
    let progress = progress_of text in
    let before = labelled_lines (lines_in text).ended undivided (record { jobs = All-nil IsLabelled; last = refl }) in
    let all = labelled_by (is_divider progress.line) (label_in progress.line) progress.line progress.so_far (label_of_divider progress.line) before in
    All-push IsLabelled (at_end progress).jobs (at_end progress).last all.jobs all.last

-- bytes that labels may have are ASCII
ascii_byte : (byte : ℕ) → is_label_byte byte ≡ true → byte < 128
ascii_byte byte is =
    let most : byte ≤ 126 = leb-true byte 126 (and_parts (nat_le 33 byte) (nat_le byte 126) is).1 in
    omega (arith, most)

ascii_bytes : (bytes : List ℕ) → list_all is_label_byte bytes ≡ true → IsAscii bytes
ascii_bytes [] are i = omega arith
ascii_bytes (byte ∷ bytes) are zero = ascii_byte byte (and_parts (is_label_byte byte) (list_all is_label_byte bytes) are).0
ascii_bytes (byte ∷ bytes) are (suc i) = ascii_bytes bytes (and_parts (is_label_byte byte) (list_all is_label_byte bytes) are).1 i

label_is_text : (label : List ℕ) → may_be_label label ≡ true → IsUtf8 label
label_is_text label is = IsUtf8-from_ascii label (ascii_bytes label (and_parts (list_all is_label_byte label) _ is).0)

rows_labelled : (asked : Asked) (settings : Settings) (jobs : List Job) (rows : List JobRow) → AreJobRows asked settings jobs rows → AllByRecursion IsLabelled jobs →
    AllByRecursion (λ (row : JobRow). IsUtf8 row.label.items) rows
rows_labelled asked settings [] [] are labelled = tt
rows_labelled asked settings [] (row ∷ rows) are labelled = absurd are
rows_labelled asked settings (job ∷ jobs) [] are labelled = tt
rows_labelled asked settings (job ∷ jobs) (row ∷ rows) are labelled =
    (rw are.0.label (label_is_text job.label labelled.0), rows_labelled asked settings jobs rows are.1 labelled.1)

-- the labels in the rows of a text's jobs are texts
pub labels_are_texts : (asked : Asked) (settings : Settings) (text : List ℕ) (rows : List JobRow) → AreJobRows asked settings (jobs_of text) rows →
    All (λ (row : JobRow). IsUtf8 row.label.items) rows
labels_are_texts asked settings text rows are =
    All-from_recursion (λ (row : JobRow). IsUtf8 row.label.items) rows
    (rows_labelled asked settings (jobs_of text) rows are (recursion_from_All IsLabelled (jobs_of text) (labelled_jobs text)))
