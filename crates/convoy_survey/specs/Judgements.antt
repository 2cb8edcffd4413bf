-- How the tables tell whether latencies keep their deadlines.
use Rattle.std.specs.Prelude.{ℕ, Bool, true, false, List, [], ◌∷◌, Option, Some, None, unwrap_or, codes}
use Rattle.convoy_tables.specs.Tables.{Cell, nothing, word}
use Rattle.convoy_commands.specs.declared.verdict.Verdict.{Verdict}
use Rattle.convoy_commands.specs.declared.verdict.Verdict.TheVariants.{Within, Beyond, Undecided}
use Rattle.convoy_commands.specs.Verdicts.{deadline_at, has_deadline, margin_of, verdict_of, verdict_word}
use Rattle.convoy_survey.specs.declared.finding.Finding.{Finding}
use Rattle.convoy_survey.specs.declared.times.Times.{Times}
use Rattle.convoy_survey.specs.Findings.{is_open, least_of, most_of}
use Rattle.convoy_survey.specs.Times.{count_cell, time_cell, where_told}

-- the verdict on a latency, where there is a deadline and it is known what the latency is at most; it is at least 0, where no more is known
abbrev pub verdict_at : Option ℕ → Option ℕ → Option ℕ → Option Verdict
verdict_at None least most = None
verdict_at (Some deadline) least None = None
verdict_at (Some deadline) least (Some most) = Some (verdict_of deadline (unwrap_or least 0) most)

-- by how many ticks at least it keeps the deadline or is beyond it, where that is known
abbrev pub margin_at : Option ℕ → Option ℕ → Option ℕ → Option ℕ
margin_at None least most = None
margin_at (Some deadline) least None = None
margin_at (Some deadline) least (Some most) = margin_of deadline (unwrap_or least 0) most

-- the verdict on what was found
abbrev pub finding_verdict : Option ℕ → Finding → Option Verdict
finding_verdict deadline finding = verdict_at deadline (least_of finding) (most_of finding)

-- HOW IT ENDS
-- the deadline is not kept
abbrev pub is_beyond : Option Verdict → Bool
is_beyond None = false
is_beyond (Some Within) = false
is_beyond (Some Beyond) = true
is_beyond (Some Undecided) = false

-- it is open, as the verdict says, or where there is none as it is without a deadline
abbrev pub is_open_by : Option Verdict → Bool → Bool
is_open_by None otherwise = otherwise
is_open_by (Some Within) otherwise = false
is_open_by (Some Beyond) otherwise = false
is_open_by (Some Undecided) otherwise = true

-- what was found is beyond the deadline
abbrev pub is_finding_beyond : Option ℕ → Finding → Bool
is_finding_beyond deadline finding = is_beyond (finding_verdict deadline finding)

-- what was found is open, by the deadline where there is one
abbrev pub is_finding_open : Option ℕ → Finding → Bool
is_finding_open deadline finding = is_open_by (finding_verdict deadline finding) (is_open finding)

-- COLUMNS AND CELLS
-- the names of the columns, in a table that is judged
abbrev pub verdict_columns : Bool → Times → List Cell
verdict_columns false times = []
verdict_columns true times = word (codes "verdict") ∷ word (codes "by") ∷ where_told times (word (codes "by_time") ∷ [])

-- the word for a verdict that there may not be
abbrev pub verdict_cell : Option Verdict → Cell
verdict_cell None = nothing
verdict_cell (Some verdict) = word (verdict_word verdict)

-- a margin that may not be known, in ticks and as a time
abbrev pub margin_cells : Times → Option ℕ → List Cell
margin_cells times margin = count_cell margin ∷ where_told times (time_cell times.measure margin ∷ [])

-- the cells of these columns for a latency that is known to be at least and at most so much, where it has a deadline
abbrev pub verdict_cells : Bool → Times → Option ℕ → Option ℕ → Option ℕ → List Cell
verdict_cells false times deadline least most = []
verdict_cells true times deadline least most =
    verdict_cell (verdict_at deadline least most) ∷ margin_cells times (margin_at deadline least most)

-- the same for a latency of a message, in a table that is judged where one of its messages has a deadline
abbrev pub judged_columns : List (Option ℕ) → Times → List Cell
judged_columns deadlines times = verdict_columns (has_deadline deadlines) times

abbrev pub judged_cells : List (Option ℕ) → Times → ℕ → Option ℕ → Option ℕ → List Cell
judged_cells deadlines times m least most = verdict_cells (has_deadline deadlines) times (deadline_at deadlines m) least most
