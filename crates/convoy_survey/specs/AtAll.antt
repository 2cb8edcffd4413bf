-- What is known of a message at all the groups that it goes to: when a client that waits for all of them has its answer.
use Rattle.std.specs.Prelude.{ℕ, ◌==◌, max, Bool, false, List, [], ◌∷◌, filter, fold, map, Option, Some, None, option_and_then, codes, if◌then◌else◌}
use Rattle.std.specs.Option.{option_map_or}
use Rattle.convoy_scenario.specs.Scenario.{Scenario}
use Rattle.convoy_ceiling.specs.Ceiling.{ceiling_at}
use Rattle.convoy_survey.specs.declared.at_all.AtAll.{AtAll}
use Rattle.convoy_survey.specs.declared.finding.Cause.{Cause}
use Rattle.convoy_survey.specs.declared.finding.Finding.TheVariants.{OutOfMemory}
use Rattle.convoy_survey.specs.declared.finding.Surveyed.{Surveyed}
use Rattle.convoy_survey.specs.Findings.{answer_word, cause_of, least_of, most_of}

-- the rows of a message
abbrev pub rows_of : ℕ → List Surveyed → List Surveyed
rows_of m rows = filter (λ row. row.message == m) rows

-- the greater of two numbers, where both are known
abbrev pub greater : Option ℕ → Option ℕ → Option ℕ
greater None other = None
greater (Some n) None = None
greater (Some n) (Some other) = Some (max n other)

-- the greatest of some numbers, where all of them are known
abbrev pub greatest_known : List (Option ℕ) → Option ℕ
greatest_known numbers = fold greater (Some 0) numbers

-- the greatest of the leasts of a message's rows, and of their mosts: so much the greatest latency at all its groups is at least, and at most; none where one of them is not known
abbrev pub least_at_all : List Surveyed → Option ℕ
least_at_all rows = greatest_known (map (λ row. least_of row.finding) rows)

abbrev pub most_at_all : List Surveyed → Option ℕ
most_at_all rows = greatest_known (map (λ row. most_of row.finding) rows)

-- the row has this least
abbrev pub has_least : ℕ → Surveyed → Bool
has_least n row = option_map_or (λ least. least == n) (least_of row.finding) false

-- why it is so late in the first of some rows that has this least
abbrev pub cause_with : ℕ → List Surveyed → Option Cause
cause_with n [] = None
cause_with n (row ∷ rows) = if has_least n row then cause_of row.finding else cause_with n rows

-- what is known of a message at all its groups, of which these are its rows
abbrev pub at_all : List Surveyed → AtAll
at_all rows = record {
  least = least_at_all rows;
  most = most_at_all rows;
  cause = option_and_then (λ n. cause_with n rows) (least_at_all rows);
}

-- the words for what is known: of a fault those of its line
abbrev pub answer_at_all : Option ℕ → Option ℕ → List ℕ
answer_at_all None most = answer_word OutOfMemory
answer_at_all (Some least) None = answer_word OutOfMemory
answer_at_all (Some least) (Some most) = if least == most then codes "greatest" else codes "open"

-- the greatest ceiling of a message's rows
abbrev pub ceiling_at_all : Scenario → List Surveyed → ℕ
ceiling_at_all scenario rows = fold max 0 (map (λ row. ceiling_at scenario row.message row.group) rows)
