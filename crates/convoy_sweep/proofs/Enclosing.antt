-- What the numbers of a row enclose.
use Rattle.std.proofs.Common.{ℕ, Option, Some, None, IfSome, subst, sym}
use Rattle.convoy_laws.specs.IssueWindows.{SomeTimeInWindowIsAsLate, TimesInWindowAreNoSlower}
use Rattle.convoy_survey.specs.declared.finding.Finding.{Finding}
use Rattle.convoy_survey.specs.Findings.{Encloses, least_of, most_of}
use Rattle.convoy_survey.proofs.Numbers.{told_encloses}
use Rattle.convoy_sweep.specs.SweepLaws.{RowsEnclose, RowsTellTheirWindows}

pub rows_enclose : RowsEnclose
rows_enclose settings made row is =
    subst (λ (finding : Finding). Encloses made.scenario (least_of finding) (most_of finding)) (sym is.told)
    (told_encloses settings made.scenario is.answer is.given)

if_weaker : (P Q : ℕ → Type 0) (number : Option ℕ) → ((n : ℕ) → P n → Q n) → IfSome number P → IfSome number Q
if_weaker P Q None more is = tt
if_weaker P Q (Some n) more is = more n is

pub rows_tell_windows : TimesInWindowAreNoSlower → SomeTimeInWindowIsAsLate → RowsTellTheirWindows
rows_tell_windows slower late settings made row m is =
    let encloses = rows_enclose settings made row is in (
      λ tick within. if_weaker _ _ (most_of row.finding) (λ most upper. slower made.scenario m tick most within upper) encloses.upper,
      if_weaker _ _ (least_of row.finding) (λ least reached. late made.scenario m least reached) encloses.reached,
    )
