-- What is proved of the rows of a sweep. Each is the one clause of the function of its name in the crate's module `sweep_laws`.
use Rattle.std.specs.Prelude.{ℕ, IfSome}
use Rattle.convoy_scenario.specs.Scenario.{message_at, window_of}
use Rattle.convoy_packets.specs.Assignment.{IsWithin}
use Rattle.convoy_sim.specs.Greatest.{IsReached, IsUpper}
use Rattle.convoy_laws.specs.IssueWindows.{issued_at}
use Rattle.convoy_branch.specs.Options.{Settings}
use Rattle.convoy_survey.specs.Findings.{Encloses, least_of, most_of}
use Rattle.convoy_sweep.specs.declared.kinds.Swept.{Swept}
use Rattle.convoy_sweep.specs.declared.preparing.Made.{Made}
use Rattle.convoy_sweep.specs.Rows.{IsSwept}

-- The two numbers of a row, `least` and `most`, enclose the greatest latency of the scenario at its point, whether or not the search ended.
abbrev pub RowsEnclose : Type 0
RowsEnclose =
    (settings : Settings) (made : Made) (row : Swept) → IsSwept settings made row →
    Encloses made.scenario (least_of row.finding) (most_of row.finding)

-- The numbers of a row are those of all times in the window that it gives a message: with the message issued at any one of them no latency is above `most`, and with the message issued at one of them some schedule has `least`.
abbrev pub RowsTellTheirWindows : Type 0
RowsTellTheirWindows =
    (settings : Settings) (made : Made) (row : Swept) (m : ℕ) → IsSwept settings made row →
    ((tick : ℕ) → IsWithin (window_of (message_at made.scenario m)) tick → IfSome (most_of row.finding) (IsUpper (issued_at m tick made.scenario)))
    × IfSome (least_of row.finding) (λ least. (tick : ℕ) × IsWithin (window_of (message_at made.scenario m)) tick × IsReached (issued_at m tick made.scenario) least)
