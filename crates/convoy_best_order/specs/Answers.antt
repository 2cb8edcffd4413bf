-- What `order` writes: the best order of the groups of a scenario.
use Rattle.std.specs.Prelude.{◌≡◌, ℕ, nat_lt, Bool, false, ◌&&◌, ◌||◌, not, List, Option, Some, Ok, Err}
use Rattle.std.specs.List.{list_any}
use Rattle.convoy_scenario.specs.Scenario.{Scenario}
use Rattle.convoy_scenario.specs.WellFormed.{IsScenario}
use Rattle.convoy_toml.specs.declared.asked.Asked.{Asked}
use Rattle.convoy_toml.specs.Around.{span_asked}
use Rattle.convoy_toml.specs.Reading.{deadlines_of_text, scenario_of_text_by}
use Rattle.convoy_toml_writer.specs.Text.{toml_text}
use Rattle.convoy_branch.specs.Options.{Settings}
use Rattle.convoy_tables.specs.declared.format.Format.{Format}
use Rattle.convoy_commands.specs.declared.done.Done.{Done}
use Rattle.convoy_commands.specs.declared.verdict.Verdict.{Verdict}
use Rattle.convoy_commands.specs.Ends.{end_by}
use Rattle.convoy_commands.specs.First.{least_schedule}
use Rattle.convoy_commands.specs.Measured.{measure_of_text}
use Rattle.convoy_commands.specs.Replies.{Rule}
use Rattle.convoy_commands.specs.Searches.{IsFaultyBy}
use Rattle.convoy_survey.specs.Judgements.{is_beyond, is_open_by, verdict_at}
use Rattle.convoy_survey.specs.Surveys.{rows_asked}
use Rattle.convoy_best_order.specs.declared.best.Best.{Best}
use Rattle.convoy_best_order.specs.declared.best.Row.{Row}
use Rattle.convoy_best_order.specs.declared.target.Target.{Target}
use Rattle.convoy_best_order.specs.declared.wanted.Wanted.{Wanted}
use Rattle.convoy_best_order.specs.Best.{AreRows, IsBest}
use Rattle.convoy_best_order.specs.Cells.{order_text}
use Rattle.convoy_best_order.specs.Excesses.{is_less}
use Rattle.convoy_best_order.specs.Orders.{listed}
use Rattle.convoy_best_order.specs.Targets.{are_judged, counted, targets_of, uncounted}

-- the verdict on a row in the best order, where its target has a deadline
abbrev pub row_verdict : Row → Option Verdict
row_verdict row = verdict_at row.target.deadline (Some row.after.least) (Some row.after.most)

abbrev pub is_row_beyond : Row → Bool
is_row_beyond row = is_beyond (row_verdict row)

-- the row is open: it is not known whether it keeps its deadline, or where it has none the search did not end
abbrev pub is_row_open : Row → Bool
is_row_open row = is_open_by (row_verdict row) (nat_lt row.after.least row.after.most)

-- it is not known whether the order is the best: that is no matter where there are deadlines, since then all that counts is whether they are kept
abbrev pub is_order_open : Bool → Best → Bool
is_order_open judged best = not judged && is_less best.least best.most

-- how it ends: that a deadline is missed in the best order comes before what is open
abbrev pub end_of : Bool → Best → Done
end_of judged best =
    end_by (list_any is_row_beyond best.rows.items) false (list_any is_row_open best.rows.items || is_order_open judged best)

-- the targets of the scenario of a text, where that is asked: where all is asked around them, whether or not their messages wait
abbrev pub targets_of_text : Wanted → Asked → List ℕ → Scenario → List Target
targets_of_text wanted asked text scenario = targets_of wanted (deadlines_of_text asked text) (rows_asked asked scenario)

-- THE HEADLINE. What is written is the best order of the groups of the scenario that was read, for those of its targets that count, each around itself where all is asked so, and how late the others are in it, in this format, and the end is told by those that count. What the numbers of it are worth the laws `NoOrderIsBetter` and `BestOrderKeeps` say.
pub record IsOrderTold (format : Format) (wanted : Wanted) (with_reasons : Bool) (asked : Asked) (settings : Settings) (text : List ℕ) (end : Done) (out : List ℕ) : Type 0 where
  pub scenario : Scenario
  pub best : Best
  pub read : scenario_of_text_by asked text ≡ Ok scenario
  pub lawful : IsScenario scenario
  pub others : List Row
  pub told :
      IsBest settings (span_asked asked.around scenario) (rows_asked asked scenario) (counted (targets_of_text wanted asked text scenario)) best
  pub rest :
      AreRows settings (span_asked asked.around scenario) (rows_asked asked scenario) (uncounted (targets_of_text wanted asked text scenario)) best.order.items others
  pub written : out
      ≡ order_text format with_reasons (measure_of_text settings.unit text scenario) scenario (targets_of_text wanted asked text scenario) best others
  pub ends : end ≡ end_of (are_judged (targets_of_text wanted asked text scenario)) best

-- What is written is the text of the scenario that was read, or of the one around its own target where all is asked so, with its groups in the best order for those of its targets that count, and with the schedule of its least delays; and the end is told as beside the order.
pub record IsListingTold (wanted : Wanted) (asked : Asked) (settings : Settings) (text : List ℕ) (end : Done) (out : List ℕ) : Type 0 where
  pub scenario : Scenario
  pub best : Best
  pub other : Scenario
  pub read : scenario_of_text_by asked text ≡ Ok scenario
  pub lawful : IsScenario scenario
  pub told :
      IsBest settings (span_asked asked.around scenario) (rows_asked asked scenario) (counted (targets_of_text wanted asked text scenario)) best
  pub made : listed scenario best.order.items ≡ Ok other
  pub written : out ≡ toml_text other (least_schedule other)
  pub ends : end ≡ end_of (are_judged (targets_of_text wanted asked text scenario)) best

-- what `order` may answer
abbrev pub OrderSays : Format → Wanted → Bool → Asked → Settings → Rule
OrderSays format wanted with_reasons asked settings text (Ok (end, out)) = IsOrderTold format wanted with_reasons asked settings text end out
OrderSays format wanted with_reasons asked settings text (Err fault) = IsFaultyBy asked text fault

-- and where the scenario is to be written
abbrev pub ListingSays : Wanted → Asked → Settings → Rule
ListingSays wanted asked settings text (Ok (end, out)) = IsListingTold wanted asked settings text end out
ListingSays wanted asked settings text (Err fault) = IsFaultyBy asked text fault
