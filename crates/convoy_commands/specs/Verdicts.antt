-- How latencies keep their deadlines.
use Rattle.std.specs.Prelude.{ℕ, ◌-◌, nat_le, if◌then◌else◌, Bool, List, [], Option, Some, None, is_some, slice_index_or, codes}
use Rattle.std.specs.List.{list_any}
use Rattle.convoy_lines.specs.Texts.{ended}
use Rattle.convoy_scenario.specs.Scenario.{Scenario}
use Rattle.convoy_times.specs.declared.measure.Measure.{Measure}
use Rattle.convoy_toml.specs.declared.asked.Asked.{Asked}
use Rattle.convoy_toml.specs.Reading.{deadlines_of_text}
use Rattle.convoy_commands.specs.declared.done.Done.{Done}
use Rattle.convoy_commands.specs.declared.done.Done.TheVariants as ends
use Rattle.convoy_commands.specs.declared.verdict.Verdict.{Verdict}
use Rattle.convoy_commands.specs.declared.verdict.Verdict.TheVariants.{Within, Beyond, Undecided}
use Rattle.convoy_commands.specs.ReplyLines.{ticks_line}

-- the verdict on a greatest latency that is at least and at most so many ticks, by a deadline in ticks
abbrev pub verdict_of : ℕ → ℕ → ℕ → Verdict
verdict_of deadline least most =
    if nat_le most deadline then Within
    else if nat_le least deadline then Undecided
    else Beyond

-- the word for a verdict
abbrev pub verdict_word : Verdict → List ℕ
verdict_word Within = codes "within"
verdict_word Beyond = codes "beyond"
verdict_word Undecided = codes "undecided"

-- how a command with that verdict ends
abbrev pub end_of_verdict : Verdict → Done
end_of_verdict Within = ends.Fine
end_of_verdict Beyond = ends.Beyond
end_of_verdict Undecided = ends.Open

-- by how many ticks at least the latency keeps the deadline or is beyond it; none where neither is known
abbrev pub margin_of : ℕ → ℕ → ℕ → Option ℕ
margin_of deadline least most = by_verdict (verdict_of deadline least most) where
  by_verdict : Verdict → Option ℕ
  by_verdict Within = Some (deadline - most)
  by_verdict Beyond = Some (least - deadline)
  by_verdict Undecided = None

-- how a command ends: where there is a deadline, as the verdict says, and else as it does without one
abbrev pub judged : Option ℕ → ℕ → ℕ → Done → Done
judged None least most end = end
judged (Some deadline) least most end = end_of_verdict (verdict_of deadline least most)

-- the deadline of the message of that number, if it has one
abbrev pub deadline_at : List (Option ℕ) → ℕ → Option ℕ
deadline_at deadlines message = slice_index_or deadlines message None

-- that of a scenario's target, where the text is read so
abbrev pub target_deadline : Asked → List ℕ → Scenario → Option ℕ
target_deadline asked text scenario = deadline_at (deadlines_of_text asked text) scenario.target_message

-- a message has a deadline
abbrev pub has_deadline : List (Option ℕ) → Bool
has_deadline deadlines = list_any is_some deadlines

-- the line of a verdict, with what is left to the deadline or is too much, in ticks and in the unit of a measure
abbrev pub verdict_line : Option Measure → ℕ → ℕ → ℕ → List ℕ
verdict_line measure deadline least most = by_verdict (verdict_of deadline least most) where
  by_verdict : Verdict → List ℕ
  by_verdict Within = ticks_line (codes "within by") measure (deadline - most)
  by_verdict Beyond = ticks_line (codes "beyond by") measure (least - deadline)
  by_verdict Undecided = ended (codes "undecided")

-- the same where there is a deadline; else nothing
abbrev pub verdict_text : Option Measure → Option ℕ → ℕ → ℕ → List ℕ
verdict_text measure None least most = []
verdict_text measure (Some deadline) least most = verdict_line measure deadline least most
