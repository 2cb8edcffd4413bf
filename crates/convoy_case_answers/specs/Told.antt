-- What is told of all cases together.
use Rattle.std.specs.Prelude.{◌≡◌, ℕ, ◌==◌, nat_le, ◌&&◌, ◌||◌, if◌then◌else◌, Bool, true, false, List, [], ◌∷◌, ◌++◌, flat_map, length, map, find, Option, Some, None, is_some, option_and_then, codes}
use Rattle.std.specs.List.{list_all, list_any, range_with_len, slice_get}
use Rattle.std.specs.Option.{option_map_or}
use Rattle.convoy_lines.specs.Texts.{ended, spaced}
use Rattle.convoy_scenario.specs.Naming.{sender_word}
use Rattle.convoy_scenario.specs.Scenario.{Scenario, group_name_at, message_at}
use Rattle.convoy_sim.specs.Times.{greatest}
use Rattle.convoy_times.specs.declared.measure.Measure.{Measure}
use Rattle.convoy_outage_answers.specs.Latencies.{outage_latency_line}
use Rattle.convoy_commands.specs.declared.done.Done.{Done}
use Rattle.convoy_commands.specs.declared.done.Done.TheVariants as ends
use Rattle.convoy_commands.specs.Outsides.{outside_text}
use Rattle.convoy_commands.specs.ReplyLines.{greatest_line, open_line, ticks_line}
use Rattle.convoy_commands.specs.Verdicts.{judged, verdict_text}
use Rattle.convoy_case_answers.specs.declared.found.Found.{Found}
use Rattle.convoy_case_answers.specs.declared.late.Late.{Late}
use Rattle.convoy_case_answers.specs.declared.late.Late.TheVariants as lates
use Rattle.convoy_case_answers.specs.declared.totals.Totals.{Totals}

-- the greatest of a number of all cases
abbrev pub greatest_of : (Found → ℕ) → List Found → ℕ
greatest_of number founds = greatest (map number founds)

-- something of the first case
abbrev pub of_first : {A : Type 0} → (Found → Option A) → List Found → Option A
of_first part founds = option_and_then part (slice_get founds 0)

-- a latency by that word, or with the other one in front the least and the most that it may be
abbrev pub between_line : List ℕ → List ℕ → Option Measure → ℕ → ℕ → List ℕ
between_line word front measure least most =
    if least == most then ticks_line word measure least else front ++ open_line measure least most

-- the message of that number and who sends it
abbrev pub sent_text : Scenario → ℕ → List ℕ
sent_text scenario m = spaced (message_at scenario m).name ++ spaced (sender_word scenario (message_at scenario m).sender)

-- the line of a case: the group of the target, and each message with who sends it
abbrev pub case_line : Scenario → List ℕ
case_line scenario =
    ended (codes "worst" ++ (spaced (group_name_at scenario scenario.target_group) ++ flat_map (sent_text scenario) (range_with_len 0 (length scenario.multicasts))))

-- the line of the first case in which the word may be back so late
abbrev pub worst_line : ℕ → List Found → List ℕ
worst_line most founds = option_map_or (λ found. case_line found.scenario) (find (λ found. nat_le most found.back_most) founds) []

-- which case that is in which it may be back as late as in any, where there are several
abbrev pub worst_text : List Found → List ℕ
worst_text founds = if nat_le 2 (length founds) then worst_line (greatest_of (λ f. f.back_most) founds) founds else []

-- what keeps the target back
abbrev pub late_text : Late → Option Measure → ℕ → ℕ → List ℕ
late_text lates.Nothing measure least most = []
late_text (lates.Outages outage) measure least most = outage_latency_line measure most
late_text (lates.Answers span) measure least most = between_line (codes "accept-latency") (codes "accept-") measure least most

-- when the word of its group is back, where one is waited for: through outages a number that none exceeds
abbrev pub back_line : Late → Option Measure → ℕ → ℕ → List ℕ
back_line (lates.Outages outage) measure least most = ticks_line (codes "reply-latency") measure most
back_line late measure least most = between_line (codes "reply-latency") (codes "reply-") measure least most

abbrev pub back_text : Late → Option Measure → List Found → List ℕ
back_text late measure founds =
    if list_any (λ found. is_some found.way) founds
    then back_line late measure (greatest_of (λ f. f.back_least) founds) (greatest_of (λ f. f.back_most) founds)
    else []

-- the greater of two shares, where there are such
abbrev pub worse_share : Option ℕ → Option ℕ → Option ℕ
worse_share None other = other
worse_share (Some share) None = Some share
worse_share (Some share) (Some other) = Some (if nat_le share other then other else share)

-- in at most how many billionths of runs a packet leaves its range, in any case
abbrev pub worst_share : Option ℕ → List Found → Option ℕ
worst_share so_far [] = so_far
worst_share so_far (found ∷ founds) = worst_share (worse_share so_far found.outside) founds

-- the greatest latency is known: each search has ended, or of several cases some run has what none is above
abbrev pub is_known : ℕ → ℕ → List Found → Bool
is_known least most founds = list_all (λ found. found.is_proved) founds || (nat_le 2 (length founds) && (least == most))

-- the greatest latency, or the least and the most that it may be
abbrev pub first_line : Option Measure → List Found → List ℕ
first_line measure founds =
    if is_known (greatest_of (λ f. f.least) founds) (greatest_of (λ f. f.most) founds) founds
    then greatest_line measure (greatest_of (λ f. f.least) founds)
    else open_line measure (greatest_of (λ f. f.least) founds) (greatest_of (λ f. f.most) founds)

-- what is written
abbrev pub cases_text : Late → Option Measure → Option ℕ → List Found → List ℕ
cases_text late measure deadline founds =
    first_line measure founds
    ++ (worst_text founds
    ++ (late_text late measure (greatest_of (λ f. f.late_least) founds) (greatest_of (λ f. f.late_most) founds)
    ++ (back_text late measure founds
    ++ (verdict_text measure deadline (greatest_of (λ f. f.back_least) founds) (greatest_of (λ f. f.back_most) founds)
    ++ outside_text (worst_share None founds)))))

-- how a command ends that found these numbers
abbrev pub between_end : ℕ → ℕ → Done
between_end least most = if least == most then ends.Fine else ends.Open

-- how the command ends without a deadline: open where the greatest latency is not known, or where replicas have to answer the one with that
abbrev pub found_end : Late → List Found → Done
found_end (lates.Answers span) founds = between_end (greatest_of (λ f. f.late_least) founds) (greatest_of (λ f. f.late_most) founds)
found_end late founds = if is_known (greatest_of (λ f. f.least) founds) (greatest_of (λ f. f.most) founds) founds then ends.Fine else ends.Open

-- how the command ends
abbrev pub cases_end : Late → Option ℕ → List Found → Done
cases_end late deadline founds =
    judged deadline (greatest_of (λ f. f.back_least) founds) (greatest_of (λ f. f.back_most) founds) (found_end late founds)

-- two ticks have one length, or neither has a length that is known
abbrev pub is_same_tick : Option ℕ → Option ℕ → Bool
is_same_tick None None = true
is_same_tick (Some a) (Some b) = a == b
is_same_tick None (Some b) = false
is_same_tick (Some a) None = false

-- the ticks of all cases are those of the first
abbrev pub are_alike : List Found → Bool
are_alike founds = list_all (λ found. is_same_tick found.scenario.tick (of_first (λ f. f.scenario.tick) founds)) founds

-- PRIVATE
-- the greatest numbers of all cases
pub record AreTotals (founds : List Found) (totals : Totals) : Type 0 where
  pub least : totals.least ≡ greatest_of (λ f. f.least) founds
  pub most : totals.most ≡ greatest_of (λ f. f.most) founds
  pub late_least : totals.late_least ≡ greatest_of (λ f. f.late_least) founds
  pub late_most : totals.late_most ≡ greatest_of (λ f. f.late_most) founds
  pub back_least : totals.back_least ≡ greatest_of (λ f. f.back_least) founds
  pub back_most : totals.back_most ≡ greatest_of (λ f. f.back_most) founds
