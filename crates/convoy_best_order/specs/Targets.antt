-- For which targets an order is to be the best.
use Rattle.std.specs.Prelude.{ℕ, Bool, true, false, ◌==◌, ◌&&◌, ◌||◌, not, List, [], ◌∷◌, filter, Option, Some, None, is_some, unwrap_or, if◌then◌else◌}
use Rattle.std.specs.List.{flat_map, list_any}
use Rattle.convoy_scenario.specs.Scenario.{Scenario, message_at, message_numbers}
use Rattle.convoy_scenario.specs.Targets.{may_be_target, with_target}
use Rattle.convoy_commands.specs.Verdicts.{deadline_at}
use Rattle.convoy_survey.specs.Findings.{scenario_at}
use Rattle.convoy_survey.specs.Surveys.{IsTarget}
use Rattle.convoy_best_order.specs.declared.target.Target.{Target}
use Rattle.convoy_best_order.specs.declared.wanted.Wanted.{Wanted}
use Rattle.convoy_best_order.specs.declared.wanted.Wanted.TheVariants.{Deadlines, Asked}
use Rattle.convoy_best_order.specs.declared.wanted.Wanted.TheVariants as wanteds

-- a message with that deadline, if it has one, is a target at each group that it goes to
abbrev pub is_wanted : Wanted → Option ℕ → Bool
is_wanted wanteds.All deadline = true
is_wanted Deadlines deadline = is_some deadline
is_wanted Asked deadline = false

-- the message at the group, with its deadline if it has one
abbrev pub target_with : List (Option ℕ) → ℕ → ℕ → Target
target_with deadlines m g = record { message = m; group = g; deadline = deadline_at deadlines m }

-- the same, if the message may be the target and is wanted
abbrev pub target_at : Wanted → List (Option ℕ) → Scenario → ℕ → ℕ → List Target
target_at wanted deadlines scenario m g =
    if may_be_target scenario m && is_wanted wanted (deadline_at deadlines m) then target_with deadlines m g ∷ [] else []

-- the message at each group that it goes to
abbrev pub targets_at : Wanted → List (Option ℕ) → Scenario → ℕ → List Target
targets_at wanted deadlines scenario m = flat_map (target_at wanted deadlines scenario m) (message_at scenario m).destinations

-- the messages that are wanted at their groups, in the order of their numbers
abbrev pub many_targets : Wanted → List (Option ℕ) → Scenario → List Target
many_targets wanted deadlines scenario = flat_map (targets_at wanted deadlines scenario) (message_numbers scenario)

-- these, or where there are none the target of which the latency is asked
abbrev pub or_asked : List (Option ℕ) → Scenario → List Target → List Target
or_asked deadlines scenario [] = target_with deadlines scenario.target_message scenario.target_group ∷ []
or_asked deadlines scenario (target ∷ targets) = target ∷ targets

-- the targets for which an order is to be the best
abbrev pub targets_of : Wanted → List (Option ℕ) → Scenario → List Target
targets_of wanted deadlines scenario = or_asked deadlines scenario (many_targets wanted deadlines scenario)

-- it may be the target of the scenario
abbrev pub MayBeTarget : Scenario → Target → Type 0
MayBeTarget scenario target = IsTarget scenario target.message target.group

-- the scenario in which its latency is asked
abbrev pub asked_of : Scenario → Target → Scenario
asked_of scenario target = with_target scenario target.message target.group

-- the same, or where all is asked around it by so long a span, the scenario around it
abbrev pub asked_at : Option ℕ → Scenario → Target → Scenario
asked_at span scenario target = scenario_at span scenario target.message target.group

-- what its latency is limited to: its deadline, or else nothing
abbrev pub limit_of : Target → ℕ
limit_of target = unwrap_or target.deadline 0

-- the target is at the group
abbrev pub is_at : ℕ → Target → Bool
is_at g target = target.group == g

-- one of them is
abbrev pub has_target : List Target → ℕ → Bool
has_target targets g = list_any (is_at g) targets

-- one of them has a deadline
abbrev pub are_judged : List Target → Bool
are_judged targets = list_any (λ target. is_some target.deadline) targets

-- the target counts: where one of them has a deadline those that have one do alone, and else all
abbrev pub counts : Bool → Target → Bool
counts is_judged target = not is_judged || is_some target.deadline

-- those of them for which the order is to be the best, and the others, of which is only told how late they are
abbrev pub counted : List Target → List Target
counted targets = filter (counts (are_judged targets)) targets

abbrev pub uncounted : List Target → List Target
uncounted targets = filter (λ target. not (counts (are_judged targets) target)) targets
