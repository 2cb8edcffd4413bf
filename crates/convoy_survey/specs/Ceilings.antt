-- The ceilings of a scenario's targets, and how near to them traffic was found to come.
use Rattle.std.specs.Prelude.{◌≡◌, ℕ, ◌≤◌, ◌==◌, Bool, true, false, not, List, filter, map, Option, Some, None, is_none, unwrap_or, Result, Ok, Err, IfOk}
use Rattle.std.specs.List.{All}
use Rattle.std.specs.Option.{option_map_or}
use Rattle.std.specs.Str.{bytes_eq}
use Rattle.std.specs.declared.alloc.AllocError.{AllocError}
use Rattle.convoy_draft.specs.Checks.{is_among}
use Rattle.convoy_scenario.specs.Scenario.{Scenario, group_name_at}
use Rattle.convoy_scenario.specs.Targets.{targets_of, with_target}
use Rattle.convoy_sim.specs.Record.{Record}
use Rattle.convoy_ceiling.specs.Ceiling.{IsUpperInTraffic, ceiling_at}
use Rattle.convoy_ceiling.specs.Finding.{IsFound}
use Rattle.convoy_outages.specs.OutageCeiling.{IsCeilingThrough, ceiling_through}
use Rattle.convoy_survey.specs.declared.ceiled.Ceiled.{Ceiled}

-- Traffic of the scenario's kinds of messages, in which the same is asked, has this latency under some schedule.
pub record IsAttainedInTraffic (scenario : Scenario) (latency : ℕ) : Type 0 where
  pub traffic : Record
  pub found : IsFound scenario traffic.scenario traffic
  pub stated : traffic.latency ≡ latency

-- the latency that is told where a search for traffic answered so: none where the answer was that memory ran out
abbrev pub told_latency : Result ℕ AllocError → Option ℕ
told_latency (Ok latency) = Some latency
told_latency (Err error) = None

-- the message and the group
abbrev pub ceiled_target : Ceiled → ℕ × ℕ
ceiled_target row = (row.message, row.group)

-- The row tells the ceiling of its message at its group, above which no message of the kind has a latency there in traffic of the scenario's kinds; the ceiling through outages of this span, where there is one, above which none has one there where packets keep the links but for these; and what the search for traffic with that target answered, where such answers may be given: so it tells no latency just where the answer was that memory ran out.
pub record IsCeiledBy (span : Option ℕ) (scenario : Scenario) (may_answer : ℕ → ℕ → Result ℕ AllocError → Type 0) (row : Ceiled) : Type 0 where
  pub ceiling : row.ceiling ≡ ceiling_at scenario row.message row.group
  pub safe : IsUpperInTraffic scenario row.message row.group row.ceiling
  pub through : row.through ≡ ceiling_through span scenario row.message row.group
  pub safe_through : IsCeilingThrough span scenario row.message row.group
  pub answer : Result ℕ AllocError
  pub given : may_answer row.message row.group answer
  pub told : row.attained ≡ told_latency answer

-- The row is that of the target, and tells its ceilings and what may be answered for it.
pub record TellsCeiling (span : Option ℕ) (scenario : Scenario) (may_answer : ℕ → ℕ → Result ℕ AllocError → Type 0) (target : ℕ × ℕ) (row : Ceiled) : Type 0 where
  pub of_target : ceiled_target row ≡ target
  pub told : IsCeiledBy span scenario may_answer row

-- what a search for traffic with that target may answer: a latency that traffic attains, no more than the ceiling; or, as with each command, that memory ran out
abbrev pub MaySeek : Scenario → ℕ → ℕ → Result ℕ AllocError → Type 0
MaySeek scenario m g answer =
    IfOk answer (IsAttainedInTraffic (with_target scenario m g)) × IfOk answer (λ latency. latency ≤ ceiling_at scenario m g)

-- the row tells what a search for traffic answered for its target
abbrev pub IsCeiled : Option ℕ → Scenario → Ceiled → Type 0
IsCeiled span scenario row = IsCeiledBy span scenario (MaySeek scenario) row

-- what happens at this group is asked for: at any group where none is named, else at the one of that name
abbrev pub is_asked : Scenario → Option (List ℕ) → ℕ → Bool
is_asked scenario None g = true
is_asked scenario (Some name) g = bytes_eq name (group_name_at scenario g)

-- the targets at the groups that are asked for, in the order of their numbers
abbrev pub targets_asked : Scenario → Option (List ℕ) → List (ℕ × ℕ)
targets_asked scenario group = filter (λ target. is_asked scenario group target.1) (targets_of scenario)

-- the scenario has the group that is named, if one is
abbrev pub has_group : Scenario → Option (List ℕ) → Bool
has_group scenario None = true
has_group scenario (Some name) = is_among name scenario.groups

-- There is a row for each target that is asked for, in their order, and each tells the ceilings of its target and what the search for traffic answered, where such answers may be given.
pub record AreCeiledBy (span : Option ℕ) (scenario : Scenario) (group : Option (List ℕ)) (may_answer : ℕ → ℕ → Result ℕ AllocError → Type 0) (rows : List Ceiled) : Type 0 where
  pub targets : map ceiled_target rows ≡ targets_asked scenario group
  pub told : All (IsCeiledBy span scenario may_answer) rows

-- they are the rows by searches for traffic
abbrev pub AreCeiled : Option ℕ → Scenario → Option (List ℕ) → List Ceiled → Type 0
AreCeiled span scenario group rows = AreCeiledBy span scenario group (MaySeek scenario) rows

-- memory ran out while traffic was sought
abbrev pub is_unsought : Ceiled → Bool
is_unsought row = is_none row.attained

-- the traffic that was found does not attain the ceiling
abbrev pub falls_short : Ceiled → Bool
falls_short row = option_map_or (λ latency. not (latency == row.ceiling)) row.attained false

-- what no latency of the row's is above: through outages, where these are asked for
abbrev pub upper_of : Ceiled → ℕ
upper_of row = unwrap_or row.through row.ceiling
