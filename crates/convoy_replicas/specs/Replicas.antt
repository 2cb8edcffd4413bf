-- How far replicas are from the leaders of their groups, where that is asked of a scenario.
use Rattle.std.specs.Prelude.{Vec, ℕ, pos, max, nat_abs, nat_le, if◌then◌else◌, List, [], ◌∷◌, find, Option, Some, None, Result, Ok, Err}
use Rattle.std.specs.Option.{option_map_or}
use Rattle.std.specs.declared.alloc.Global.{Global}
use Rattle.std.specs.Int.{div_ceil}
use Rattle.convoy_lines.specs.Results.{◌>>=◌}
use Rattle.convoy_draft.specs.declared.limits.TheConstants.{GREATEST_DELAY}
use Rattle.convoy_draft.specs.Checks.{is_among}
use Rattle.convoy_scenario.specs.Scenario.{Scenario}
use Rattle.convoy_toml.specs.declared.written.WrittenTime.{WrittenTime}
use Rattle.convoy_toml.specs.declared.written.WrittenTime.TheVariants.{Count, Lasting}
use Rattle.convoy_toml.specs.Shape.{WrittenAcceptance}
use Rattle.convoy_replicas.specs.declared.replicas.ReplicaFault.{ReplicaFault}
use Rattle.convoy_replicas.specs.declared.replicas.ReplicaFault.TheVariants.{Unmeasured, TooLong}

-- how many ticks a packet takes to a replica at most that takes so long, where a tick has that length, if it has one: one that has begun counts as a whole one
abbrev pub ticks_of_replicas : Option ℕ → WrittenTime → Result ℕ ReplicaFault
ticks_of_replicas tick (Count ticks) = Ok (nat_abs ticks)
ticks_of_replicas None (Lasting length) = Err Unmeasured
ticks_of_replicas (Some tick) (Lasting length) = Ok (div_ceil length (max tick 1))

-- the ticks, where a packet may take so many
abbrev pub within_greatest : ℕ → Result ℕ ReplicaFault
within_greatest ticks = if nat_le ticks GREATEST_DELAY then Ok ticks else Err TooLong

-- how many ticks of the scenario it takes, or why that can't be asked
abbrev pub replica_ticks : Scenario → WrittenTime → Result ℕ ReplicaFault
replica_ticks scenario span = ticks_of_replicas scenario.tick span >>= within_greatest

-- how far the replicas of a group are: as is asked of all groups, or else as the text says that names it, or no time where that says nothing, since it is one process then
abbrev pub span_of_group : Option WrittenTime → List WrittenAcceptance → List ℕ → WrittenTime
span_of_group (Some span) acceptances group = span
span_of_group None acceptances group = option_map_or (λ acceptance. acceptance.replicas) (find (λ acceptance. is_among group acceptance.groups) acceptances) (Count (pos 0))

-- the same of each of these groups in ticks of the scenario, or the first fault
abbrev pub ticks_of_groups : Option WrittenTime → List WrittenAcceptance → Scenario → List (List ℕ) → Result (List ℕ) ReplicaFault
ticks_of_groups span acceptances scenario [] = Ok []
ticks_of_groups span acceptances scenario (group ∷ groups) = do
  first ← replica_ticks scenario (span_of_group span acceptances group)
  others ← ticks_of_groups span acceptances scenario groups
  Ok (first ∷ others)

-- a vector of ticks as the list that it holds
abbrev pub seen : Result (Vec ℕ Global) ReplicaFault → Result (List ℕ) ReplicaFault
seen (Ok ticks) = Ok ticks.items
seen (Err fault) = Err fault

-- how far the replicas of each group of the scenario are, in ticks, by the numbers of the groups
abbrev pub replicas_of : Option WrittenTime → List WrittenAcceptance → Scenario → Result (List ℕ) ReplicaFault
replicas_of span acceptances scenario = ticks_of_groups span acceptances scenario scenario.groups
