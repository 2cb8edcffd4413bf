-- Faults of which no device is the cause.
use Rattle.std.proofs.Common.{◌≡◌, Result, Ok, Err, refl, subst}
use Rattle.std.specs.Result.{result_map_both}
use Rattle.convoy_streams.specs.declared.reading.ReadFault.TheVariants.{Read}
use Rattle.convoy_packets.specs.declared.fault.ListFault.{ListFault}
use Rattle.convoy_packets.specs.declared.fault.ListFault.TheVariants as lists
use Rattle.convoy_draft.specs.declared.fault.ScenarioFault.{ScenarioFault}
use Rattle.convoy_draft.specs.declared.fault.ScenarioFault.TheVariants as scenario
use Rattle.convoy_commands.specs.declared.fault.Fault.{Fault}
use Rattle.convoy_commands.specs.declared.fault.Fault.TheVariants.{Reading, Write}
use Rattle.convoy_commands.specs.Faults.{told_of, told_of_list, told_of_order}

-- the fault is not that of a device that failed
abbrev pub IsNoDevice : Fault → Type 0
IsNoDevice (Reading Read) = ⊥
IsNoDevice Write = ⊥
IsNoDevice other = Unit {0}

-- so it is with the faults of scenarios, of schedules and of orders
pub no_device_in_scenario : (refused : ScenarioFault) → IsNoDevice (told_of refused)
no_device_in_scenario scenario.Memory = tt
no_device_in_scenario other = tt

pub no_device_in_schedule : (refused : ListFault) → IsNoDevice (told_of_list refused)
no_device_in_schedule lists.Memory = tt
no_device_in_schedule other = tt

pub no_device_in_order : (refused : ListFault) → IsNoDevice (told_of_order refused)
no_device_in_order lists.Memory = tt
no_device_in_order other = tt

-- the fault of an answer that was made from another
pub no_device_in_made : {X Y E : Type 0} (made : X → Y) (told : E → Fault) (read : Result X E) (fault : Fault) →
    ((refused : E) → read ≡ Err refused → IsNoDevice (told refused)) →
    result_map_both made told read ≡ Err fault → IsNoDevice fault
no_device_in_made made told (Ok value) fault none is = cc
no_device_in_made made told (Err refused) fault none is =
    let same : told refused ≡ fault = cc in subst IsNoDevice same (none refused refl)
