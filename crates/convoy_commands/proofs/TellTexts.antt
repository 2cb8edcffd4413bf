-- What is told of a text, from what was read, and that its faults are no device's.
use Rattle.std.proofs.Common.{◌≡◌, inl, inr, ℕ, ℤ, List, Option, Some, None, Result, Ok, Err, refl, subst}
use Rattle.std.specs.Result.{result_map_both}
use Rattle.convoy_scenario.specs.Memory.{IsUnlessMemory}
use Rattle.convoy_scenario.specs.Scenario.{Scenario}
use Rattle.convoy_toml.specs.Reading.{InputView, input_of_text, scenario_of_text}
use Rattle.convoy_draft.specs.declared.fault.ScenarioFault.{ScenarioFault}
use Rattle.convoy_draft.specs.declared.fault.ScenarioFault.TheVariants as scenario
use Rattle.convoy_timeline.specs.PacketLists.{packets_text}
use Rattle.convoy_draft.specs.declared.time.Time.{Time}
use Rattle.convoy_draft.specs.declared.time.Time.TheVariants.{Ticks, Real}
use Rattle.convoy_lines.specs.Results.{◌>>=◌}
use Rattle.convoy_packets.specs.Assignment.{Schedule, ranges_of}
use Rattle.convoy_packets.specs.Given.{schedule_of}
use Rattle.convoy_packets.specs.OrderLists.{order_given}
use Rattle.convoy_sim.specs.Scheduled.{Scheduled}
use Rattle.convoy_commands.specs.declared.fault.Fault.{Fault}
use Rattle.convoy_commands.specs.declared.fault.Fault.TheVariants as faults
use Rattle.convoy_commands.specs.declared.fault.Fault.TheVariants.{Memory}
use Rattle.convoy_commands.specs.declared.fault.OrderFault.TheVariants.{InTicks}
use Rattle.convoy_commands.specs.Schedules.{chosen_order, chosen_schedule, order_in, scheduled_of_input, scheduled_of_text, scheduled_with}
use Rattle.convoy_commands.specs.Faults.{told_of, told_of_list, told_of_order}
use Rattle.convoy_commands.specs.declared.telling.Telling.{Telling}
use Rattle.convoy_commands.specs.declared.telling.Telling.TheVariants.{Simulate, Timeline, Packets, Toml}
use Rattle.convoy_commands.specs.Tells.{job_told, packets_told, scheduled_told, text_told}
use Rattle.convoy_commands.proofs.NoDevice.{IsNoDevice, no_device_in_made, no_device_in_order, no_device_in_scenario, no_device_in_schedule}

-- the text has a fault, or memory ran out
pub made_refused : (made : Scheduled → List ℕ) (read : Result Scheduled Fault) (fault : Fault) →
    IsUnlessMemory Memory read (Err fault) →
    IsUnlessMemory Memory (result_map_both made (λ f. f) read) (Err fault)
made_refused made read fault (inl is) = inl (rw (← is) refl)
made_refused made read fault (inr is) = let same : fault ≡ Memory = cc in inr (rw same refl)

-- the text gives a scenario and a schedule
pub made_answered : (made : Scheduled → List ℕ) (read : Result Scheduled Fault) (given : Scheduled) →
    IsUnlessMemory Memory read (Ok given) → result_map_both made (λ f. f) read ≡ Ok (made given)
made_answered made read given (inl is) = rw (← is) refl
made_answered made read given (inr is) = cc

chosen_schedule_no_device : (ranges : List (ℕ × ℕ)) (given : Option (List ℤ)) (fault : Fault) →
    chosen_schedule ranges given ≡ Err fault → IsNoDevice fault
chosen_schedule_no_device ranges None fault is = cc
chosen_schedule_no_device ranges (Some numbers) fault is =
    no_device_in_made _ told_of_list (schedule_of ranges numbers) fault (λ refused same. no_device_in_schedule refused) is

order_no_device : (time : Time) (scenario : Scenario) (numbers : List ℤ) (fault : Fault) →
    order_in time scenario numbers ≡ Err fault → IsNoDevice fault
order_no_device Ticks scenario numbers fault is =
    let same : faults.Order InTicks ≡ fault = cc in
    subst IsNoDevice same tt
order_no_device Real scenario numbers fault is =
    no_device_in_made _ told_of_order (order_given scenario numbers) fault (λ refused same. no_device_in_order refused) is

chosen_order_no_device : (scenario : Scenario) (given : Option (List ℤ)) (fault : Fault) →
    chosen_order scenario given ≡ Err fault → IsNoDevice fault
chosen_order_no_device scenario None fault is = cc
chosen_order_no_device scenario (Some numbers) fault is = order_no_device scenario.time scenario numbers fault is

-- a fault of one step or of the next
step_no_device : {X Y : Type 0} (read : Result X Fault) (next : X → Result Y Fault) (fault : Fault) →
    ((refused : Fault) → read ≡ Err refused → IsNoDevice refused) →
    ((value : X) → next value ≡ Err fault → IsNoDevice fault) →
    (read >>= next) ≡ Err fault → IsNoDevice fault
step_no_device (Ok value) next fault none after is = after value is
step_no_device (Err refused) next fault none after is =
    let same : refused ≡ fault = cc in subst IsNoDevice same (none refused refl)

given_no_device : (given : InputView) (schedule : Schedule) (fault : Fault) →
    (chosen_order given.scenario given.order >>= (λ order. Ok (scheduled_with given.scenario schedule order))) ≡ Err fault
    → IsNoDevice fault
given_no_device given schedule fault is =
    step_no_device (chosen_order given.scenario given.order) (λ order. Ok (scheduled_with given.scenario schedule order)) fault
    (chosen_order_no_device given.scenario given.order) (λ order no. cc) is

input_no_device : (read : Result InputView ScenarioFault) (fault : Fault) → scheduled_of_input read ≡ Err fault → IsNoDevice fault
input_no_device (Err refused) fault is =
    let same : told_of refused ≡ fault = cc in subst IsNoDevice same (no_device_in_scenario refused)
input_no_device (Ok given) fault is =
    step_no_device (chosen_schedule (ranges_of given.scenario) given.schedule) _ fault
    (chosen_schedule_no_device (ranges_of given.scenario) given.schedule) (λ schedule. given_no_device given schedule fault) is

-- a fault of a scenario and its schedule is no device's, and so is none of what is told of them
made_no_device : (made : Scheduled → List ℕ) (text : List ℕ) (fault : Fault) →
    result_map_both made (λ f. f) (scheduled_of_text text) ≡ Err fault → IsNoDevice fault
made_no_device made text fault is =
    no_device_in_made made (λ f. f) (scheduled_of_text text) fault (λ refused same. input_no_device (input_of_text text) refused same) is

-- the text of which packets are told has a fault, or memory ran out
pub packets_refused : (text : List ℕ) (refused : ScenarioFault) →
    IsUnlessMemory scenario.Memory (scenario_of_text text) (Err refused) →
    IsUnlessMemory Memory (packets_told text) (Err (told_of refused))
unfolding packets_told
packets_refused text refused (inl is) = inl (rw (← is) refl)
packets_refused text refused (inr is) = let same : refused ≡ scenario.Memory = cc in inr (rw same refl)

-- the text is that of a scenario
pub packets_answered : (text : List ℕ) (plan : Scenario) →
    IsUnlessMemory scenario.Memory (scenario_of_text text) (Ok plan) →
    packets_told text ≡ Ok (packets_text plan)
unfolding packets_told
packets_answered text plan (inl is) = rw (← is) refl
packets_answered text plan (inr is) = cc

-- its fault is no device's
packets_no_device : (text : List ℕ) (fault : Fault) → packets_told text ≡ Err fault → IsNoDevice fault
unfolding packets_told
packets_no_device text fault is =
    no_device_in_made _ told_of (scenario_of_text text) fault (λ refused same. no_device_in_scenario refused) is

-- no fault of what is told of a scenario's text is a device's
pub job_no_device : (telling : Telling) (text : List ℕ) (fault : Fault) → job_told telling text ≡ Err fault → IsNoDevice fault
unfolding scheduled_told
job_no_device Simulate text fault is = made_no_device (text_told Simulate) text fault is
job_no_device Timeline text fault is = made_no_device (text_told Timeline) text fault is
job_no_device Packets text fault is = packets_no_device text fault is
job_no_device Toml text fault is = made_no_device (text_told Toml) text fault is
