-- The faults of the library, as these callers tell them: memory is one fault, whichever call ran out of it.
use Rattle.convoy_library.specs.ScenarioFault.{ScenarioFault}
use Rattle.convoy_library.specs.ScenarioFault.TheVariants as scenario
use Rattle.convoy_library.specs.ListFault.{ListFault}
use Rattle.convoy_library.specs.ListFault.TheVariants as list
use Rattle.convoy_library.specs.TextFault.{TextFault}
use Rattle.convoy_library.specs.TextFault.TheVariants as text
use Rattle.convoy_library.specs.Refused.{Refused}
use Rattle.convoy_library.specs.Refused.TheVariants as check
use Rattle.convoy_library_tests.specs.declared.fault.Fault.{Fault}
use Rattle.convoy_library_tests.specs.declared.fault.Fault.TheVariants.{Scenario, Schedule, Text, Invalid, Memory}

-- a fault of a scenario text
abbrev pub of_scenario : ScenarioFault → Fault
of_scenario scenario.Memory = Memory
of_scenario cause = Scenario cause

-- a fault of a list of delays
abbrev pub of_list : ListFault → Fault
of_list list.Memory = Memory
of_list cause = Schedule cause

-- a fault of a certificate's text
abbrev pub of_text : TextFault → Fault
of_text text.Memory = Memory
of_text cause = Text cause

-- why a certificate is refused
abbrev pub of_check : Refused → Fault
of_check check.Memory = Memory
of_check cause = Invalid cause
