-- What is proved of the machine beside what `replay` says. Each is the one clause of the function of its name in the crate's module `machine_laws`.
use Rattle.std.specs.Prelude.{◌≡◌, ℕ, [], IsTrue}
use Rattle.convoy_scenario.specs.Scenario.{Scenario}
use Rattle.convoy_scenario.specs.WellFormed.{IsScenario}
use Rattle.convoy_intervals.specs.Boxes.{Box, IsBox}
use Rattle.convoy_certificate.specs.declared.node.Node.{Node}
use Rattle.convoy_checker.specs.Leaves.{IsRight}
use Rattle.convoy_checker.specs.Trees.{regions_below}
use Rattle.convoy_regions.specs.Regions.{any_order}
use Rattle.convoy_machine.specs.Machine.{closes}

-- a worker that has seen a latency may close each box over which some leaf is right in a certificate of that latency, also a lead leaf that names a lesser one
abbrev pub RightLeavesClose : Type 0
RightLeavesClose =
    (scenario : Scenario) (latency : ℕ) (leaf : Node) (box : Box)
    → IsScenario scenario
    → IsBox scenario box
    → regions_below scenario leaf (any_order box) ≡ []
    → IsRight scenario latency leaf (any_order box)
    → IsTrue (closes scenario latency box)
