-- What is proved of fronts. Each is the one clause of the function of its name in the crate's module `front_laws`.
use Rattle.std.specs.Prelude.{◌≡◌, ◌≢◌, ℕ, ◌≤◌, false, List, [], ◌∷◌, ◌++◌, length}
use Rattle.std.specs.List.{All, list_any}
use Rattle.convoy_scenario.specs.Scenario.{Scenario}
use Rattle.convoy_scenario.specs.WellFormed.{IsScenario}
use Rattle.convoy_packets.specs.Table.{IsTable, table_of}
use Rattle.convoy_sim.specs.Greatest.{IsUpper}
use Rattle.convoy_certificate.specs.Certificate.{IsNode}
use Rattle.convoy_certificate.specs.Reading.{AreReadable}
use Rattle.convoy_certificate.specs.Text.{is_lead, is_stamp}
use Rattle.convoy_regions.specs.Regions.{Region, IsRegion, root_region}
use Rattle.convoy_checker.specs.Validity.{IsTree}
use Rattle.convoy_branch.specs.declared.bounds.Bounds.{Bounds}
use Rattle.convoy_branch.specs.declared.bounds.Bounds.TheVariants.{Plain, Lead}
use Rattle.convoy_branch.specs.declared.step.Turn.{Turn}
use Rattle.convoy_branch.specs.Fronts.{AreFronts, FrontNode, Left, IsFront, front_after, left_in, spent_in}
use Rattle.convoy_branch.specs.SearchBounds.{most_nodes}
use Rattle.convoy_branch.specs.Steps.{IsTurn}
use Rattle.convoy_branch.specs.Uppers.{IsRaised, IsUpperOf}

-- no assignment has a latency above the upper bound of a front
abbrev pub FrontsBound : Type 0
FrontsBound = (bounds : Bounds) (scenario : Scenario) (best upper tickets : ℕ) → IsScenario scenario → IsFront bounds scenario best upper tickets → IsUpper scenario upper

-- fronts over some regions and then fronts over others are fronts over all of them
abbrev pub FrontsAppend : Type 0
FrontsAppend =
    (bounds : Bounds) (scenario : Scenario) (best : ℕ) (regions others : List Region) (first rest : List FrontNode)
    → AreFronts bounds scenario best regions first
    → AreFronts bounds scenario best others rest
    → AreFronts bounds scenario best (regions ++ others) (first ++ rest)

-- a front over a region may take the place of the region where it is left
abbrev pub FrontsFilled : Type 0
FrontsFilled =
    (bounds : Bounds) (scenario : Scenario) (best : ℕ) (regions : List Region) (branch : Region) (before after front : List FrontNode)
    → AreFronts bounds scenario best (branch ∷ []) front
    → AreFronts bounds scenario best regions (before ++ Left branch ∷ after)
    → AreFronts bounds scenario best regions (before ++ (front ++ after))

-- a better record leaves each node of a front right
abbrev pub FrontsBetter : Type 0
FrontsBetter =
    (bounds : Bounds) (scenario : Scenario) (best better : ℕ) (regions : List Region) (nodes : List FrontNode)
    → best ≤ better
    → AreFronts bounds scenario best regions nodes
    → AreFronts bounds scenario better regions nodes

-- what becomes of a region in a step is a front over the region
abbrev pub TurnsAreFronts : Type 0
TurnsAreFronts =
    (bounds : Bounds) (scenario : Scenario) (best : ℕ) (branch : Region) (turn : Turn)
    → IsTurn bounds scenario branch best turn
    → AreFronts bounds scenario best (branch ∷ []) (front_after turn)

-- the node of a step may stand in a certificate
abbrev pub TurnsAreNodes : Type 0
TurnsAreNodes =
    (bounds : Bounds) (scenario : Scenario) (best : ℕ) (branch : Region) (turn : Turn)
    → IsTable (table_of scenario)
    → IsRegion scenario branch
    → IsTurn bounds scenario branch best turn
    → All (IsNode scenario) (spent_in (front_after turn))

-- with no region left a front is a tree that closes the root
abbrev pub WholeFrontsAreTrees : Type 0
WholeFrontsAreTrees =
    (bounds : Bounds) (scenario : Scenario) (best : ℕ) (nodes : List FrontNode)
    → left_in nodes ≡ []
    → AreFronts bounds scenario best (root_region scenario ∷ []) nodes
    → IsTree scenario best (spent_in nodes)

-- by plain bounds it has no stamp leaf
abbrev pub PlainFrontsHaveNoStamps : Type 0
PlainFrontsHaveNoStamps =
    (scenario : Scenario) (best : ℕ) (nodes : List FrontNode)
    → left_in nodes ≡ []
    → AreFronts Plain scenario best (root_region scenario ∷ []) nodes
    → list_any is_stamp (spent_in nodes) ≡ false

-- only a front of a search by leads has lead leaves
abbrev pub OnlyLeadsHaveLeadLeaves : Type 0
OnlyLeadsHaveLeadLeaves =
    (bounds : Bounds) (scenario : Scenario) (best : ℕ) (nodes : List FrontNode)
    → bounds ≢ Lead
    → left_in nodes ≡ []
    → AreFronts bounds scenario best (root_region scenario ∷ []) nodes
    → list_any is_lead (spent_in nodes) ≡ false

-- with no region left, nodes that are few enough for the bounds can be read
abbrev pub WholeFrontsAreReadable : Type 0
WholeFrontsAreReadable =
    (bounds : Bounds) (scenario : Scenario) (best : ℕ) (nodes : List FrontNode)
    → left_in nodes ≡ []
    → AreFronts bounds scenario best (root_region scenario ∷ []) nodes
    → length (spent_in nodes) ≤ most_nodes bounds
    → AreReadable (spent_in nodes)

-- where no region is left, the upper bound is the best latency
abbrev pub UppersBegin : Type 0
UppersBegin = (bounds : Bounds) (scenario : Scenario) (best : ℕ) → IsUpperOf bounds scenario best [] best

-- one region more raises the latency from which the upper bound of the others starts
abbrev pub UppersRaised : Type 0
UppersRaised =
    (bounds : Bounds) (scenario : Scenario) (best raised : ℕ) (region : Region) (regions : List Region) (upper : ℕ)
    → IsRaised bounds scenario region best raised
    → IsUpperOf bounds scenario raised regions upper
    → IsUpperOf bounds scenario best (region ∷ regions) upper
