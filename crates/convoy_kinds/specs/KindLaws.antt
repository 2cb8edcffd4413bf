-- What is proved of kinds. Each is the one clause of the function of its name in the crate's module `kind_laws`.
use Rattle.std.specs.Prelude.{◌≡◌, ℕ, ◌<◌, length}
use Rattle.convoy_scenario.specs.Scenario.{Scenario, GoesTo}
use Rattle.convoy_scenario.specs.WellFormed.{IsScenario}
use Rattle.convoy_ceiling.specs.Ceiling.{IsTrafficOf, IsUpperInTraffic, ceiling_of}
use Rattle.convoy_kinds.specs.Kinds.{IsKinds, Kinds, all_kinds}
use Rattle.convoy_kinds.specs.Pairs.{pair_of}
use Rattle.convoy_kinds.specs.Ceilings.{ceiling_of_kind, rival_at}

-- THE HEADLINE. Kinds may be asked about one pair at a time: in no traffic of the kinds, whichever of them it has, does a message of kind k have a latency at group g above the greatest ceiling of kind k there beside one other kind.
abbrev pub KindsMayBeAskedInPairs : Type 0
KindsMayBeAskedInPairs = (kinds : Kinds) → IsKinds kinds → (k g : ℕ) → IsUpperInTraffic (all_kinds kinds) k g (ceiling_of_kind kinds k g)

-- A kind has its ceiling at a group beside the rival there, which goes there as well.
pub record IsDecidedBy (kinds : Kinds) (k l g : ℕ) : Type 0 where
  pub goes : GoesTo (all_kinds kinds) l g
  pub ceiling : ceiling_of (pair_of kinds k l g) ≡ ceiling_of_kind kinds k g

abbrev pub RivalsDecide : Type 0
RivalsDecide = (kinds : Kinds) (k g : ℕ) → GoesTo (all_kinds kinds) k g → IsDecidedBy kinds k (rival_at kinds g) g

-- The scenario of two kinds is well formed, where the first goes to the group.
abbrev pub PairsAreScenarios : Type 0
PairsAreScenarios =
    (kinds : Kinds) → IsKinds kinds → (k l g : ℕ) → k < length kinds.kinds → l < length kinds.kinds → GoesTo (all_kinds kinds) k g
    → IsScenario (pair_of kinds k l g)

-- Traffic of two of the kinds is traffic of the kinds.
abbrev pub TrafficOfPairsIsOfKinds : Type 0
TrafficOfPairsIsOfKinds =
    (kinds : Kinds) (k l g : ℕ) (traffic : Scenario) → k < length kinds.kinds → l < length kinds.kinds
    → IsTrafficOf (pair_of kinds k l g) traffic → IsTrafficOf (all_kinds kinds) traffic
