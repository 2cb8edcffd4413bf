-- The parts of a scenario, and the first of them in which two scenarios differ.
use Rattle.std.specs.Prelude.{◌≡◌, List, [], ◌∷◌, ◌++◌, codes, ℕ, All}
use Rattle.convoy_scenario.specs.Scenario.{Scenario}
use Rattle.convoy_scenario.specs.declared.part.Part.{Part}
use Rattle.convoy_scenario.specs.declared.part.Part.TheVariants.{Time, Tick, Delay, Groups, Places, Links, Multicasts, Target}

-- the word for a part
abbrev pub part_word : Part → List ℕ
part_word Time = codes "time"
part_word Tick = codes "tick"
part_word Delay = codes "delay"
part_word Groups = codes "groups"
part_word Places = codes "places"
part_word Links = codes "link"
part_word Multicasts = codes "multicast"
part_word Target = codes "target"

-- the other scenario is in this part as the one that is wanted
abbrev pub AgreeIn : Scenario → Scenario → Part → Type 0
AgreeIn wanted other Time = other.time ≡ wanted.time
AgreeIn wanted other Tick = other.tick ≡ wanted.tick
AgreeIn wanted other Delay = other.delay ≡ wanted.delay
AgreeIn wanted other Groups = other.groups ≡ wanted.groups
AgreeIn wanted other Places = other.places ≡ wanted.places
AgreeIn wanted other Links = other.links ≡ wanted.links
AgreeIn wanted other Multicasts = other.multicasts ≡ wanted.multicasts
AgreeIn wanted other Target = (other.target_message ≡ wanted.target_message) × (other.target_group ≡ wanted.target_group)

-- the parts, which together are all of a scenario, in the order in which scenarios are compared
abbrev pub parts : List Part
parts = Time ∷ Tick ∷ Delay ∷ Groups ∷ Places ∷ Links ∷ Multicasts ∷ Target ∷ []

-- Of these parts it is the first in which the two differ: they agree in each before it.
pub record IsFirstOf (listed : List Part) (wanted other : Scenario) (part : Part) : Type 0 where
  pub before : List Part
  pub after : List Part
  pub place : listed ≡ before ++ part ∷ after
  pub agree : All (AgreeIn wanted other) before
  pub differ : AgreeIn wanted other part → ⊥

-- the first part in which the two differ
abbrev pub IsFirstDifference : Scenario → Scenario → Part → Type 0
IsFirstDifference wanted other part = IsFirstOf parts wanted other part
