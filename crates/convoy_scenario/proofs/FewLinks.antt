-- Links that ascend are few.
use Rattle.std.proofs.Common.{◌≡◌, ℕ, ◌+◌, ◌*◌, ◌<◌, ◌≤◌, ◌==◌, ◌&&◌, ◌||◌, nat_lt, true, List, [], ◌∷◌, length, Some, None, All, arith}
use Rattle.std.proofs.lemmas.Bool.{and_parts, false≢true}
use Rattle.std.proofs.lemmas.Bool.Decides.{nat_tests}
use Rattle.std.proofs.lemmas.List.Elements.{All-head, All-tail}
use Rattle.convoy_draft.specs.declared.limits.TheConstants.{MOST_GROUPS, MOST_LINKS, MOST_PLACES}
use Rattle.convoy_scenario.specs.declared.sender.Sender.{Sender}
use Rattle.convoy_scenario.specs.declared.sender.Sender.TheVariants.{Client, Group}
use Rattle.convoy_scenario.specs.Scenario.{Link, Scenario, is_same_sender}
use Rattle.convoy_scenario.specs.WellFormed.{IsSender, is_before, is_sender_before, ascend_after, IsLink, IsScenario}

-- a number for each sender, which rises in their order
abbrev number : Sender → ℕ
number (Client p) = p
number (Group g) = MOST_PLACES + 1 + g

-- a number for each link, which rises in the order of links
abbrev rank : Link → ℕ
rank link = number link.sender * MOST_GROUPS + link.to

rises : (p q s t : ℕ) → s < 8 → (nat_lt p q || ((p == q) && nat_lt s t)) ≡ true → p * 8 + s < q * 8 + t
rises p q s t within e = grind (arith, nat_tests)

sooner : (p g s t : ℕ) → p ≤ 8 → s < 8 → p * 8 + s < (9 + g) * 8 + t
sooner p g s t few within = omega arith

later : (g h s t : ℕ) → s < 8 → (nat_lt g h || ((g == h) && nat_lt s t)) ≡ true → (9 + g) * 8 + s < (9 + h) * 8 + t
later g h s t within e = grind (arith, nat_tests)

rank_rises : (places : ℕ) (sender other : Sender) (s t groups : ℕ) → places ≤ MOST_PLACES → IsSender groups places sender → s < MOST_GROUPS
    → (is_sender_before sender other || (is_same_sender sender other && nat_lt s t)) ≡ true
    → number sender * MOST_GROUPS + s < number other * MOST_GROUPS + t
rank_rises places (Client p) (Client q) s t groups few is within e = rises p q s t within e
rank_rises places (Client p) (Group h) s t groups few is within e = sooner p h s t (omega (arith, few, is)) within
rank_rises places (Group g) (Client q) s t groups few is within e = absurd (false≢true e)
rank_rises places (Group g) (Group h) s t groups few is within e = later g h s t within e

sender_within : (groups places : ℕ) (sender : Sender) → groups ≤ MOST_GROUPS → places ≤ MOST_PLACES → IsSender groups places sender → number sender ≤ MOST_PLACES + MOST_GROUPS
sender_within groups places (Client p) few many is = omega (arith, few, many, is)
sender_within groups places (Group g) few many is = omega (arith, few, many, is)

module _ (groups places delay : ℕ) (few_groups : groups ≤ MOST_GROUPS) (few_places : places ≤ MOST_PLACES) where
  few_after : (before : Link) (links : List Link) → IsLink groups places delay before → All (IsLink groups places delay) links → ascend_after (Some before) links ≡ true
      → rank before + 1 + length links ≤ MOST_LINKS
  few_after before [] is are up =
      let sender = sender_within groups places before.sender few_groups few_places is.sender in
      let to = is.to in
      omega (arith, sender, to, few_groups)
  few_after before (link ∷ links) is are up =
      let p = and_parts (is_before before link) (ascend_after (Some link) links) up in
      let rest = few_after link links (All-head (IsLink groups places delay) link links are) (All-tail (IsLink groups places delay) link links are) p.1 in
      let to = is.to in
      let step = rank_rises places before.sender link.sender before.to link.to groups few_places is.sender (omega (arith, to, few_groups)) p.0 in
      omega (arith, step, rest)

  few : (links : List Link) → All (IsLink groups places delay) links → ascend_after None links ≡ true → length links ≤ MOST_LINKS
  few [] are up = omega arith
  few (link ∷ links) are up =
      let rest = few_after link links (All-head (IsLink groups places delay) link links are) (All-tail (IsLink groups places delay) link links are) up in
      omega (arith, rest)

-- a well-formed scenario has a link at most for each sender and each group
pub few_links : (plan : Scenario) → IsScenario plan → length plan.links ≤ MOST_LINKS
few_links plan s = few (length plan.groups) (length plan.places) plan.delay s.groups_high s.places_high plan.links s.links s.ascending
