-- Steps that are taken one node after the other, where there is a limit.
use Rattle.std.proofs.Common.{◌≡◌, ℕ, ◌+◌, ◌*◌, ◌<◌, true, cond, List, ◌∷◌, ◌++◌, length, get_or, drop, Option, Some, None, refl, sym, ap, ◌∙◌, arith}
use Rattle.std.proofs.lemmas.Bool.Decides.{nat_tests}
use Rattle.std.proofs.lemmas.Bool.{le-leb}
use Rattle.std.specs.List.{slice_get}
use Rattle.std.specs.Option.{is_some, option_or}
use Rattle.std.proofs.lemmas.List.{drop_more}
use Rattle.convoy_scenario.specs.Scenario.{Scenario}
use Rattle.convoy_certificate.specs.declared.node.Node.{Node}
use Rattle.convoy_certificate.specs.declared.node.Node.TheVariants as kinds
use Rattle.convoy_packets.specs.Packets.{packets_of}
use Rattle.convoy_intervals.specs.Boxes.{Box}
use Rattle.convoy_regions.specs.Stages.{Precedence}
use Rattle.convoy_regions.specs.Regions.{Region}
use Rattle.convoy_checker.specs.declared.checking.Looked.{Looked}
use Rattle.convoy_checker.specs.declared.checking.Looked.TheVariants.{All}
use Rattle.convoy_checker.specs.declared.refused.Refused.{Refused}
use Rattle.convoy_checker.specs.declared.refused.Refused.TheVariants.{TreeCount}
use Rattle.convoy_checker.specs.Checks.{first_fault, node_fault}
use Rattle.convoy_checker.specs.Looks.{left_after, looked_within}
use Rattle.convoy_checker.specs.Steps.{allows, lead_steps, node_steps, steps_to_fault, test_count, test_steps, tie_steps, windows_asked}
use Rattle.convoy_stamps.specs.Reach.{pairs_of}
use Rattle.convoy_stamps.specs.declared.pair.Pair.{Pair}
use Rattle.convoy_sure.specs.Windows.{Windows, tables_by, windows_of}
use Rattle.convoy_scenario.specs.Widened.{widened}
use Rattle.convoy_origin.specs.WidenedRegions.{widened_region}
use Rattle.convoy_checker.specs.Trees.{regions_below}
use Rattle.convoy_checker.specs.Walks.{regions_after}
use Rattle.convoy_checker.proofs.NextNode.{cons_from_get, nil_from_get}

-- no steps may always be taken
allows_none : (limit : Option ℕ) → allows limit 0 ≡ true
allows_none None = refl
allows_none (Some most) = le-leb 0 most (omega arith)

-- steps after those that may be taken
allows_more : (limit : Option ℕ) (a b : ℕ) → allows limit a ≡ true → allows limit (a + b) ≡ allows (left_after limit a) b
allows_more None a b enough = refl
allows_more (Some most) a b enough = grind (arith, nat_tests, enough)

next : (limit : Option ℕ) (a b : ℕ) (fault : Option Refused) → allows limit a ≡ true →
    looked_within limit (a + b) fault ≡ looked_within (left_after limit a) b fault
next limit a b fault enough = rw (allows_more limit a b enough) refl

-- what a look at the nodes from that number on shows, over those regions
abbrev pub seen : Scenario → ℕ → ℕ → List Region → List Node → Option ℕ → Looked
seen plan latency number regions nodes limit =
    looked_within limit (steps_to_fault plan latency number regions nodes) (first_fault plan latency number regions nodes)

-- a node is left, and no region is
pub seen-no_region : (plan : Scenario) (latency number : ℕ) (regions : List Region) (nodes : List Node) (limit : Option ℕ) →
    number < length nodes → slice_get regions 0 ≡ None → seen plan latency number regions (drop number nodes) limit ≡ All (Some TreeCount)
seen-no_region plan latency number regions nodes limit below none =
    rw (nil_from_get regions none, drop_more nodes number kinds.Bound below, allows_none limit) refl

-- the node over the first region
module _ (plan : Scenario) (latency number : ℕ) (regions : List Region) (region : Region) (nodes : List Node) (d : Node) where
  node : Node
  node = get_or nodes number d

  rest : List Node
  rest = drop (number + 1) nodes

  steps : ℕ
  steps = node_steps plan node region

  fault : Option Refused
  fault = node_fault plan latency number node region

  later : ℕ
  later = steps_to_fault plan latency (number + 1) (regions_below plan node region ++ drop 1 regions) rest

  -- its steps come first
  steps_are : number < length nodes → slice_get regions 0 ≡ Some region →
      steps_to_fault plan latency number regions (drop number nodes) ≡ steps + cond (is_some fault) 0 later
  unfolding node rest steps fault later
  steps_are below first =
      ap (λ rs. steps_to_fault plan latency number rs (drop number nodes)) (cons_from_get regions region first)
      ∙ ap (λ ns. steps_to_fault plan latency number (region ∷ drop 1 regions) ns) (drop_more nodes number d below)

  fault_is : number < length nodes → slice_get regions 0 ≡ Some region →
      first_fault plan latency number regions (drop number nodes)
      ≡ option_or fault (first_fault plan latency (number + 1) (regions_below plan node region ++ drop 1 regions) rest)
  unfolding node rest fault
  fault_is below first =
      ap (λ rs. first_fault plan latency number rs (drop number nodes)) (cons_from_get regions region first)
      ∙ ap (λ ns. first_fault plan latency number (region ∷ drop 1 regions) ns) (drop_more nodes number d below)

  -- it has no fault
  pub seen-passed : (limit : Option ℕ) (after : List Region) → number < length nodes → slice_get regions 0 ≡ Some region →
      allows limit (node_steps plan (get_or nodes number d) region) ≡ true →
      node_fault plan latency number (get_or nodes number d) region ≡ None → after ≡ regions_after plan (get_or nodes number d) regions →
      seen plan latency (number + 1) after (drop (number + 1) nodes) (left_after limit (node_steps plan (get_or nodes number d) region))
      ≡ seen plan latency number regions (drop number nodes) limit
  unfolding node rest steps fault later
  seen-passed limit after below first enough none is_after =
      let left : after ≡ regions_below plan (get_or nodes number d) region ++ drop 1 regions =
      is_after ∙ ap (λ rs. regions_after plan (get_or nodes number d) rs) (cons_from_get regions region first) in
      rw (left, steps_are below first, fault_is below first, none) (sym (next limit _ _ _ enough))

-- the steps of leads over a region, from their parts
pub lead_steps_are : (scenario : Scenario) (ranges : Box) (before : List Precedence) (latency : ℕ) (pairs : List Pair) (windows : Windows) (count asked tests steps : ℕ) →
    pairs ≡ pairs_of scenario → windows ≡ windows_of scenario ranges → count ≡ length pairs →
    asked ≡ windows_asked before → tests ≡ test_count scenario (tables_by windows).times latency → steps ≡ test_steps scenario (tables_by windows).times →
    1 + count + length before + asked * (tests * steps) ≡ lead_steps scenario (record { ranges = ranges; before = before }) latency
lead_steps_are scenario ranges before latency pairs windows count asked tests steps are over counts told tested stepped =
    rw (tested, stepped, counts, told, are, over) refl

-- where a region is its own widened region, leads are asked of it
pub lead_steps_of_itself : (scenario : Scenario) (region : Region) (latency : ℕ) → widened scenario ≡ scenario → widened_region scenario region ≡ region →
    node_steps scenario (kinds.Lead latency) region ≡ lead_steps scenario region latency
lead_steps_of_itself scenario region latency same own =
    ap (λ plan. lead_steps plan (widened_region scenario region) latency) same ∙ ap (λ r. lead_steps scenario r latency) own

-- the steps of a point leaf, from its parts
pub point_steps_are : (scenario : Scenario) (region : Region) (before : List Precedence) (count ties : ℕ) →
    before ≡ region.before → count ≡ length (packets_of scenario) →
    ties ≡ tie_steps scenario.time scenario (record { ranges = region.ranges; before = before }) →
    1 + count + ties ≡ node_steps scenario kinds.Point region
point_steps_are scenario region before count ties same counted tied =
    let own : ties ≡ tie_steps scenario.time scenario region = tied ∙ ap (λ b. tie_steps scenario.time scenario (record { ranges = region.ranges; before = b })) same in
    rw (own, counted) refl
