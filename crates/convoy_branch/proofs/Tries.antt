-- Which leaf closes a region in a search, and what a look shows at a region that is closed at once.
use Rattle.std.specs.Prelude.{◌≡◌, ◌≢◌, ℕ, ◌≤◌, ◌<◌, ◌^◌, nat_le, Bool, true, false, ◌||◌, if◌then◌else◌, Option, Some, None, IfSome, is_some, refl}
use Rattle.std.proofs.Common.{arith, ap, sym, subst, ◌∙◌}
use Rattle.std.proofs.lemmas.Bool.{false≢true}
use Rattle.std.proofs.lemmas.Bool.Decides.{nat_tests}
use Rattle.convoy_scenario.specs.Scenario.{Scenario}
use Rattle.convoy_draft.specs.declared.time.Time.{Time}
use Rattle.convoy_draft.specs.declared.time.Time.TheVariants.{Ticks, Real}
use Rattle.convoy_certificate.specs.declared.node.Node.{Node}
use Rattle.convoy_certificate.specs.declared.node.Node.TheVariants as nodes
use Rattle.convoy_branch.specs.declared.bounds.Bounds.{Bounds}
use Rattle.convoy_branch.specs.declared.bounds.Bounds.TheVariants.{Plain, Stamp, Lead}
use Rattle.convoy_branch.specs.declared.step.Turn.TheVariants.{Closed}
use Rattle.convoy_intervals.specs.Boxes.{Box}
use Rattle.convoy_regions.specs.Regions.{Region, run_of}
use Rattle.convoy_origin.specs.FromOrigin.{closes_from_origin, plain_from_origin, stamp_from_origin}
use Rattle.convoy_branch.specs.Asked.{IsAsked}
use Rattle.convoy_branch.specs.declared.asked.Asked.{Asked}
use Rattle.convoy_branch.specs.Looks.{IsLook, IsLookAtRun}
use Rattle.convoy_branch.specs.declared.step.Look.{Look}
use Rattle.convoy_branch.specs.SearchBounds.{bound_in, closes_for, further_leaf, leaf_for, least_bound}
use Rattle.convoy_checker.specs.Leaves.{ClosesByStamps}
use Rattle.convoy_branch.specs.Steps.{IsBetter, IsFound, IsTurn, known_after}
use Rattle.convoy_branch.proofs.BetterRecords.{IsFound-run}
use Rattle.convoy_sim.specs.Delivery.{latency_of}
use Rattle.convoy_sim.specs.Record.{Record, attained_by}

-- ---- Which bounds they are

abbrev asks_stamps : Bounds → Bool
asks_stamps Plain = false
asks_stamps Stamp = true
asks_stamps Lead = true

pub stamp_is_not_plain : Stamp ≢ Plain
stamp_is_not_plain same = false≢true (sym (ap asks_stamps same))

pub lead_is_not_plain : Lead ≢ Plain
lead_is_not_plain same = false≢true (sym (ap asks_stamps same))

-- ---- Leaves

-- a leaf is what becomes of the region, which the search closes then; with none it does not
abbrev IsLeafFor : Bounds → Scenario → Region → ℕ → Option Node → Type 0
IsLeafFor bounds plan region known None = closes_for bounds plan region known ≡ false
IsLeafFor bounds plan region known (Some node) = IsTurn bounds plan region known (Closed node) × (closes_for bounds plan region known ≡ true)

-- the bound of a search that asks for stamp bounds is no greater than the plain one
least_in : (time : Time) (stamp plain : ℕ) → stamp ≤ plain → bound_in time stamp plain ≤ plain
least_in Ticks stamp plain least = least
least_in Real stamp plain least = omega arith

pub least_at_most_plain : (plan : Scenario) (box : Box) → stamp_from_origin plan box ≤ plain_from_origin plan box → least_bound plan box ≤ plain_from_origin plan box
least_at_most_plain plan box least = least_in plan.time (stamp_from_origin plan box) (plain_from_origin plan box) least

-- where it is less, it is a stamp bound in whole ticks
stamps_in : (plan : Scenario) (region : Region) (known : ℕ) (time : Time) → plan.time ≡ time → bound_in time (stamp_from_origin plan region.ranges) (plain_from_origin plan region.ranges) ≤ known → known < plain_from_origin plan region.ranges → ClosesByStamps plan known region
stamps_in plan region known Ticks is within above = (is, within)
stamps_in plan region known Real is within above = absurd (omega (arith, within, above))

module _ (plan : Scenario) (region : Region) (known : ℕ) (small : known < 2 ^ 32) (least : least_bound plan region.ranges ≤ plain_from_origin plan region.ranges) where
  by_stamp_bound : nat_le (least_bound plan region.ranges) known ≡ true → known < plain_from_origin plan region.ranges → ClosesByStamps plan known region
  by_stamp_bound is above =
      let within : least_bound plan region.ranges ≤ known = grind (arith, nat_tests, is) in
      stamps_in plan region known plan.time refl within above

  closes_by_plain : (bounds : Bounds) → plain_from_origin plan region.ranges ≤ known → closes_for bounds plan region known ≡ true
  closes_by_plain Plain within = grind (arith, nat_tests, within)
  closes_by_plain Stamp within = grind (arith, nat_tests, within, least)
  closes_by_plain Lead within =
      let stamps : nat_le (least_bound plan region.ranges) known ≡ true = grind (arith, nat_tests, within, least) in
      ap (λ (b : Bool). b || closes_from_origin plan region known) stamps

  by_stamps : (stamps : Bool) → nat_le (least_bound plan region.ranges) known ≡ stamps → known < plain_from_origin plan region.ranges → IsLeafFor Stamp plan region known (if stamps then Some nodes.Stamp else None)
  by_stamps true is above =
      (record { asked = stamp_is_not_plain; plain = above; stamps = by_stamp_bound is above }, is)
  by_stamps false is above = is

  by_leads : (stamps leads : Bool) → nat_le (least_bound plan region.ranges) known ≡ stamps → closes_from_origin plan region known ≡ leads → known < plain_from_origin plan region.ranges → IsLeafFor Lead plan region known (if stamps then Some nodes.Stamp else if leads then Some (nodes.Lead known) else None)
  by_leads true leads is closed above =
      (record { asked = lead_is_not_plain; plain = above; stamps = by_stamp_bound is above }, ap (λ (b : Bool). b || closes_from_origin plan region known) is)
  by_leads false true is closed above =
      let bound : known < least_bound plan region.ranges = grind (arith, nat_tests, is) in
      ((refl, record { asked = refl; bound = bound; leads = closed; named = small }), ap (λ (b : Bool). b || closes_from_origin plan region known) is ∙ closed)
  by_leads false false is closed above = ap (λ (b : Bool). b || closes_from_origin plan region known) is ∙ closed

  by_further : (bounds : Bounds) → known < plain_from_origin plan region.ranges → IsLeafFor bounds plan region known (further_leaf bounds (least_bound plan region.ranges) (closes_from_origin plan region known) known)
  by_further Plain above = grind (arith, nat_tests, above)
  by_further Stamp above = by_stamps (nat_le (least_bound plan region.ranges) known) refl above
  by_further Lead above = by_leads (nat_le (least_bound plan region.ranges) known) (closes_from_origin plan region known) refl refl above

  by_plain : (bounds : Bounds) (plain : Bool) → nat_le (plain_from_origin plan region.ranges) known ≡ plain → IsLeafFor bounds plan region known (if plain then Some nodes.Bound else further_leaf bounds (least_bound plan region.ranges) (closes_from_origin plan region known) known)
  by_plain bounds true is =
      let within : plain_from_origin plan region.ranges ≤ known = grind (arith, nat_tests, is) in (within, closes_by_plain bounds within)
  by_plain bounds false is = by_further bounds (grind (arith, nat_tests, is))

  pub IsLeafFor-first : (bounds : Bounds) → IsLeafFor bounds plan region known (leaf_for bounds plan region known)
  IsLeafFor-first bounds = by_plain bounds (nat_le (plain_from_origin plan region.ranges) known) refl

-- the leaf closes the region
pub turn_of_leaf : (bounds : Bounds) (plan : Scenario) (region : Region) (known : ℕ) (leaf : Option Node) (node : Node) → known < 2 ^ 32 → stamp_from_origin plan region.ranges ≤ plain_from_origin plan region.ranges → leaf ≡ leaf_for bounds plan region known → leaf ≡ Some node → IsTurn bounds plan region known (Closed node)
turn_of_leaf bounds plan region known leaf node small least is some =
    (subst (λ (l : Option Node). IsLeafFor bounds plan region known l) (sym is ∙ some) (IsLeafFor-first plan region known small (least_at_most_plain plan region.ranges least) bounds)).0

-- with no leaf the region stays open
pub open_without : (bounds : Bounds) (plan : Scenario) (region : Region) (known : ℕ) (leaf : Option Node) → known < 2 ^ 32 → stamp_from_origin plan region.ranges ≤ plain_from_origin plan region.ranges → leaf ≡ leaf_for bounds plan region known → leaf ≡ None → closes_for bounds plan region known ≡ false
open_without bounds plan region known leaf small least is none =
    subst (λ (l : Option Node). IsLeafFor bounds plan region known l) (sym is ∙ none) (IsLeafFor-first plan region known small (least_at_most_plain plan region.ranges least) bounds)

closed_since : (bounds : Bounds) (plan : Scenario) (region : Region) (known : ℕ) (leaf : Option Node) → is_some leaf ≡ true → IsLeafFor bounds plan region known leaf → closes_for bounds plan region known ≡ true
closed_since bounds plan region known None some is = absurd (false≢true some)
closed_since bounds plan region known (Some node) some is = is.1

-- ---- Looks

-- a look at the run of a region that is closed at once
pub look_closed : (bounds : Bounds) (plan : Scenario) (region : Region) (seen : ℕ) (asked : Asked) → seen < 2 ^ 32 → stamp_from_origin plan region.ranges ≤ plain_from_origin plan region.ranges → IsAsked bounds plan region seen asked → is_some asked.leaf ≡ true → IsLookAtRun bounds plan region seen (record { found = None; asked = asked })
look_closed bounds plan region seen asked small least is some =
    let closes : closes_for bounds plan region seen ≡ true = closed_since bounds plan region seen asked.leaf some (subst (λ (l : Option Node). IsLeafFor bounds plan region seen l) (sym is.leaf) (IsLeafFor-first plan region seen small (least_at_most_plain plan region.ranges least) bounds)) in
    let rest = nat_le (latency_of plan (run_of plan region)) seen in
    record {
      found = sym (ap (λ (b : Bool). if b || rest then None else Some (attained_by plan (run_of plan region))) closes);
      asked = is;
      tried = λ none. absurd (false≢true (sym (ap is_some none) ∙ some));
      named = small;
    }

-- with no wish run the look is that at the run
pub look_run : (bounds : Bounds) (plan : Scenario) (region : Region) (seen : ℕ) (look : Look) → IsLookAtRun bounds plan region seen look → IsLook bounds plan region seen look
look_run bounds plan region seen look is = record {
  found = IsFound-run bounds plan region seen look.found is.found;
  asked = is.asked;
  tried = is.tried;
  named = is.named;
}

not_closed : (closed : Bool) → (closed ≡ true → ⊥) → closed ≡ false
not_closed true never = absurd (never refl)
not_closed false never = refl

some≢none : {X : Type 0} {x : X} → Some x ≡ None → ⊥
some≢none {X} {x} same = false≢true (sym (ap is_some same))

-- a region that is open for the latency known is open for the one seen
open_seen : (bounds : Bounds) (plan : Scenario) (region : Region) (seen : ℕ) (found : Option Record) → IsFound bounds plan region seen found → closes_for bounds plan region (known_after seen found) ≡ false → closes_for bounds plan region seen ≡ false
open_seen bounds plan region seen None is stays = stays
open_seen bounds plan region seen (Some found) is stays = not_closed (closes_for bounds plan region seen) (λ closes. some≢none (is.closed closes))

-- the latency known is no less than the one seen
seen_known : (plan : Scenario) (seen : ℕ) (found : Option Record) → IfSome found (IsBetter plan seen) → seen ≤ known_after seen found
seen_known plan seen None better = omega arith
seen_known plan seen (Some found) better = omega (arith, better.above)

-- a wish run that was found in a search by leads at a region that stays open
pub look_wished : (bounds : Bounds) (plan : Scenario) (region : Region) (seen : ℕ) (look : Look) (found : Record) (asked : Asked) → bounds ≡ Lead → stamp_from_origin plan region.ranges ≤ plain_from_origin plan region.ranges → IsLookAtRun bounds plan region seen look → look.asked.leaf ≡ None → IsBetter plan (known_after seen look.found) found → found.latency < 2 ^ 32 → IsAsked bounds plan region found.latency asked → IsLook bounds plan region seen (record { found = Some found; asked = asked })
look_wished bounds plan region seen look found asked lead least is none better small is_asked =
    let first = IsFound-run bounds plan region seen look.found is.found in
    let stays = open_seen bounds plan region seen look.found first (open_without bounds plan region (known_after seen look.found) look.asked.leaf is.named least is.asked.leaf none) in
    let low : seen ≤ known_after seen look.found = seen_known plan seen look.found first.better in
    let tried = is.tried none in
    record {
      found = record {
        closed = λ closes. absurd (false≢true (sym stays ∙ closes));
        better = record { of_scenario = better.of_scenario; above = omega (arith, low, better.above) };
        greatest = λ other. absurd (other lead);
      };
      asked = is_asked;
      tried = λ _. omega (arith, tried, better.above);
      named = small;
    }

pub none_of : (leaf : Option Node) → is_some leaf ≡ false → leaf ≡ None
none_of None is = refl
none_of (Some node) is = absurd (false≢true (sym is))
