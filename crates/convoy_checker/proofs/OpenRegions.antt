-- The regions that are left in a walk: what a split and a leaf make of them.
use Rattle.std.proofs.Common.{◌≡◌, ℕ, ◌+◌, ◌-◌, ◌≤◌, ◌<◌, Bool, true, false, List, [], ◌∷◌, ◌++◌, length, Some, reverse, set, get_or, suc, take, refl, sym, ap, ◌∙◌, arith}
use Rattle.std.specs.List.{All}
use Rattle.std.proofs.lemmas.List.{length-set, length_push, reverse-append, set-set, set-get_or}
use Rattle.std.proofs.lemmas.List.Elements.{All-push, All-pop, All-weaker}
use Rattle.convoy_scenario.specs.Scenario.{Scenario}
use Rattle.convoy_certificate.specs.declared.node.Node.TheVariants.{Order}
use Rattle.convoy_intervals.specs.Boxes.{Box, CanSplit, range_at}
use Rattle.convoy_regions.specs.Stages.{Precedence, stage_at}
use Rattle.convoy_regions.specs.Regions.{Region, can_order, first_half, lower_half, second_half, upper_half, with_order}
use Rattle.convoy_checker.specs.declared.open_region.Step.{Step}
use Rattle.convoy_checker.specs.declared.open_region.Step.TheVariants.{Range, Turned, Without}
use Rattle.convoy_checker.specs.declared.walk.Change.{Change}
use Rattle.convoy_checker.specs.Walks.{below_first, changed, opened, regions_after, regions_of, turned, without_last, CanStand, IsStepOf, IsWalk, OfFirst}

-- a change of the program
abbrev change : Step → Bool → Change
change step opens = record { step = step; opens = opens }

abbrev to_range : ℕ → ℕ × ℕ → Bool → Change
to_range packet range opens = change (Range packet range) opens

-- ---- Precedences

-- a last precedence, turned round or taken away
pub turned_last : (before : List Precedence) (pair : Precedence) → turned (before ++ pair ∷ []) ≡ before ++ (pair.1, pair.0) ∷ []
turned_last [] pair = refl
turned_last (first ∷ []) pair = refl
turned_last (first ∷ second ∷ before) pair = ap (λ rest. first ∷ rest) (turned_last (second ∷ before) pair)

pub without_pushed : (before : List Precedence) (pair : Precedence) → without_last (before ++ pair ∷ []) ≡ before
without_pushed [] pair = refl
without_pushed (first ∷ []) pair = refl
without_pushed (first ∷ second ∷ before) pair = ap (λ rest. first ∷ rest) (without_pushed (second ∷ before) pair)

-- the program's ways to do the same
take_all_but : (before : List Precedence) → take (length before - 1) before ≡ without_last before
take_all_but [] = refl
take_all_but (first ∷ []) = refl
take_all_but (first ∷ second ∷ before) =
    let longer : length (first ∷ second ∷ before) - 1 ≡ suc (length (second ∷ before) - 1) = omega arith in
    ap (λ n. take n (first ∷ second ∷ before)) longer ∙ ap (λ rest. first ∷ rest) (take_all_but (second ∷ before))

pub left_last : (before after : List Precedence) (count : ℕ) → count ≡ length before → after ≡ take (count - 1) before → after ≡ without_last before
left_last before after count is taken = taken ∙ ap (λ n. take (n - 1) before) is ∙ take_all_but before

set_last : (before : List Precedence) (pair : Precedence) → pair ≡ get_or before (length before - 1) pair → set before (length before - 1) (pair.1, pair.0) ≡ turned before
set_last [] pair is = refl
set_last (first ∷ []) pair is = ap (λ (p : Precedence). (p.1, p.0) ∷ []) is
set_last (first ∷ second ∷ before) pair is =
    let longer : length (first ∷ second ∷ before) - 1 ≡ suc (length (second ∷ before) - 1) = omega arith in
    let there : pair ≡ get_or (second ∷ before) (length (second ∷ before) - 1) pair = is ∙ ap (λ n. get_or (first ∷ second ∷ before) n pair) longer in
    ap (λ n. set (first ∷ second ∷ before) n (pair.1, pair.0)) longer ∙ ap (λ rest. first ∷ rest) (set_last (second ∷ before) pair there)

pub turned_round : (before : List Precedence) (count : ℕ) (pair : Precedence) → count ≡ length before → pair ≡ get_or before (count - 1) pair → set before (count - 1) (pair.1, pair.0) ≡ turned before
turned_round before count pair counted is =
    ap (λ n. set before (n - 1) (pair.1, pair.0)) counted ∙ set_last before pair (is ∙ ap (λ n. get_or before (n - 1) pair) counted)

-- ---- The first region of a walk

-- what is asked of the first region is asked of the one at which the walk stands
first_is_current : (Holds : Region → Type 0) (stands : Bool) (current : Region) (changes : List Change) (regions : List Region) → regions_of stands current changes ≡ regions → OfFirst Holds regions → (stands ≡ true) × Holds current
first_is_current Holds true current changes [] is holds = absurd holds
first_is_current Holds true current changes (region ∷ regions) is holds =
    let same : current ≡ region = cc in
    (refl, rw same holds)
first_is_current Holds false current changes [] is holds = absurd holds
first_is_current Holds false current changes (region ∷ regions) is holds = absurd (cc)

-- the regions with others in place of the first
below_current : (below : Region → List Region) (stands : Bool) (current : Region) (changes : List Change) (regions : List Region) → regions_of stands current changes ≡ regions → stands ≡ true → below_first below regions ≡ below current ++ opened current (reverse changes)
below_current below stands current changes regions is stands_is = rw (sym is, stands_is) refl

-- a step of a region is one too of the region with another range
IsStepOf-set : (ranges : Box) (packet : ℕ) (range : ℕ × ℕ) (step : Step) → IsStepOf ranges step → IsStepOf (set ranges packet range) step
IsStepOf-set ranges packet range (Range other new) is =
    let same = length-set ranges packet range in
    (omega (arith, is.0), is.1)
IsStepOf-set ranges packet range Turned is = tt
IsStepOf-set ranges packet range Without is = tt

IsStepOf-changed : (region : Region) (made : Step) (step : Step) → IsStepOf region.ranges step → IsStepOf (changed region made).ranges step
IsStepOf-changed region (Range packet range) step is = IsStepOf-set region.ranges packet range step is
IsStepOf-changed region Turned step is = is
IsStepOf-changed region Without step is = is

changes_stay : (region : Region) (made : Step) (changes : List Change) → All (λ c. IsStepOf region.ranges c.step) changes → All (λ c. IsStepOf (changed region made).ranges c.step) changes
changes_stay region made changes all =
    All-weaker (λ c. IsStepOf region.ranges c.step) (λ c. IsStepOf (changed region made).ranges c.step) (λ c is. IsStepOf-changed region made c.step is) changes all

-- the regions that are open after two changes more
reverse_two : (changes : List Change) (first second : Change) → reverse ((changes ++ first ∷ []) ++ second ∷ []) ≡ second ∷ first ∷ reverse changes
reverse_two changes first second =
    reverse-append (changes ++ first ∷ []) (second ∷ []) ∙ ap (λ rest. second ∷ rest) (reverse-append changes (first ∷ []))

-- ---- Halves by a delay

-- a range given to a packet, another one, and its own again: the ranges are as they were
set_back : (ranges : Box) (packet : ℕ) (low high : ℕ × ℕ) → set (set (set ranges packet low) packet high) packet (range_at ranges packet) ≡ ranges
set_back ranges packet low high =
    set-set (set ranges packet low) packet high (range_at ranges packet) ∙ set-set ranges packet low (range_at ranges packet) ∙ set-get_or ranges packet (0, 0)

-- the region with other ranges
with_ranges : Region → Box → Region
with_ranges region ranges = record region { ranges = ranges }

-- the changes of a split open its halves in place of the region
split_opens : (current : Region) (changes : List Change) (packet at : ℕ) → let range = range_at current.ranges packet in
    regions_of true (changed current (Range packet (range.0, at))) ((changes ++ to_range packet range false ∷ []) ++ to_range packet (at + 1, range.1) true ∷ [])
    ≡ lower_half current packet at ∷ upper_half current packet at ∷ opened current (reverse changes)
unfolding with_ranges
split_opens current changes packet at =
    let range = range_at current.ranges packet in
    let low : ℕ × ℕ = (range.0, at) in
    let high : ℕ × ℕ = (at + 1, range.1) in
    let lower = changed current (Range packet low) in
    ap (λ made. lower ∷ opened lower made) (reverse_two changes (to_range packet range false) (to_range packet high true))
    ∙ ap (λ upper. lower ∷ with_ranges current upper ∷ opened (with_ranges current (set (set (set current.ranges packet low) packet high) packet range)) (reverse changes)) (set-set current.ranges packet low high)
    ∙ ap (λ back. lower ∷ with_ranges current (set current.ranges packet high) ∷ opened (with_ranges current back) (reverse changes)) (set_back current.ranges packet low high)

module _ (stands : Bool) (current last : Region) (changes once twice : List Change) (regions : List Region) (packet at from : ℕ) (range : ℕ × ℕ) where
  -- the program splits the first region of a walk: its halves are open in place of the region
  pub split_regions : regions_of stands current changes ≡ regions → OfFirst (λ region. CanSplit region.ranges packet at) regions → from ≡ packet → range ≡ range_at current.ranges from
      → once ≡ changes ++ to_range packet (range.0, range.1) false ∷ []
      → twice ≡ once ++ to_range packet (at + 1, range.1) true ∷ []
      → last ≡ changed current (Range packet (range.0, at))
      → regions_of stands last twice ≡ below_first (λ region. lower_half region packet at ∷ upper_half region packet at ∷ []) regions
  split_regions is can low here first second end =
      let stands_is = (first_is_current (λ region. CanSplit region.ranges packet at) stands current changes regions is can).0 in
      let own : range ≡ range_at current.ranges packet = here ∙ ap (λ p. range_at current.ranges p) low in
      let whole = below_current (λ region. lower_half region packet at ∷ upper_half region packet at ∷ []) stands current changes regions is stands_is in
      rw (whole, stands_is, end, second, first, own) (split_opens current changes packet at)

  -- and the walk stays one
  pub split_lawful : IsWalk stands current changes → regions_of stands current changes ≡ regions → OfFirst (λ region. CanSplit region.ranges packet at) regions → from ≡ packet → range ≡ range_at current.ranges from
      → once ≡ changes ++ to_range packet (range.0, range.1) false ∷ []
      → twice ≡ once ++ to_range packet (at + 1, range.1) true ∷ []
      → last ≡ changed current (Range packet (range.0, at))
      → IsWalk stands last twice
  split_lawful lawful is can low here first second end =
      let Holds = λ (c : Change). IsStepOf current.ranges c.step in
      let part = first_is_current (λ region. CanSplit region.ranges packet at) stands current changes regions is can in
      let own : range ≡ range_at current.ranges packet = here ∙ ap (λ p. range_at current.ranges p) low in
      let ordered : range.0 ≤ range.1 = rw own (let l = part.1.low in let h = part.1.high in omega arith) in
      let upper : at + 1 ≤ range.1 = rw own (let h = part.1.high in omega arith) in
      let place : packet < length current.ranges = part.1.place in
      let with_first = All-push Holds changes (to_range packet (range.0, range.1) false) lawful.each (place, ordered) in
      let with_second = All-push Holds _ (to_range packet (at + 1, range.1) true) with_first (place, upper) in
      record {
        each = rw (end, second, first) (changes_stay current (Range packet (range.0, at)) _ with_second);
        over = λ ended. let stands_is = part.0 in cc;
      }

-- ---- Halves by an order

-- the changes of a split by an order open its halves in place of the region
order_opens : (current : Region) (changes : List Change) (pair : Precedence) →
    regions_of true (with_order current pair.0 pair.1) ((changes ++ change Without false ∷ []) ++ change Turned true ∷ [])
    ≡ with_order current pair.0 pair.1 ∷ with_order current pair.1 pair.0 ∷ opened current (reverse changes)
order_opens current changes pair =
    let after = with_order current pair.0 pair.1 in
    ap (λ made. after ∷ opened after made) (reverse_two changes (change Without false) (change Turned true))
    ∙ ap (λ before. after ∷ record current { before = before } ∷ opened (record current { before = without_last before }) (reverse changes)) (turned_last current.before pair)
    ∙ ap (λ before. after ∷ with_order current pair.1 pair.0 ∷ opened (record current { before = before }) (reverse changes)) (without_pushed current.before (pair.1, pair.0))

module _ (scenario : Scenario) (stands : Bool) (current last : Region) (changes once twice : List Change) (regions : List Region) (first second one other : ℕ) (pair : Precedence) where
  -- the program splits the first region of a walk by an order: its halves are open in place of the region
  pub order_regions : regions_of stands current changes ≡ regions → CanStand scenario (Order first second) regions → one ≡ first → other ≡ second → pair ≡ (stage_at scenario one, stage_at scenario other)
      → once ≡ changes ++ change Without false ∷ []
      → twice ≡ once ++ change Turned true ∷ []
      → last ≡ with_order current pair.0 pair.1
      → regions_of stands last twice ≡ regions_after scenario (Order first second) regions
  order_regions is can one_is other_is pair_is once_is twice_is end =
      let stands_is = (first_is_current (λ region. can_order scenario region first second ≡ true) stands current changes regions is can).0 in
      let whole = below_current (λ region. first_half scenario region first second ∷ second_half scenario region first second ∷ []) stands current changes regions is stands_is in
      rw (whole, stands_is, end, twice_is, once_is, pair_is, one_is, other_is) (order_opens current changes (stage_at scenario first, stage_at scenario second))

-- a walk stays one with a change more that is none of a range
pub pushed_lawful : (scenario : Scenario) (stands : Bool) (current : Region) (changes next : List Change) (regions : List Region) (first second : ℕ) (step : Step) (opens : Bool) → IsWalk stands current changes → regions_of stands current changes ≡ regions → CanStand scenario (Order first second) regions
    → IsStepOf current.ranges step → next ≡ changes ++ change step opens ∷ []
    → IsWalk stands current next
pushed_lawful scenario stands current changes next regions first second step opens lawful is can here end =
    let stands_is = (first_is_current (λ region. can_order scenario region first second ≡ true) stands current changes regions is can).0 in
    record {
      each = rw end (All-push (λ (c : Change). IsStepOf current.ranges c.step) changes (change step opens) lawful.each here);
      over = λ ended. cc;
    }

-- ---- The last change

-- the last change of a walk can be made
pub last_can : (stands : Bool) (current : Region) (changes rest : List Change) (last : Change) → IsWalk stands current changes → changes ≡ rest ++ last ∷ [] → IsStepOf current.ranges last.step
last_can stands current changes rest last lawful items =
    (All-pop (λ c. IsStepOf current.ranges c.step) changes rest (Some last) items lawful.each).1

-- a walk stays one as its last change is made
pub changed_lawful : (stands : Bool) (current next : Region) (changes rest : List Change) (last : Change) → IsWalk stands current changes → changes ≡ rest ++ last ∷ [] → next ≡ changed current last.step → IsWalk stands next rest
changed_lawful stands current next changes rest last lawful items is =
    let longer : length changes ≡ length rest + 1 = ap length items ∙ length_push rest last in
    let kept = (All-pop (λ c. IsStepOf current.ranges c.step) changes rest (Some last) items lawful.each).0 in
    record {
      each = rw is (changes_stay current last.step rest kept);
      over = λ ended. let none = ap length (lawful.over ended) in absurd (omega arith);
    }

-- the regions that a last change leaves open, where it opens none itself
pub changed_opens : (current next : Region) (changes rest : List Change) (last : Change) → changes ≡ rest ++ last ∷ [] → next ≡ changed current last.step → last.opens ≡ false → opened current (reverse changes) ≡ opened next (reverse rest)
changed_opens current next changes rest last items is closed =
    let made : reverse changes ≡ last ∷ reverse rest = ap reverse items ∙ reverse-append rest (last ∷ []) in
    rw (made, closed, is) refl
