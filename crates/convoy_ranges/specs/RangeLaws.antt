-- What is proved of ranges. Each is the one clause of the function of its name in the crate's module `range_laws`.
use Rattle.std.specs.Prelude.{◌≡◌, ℕ, ◌+◌, ◌*◌, ◌≤◌, true, List, ◌++◌, Some, IfSome, Ok, All, Contains}
use Rattle.convoy_draft.specs.Durations.{duration_of}
use Rattle.convoy_draft.specs.declared.duration.TheConstants.{LONGEST_DURATION}
use Rattle.convoy_draft.specs.declared.limits.TheConstants.{GREATEST_DELAY}
use Rattle.convoy_ranges.specs.declared.asked.RangeRules.{RangeRules}
use Rattle.convoy_ranges.specs.Rules.{AreRules, kilometres_in}
use Rattle.convoy_ranges.specs.Tables.{Sighting, sightings_of}
use Rattle.convoy_ranges.specs.Ranges.{Range, is_same_pair, range_of}
use Rattle.convoy_ranges.specs.Answers.{links_text, pairs_of, ranges_text}
use Rattle.convoy_ranges.specs.Texts.{head_text, told}

-- What the range of a pair promises. It is one that a link may have; its least is no more than a signal takes for the distance, where that is known; and a packet of which the round trip, with the packet of the way back, is within the one measured and the margin takes no more than the most, if the way back takes the least or more. Times are in nanoseconds, and 100 times what they are where a percentage stands beside them.
pub record IsSafe (rules : RangeRules) (pair : Sighting) (range : Range) : Type 0 where
  pub some : 1 ≤ range.least
  pub ordered : range.least ≤ range.most
  pub within : range.most ≤ GREATEST_DELAY
  pub no_faster : IfSome pair.kilometres (λ distance. range.least * rules.tick * kilometres_in rules.speed ≤ distance * 1000000)
  pub no_slower : (there back : ℕ)
      → (there + back) * 100 ≤ pair.round_trip * (100 + rules.margin)
      → range.least * rules.tick ≤ back
      → there ≤ range.most * rules.tick

-- a pair has a range, which is safe
pub record HasSafeRange (rules : RangeRules) (pair : Sighting) : Type 0 where
  pub range : Range
  pub given : range_of rules pair ≡ Ok range
  pub safe : IsSafe rules pair range

-- a round trip of a table is no greater than that of its pair, and its distance, where it is known, no less
pub record IsCovered (pairs : List Sighting) (seen : Sighting) : Type 0 where
  pub pair : Sighting
  pub listed : Contains pairs pair
  pub same : is_same_pair pair seen ≡ true
  pub longest : seen.round_trip ≤ pair.round_trip
  pub nearest : IfSome seen.kilometres (λ far. (near : ℕ) × (pair.kilometres ≡ Some near) × (near ≤ far))

-- what is written are the tables of pairs, each with a safe range, and each round trip of the table is covered by that of its pair
pub record AreRangesTold (rules : RangeRules) (text out : List ℕ) : Type 0 where
  pub seen : List Sighting
  pub pairs : List Sighting
  pub links : List ℕ
  pub read : sightings_of text ≡ Ok seen
  pub paired : pairs_of text ≡ Ok pairs
  pub linked : links_text rules pairs ≡ Ok links
  pub written : out ≡ head_text rules ++ links
  pub covered : All (IsCovered pairs) seen
  pub safe : All (HasSafeRange rules) pairs

-- whatever is written for a table is safe for it
abbrev pub RangesAreSafe : Type 0
RangesAreSafe = (rules : RangeRules) (text out : List ℕ) → AreRules rules → ranges_text rules text ≡ Ok out → AreRangesTold rules text out

-- each time that is written is read as the duration that it is
abbrev pub TimesAreRead : Type 0
TimesAreRead = (rules : RangeRules) (ticks : ℕ) → ticks * rules.tick ≤ LONGEST_DURATION → duration_of (told rules ticks) ≡ Some (ticks * rules.tick)
