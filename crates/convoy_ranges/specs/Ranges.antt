-- The ranges that round trips give.
use Rattle.std.specs.Prelude.{ℕ, ◌+◌, ◌-◌, ◌*◌, ◌/◌, Bool, ◌&&◌, ◌||◌, ◌==◌, nat_le, nat_lt, min, if◌then◌else◌, List, [], ◌∷◌, length, Option, Some, None, Result, Ok, Err}
use Rattle.std.specs.Str.{bytes_eq}
use Rattle.convoy_draft.specs.declared.limits.TheConstants.{GREATEST_DELAY}
use Rattle.convoy_ranges.specs.declared.asked.RangeRules.{RangeRules}
use Rattle.convoy_ranges.specs.declared.fault.Cause.{Cause}
use Rattle.convoy_ranges.specs.declared.fault.Cause.TheVariants as causes
use Rattle.convoy_ranges.specs.declared.fault.RangesFault.{RangesFault}
use Rattle.convoy_ranges.specs.declared.fault.RangesFault.TheVariants.{Line}
use Rattle.convoy_ranges.specs.declared.fault.TheConstants.{MOST_PAIRS}
use Rattle.convoy_ranges.specs.Rules.{kilometres_in}
use Rattle.convoy_ranges.specs.Tables.{Sighting}

-- both are of one pair of places, whichever stands first
abbrev pub is_same_pair : Sighting → Sighting → Bool
is_same_pair a b = (bytes_eq a.from b.from && bytes_eq a.to b.to) || (bytes_eq a.from b.to && bytes_eq a.to b.from)

-- the lesser of two distances, of which one may be unknown
abbrev pub nearer : Option ℕ → Option ℕ → Option ℕ
nearer None b = b
nearer (Some a) None = Some a
nearer (Some a) (Some b) = Some (min a b)

-- two round trips of a pair as one: the greater, with the lesser distance
abbrev pub joined : Sighting → Sighting → Sighting
joined a b = record {
  line = if nat_lt a.round_trip b.round_trip then b.line else a.line;
  from = a.from;
  to = a.to;
  round_trip = if nat_lt a.round_trip b.round_trip then b.round_trip else a.round_trip;
  kilometres = nearer a.kilometres b.kilometres;
}

-- pairs with one more round trip: joined with that of its pair, or at their end
abbrev pub with_seen : List Sighting → Sighting → List Sighting
with_seen [] seen = seen ∷ []
with_seen (pair ∷ pairs) seen = if is_same_pair pair seen then joined pair seen ∷ pairs else pair ∷ with_seen pairs seen

-- the pairs, in the order in which they are first told, each with its greatest round trip; they are not too many
unfoldable pub pairs_from : List Sighting → List Sighting → Result (List Sighting) RangesFault
pairs_from pairs [] = Ok pairs
pairs_from pairs (seen ∷ rest) =
    if nat_le (length (with_seen pairs seen)) MOST_PAIRS then pairs_from (with_seen pairs seen) rest
    else Err (Line seen.line causes.TooMany)

-- a range, in ticks
pub record Range : Type 0 where
  pub least : ℕ
  pub most : ℕ

-- how many ticks a packet takes at least, rounded down: what a signal takes for the distance, or what is asked where none is known
abbrev pub least_of : RangeRules → Option ℕ → ℕ
least_of rules None = rules.least / rules.tick
least_of rules (Some distance) = distance * 1000000 / (kilometres_in rules.speed * rules.tick)

-- how many ticks a round trip takes with the margin, rounded up
abbrev pub round_trip_of : RangeRules → ℕ → ℕ
round_trip_of rules round_trip = (round_trip * (100 + rules.margin) + (100 * rules.tick - 1)) / (100 * rules.tick)

-- the range of which that is the least and that the round trip: what is left of it for one way if the way back takes the least
abbrev pub range_between : ℕ → ℕ → Result Range Cause
range_between least round_trip =
    if least == 0 then Err causes.Near
    else if nat_lt round_trip (2 * least) then Err causes.Crossed
    else if nat_lt GREATEST_DELAY (round_trip - least) then Err causes.Wide
    else Ok (record { least = least; most = round_trip - least })

-- the range of a pair
abbrev pub range_of : RangeRules → Sighting → Result Range Cause
range_of rules pair = range_between (least_of rules pair.kilometres) (round_trip_of rules pair.round_trip)

-- a cause as the fault of a line
abbrev pub in_its_line : ℕ → Result Range Cause → Result Range RangesFault
in_its_line line (Ok range) = Ok range
in_its_line line (Err cause) = Err (Line line cause)

-- the range of a pair, or why there is none, with the line of its round trip
abbrev pub range_at : RangeRules → Sighting → Result Range RangesFault
range_at rules pair = in_its_line pair.line (range_of rules pair)
