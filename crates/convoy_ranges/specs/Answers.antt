-- What is written for a table of round trips.
use Rattle.std.specs.Prelude.{ℕ, ◌==◌, if◌then◌else◌, nat_lt, List, [], ◌∷◌, length, Result, Ok, Err}
use Rattle.convoy_lines.specs.Results.{◌>>=◌}
use Rattle.convoy_ranges.specs.declared.asked.RangeRules.{RangeRules}
use Rattle.convoy_ranges.specs.declared.fault.RangesFault.{RangesFault}
use Rattle.convoy_ranges.specs.declared.fault.RangesFault.TheVariants.{TooLong, Empty}
use Rattle.convoy_ranges.specs.declared.fault.TheConstants.{MOST_BYTES}
use Rattle.convoy_ranges.specs.Tables.{Sighting, sightings_of, with_front}
use Rattle.convoy_ranges.specs.Ranges.{pairs_from, range_at}
use Rattle.convoy_ranges.specs.Texts.{head_text, link_text}

-- the tables of pairs, one after the other, where each has a range
unfoldable pub links_text : RangeRules → List Sighting → Result (List ℕ) RangesFault
links_text rules [] = Ok []
links_text rules (pair ∷ pairs) =
    range_at rules pair >>= (λ range. with_front (link_text rules pair range) (links_text rules pairs))

-- the pairs of a table: there is one at least
abbrev pub pairs_of : List ℕ → Result (List Sighting) RangesFault
pairs_of text =
    if nat_lt MOST_BYTES (length text) then Err TooLong
    else sightings_of text >>= (λ seen. if length seen == 0 then Err Empty else pairs_from [] seen)

-- THE HEADLINE. What is written for a table: the ranges of its pairs.
unfoldable pub ranges_text : RangeRules → List ℕ → Result (List ℕ) RangesFault
ranges_text rules text = pairs_of text >>= (λ pairs. with_front (head_text rules) (links_text rules pairs))
