-- Shares of packets, in billionths: which share of those that go by a link may be outside its range.
use Rattle.std.specs.Prelude.{ℕ, ◌+◌, ◌*◌, ◌/◌, ◌==◌, nat_le, if◌then◌else◌, ℤ, pos, negsuc, List, [], ◌∷◌, codes, Option, Some, None, option_and_then}
use Rattle.std.specs.Option.{option_or}
use Rattle.toml.specs.Data.{Data, as_integer, as_str}
use Rattle.convoy_draft.specs.Durations.{digit_of}
use Rattle.convoy_toml.specs.declared.share.TheConstants.{WHOLE_SHARE}

-- the word for the key of a table of links that tells one
abbrev pub outside_word : List ℕ
outside_word = codes "outside"

-- the number, unless it is more billionths than a whole
abbrev pub within_whole : ℕ → Option ℕ
within_whole billionths = if nat_le billionths WHOLE_SHARE then Some billionths else None

-- digits after a point, added to a total, where 1 as the first of them counts so many billionths; after nine of them there is none
abbrev pub share_digits : ℕ → ℕ → List ℕ → Option ℕ
share_digits worth total [] = Some total
share_digits worth total (c ∷ cs) =
    if worth == 0 then None
    else option_and_then (λ digit. option_and_then (λ more. share_digits (worth / 10) more cs) (within_whole (total + digit * worth))) (digit_of c)

-- what stands after a first digit, which counts so many billionths: nothing, or a point and one to nine digits
abbrev pub share_after : ℕ → List ℕ → Option ℕ
share_after total [] = Some total
share_after total (c ∷ []) = None
share_after total (c ∷ (first ∷ others)) = if c == 46 then share_digits 100000000 total (first ∷ others) else None

-- the share that a text tells, in billionths: a digit, perhaps with a point and one to nine digits, from 0 to 1
abbrev pub share_of_text : List ℕ → Option ℕ
share_of_text [] = None
share_of_text (c ∷ cs) =
    option_and_then (λ digit. option_and_then (λ total. share_after total cs) (within_whole (digit * WHOLE_SHARE))) (digit_of c)

-- the share that an integer tells, which is none of packets or all
abbrev pub share_of_integer : ℤ → Option ℕ
share_of_integer (pos n) = within_whole (n * WHOLE_SHARE)
share_of_integer (negsuc n) = None

-- the share that a value tells
abbrev pub as_share : Data → Option ℕ
as_share value = option_or (option_and_then share_of_integer (as_integer value)) (option_and_then share_of_text (as_str value))
