-- Durations in nanoseconds: how they are read from texts, and in which unit they are told.
use Rattle.std.specs.Prelude.{ℕ, ◌+◌, ◌-◌, ◌*◌, ◌/◌, ◌%◌, ◌==◌, nat_le, nat_lt, Bool, ◌&&◌, ◌||◌, not, List, [], ◌∷◌, take, drop, codes, Option, Some, None, option_and_then, position, if◌then◌else◌}
use Rattle.std.specs.Str.{bytes_eq}
use Rattle.convoy_draft.specs.declared.duration.TimeUnit.{TimeUnit}
use Rattle.convoy_draft.specs.declared.duration.TimeUnit.TheVariants.{Seconds, Milliseconds, Microseconds, Nanoseconds}
use Rattle.convoy_draft.specs.declared.duration.TheConstants.{LONGEST_DURATION}

-- the word for a unit
abbrev pub unit_word : TimeUnit → List ℕ
unit_word Seconds = codes "s"
unit_word Milliseconds = codes "ms"
unit_word Microseconds = codes "us"
unit_word Nanoseconds = codes "ns"

-- the unit that a word names
abbrev pub unit_named : List ℕ → Option TimeUnit
unit_named word =
    if bytes_eq word (unit_word Seconds) then Some Seconds
    else if bytes_eq word (unit_word Milliseconds) then Some Milliseconds
    else if bytes_eq word (unit_word Microseconds) then Some Microseconds
    else if bytes_eq word (unit_word Nanoseconds) then Some Nanoseconds
    else None

-- how many nanoseconds one of a unit has
abbrev pub unit_length : TimeUnit → ℕ
unit_length Seconds = 1000000000
unit_length Milliseconds = 1000000
unit_length Microseconds = 1000
unit_length Nanoseconds = 1

-- the greatest unit of which a duration is a whole number
abbrev pub unit_of : ℕ → TimeUnit
unit_of duration =
    if duration % 1000000000 == 0 then Seconds
    else if duration % 1000000 == 0 then Milliseconds
    else if duration % 1000 == 0 then Microseconds
    else Nanoseconds

-- how many of that unit it is
abbrev pub count_of : ℕ → ℕ
count_of duration = duration / unit_length (unit_of duration)

-- the number, unless it is more nanoseconds than a duration may have
abbrev pub within_longest : ℕ → Option ℕ
within_longest nanoseconds = if nat_le nanoseconds LONGEST_DURATION then Some nanoseconds else None

-- what a digit counts
abbrev pub digit_of : ℕ → Option ℕ
digit_of c = if nat_le 48 c && nat_le c 57 then Some (c - 48) else None

-- digits after a point, the first of which counts tenths of `one`, added to a total; what counts less than a nanosecond has to be 0
abbrev pub digits_after : ℕ → ℕ → List ℕ → Option ℕ
digits_after one total [] = Some total
digits_after one total (c ∷ cs) =
    option_and_then (λ digit.
    if nat_lt one 10 && not (digit == 0) then None
    else option_and_then (λ more. digits_after (one / 10) more cs) (within_longest (total + digit * (one / 10))))
    (digit_of c)

-- what stands after a point: one digit or more
abbrev pub after_point : ℕ → ℕ → List ℕ → Option ℕ
after_point one total [] = None
after_point one total (c ∷ cs) = digits_after one total (c ∷ cs)

-- digits that count so many nanoseconds each, and what stands after a point, added to ten times a total
abbrev pub digits_before : ℕ → ℕ → List ℕ → Option ℕ
digits_before one total [] = Some total
digits_before one total (c ∷ cs) =
    if c == 46 then after_point one total cs
    else option_and_then (λ digit. option_and_then (λ more. digits_before one more cs) (within_longest (total * 10 + digit * one))) (digit_of c)

-- a number, which begins with a digit, in nanoseconds
abbrev pub number_in : ℕ → List ℕ → Option ℕ
number_in one [] = None
number_in one (c ∷ cs) = option_and_then (λ digit. digits_before one 0 (c ∷ cs)) (digit_of c)

-- a digit or a point
abbrev pub is_number_byte : ℕ → Bool
is_number_byte c = (nat_le 48 c && nat_le c 57) || (c == 46)

-- a text without the space at its front
abbrev pub without_space : List ℕ → List ℕ
without_space [] = []
without_space (c ∷ cs) = if c == 32 then cs else c ∷ cs

-- the duration that a text tells: a number, perhaps a space, and the word for a unit
unfoldable pub duration_of : List ℕ → Option ℕ
duration_of text =
    option_and_then (λ end.
    option_and_then (λ unit. number_in (unit_length unit) (take end text)) (unit_named (without_space (drop end text))))
    (position (λ c. not (is_number_byte c)) text)

-- the unit in which a text tells a duration
abbrev pub unit_of_text : List ℕ → Option TimeUnit
unit_of_text text =
    option_and_then (λ end. unit_named (without_space (drop end text))) (position (λ c. not (is_number_byte c)) text)
