-- By which rules round trips become ranges.
use Rattle.std.specs.Prelude.{ℕ, ◌≤◌, ◌||◌, ◌==◌, nat_lt, Option, Some, None, unwrap_or, if◌then◌else◌}
use Rattle.convoy_draft.specs.declared.duration.TheConstants.{LONGEST_DURATION}
use Rattle.convoy_ranges.specs.declared.asked.Speed.{Speed}
use Rattle.convoy_ranges.specs.declared.asked.Speed.TheVariants.{Fibre, Air}
use Rattle.convoy_ranges.specs.declared.asked.RangeRules.{RangeRules}

-- how many kilometres a signal goes in a millisecond
abbrev pub kilometres_in : Speed → ℕ
kilometres_in Fibre = 200
kilometres_in Air = 300

-- a tick has a length, and a packet takes one at least; both are durations
pub record AreRules (rules : RangeRules) : Type 0 where
  pub some : 1 ≤ rules.tick
  pub a_tick : rules.tick ≤ rules.least
  pub within : rules.least ≤ LONGEST_DURATION
  pub percent : rules.margin ≤ 255

-- the rules with this margin, speed, least, which is a tick where none is given, and tick; none where a tick has no length or the least is less than one
abbrev pub rules_of : ℕ → Speed → Option ℕ → ℕ → Option RangeRules
rules_of margin speed least tick =
    if (tick == 0) || nat_lt (unwrap_or least tick) tick then None
    else Some (record { margin = margin; speed = speed; least = unwrap_or least tick; tick = tick })
