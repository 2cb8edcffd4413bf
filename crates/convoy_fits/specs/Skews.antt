-- Clocks that are wrong: what a trace tells by them, and what it tells by clocks that are right.
use Rattle.std.specs.Prelude.{◌≡◌, ℕ, ◌+◌, ◌-◌, ◌*◌, ◌==◌, ◌≤◌, nat_le, Bool, false, map, IsTrue}
use Rattle.std.specs.List.{list_all}
use Rattle.convoy_scenario.specs.declared.sender.Sender.{Sender}
use Rattle.convoy_scenario.specs.declared.sender.Sender.TheVariants.{Client, Group}
use Rattle.convoy_scenario.specs.Scenario.{Scenario, message_at}
use Rattle.convoy_traces.specs.declared.told.Event.{Event}
use Rattle.convoy_traces.specs.declared.told.Event.TheVariants.{Issue, Arrival, Proposal, Commit, Delivery}
use Rattle.convoy_traces.specs.declared.told.Told.{Told}
use Rattle.convoy_traces.specs.Traces.{Trace}
use Rattle.convoy_fits.specs.declared.teller.Teller.{Teller}
use Rattle.convoy_fits.specs.declared.teller.Teller.TheVariants as tellers

-- by whose clock the issue of a message is told
abbrev pub issue_teller : ℕ → Sender → Teller
issue_teller m (Client p) = tellers.Client m
issue_teller m (Group g) = tellers.Group g

-- by whose clock an event is told: by that of its group, and the issue of a message of a client by one of its own
abbrev pub teller_of : Scenario → ℕ → Event → Teller
teller_of scenario m Issue = issue_teller m (message_at scenario m).sender
teller_of scenario m (Arrival g) = tellers.Group g
teller_of scenario m (Proposal g h) = tellers.Group g
teller_of scenario m (Commit g) = tellers.Group g
teller_of scenario m (Delivery g) = tellers.Group g

-- both are one clock
abbrev pub is_same_teller : Teller → Teller → Bool
is_same_teller (tellers.Group g) (tellers.Group h) = g == h
is_same_teller (tellers.Client m) (tellers.Client n) = m == n
is_same_teller (tellers.Group g) (tellers.Client n) = false
is_same_teller (tellers.Client m) (tellers.Group h) = false

-- What is told, by a clock that is right. The lag of a clock is the skew where it is right, and more where it is behind: so much more is added to what it tells.
abbrev pub corrected : ℕ → (Teller → ℕ) → Scenario → Told → Told
corrected skew lag scenario one = record one { time = one.time + lag (teller_of scenario one.message one.event) - skew }

-- that is at the start or later
abbrev pub is_since : ℕ → (Teller → ℕ) → Scenario → Told → Bool
is_since skew lag scenario one = nat_le skew (one.time + lag (teller_of scenario one.message one.event))

-- Two traces tell the same, the one by clocks that are right within the skew, each wrong by as much all the time, and the other by clocks that are right.
pub record IsSkewed (skew : ℕ) (scenario : Scenario) (trace other : Trace) : Type 0 where
  pub lag : Teller → ℕ
  pub within : (teller : Teller) → lag teller ≤ 2 * skew
  pub factor : other.factor ≡ trace.factor
  pub told : other.told ≡ map (corrected skew lag scenario) trace.told
  pub since : IsTrue (list_all (is_since skew lag scenario) trace.told)
