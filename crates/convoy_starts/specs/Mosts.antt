-- Words of the program's own parts: numbers that are told for some messages at once, for each where that message is barred, that is, committed nowhere before.
use Rattle.std.specs.Prelude.{ℕ, ◌≡◌, ◌<◌, ◌==◌, nat_le, Bool, ◌&&◌, not, List, [], ◌∷◌, length, All, slice_index, if◌then◌else◌}
use Rattle.convoy_draft.specs.declared.time.Time.{Time}
use Rattle.convoy_scenario.specs.Scenario.{Scenario, message_numbers}
use Rattle.convoy_sim.specs.Times.{Tick}
use Rattle.convoy_sim.specs.Moments.{next_arrival}
use Rattle.convoy_intervals.specs.Bounds.{Tables}
use Rattle.convoy_sure.specs.SureLeads.{Sure}
use Rattle.convoy_starts.specs.Starts.{Start, stamp_high}

-- the messages that are barred, each in turn: all, or the target alone
abbrev pub bars_of : Scenario → Bool → List ℕ
bars_of scenario barring = if barring then message_numbers scenario else scenario.target_message ∷ []

-- there is one number for each of the bars, which is what that is for it
pub record AreFor (what : ℕ → ℕ) (bars numbers : List ℕ) : Type 0 where
  pub long : length numbers ≡ length bars
  pub each : (k : ℕ) → k < length bars → slice_index numbers k ≡ what (slice_index bars k)

-- the start may come before message q arrives at group h by that tick
abbrev pub may_precede : Time → ℕ → ℕ → Tick → Start → Bool
may_precede time q h tick start = (start.group == h) && nat_le (next_arrival time start.at) tick && not (start.message == q)

-- a memo of the stamp of a message at a group, where it arrives there by a tick: the most that it can be, for each of the bars
pub record Memo : Type 0 where
  pub message : ℕ
  pub group : ℕ
  pub by : Tick
  pub stamps : List ℕ

-- it holds by these starts, and by those that are added at that tick or later: it is of an arrival that precedes any that may follow a commit of that tick
pub record IsCurrent (scenario : Scenario) (tables : Tables) (sure : Sure) (bars : List ℕ) (starts : List Start) (tick : Tick) (memo : Memo) : Type 0 where
  pub soon : 0 < length memo.stamps → memo.by < next_arrival scenario.time tick
  pub each : (k : ℕ) → k < length memo.stamps
      → slice_index memo.stamps k ≡ stamp_high scenario tables sure starts (slice_index bars k) memo.message memo.group memo.by

-- each of some memos does so
abbrev pub AreCurrent : Scenario → Tables → Sure → List ℕ → List Start → Tick → List Memo → Type 0
AreCurrent scenario tables sure bars starts tick memos = All (IsCurrent scenario tables sure bars starts tick) memos
