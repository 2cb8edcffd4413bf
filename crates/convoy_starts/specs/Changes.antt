-- Words of the program's own parts: of each pair the next tick at which its start may be one that no start covers.
use Rattle.std.specs.Prelude.{ℕ, ◌≡◌, ◌≢◌, ◌<◌, ◌≤◌, nat_lt, Bool, true, List, length, slice_index, slice_index_or, if◌then◌else◌}
use Rattle.std.specs.List.{list_any}
use Rattle.convoy_draft.specs.declared.time.Time.{Time}
use Rattle.convoy_scenario.specs.Scenario.{Scenario}
use Rattle.convoy_sim.specs.Times.{Tick}
use Rattle.convoy_sim.specs.Moments.{next_arrival}
use Rattle.convoy_stamps.specs.declared.pair.Pair.{Pair}
use Rattle.convoy_sure.specs.Windows.{LeadTables}
use Rattle.convoy_sure.specs.SureLeads.{Sure}
use Rattle.convoy_starts.specs.Starts.{Start, arrives_by, covers, may_commit, raise_high, start_of}

-- a start covers that of a pair's commit at that tick, if it may be committed then
abbrev pub IsCovered : Scenario → LeadTables → Sure → Bool → List Start → Tick → Pair → Type 0
IsCovered scenario tables sure barring starts tick pair =
    may_commit scenario tables.times tick pair ≡ true
    → list_any (λ old. covers old (start_of scenario tables sure barring starts tick pair)) starts ≡ true

-- that is so of each pair at each tick from that one on which is before the pair's next
abbrev pub AreCovered : Scenario → LeadTables → Sure → Bool → List Start → Tick → List ℕ → List Pair → Type 0
AreCovered scenario tables sure barring starts tick nexts pairs =
    (k : ℕ) (pair : Pair) (later : Tick) → k < length pairs → tick ≤ later → later < slice_index nexts k
    → IsCovered scenario tables sure barring starts later (slice_index_or pairs k pair)

-- no stamp of group h that may have come for a pair's commit at that later tick follows a commit at h at the first tick
abbrev pub IsUnread : Scenario → LeadTables → ℕ → Tick → Tick → Pair → Type 0
IsUnread scenario tables h tick later pair =
    h ≢ pair.group → 0 < later → may_commit scenario tables.times later pair ≡ true
    → arrives_by tables later pair.message pair.group h < next_arrival scenario.time tick

-- the commit of a pair raises the clock no higher at the later tick, whatever message is barred
abbrev pub IsSteady : Scenario → LeadTables → Sure → List Start → Tick → Tick → Pair → Type 0
IsSteady scenario tables sure starts tick later pair =
    (x : ℕ) → raise_high scenario tables sure starts later x pair.message pair.group ≡ raise_high scenario tables sure starts tick x pair.message pair.group

-- the first tick by which the arrival of message q may follow one of message z at that tick
abbrev pub first_after : Time → Tick → ℕ → ℕ → Tick
first_after time tick z q = if nat_lt q z then next_arrival time tick else tick

-- from the first tick to the next one that tick is not passed over
abbrev pub IsNotSkipped : Tick → Tick → Tick → Type 0
IsNotSkipped by next tick = by < tick → next ≤ tick
