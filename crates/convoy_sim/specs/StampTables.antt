-- The clocks and stamps of a run, as a program keeps them.
use Rattle.std.specs.Prelude.{◌≡◌, ℕ, ◌+◌, ◌≤◌, max, Bool, ◌&&◌, nat_lt, List, length, slice_index, slice_index_or, slice_set, replicate}
use Rattle.std.specs.List.{All, fold}
use Rattle.convoy_draft.specs.declared.limits.TheConstants.{MOST_GROUPS, MOST_MULTICASTS}
use Rattle.convoy_packets.specs.declared.table_places.TheConstants.{PLACES}
use Rattle.convoy_sim.specs.declared.moment.Moment.{Moment}
use Rattle.convoy_sim.specs.declared.moment.MomentKind.{MomentKind}
use Rattle.convoy_sim.specs.declared.moment.MomentKind.TheVariants.{Arrival, Commit}
use Rattle.convoy_sim.specs.declared.timestamp.Timestamp.{Timestamp}
use Rattle.convoy_sim.specs.Stamps.{is_less, later, no_stamp}
use Rattle.convoy_packets.specs.Order.{place}

-- each group's clock, the greatest stamp given to each message, and the time of the stamp of each message at each group, 0 where it has none
pub record StampTable : Type 0 where
  pub clocks : List ℕ
  pub finals : List Timestamp
  pub times : List ℕ

-- the tables before any moment
unfoldable pub no_stamps : StampTable
no_stamps = record {
  clocks = replicate MOST_GROUPS 0;
  finals = replicate MOST_MULTICASTS no_stamp;
  times = replicate PLACES 0;
}

-- message m arrives at group g: the group raises its clock and gives a stamp
abbrev pub with_arrival : StampTable → ℕ → ℕ → StampTable
with_arrival table m g =
    let time = slice_index table.clocks g + 1 in
    record {
      clocks = slice_set table.clocks g time;
      finals = slice_set table.finals m (later (slice_index_or table.finals m no_stamp) (record { time = time; group = g }));
      times = slice_set table.times (place m g) time;
    }

-- message m is committed at group g: the group's clock follows
abbrev pub with_commit : StampTable → ℕ → ℕ → StampTable
with_commit table m g =
    record table { clocks = slice_set table.clocks g (max (slice_index table.clocks g) (slice_index_or table.finals m no_stamp).time) }

abbrev pub with_kind : MomentKind → StampTable → ℕ → ℕ → StampTable
with_kind Arrival table m g = with_arrival table m g
with_kind Commit table m g = with_commit table m g

-- the tables after one more moment
abbrev pub with_moment : StampTable → Moment → StampTable
with_moment table x = with_kind x.kind table x.message x.group

-- the tables after some moments
abbrev pub with_moments : StampTable → List Moment → StampTable
with_moments table moments = fold with_moment table moments

-- there is a clock for each group, a greatest stamp for each message, and a time for each message at each group
pub record IsSized (table : StampTable) : Type 0 where
  pub clocks : length table.clocks ≡ MOST_GROUPS
  pub finals : length table.finals ≡ MOST_MULTICASTS
  pub times : length table.times ≡ PLACES

-- no clock and no time is past that number
pub record IsBelow (most : ℕ) (table : StampTable) : Type 0 where
  pub clocks : All (λ clock. clock ≤ most) table.clocks
  pub finals : All (λ stamp. stamp.time ≤ most) table.finals

-- message n has a stamp at group g, which is less than that one
abbrev pub is_ahead : StampTable → ℕ → Timestamp → ℕ → Bool
is_ahead table g last n =
    let time = slice_index table.times (place n g) in
    nat_lt 0 time && is_less (record { time = time; group = g }) last
