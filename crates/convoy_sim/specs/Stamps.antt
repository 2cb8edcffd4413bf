-- The stamps: the moments are read once, in their order.
use Rattle.std.specs.Prelude.{ℕ, ◌+◌, ◌==◌, nat_lt, max, Bool, ◌&&◌, ◌||◌, List, [], ◌∷◌, ◌++◌, length, map, replicate, slice_index_or, slice_set, if◌then◌else◌, unwrap_or}
use Rattle.std.specs.List.{fold, filter, find}
use Rattle.std.specs.Option.{option_map}
use Rattle.convoy_sim.specs.declared.moment.Moment.{Moment}
use Rattle.convoy_sim.specs.declared.moment.MomentKind.{MomentKind}
use Rattle.convoy_sim.specs.declared.moment.MomentKind.TheVariants.{Arrival, Commit}
use Rattle.convoy_sim.specs.declared.timestamp.Timestamp.{Timestamp}
use Rattle.convoy_scenario.specs.Scenario.{Scenario}
use Rattle.convoy_packets.specs.Assignment.{Schedule}
use Rattle.convoy_sim.specs.Moments.{moments_of}

-- stamp a is less than stamp b: by time, and then by group
abbrev pub is_less : Timestamp → Timestamp → Bool
is_less a b = nat_lt a.time b.time || ((a.time == b.time) && nat_lt a.group b.group)

-- the greater of two stamps
abbrev pub later : Timestamp → Timestamp → Timestamp
later a b = if is_less a b then b else a

-- less than every stamp that is given
abbrev pub no_stamp : Timestamp
no_stamp = record { time = 0; group = 0 }

-- a local stamp, and the message that it was given to
pub record GivenStamp : Type 0 where
  pub message : ℕ
  pub stamp : Timestamp

-- what stands when some moments have been read: each group's clock, and the local stamps given, in order
pub record Clocks : Type 0 where
  pub numbers : List ℕ
  pub given : List GivenStamp

-- every clock at 0, and no stamp given
abbrev pub first_clocks : Scenario → Clocks
first_clocks scenario = record { numbers = replicate (length scenario.groups) 0; given = [] }

-- a group's clock
abbrev pub clock_of : Clocks → ℕ → ℕ
clock_of clocks g = slice_index_or clocks.numbers g 0

-- the stamp that group g gave message m
abbrev pub local_in : Clocks → ℕ → ℕ → Timestamp
local_in clocks m g =
    unwrap_or (option_map (λ x. x.stamp) (find (λ x. (x.message == m) && (x.stamp.group == g)) clocks.given)) no_stamp

-- the greatest of the stamps given to message m
abbrev pub greatest_in : Clocks → ℕ → Timestamp
greatest_in clocks m = fold later no_stamp (map (λ x. x.stamp) (filter (λ x. x.message == m) clocks.given))

-- an arrival raises the clock by one and gives the stamp of that time
abbrev pub after_arrival : Clocks → ℕ → ℕ → Clocks
after_arrival clocks m g =
    let time = clock_of clocks g + 1 in
    record {
      numbers = slice_set clocks.numbers g time;
      given = clocks.given ++ record { message = m; stamp = record { time = time; group = g } } ∷ [];
    }

-- a commit raises the clock to the time of the message's greatest stamp at least
abbrev pub after_commit : Clocks → ℕ → ℕ → Clocks
after_commit clocks m g =
    record clocks { numbers = slice_set clocks.numbers g (max (clock_of clocks g) (greatest_in clocks m).time) }

abbrev pub after_kind : MomentKind → Clocks → ℕ → ℕ → Clocks
after_kind Arrival clocks m g = after_arrival clocks m g
after_kind Commit clocks m g = after_commit clocks m g

-- what stands after one more moment
abbrev pub after_moment : Clocks → Moment → Clocks
after_moment clocks moment = after_kind moment.kind clocks moment.message moment.group

-- what stands when all moments have been read
unfoldable pub clocks_of : Scenario → Schedule → Clocks
clocks_of scenario schedule = fold after_moment (first_clocks scenario) (moments_of scenario schedule)

-- the local stamp of message m at group g
unfoldable pub local_stamp : Scenario → Schedule → ℕ → ℕ → Timestamp
local_stamp scenario schedule m g = local_in (clocks_of scenario schedule) m g

-- the final stamp of message m, the greatest of its local ones: at each commit of m all of them are given
unfoldable pub final_stamp : Scenario → Schedule → ℕ → Timestamp
final_stamp scenario schedule m = greatest_in (clocks_of scenario schedule) m
