-- Orders of ties as lists of ranks: message by message, and of each message by destination, the rank of its arrival there and then that of its commit.
use Rattle.std.specs.Prelude.{ℕ, ℤ, ◌+◌, ◌/◌, ◌%◌, ◌≤◌, ◌==◌, Bool, true, false, ◌&&◌, if◌then◌else◌, List, [], ◌∷◌, length, map, Result, Ok, Err, All}
use Rattle.std.specs.List.{list_all, range_with_len}
use Rattle.std.specs.Result.{result_map_both}
use Rattle.convoy_draft.specs.declared.limits.TheConstants.{MOST_GROUPS}
use Rattle.convoy_scenario.specs.Scenario.{Scenario, message_at, is_addressed}
use Rattle.convoy_packets.specs.declared.fault.ListFault.{ListFault}
use Rattle.convoy_packets.specs.declared.fault.ListFault.TheVariants.{Length, Range}
use Rattle.convoy_packets.specs.declared.order.TheConstants.{GREATEST_RANK}
use Rattle.convoy_packets.specs.declared.table_places.TheConstants.{PLACES}
use Rattle.convoy_packets.specs.Given.{delay_given, put_first}
use Rattle.convoy_packets.specs.Order.{Order}

-- the message of a place goes to its group, so that it has an arrival and a commit there
abbrev pub has_moments : Scenario → ℕ → Bool
has_moments scenario at = is_addressed (message_at scenario (at / MOST_GROUPS)) (at % MOST_GROUPS)

-- which places have an arrival and a commit, in the order of places
unfoldable pub marks_of : Scenario → List Bool
marks_of scenario = map (has_moments scenario) (range_with_len 0 PLACES)

-- the ranks at the places that are marked, out of a table of those of arrivals and one of those of commits
abbrev pub ranks_at : List Bool → List ℕ → List ℕ → List ℕ
ranks_at (true ∷ marks) (arrival ∷ arrivals) (commit ∷ commits) = arrival ∷ commit ∷ ranks_at marks arrivals commits
ranks_at (false ∷ marks) (arrival ∷ arrivals) (commit ∷ commits) = ranks_at marks arrivals commits
ranks_at marks arrivals commits = []

-- the ranks of an order as a list
abbrev pub ranks_of : Scenario → Order → List ℕ
ranks_of scenario order = ranks_at (marks_of scenario) order.arrivals order.commits

-- how many ranks there are at places that are so marked
abbrev pub rank_count_at : List Bool → ℕ
rank_count_at [] = 0
rank_count_at (true ∷ marks) = rank_count_at marks + 2
rank_count_at (false ∷ marks) = rank_count_at marks

-- how many ranks an order of the scenario's ties has as a list: two for each message at each of its destinations
abbrev pub rank_count : Scenario → ℕ
rank_count scenario = rank_count_at (marks_of scenario)

-- one place before others, with its ranks
abbrev pub put_place : ℕ → ℕ → Order → Order
put_place arrival commit order = record { arrivals = arrival ∷ order.arrivals; commits = commit ∷ order.commits }

-- the tables of a list of ranks: a place that is marked takes two of them, and a place that is not, or for which there are not two, has the ranks 0
abbrev pub by_place : List Bool → List ℕ → Order
by_place [] ranks = record { arrivals = []; commits = [] }
by_place (false ∷ marks) ranks = put_place 0 0 (by_place marks ranks)
by_place (true ∷ marks) (arrival ∷ commit ∷ ranks) = put_place arrival commit (by_place marks ranks)
by_place (true ∷ marks) ranks = put_place 0 0 (by_place marks ranks)

-- the order that a list of ranks gives
abbrev pub order_of : Scenario → List ℕ → Order
order_of scenario ranks = by_place (marks_of scenario) ranks

-- none of the ranks is too great
abbrev pub AreSmall : List ℕ → Type 0
AreSmall ranks = All (λ rank. rank ≤ GREATEST_RANK) ranks

-- all ranks are 0
abbrev pub is_no_order : Order → Bool
is_no_order order = list_all (λ rank. rank == 0) order.arrivals && list_all (λ rank. rank == 0) order.commits

-- the numbers as ranks; else the place of the first that is none, where the first of all has place `i`
abbrev pub ranks_given : ℕ → List ℤ → Result (List ℕ) ListFault
ranks_given i [] = Ok []
ranks_given i (z ∷ numbers) = put_first (Range i) (delay_given (0, GREATEST_RANK) z) (ranks_given (i + 1) numbers)

-- the order that a list of numbers is: as many as there are ranks, and none of them too great
abbrev pub order_given : Scenario → List ℤ → Result Order ListFault
order_given scenario numbers =
    if length numbers == rank_count scenario then result_map_both (order_of scenario) (λ f. f) (ranks_given 0 numbers) else Err Length
