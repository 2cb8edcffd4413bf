-- Orders of ties.
use Rattle.std.proofs.Common.{ℕ, ◌+◌, ◌*◌, replicate, refl, arith}
use Rattle.std.proofs.lemmas.List.{length-replicate, get_or-replicate}
use Rattle.convoy_scenario.specs.Scenario.{Scenario}
use Rattle.convoy_packets.specs.Order.{AreRanks, IsOrder, no_order}

-- ranks that are all 0
pub no_ranks : (plan : Scenario) → AreRanks plan (replicate 128 0)
no_ranks plan = record {
  long = length-replicate {A = ℕ} 128 0;
  small = λ k d l. rw (get_or-replicate 128 k 0 d (rw (length-replicate {A = ℕ} 128 0) at l)) (omega arith);
  nowhere = λ m g few below not. get_or-replicate 128 (m * 8 + g) 0 0 (omega arith);
}

-- the fixed order is one of each scenario
pub fixed_is_order : (plan : Scenario) → IsOrder plan no_order
unfolding no_order
fixed_is_order plan = record { arrivals = no_ranks plan; commits = no_ranks plan; fixed = λ ticks. refl }
