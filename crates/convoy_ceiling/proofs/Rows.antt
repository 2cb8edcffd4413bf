-- Worked rows: ceilings computed from the definition alone, and traffic of the base scenario's kinds.
use Rattle.std.proofs.Common.{All, ◌≡◌, ℕ, zero, suc, true, false, List, [], ◌∷◌, codes, refl, arith}
use Rattle.convoy_scenario.specs.declared.sender.Sender.TheVariants.{Client, Group}
use Rattle.convoy_scenario.specs.declared.sender.Sender.{Sender}
use Rattle.convoy_scenario.specs.Scenario.{Link, Message, Scenario}
use Rattle.convoy_packets.specs.Packets.{packets_of}
use Rattle.convoy_packets.specs.Order.{no_order}
use Rattle.convoy_packets.specs.Assignment.{delay_of, in_fixed_order}
use Rattle.convoy_sim.specs.Times.{arrive, settle}
use Rattle.convoy_sim.specs.Moments.{arrival_rank, commit_rank, moments_of}
use Rattle.convoy_sim.specs.Stamps.{clocks_of, local_stamp, final_stamp}
use Rattle.convoy_sim.specs.Delivery.{holds_back, deliver, latency_at}
use Rattle.convoy_scenario.proofs.RowScenarios.{message, base, base_with}
use Rattle.convoy_ceiling.specs.Ceiling.{IsOfSomeKind, IsTrafficOf, ceiling_at, ceiling_of}

-- t at a takes 6 ticks to its commit, and so does y from its arrival there, which is its issue
base_ceiling : ceiling_of base ≡ 12
unfolding base_with message ceiling_at ceiling_of
base_ceiling = refl

-- at b all messages come from elsewhere: t takes 6 ticks and may then wait 5 for another of its kind
at_b : ceiling_at base 1 1 ≡ 11
unfolding base_with message ceiling_at
at_b = refl

-- x takes 3 ticks, and may wait for t
of_x : ceiling_at base 0 1 ≡ 8
unfolding base_with message ceiling_at
of_x = refl

link : Sender → ℕ → ℕ → ℕ → Link
link sender to least most = record { sender = sender; to = to; least = least; most = most; stamps = false }

-- with links from the clients to b and from b to a: t takes 4 ticks, and y 5
linked : ceiling_of (record base { links = link (Client 0) 1 1 2 ∷ link (Group 1) 0 2 2 ∷ [] }) ≡ 9
unfolding base_with message link ceiling_at ceiling_of
linked = refl

with_messages : List Message → Scenario
with_messages messages = record base { multicasts = messages; target_message = 0 }

-- a lone message of a client to one group: D, and D less a tick
lone : ceiling_of (with_messages (message (codes "m") (Client 0) (0 ∷ []) 0 ∷ [])) ≡ 5
unfolding with_messages base_with message ceiling_at ceiling_of
lone = refl

-- a group that sends to itself alone
to_itself : ceiling_of (with_messages (message (codes "m") (Group 0) (0 ∷ []) 0 ∷ [])) ≡ 0
unfolding with_messages base_with message ceiling_at ceiling_of
to_itself = refl

-- with a link to itself its message takes 3 ticks to its commit, and may wait one more for another of its kind
by_link_to_itself : ceiling_of (record (with_messages (message (codes "m") (Group 0) (0 ∷ []) 0 ∷ [])) { links = link (Group 0) 0 2 3 ∷ [] }) ≡ 4
unfolding with_messages base_with message link ceiling_at ceiling_of
by_link_to_itself = refl

-- where that is for stamps, too, it takes 6 ticks to its commit, and may wait four more
by_link_for_stamps : ceiling_of (record (with_messages (message (codes "m") (Group 0) (0 ∷ []) 0 ∷ [])) { links = record (link (Group 0) 0 2 3) { stamps = true } ∷ [] }) ≡ 10
unfolding with_messages base_with message link ceiling_at ceiling_of
by_link_for_stamps = refl

-- traffic of the base scenario's kinds: a message of the kind of t at tick 5, three of that of y at tick 3, and one of that of t at tick 0
unfoldable busy : Scenario
busy = record base {
  multicasts = message (codes "t") (Client 0) (0 ∷ 1 ∷ []) 5
      ∷ message (codes "y") (Group 0) (0 ∷ 1 ∷ []) 3 ∷ message (codes "y") (Group 0) (0 ∷ 1 ∷ []) 3 ∷ message (codes "y") (Group 0) (0 ∷ 1 ∷ []) 3
      ∷ message (codes "t") (Client 0) (0 ∷ 1 ∷ []) 0 ∷ [];
}

busy_is_traffic : IsTrafficOf base busy
unfolding busy base_with message
busy_is_traffic = record { groups = refl; delay = refl; links = refl; kinds = kinds } where
  of_t : (name : List ℕ) (at : ℕ) → IsOfSomeKind base (message name (Client 0) (0 ∷ 1 ∷ []) at)
  of_t name at = (1, omega arith, record { sender = refl; destinations = refl })

  of_y : (name : List ℕ) (at : ℕ) → IsOfSomeKind base (message name (Group 0) (0 ∷ 1 ∷ []) at)
  of_y name at = (2, omega arith, record { sender = refl; destinations = refl })

  kinds : All (IsOfSomeKind base) busy.multicasts
  kinds zero other l = of_t (codes "t") 5
  kinds (suc zero) other l = of_y (codes "y") 3
  kinds (suc (suc zero)) other l = of_y (codes "y") 3
  kinds (suc (suc (suc zero))) other l = of_y (codes "y") 3
  kinds (suc (suc (suc (suc zero)))) other l = of_t (codes "t") 0
  kinds (suc (suc (suc (suc (suc m))))) other l = absurd (omega arith)

-- where every packet takes 3 ticks but the first message of the kind of t to b, which takes 1, the last one waits for it at b: the ceiling there is reached
reached_at_b : latency_at busy (in_fixed_order (3 ∷ 1 ∷ 3 ∷ 3 ∷ 3 ∷ 3 ∷ 3 ∷ 3 ∷ 3 ∷ 3 ∷ 3 ∷ 3 ∷ 3 ∷ 3 ∷ 3 ∷ 3 ∷ 3 ∷ [])) 4 1 ≡ 11
unfolding busy base_with message packets_of delay_of arrive settle arrival_rank commit_rank no_order moments_of clocks_of local_stamp final_stamp holds_back deliver latency_at
reached_at_b = refl

-- traffic with a wait: the first message of the kind of t may be issued from tick 0 to 5
unfoldable waiting : Scenario
waiting = record base {
  multicasts = record { name = codes "t"; sender = Client 0; destinations = 0 ∷ 1 ∷ []; at = 0; longest_wait = 5 }
      ∷ message (codes "y") (Group 0) (0 ∷ 1 ∷ []) 3 ∷ message (codes "y") (Group 0) (0 ∷ 1 ∷ []) 3 ∷ message (codes "y") (Group 0) (0 ∷ 1 ∷ []) 3
      ∷ message (codes "t") (Client 0) (0 ∷ 1 ∷ []) 0 ∷ [];
}

waiting_is_traffic : IsTrafficOf base waiting
unfolding waiting base_with message
waiting_is_traffic = record { groups = refl; delay = refl; links = refl; kinds = kinds } where
  of_t : (name : List ℕ) (at longest_wait : ℕ)
      → IsOfSomeKind base (record { name = name; sender = Client 0; destinations = 0 ∷ 1 ∷ []; at = at; longest_wait = longest_wait })
  of_t name at longest_wait = (1, omega arith, record { sender = refl; destinations = refl })

  of_y : (name : List ℕ) (at : ℕ) → IsOfSomeKind base (message name (Group 0) (0 ∷ 1 ∷ []) at)
  of_y name at = (2, omega arith, record { sender = refl; destinations = refl })

  kinds : All (IsOfSomeKind base) waiting.multicasts
  kinds zero other l = of_t (codes "t") 0 5
  kinds (suc zero) other l = of_y (codes "y") 3
  kinds (suc (suc zero)) other l = of_y (codes "y") 3
  kinds (suc (suc (suc zero))) other l = of_y (codes "y") 3
  kinds (suc (suc (suc (suc zero)))) other l = of_t (codes "t") 0 0
  kinds (suc (suc (suc (suc (suc m))))) other l = absurd (omega arith)

-- where it waits for all of its 5 ticks, the last message waits for it at b as before ..
reached_after_wait : latency_at waiting (in_fixed_order (5 ∷ 3 ∷ 1 ∷ 3 ∷ 3 ∷ 3 ∷ 3 ∷ 3 ∷ 3 ∷ 3 ∷ 3 ∷ 3 ∷ 3 ∷ 3 ∷ 3 ∷ 3 ∷ 3 ∷ 3 ∷ [])) 4 1 ≡ 11
unfolding waiting base_with message packets_of delay_of arrive settle arrival_rank commit_rank no_order moments_of clocks_of local_stamp final_stamp holds_back deliver latency_at
reached_after_wait = refl

-- .. and its own latency, which counts from its issue, is 6
waits_itself : latency_at waiting (in_fixed_order (5 ∷ 3 ∷ 1 ∷ 3 ∷ 3 ∷ 3 ∷ 3 ∷ 3 ∷ 3 ∷ 3 ∷ 3 ∷ 3 ∷ 3 ∷ 3 ∷ 3 ∷ 3 ∷ 3 ∷ 3 ∷ [])) 0 1 ≡ 6
unfolding waiting base_with message packets_of delay_of arrive settle arrival_rank commit_rank no_order moments_of clocks_of local_stamp final_stamp holds_back deliver latency_at
waits_itself = refl

-- the ceiling does not look at waits
ceiling_of_waiting : ceiling_at waiting 0 1 ≡ 11
unfolding waiting base_with message ceiling_at
ceiling_of_waiting = refl
