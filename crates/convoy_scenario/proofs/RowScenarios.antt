-- Scenarios of which the worked rows of several crates speak. This file is open to the crates above.
use Rattle.std.proofs.Common.{ℕ, List, [], ◌∷◌, codes, None}
use Rattle.convoy_draft.specs.declared.time.Time.{Time}
use Rattle.convoy_draft.specs.declared.time.Time.TheVariants.{Ticks, Real}
use Rattle.convoy_scenario.specs.declared.sender.Sender.{Sender}
use Rattle.convoy_scenario.specs.declared.sender.Sender.TheVariants.{Client, Group}
use Rattle.convoy_scenario.specs.Scenario.{Message, Scenario}

unfoldable pub message : List ℕ → Sender → List ℕ → ℕ → Message
message name sender destinations at =
    record { name = name; sender = sender; destinations = destinations; at = at; longest_wait = 0 }

-- groups a and b with no link, and these messages, where the latency is asked of the message of that number at the group of that number
abbrev pub of_two : Time → ℕ → List Message → ℕ → ℕ → Scenario
of_two time delay messages target_message target_group = record {
  time = time;
  tick = None;
  delay = delay;
  groups = codes "a" ∷ codes "b" ∷ [];
  places = [];
  links = [];
  multicasts = messages;
  target_message = target_message;
  target_group = target_group;
}

-- x from a client to b, t from a client to a and b, and y from a to a and b, with the greatest delay and the tick at
-- which y is issued
unfoldable pub base_with : ℕ → ℕ → Scenario
base_with delay at =
    of_two Ticks delay (message (codes "x") (Client 0) (1 ∷ []) 0 ∷ message (codes "t") (Client 0) (0 ∷ 1 ∷ []) 0
    ∷ message (codes "y") (Group 0) (0 ∷ 1 ∷ []) at ∷ []) 1 0

abbrev pub base_with_y_at : ℕ → Scenario
base_with_y_at at = base_with 3 at

-- the base scenario, where y may hold t back
abbrev pub base : Scenario
base = base_with_y_at 6

-- the base with its groups in the order b, a, where nothing holds t back
unfoldable pub swapped : Scenario
swapped = record (of_two Ticks 3 (message (codes "x") (Client 0) (0 ∷ []) 0 ∷ message (codes "t") (Client 0) (0 ∷ 1 ∷ []) 0
    ∷ message (codes "y") (Group 1) (0 ∷ 1 ∷ []) 6 ∷ []) 1 1) { groups = codes "b" ∷ codes "a" ∷ [] }

-- in real time t and x come to b in one tick, and y comes to a in the tick of t's commit there
unfoldable pub tied : Scenario
tied = of_two Real 1 (message (codes "t") (Client 0) (0 ∷ 1 ∷ []) 0 ∷ message (codes "x") (Client 0) (1 ∷ []) 0
    ∷ message (codes "y") (Group 0) (0 ∷ 1 ∷ []) 2 ∷ []) 0 0

-- groups c, a, b and messages u, v, t, w1, w2, n, with fifteen packets. Three messages go to a, but u and v may raise
-- the clock there twice, so that t gets the time 4 and waits for n
unfoldable pub raised_twice : Scenario
raised_twice = record (of_two Ticks 3 (message (codes "u") (Client 0) (1 ∷ 2 ∷ []) 0 ∷ message (codes "v") (Client 0) (1 ∷ 2 ∷ []) 0
    ∷ message (codes "t") (Client 0) (0 ∷ 1 ∷ []) 5 ∷ message (codes "w1") (Group 0) (0 ∷ []) 9
    ∷ message (codes "w2") (Group 0) (0 ∷ []) 9 ∷ message (codes "n") (Group 0) (0 ∷ 2 ∷ []) 10 ∷ []) 2 0) {
      groups = codes "c" ∷ codes "a" ∷ codes "b" ∷ [];
    }
