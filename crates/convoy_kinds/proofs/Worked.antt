-- Worked rows: sets of groups, the kinds of tables, and ceilings, computed from the definitions alone.
use Rattle.std.proofs.Common.{◌≡◌, ℕ, List, [], ◌∷◌, length, codes, Some, None, true, false, pos, refl}
use Rattle.convoy_scenario.specs.declared.sender.Sender.TheVariants.{Client, Group}
use Rattle.convoy_scenario.proofs.RowScenarios.{base_with, message}
use Rattle.convoy_sim.specs.Delivery.{addressed_to}
use Rattle.convoy_ceiling.specs.Ceiling.{ceiling_at, ceiling_of}
use Rattle.convoy_kinds.specs.Checks.{are_sizes}
use Rattle.convoy_kinds.specs.Ceilings.{ceiling_of_kind, kind_targets, rival_at}
use Rattle.convoy_kinds.specs.Kinds.{Kind, Kinds}
use Rattle.convoy_kinds.specs.Numbering.{kinds_from, sets_of_size}
use Rattle.convoy_kinds.specs.Pairs.{pair_of, second_name}

-- the sets of two of four groups, and the one of all
two_of_four : sets_of_size 4 2 ≡ (0 ∷ 1 ∷ []) ∷ (0 ∷ 2 ∷ []) ∷ (0 ∷ 3 ∷ []) ∷ (1 ∷ 2 ∷ []) ∷ (1 ∷ 3 ∷ []) ∷ (2 ∷ 3 ∷ []) ∷ []
two_of_four = refl

all_of_three : sets_of_size 3 3 ≡ (0 ∷ 1 ∷ 2 ∷ []) ∷ []
all_of_three = refl

-- two or three of five groups from each of two, and one set of clients
transfers : length (kinds_from 0 (codes "a" ∷ codes "b" ∷ codes "c" ∷ codes "d" ∷ codes "e" ∷ []) []
    (record { name = codes "transfer"; senders = Some (codes "a" ∷ codes "b" ∷ []); to = None; sizes = Some (pos 2 ∷ pos 3 ∷ []) }
    ∷ record { name = codes "audit"; senders = None; to = Some (codes "c" ∷ codes "a" ∷ []); sizes = None } ∷ [])) ≡ 41
transfers = refl

audit : kinds_from 1 (codes "a" ∷ codes "b" ∷ codes "c" ∷ []) []
    (record { name = codes "audit"; senders = None; to = Some (codes "c" ∷ codes "a" ∷ []); sizes = None } ∷ [])
    ≡ record { table = 1; sender = Client 0; destinations = 0 ∷ 2 ∷ [] } ∷ []
audit = refl

-- a group and clients at a place
orders : kinds_from 0 (codes "a" ∷ codes "b" ∷ []) (codes "eu" ∷ codes "us" ∷ [])
    (record { name = codes "order"; senders = Some (codes "b" ∷ codes "us" ∷ []); to = Some (codes "a" ∷ []); sizes = None } ∷ [])
    ≡ record { table = 0; sender = Group 1; destinations = 0 ∷ [] } ∷ record { table = 0; sender = Client 2; destinations = 0 ∷ [] } ∷ []
orders = refl

-- sizes ascend, and none is above the number of groups
ascending : are_sizes 5 (Some (pos 2 ∷ pos 3 ∷ [])) ≡ true
ascending = refl

twice : are_sizes 5 (Some (pos 2 ∷ pos 2 ∷ [])) ≡ false
twice = refl

above : are_sizes 5 (Some (pos 2 ∷ pos 6 ∷ [])) ≡ false
above = refl

none : are_sizes 5 (Some []) ≡ false
none = refl

-- names in a pair
two_names : second_name (codes "x") (codes "y") ≡ codes "y"
two_names = refl

one_name : second_name (codes "x") (codes "x") ≡ codes "other"
one_name = refl

that_name : second_name (codes "other") (codes "other") ≡ codes "second"
that_name = refl

-- the kinds of the base scenario: x from a client to b, t from a client to a and b, and y from a to a and b
unfoldable kinds : Kinds
kinds = record {
  setting = base_with 3 6;
  unit = None;
  tables = codes "x" ∷ codes "t" ∷ codes "y" ∷ [];
  kinds = record { table = 0; sender = Client 0; destinations = 1 ∷ [] }
      ∷ record { table = 1; sender = Client 0; destinations = 0 ∷ 1 ∷ [] }
      ∷ record { table = 2; sender = Group 0; destinations = 0 ∷ 1 ∷ [] } ∷ [];
}

-- t waits for y at a, and at b for another of its kind, which comes from elsewhere as x and y do and may take longest
t_at_a : ceiling_of_kind kinds 1 0 ≡ 12
unfolding kinds base_with message ceiling_at ceiling_of ceiling_of_kind
t_at_a = refl

t_at_b : ceiling_of_kind kinds 1 1 ≡ 11
unfolding kinds base_with message ceiling_at ceiling_of ceiling_of_kind
t_at_b = refl

at_a : rival_at kinds 0 ≡ 2
unfolding kinds base_with message rival_at
at_a = refl

at_b : rival_at kinds 1 ≡ 1
unfolding kinds base_with message rival_at
at_b = refl

-- beside x t has the same at b, where another of its own kind may come
t_beside_x : ceiling_of (pair_of kinds 1 0 1) ≡ 11
unfolding kinds base_with message ceiling_at ceiling_of
t_beside_x = refl

x_beside_y : ceiling_of (pair_of kinds 0 2 1) ≡ 5
unfolding kinds base_with message ceiling_at ceiling_of
x_beside_y = refl

-- with a link from a to itself y comes to a later than it is issued, so t waits longest for another of its own kind there
unfoldable with_home : Kinds
with_home = record kinds { setting = record (base_with 3 6) { links = record { sender = Group 0; to = 0; least = 2; most = 3; stamps = false } ∷ [] } }

home_t_at_a : ceiling_of_kind with_home 1 0 ≡ 11
unfolding with_home kinds base_with message ceiling_at ceiling_of ceiling_of_kind
home_t_at_a = refl

home_y_at_a : ceiling_of_kind with_home 2 0 ≡ 11
unfolding with_home kinds base_with message ceiling_at ceiling_of ceiling_of_kind
home_y_at_a = refl

home_at_a : rival_at with_home 0 ≡ 1
unfolding with_home kinds base_with message rival_at
home_at_a = refl

-- with a link from b to itself that is for stamps, too, x may take as long to its commit there as what goes to both
unfoldable with_stamps : Kinds
with_stamps = record kinds { setting = record (base_with 3 6) { links = record { sender = Group 1; to = 1; least = 2; most = 3; stamps = true } ∷ [] } }

stamps_x_at_b : ceiling_of_kind with_stamps 0 1 ≡ 11
unfolding with_stamps kinds base_with message ceiling_at ceiling_of ceiling_of_kind
stamps_x_at_b = refl

stamps_at_b : rival_at with_stamps 1 ≡ 0
unfolding with_stamps kinds base_with message rival_at
stamps_at_b = refl

rows : kind_targets kinds ≡ (0, 1) ∷ (1, 0) ∷ (1, 1) ∷ (2, 0) ∷ (2, 1) ∷ []
unfolding kinds base_with message
rows = refl
