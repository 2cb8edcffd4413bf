-- The list of an order of ties: what is read was written so, and what is written is read again.
use Rattle.std.proofs.Common.{◌≡◌, ℕ, ◌≤◌, ◌==◌, Bool, true, false, ◌&&◌, ◌||◌, not, List, [], ◌∷◌, length, refl, sym, ap, ◌∙◌, arith, inl, inr}
use Rattle.std.specs.Prelude.{nat_le}
use Rattle.std.specs.List.{AllByRecursion, list_all}
use Rattle.std.proofs.lemmas.Bool.{and_parts, and_from, cases_Bool, cond-true, cond-false, eq-eqb, eqb-true, le-leb}
use Rattle.std.proofs.lemmas.List.{nil_from_length}
use Rattle.std.proofs.lemmas.List.Elements.{recursion_from_All}
use Rattle.convoy_scenario.specs.Scenario.{Scenario}
use Rattle.convoy_packets.specs.declared.order.TheConstants.{GREATEST_RANK}
use Rattle.convoy_packets.specs.Order.{IsOrder, Order, no_order}
use Rattle.convoy_packets.specs.OrderLists.{is_no_order, order_of, rank_count, ranks_of}
use Rattle.convoy_packets.proofs.OrderLists.{no_list, none_decided, order_again, list_again, list_long, list_low}
use Rattle.convoy_certificate.specs.Forms.{greatest_listed}
use Rattle.convoy_certificate.specs.Reading.{is_order_list}
use Rattle.convoy_certificate.specs.Text.{ranks_written}

not_true : (b : Bool) → not b ≡ true → b ≡ false
not_true false e = refl
not_true true e = absurd cc

not_false : (b : Bool) → b ≡ false → not b ≡ true
not_false false e = refl
not_false true e = absurd cc

or_true : (a b : Bool) → b ≡ true → (a || b) ≡ true
or_true false b e = e
or_true true b e = refl

or_left : (a b : Bool) → (a || b) ≡ true → a ≡ false → b ≡ true
or_left false b e f = e
or_left true b e f = absurd cc

none_is_none : is_no_order no_order ≡ true
unfolding no_order
none_is_none = refl

-- a list that is read as an order is what is written for it
pub list_kept : (plan : Scenario) (ranks : List ℕ) → is_order_list plan ranks ≡ true → ranks_written plan (order_of plan ranks) ≡ ranks
list_kept plan ranks e =
    elim (cases_Bool (length ranks == 0)) [
      | inl empty ↦
          let nil : ranks ≡ [] = nil_from_length ranks (eqb-true _ _ empty) in
          let fixed : order_of plan ranks ≡ no_order = ap (order_of plan) nil ∙ no_list plan in
          cond-true (is_no_order (order_of plan ranks)) [] (ranks_of plan (order_of plan ranks)) (ap is_no_order fixed ∙ none_is_none) ∙ sym nil
      | inr some ↦
          let small = list_all (λ rank. nat_le rank GREATEST_RANK) ranks in
          let all = and_parts ((length ranks == rank_count plan) && small) (not (is_no_order (order_of plan ranks))) (or_left (length ranks == 0) _ e some) in
          let long = and_parts (length ranks == rank_count plan) small all.0 in
          cond-false (is_no_order (order_of plan ranks)) [] (ranks_of plan (order_of plan ranks)) (not_true (is_no_order (order_of plan ranks)) all.1) ∙ list_again plan ranks (eqb-true _ _ long.0)
    ]

all_small : (ranks : List ℕ) → AllByRecursion (λ rank. rank ≤ GREATEST_RANK) ranks → list_all (λ rank. nat_le rank GREATEST_RANK) ranks ≡ true
all_small [] small = refl
all_small (rank ∷ ranks) small = and_from (nat_le rank GREATEST_RANK) _ (le-leb rank GREATEST_RANK small.0) (all_small ranks small.1)

-- what of an order of ties is written
pub record IsWritten (plan : Scenario) (order : Order) (ranks : List ℕ) : Type 0 where
  pub is_list : is_order_list plan ranks ≡ true
  pub gives : order_of plan ranks ≡ order
  pub small : AllByRecursion (λ rank. rank ≤ greatest_listed) ranks
  pub few : length ranks ≤ rank_count plan

listed : (ranks : List ℕ) → AllByRecursion (λ rank. rank ≤ GREATEST_RANK) ranks → AllByRecursion (λ rank. rank ≤ greatest_listed) ranks
listed [] small = tt
listed (rank ∷ ranks) small = (omega (arith, small.0), listed ranks small.1)

pub written : (plan : Scenario) (order : Order) → IsOrder plan order → IsWritten plan order (ranks_written plan order)
written plan order is =
    elim (cases_Bool (is_no_order order)) [
      | inl fixed ↦
          rw fixed (record { is_list = refl; gives = no_list plan ∙ sym ((none_decided plan order is).0 fixed); small = tt; few = omega arith })
      | inr other ↦
          let ranks = ranks_of plan order in
          let same = order_again plan order is in
          let long = list_long plan order is in
          let small = recursion_from_All (λ (rank : ℕ). rank ≤ GREATEST_RANK) ranks (list_low plan order is) in
          let all : (length ranks == rank_count plan) ≡ true = eq-eqb (length ranks) (rank_count plan) long in
          let some : not (is_no_order (order_of plan ranks)) ≡ true = not_false (is_no_order (order_of plan ranks)) (ap is_no_order same ∙ other) in
          rw other (record { is_list = or_true (length ranks == 0) _ (and_from _ _ (and_from _ _ all (all_small ranks small)) some); gives = same; small = listed ranks small; few = omega (arith, long) })
    ]
