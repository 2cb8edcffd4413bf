-- What the program tells: the finish latency, found message by message, and whether a scenario is closed.
use Rattle.std.proofs.Common.{◌≡◌, ℕ, zero, suc, ◌+◌, ◌-◌, ◌&&◌, max, Bool, true, false, cond, List, ◌∷◌, length, filter, map, fold, refl, sym, ap, ap₂, ◌∙◌, arith}
use Rattle.std.specs.List.{range_with_len}
use Rattle.convoy_scenario.specs.Scenario.{Scenario, is_addressed, message_at}
use Rattle.convoy_packets.specs.Assignment.{Schedule}
use Rattle.convoy_sim.specs.Times.{issue}
use Rattle.convoy_sim.specs.Stamps.{final_stamp, is_less, local_stamp}
use Rattle.convoy_sim.specs.ProtocolLaws.{ahead_of}
use Rattle.convoy_intervals.proofs.Rivals.{greatest_passing, greatest_passing-suc, greatest_passing-zero}
use Rattle.convoy_intervals.specs.Boxes.{root_of}
use Rattle.convoy_scenario.specs.Widened.{widened}
use Rattle.convoy_sure.specs.Windows.{Windows, windows_of}
use Rattle.convoy_finishes.specs.FinishClosing.{closes_finishing, closes_finishing_over}
use Rattle.convoy_finishes.specs.Finishes.{finish_by, finish_latency}

-- what is found number by number is the greatest of all that pass both tests
passing_is : (p q : ℕ → Bool) (f : ℕ → ℕ) (last from more : ℕ) → fold max last (map f (filter q (filter p (range_with_len from more)))) ≡ greatest_passing p q f last from more
passing_is p q f last from zero = sym (greatest_passing-zero p q f last from)
passing_is p q f last from (suc more) =
    first (p from)
    ∙ passing_is p q f (cond (p from && q from) (max last (f from)) last) (from + 1) more
    ∙ sym (greatest_passing-suc p q f last from more) where
      rest : List ℕ
      rest = filter p (range_with_len (from + 1) more)

      second : (b : Bool) → fold max last (map f (cond b (from ∷ filter q rest) (filter q rest))) ≡ fold max (cond b (max last (f from)) last) (map f (filter q rest))
      second true = refl
      second false = refl

      first : (a : Bool) → fold max last (map f (filter q (cond a (from ∷ rest) rest))) ≡ fold max (cond (a && q from) (max last (f from)) last) (map f (filter q rest))
      first true = second (q from)
      first false = refl

module _ (plan : Scenario) (schedule : Schedule) (ways : List ℕ) where
  -- the greatest of the last finish of the target and of those of the first messages that are ahead of it
  abbrev last_of : ℕ → ℕ
  last_of count =
      greatest_passing (λ n. is_addressed (message_at plan n) plan.target_group)
      (λ n. is_less (local_stamp plan schedule n plan.target_group) (final_stamp plan schedule plan.target_message))
      (finish_by plan schedule ways) (finish_by plan schedule ways plan.target_message) 0 count

  latency_is : finish_latency plan ways schedule ≡ last_of (length plan.multicasts) - issue plan schedule plan.target_message
  unfolding finish_latency
  latency_is =
      let first : max 0 (finish_by plan schedule ways plan.target_message) ≡ finish_by plan schedule ways plan.target_message = omega arith in
      ap (λ start. fold max start (map (finish_by plan schedule ways) (ahead_of plan schedule plan.target_message plan.target_group)) - issue plan schedule plan.target_message) first
      ∙ ap (λ last. last - issue plan schedule plan.target_message)
      (passing_is (λ n. is_addressed (message_at plan n) plan.target_group)
      (λ n. is_less (local_stamp plan schedule n plan.target_group) (final_stamp plan schedule plan.target_message))
      (finish_by plan schedule ways) (finish_by plan schedule ways plan.target_message) 0 (length plan.multicasts))

  pub latency_told : (last count start result : ℕ) → last ≡ last_of count → count ≡ length plan.multicasts → start ≡ issue plan schedule plan.target_message
      → result ≡ last - start → result ≡ finish_latency plan ways schedule
  latency_told last count start result last_is count_is start_is is =
      is ∙ ap₂ (λ x y. x - y) (last_is ∙ ap last_of count_is) start_is ∙ sym latency_is

-- the windows of a scenario in which the target does not wait are all windows of the one that it was widened from
pub closing_told : (plan wide moved : Scenario) (windows : Windows) (ways given : List ℕ) (latency : ℕ) → moved ≡ wide → wide ≡ widened plan
    → windows ≡ windows_of wide (root_of wide) → given ≡ ways → closes_finishing_over moved windows given latency ≡ closes_finishing plan ways latency
unfolding closes_finishing
closing_told plan wide moved windows ways given latency moved_is wide_is windows_is given_is =
    let of : Scenario → Bool = λ s. closes_finishing_over s (windows_of s (root_of s)) ways latency in
    ap (λ s. closes_finishing_over s windows given latency) moved_is
    ∙ ap (λ w. closes_finishing_over wide w given latency) windows_is
    ∙ ap (λ x. closes_finishing_over wide (windows_of wide (root_of wide)) x latency) given_is
    ∙ ap of wide_is
