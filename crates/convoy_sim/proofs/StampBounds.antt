-- No clock and no stamp is past the number of moments that have been read.
use Rattle.std.proofs.Common.{ℕ, ◌+◌, ◌≤◌, max, Bool, true, false, cond, inl, inr, List, length, get_or, replicate, All, arith}
use Rattle.std.proofs.lemmas.Bool.{cases_lt}
use Rattle.std.proofs.lemmas.List.{get_or_past, get_or-replicate, length-replicate}
use Rattle.std.proofs.lemmas.List.Elements.{All-set, All-weaker}
use Rattle.convoy_sim.specs.declared.moment.Moment.{Moment}
use Rattle.convoy_sim.specs.declared.moment.MomentKind.{MomentKind}
use Rattle.convoy_sim.specs.declared.moment.MomentKind.TheVariants.{Arrival, Commit}
use Rattle.convoy_sim.specs.declared.timestamp.Timestamp.{Timestamp}
use Rattle.convoy_sim.specs.Stamps.{is_less, later, no_stamp}
use Rattle.convoy_sim.specs.StampTables.{StampTable, no_stamps, with_kind, with_moment, IsBelow}

all_replicate : {X : Type 0} (P : X → Type 0) (n : ℕ) (x : X) → P x → All P (replicate n x)
all_replicate {X = X} P n x p k d l =
    let size = length-replicate {A = X} n x in
    rw (get_or-replicate n k x d (omega arith)) p

pub none_below : IsBelow 0 no_stamps
unfolding no_stamps
none_below = record {
  clocks = all_replicate (λ clock. clock ≤ 0) 8 0 (omega arith);
  finals = all_replicate (λ stamp. stamp.time ≤ 0) 16 no_stamp (omega arith);
}

clock_below : (n : ℕ) (clocks : List ℕ) (g : ℕ) → All (λ clock. clock ≤ n) clocks → get_or clocks g 0 ≤ n
clock_below n clocks g all = elim (cases_lt g (length clocks)) [
  | inl l ↦ all g 0 l
  | inr l ↦ rw (get_or_past clocks g 0 l) (omega arith)
]

final_below : (n : ℕ) (finals : List Timestamp) (m : ℕ) → All (λ stamp. stamp.time ≤ n) finals → (get_or finals m no_stamp).time ≤ n
final_below n finals m all = elim (cases_lt m (length finals)) [
  | inl l ↦ all m no_stamp l
  | inr l ↦ rw (get_or_past finals m no_stamp l) (omega arith)
]

later_below : (n : ℕ) (a b : Timestamp) → a.time ≤ n → b.time ≤ n → (later a b).time ≤ n
later_below n a b ha hb = by_test (is_less a b) where
  by_test : (t : Bool) → (cond t b a).time ≤ n
  by_test true = hb
  by_test false = ha

kind_below : (k : MomentKind) (n : ℕ) (table : StampTable) (m g : ℕ) → IsBelow n table → IsBelow (n + 1) (with_kind k table m g)
kind_below Arrival n table m g below =
    let clock = clock_below n table.clocks g below.clocks in
    let final = final_below n table.finals m below.finals in
    let stamp : ℕ → Timestamp = λ t. record { time = t; group = g } in
    record {
      clocks = All-set (λ c. c ≤ n + 1) table.clocks g (get_or table.clocks g 0 + 1) (omega arith)
          (All-weaker (λ c. c ≤ n) (λ c. c ≤ n + 1) (λ c l. omega arith) table.clocks below.clocks);
      finals = All-set (λ s. s.time ≤ n + 1) table.finals m (later (get_or table.finals m no_stamp) (stamp (get_or table.clocks g 0 + 1)))
          (later_below (n + 1) (get_or table.finals m no_stamp) (stamp (get_or table.clocks g 0 + 1)) (omega arith) (omega arith))
          (All-weaker (λ s. s.time ≤ n) (λ s. s.time ≤ n + 1) (λ s l. omega arith) table.finals below.finals);
    }
kind_below Commit n table m g below =
    let clock = clock_below n table.clocks g below.clocks in
    let final = final_below n table.finals m below.finals in
    record {
      clocks = All-set (λ c. c ≤ n + 1) table.clocks g (max (get_or table.clocks g 0) (get_or table.finals m no_stamp).time) (omega arith)
          (All-weaker (λ c. c ≤ n) (λ c. c ≤ n + 1) (λ c l. omega arith) table.clocks below.clocks);
      finals = All-weaker (λ s. s.time ≤ n) (λ s. s.time ≤ n + 1) (λ s l. omega arith) table.finals below.finals;
    }

pub moment_below : (n : ℕ) (table : StampTable) (x : Moment) → IsBelow n table → IsBelow (n + 1) (with_moment table x)
moment_below n table x below = kind_below x.kind n table x.message x.group below
