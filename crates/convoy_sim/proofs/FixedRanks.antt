-- With ties in the fixed order each rank is 0.
use Rattle.std.proofs.Common.{◌≡◌, ◌==◌, ◌+◌, ◌*◌, ℕ, max, List, [], ◌∷◌, map, fold, replicate, inl, inr, refl, ap, ◌∙◌, arith}
use Rattle.std.proofs.lemmas.Bool.{cases_lt, cond_both}
use Rattle.std.proofs.lemmas.List.{length-replicate, get_or-replicate, get_or_past}
use Rattle.convoy_draft.specs.declared.time.Time.{Time}
use Rattle.convoy_draft.specs.declared.time.Time.TheVariants.{Ticks, Real}
use Rattle.convoy_scenario.specs.Scenario.{message_at}
use Rattle.convoy_packets.specs.Assignment.{in_fixed_order}
use Rattle.convoy_packets.specs.Order.{no_order, rank_at}
use Rattle.convoy_sim.specs.Times.{arrive, settle}
use Rattle.convoy_sim.specs.Moments.{arrival_rank, commit_rank, rank_in, rank_then}
use Rattle.convoy_sim.specs.ProtocolLaws.{FixedRanksAreNone}

none_at : (m g : ℕ) → rank_at (replicate 128 0) m g ≡ 0
none_at m g = elim (cases_lt (m * 8 + g) 128) [
  | inl l ↦ get_or-replicate 128 (m * 8 + g) 0 0 l
  | inr l ↦ get_or_past (replicate 128 0) (m * 8 + g) 0 (omega (arith, length-replicate {A = ℕ} 128 0))
]

none_in : (time : Time) (rank : ℕ) → rank ≡ 0 → rank_in time rank ≡ 0
none_in Ticks rank e = refl
none_in Real rank e = e

greatest_none : (f : ℕ → ℕ) → ((x : ℕ) → f x ≡ 0) → (xs : List ℕ) → fold max 0 (map f xs) ≡ 0
greatest_none f none [] = refl
greatest_none f none (x ∷ xs) = ap (λ n. fold max (max 0 n) (map f xs)) (none x) ∙ greatest_none f none xs

pub fixed_ranks : FixedRanksAreNone
unfolding arrival_rank commit_rank no_order
fixed_ranks plan delays m g = (arrives g, commits) where
  arrives : (h : ℕ) → arrival_rank plan (in_fixed_order delays) m h ≡ 0
  arrives h = none_in plan.time _ (none_at m h)

  then : (tick h : ℕ) → rank_then plan (in_fixed_order delays) m tick h ≡ 0
  then tick h = cond_both (arrive plan (in_fixed_order delays) m h == tick) (arrival_rank plan (in_fixed_order delays) m h) 0 (λ r. r ≡ 0) (λ e. arrives h) (λ e. refl)

  commits : commit_rank plan (in_fixed_order delays) m g ≡ 0
  commits =
      ap (λ n. fold max (max 0 n) (map (rank_then plan (in_fixed_order delays) m (settle plan (in_fixed_order delays) m g)) (message_at plan m).destinations))
      (none_in plan.time _ (none_at m g))
      ∙ greatest_none (rank_then plan (in_fixed_order delays) m (settle plan (in_fixed_order delays) m g)) (then (settle plan (in_fixed_order delays) m g)) (message_at plan m).destinations
