-- The run of a scenario, from the tables of all its moments.
use Rattle.std.proofs.Common.{◌≡◌, ℕ, ◌*◌, ◌/◌, ◌%◌, List, length, take, map, sym, ap, ap₂, subst, ◌∙◌}
use Rattle.std.specs.List.{range_with_len}
use Rattle.convoy_draft.specs.declared.limits.TheConstants.{MOST_GROUPS}
use Rattle.convoy_scenario.specs.Scenario.{Scenario}
use Rattle.convoy_packets.specs.Assignment.{Schedule, IsAssignment}
use Rattle.convoy_sim.specs.declared.moment.Moment.{Moment}
use Rattle.convoy_sim.specs.declared.timestamp.Timestamp.{Timestamp}
use Rattle.convoy_sim.specs.declared.progress.Progress.{Progress}
use Rattle.convoy_sim.specs.Scheduled.{Scheduled}
use Rattle.convoy_sim.specs.Moments.{moments_of}
use Rattle.convoy_sim.specs.Agenda.{before}
use Rattle.convoy_sim.specs.StampTables.{StampTable, no_stamps, with_moments}
use Rattle.convoy_sim.specs.Deliveries.{TellsAhead}
use Rattle.convoy_sim.specs.Delivery.{latency_of}
use Rattle.convoy_sim.specs.Progress.{progress_told, TellsAll}
use Rattle.convoy_sim.specs.Run.{Run, IsTabled, IsRunOf}
use Rattle.convoy_sim.proofs.TargetOf.{IsTarget, target_well, target_goes}
use Rattle.convoy_sim.proofs.WholeRun.{end, table, tells_all}
use Rattle.convoy_sim.proofs.RunTold.{AreTables, tabled, run_of}

module _ (plan : Scenario) (schedule : Schedule) (times : Scheduled) (m g : ℕ) (is : IsTarget plan schedule times m g) (within : IsAssignment plan schedule) where
  pub target_within : IsAssignment times.scenario times.schedule
  target_within = subst (λ (s : Scheduled). IsAssignment s.scenario s.schedule) (sym is.same) within

  -- the stamps that are read from all moments
  pub record AreRead (stamps : StampTable) : Type 0 where
    pub all : stamps ≡ table times.scenario (target_well plan schedule times m g is) times.schedule target_within

  pub stamps_are : (agenda : List Moment) (stamps : StampTable) → stamps ≡ with_moments no_stamps agenda
      → agenda ≡ before end (moments_of times.scenario times.schedule) → AreRead stamps
  stamps_are agenda stamps e f = record { all = e ∙ ap (with_moments no_stamps) f }

  module _ (stamps : StampTable) (read : AreRead stamps) where
    pub all_told : TellsAll times.scenario times.schedule stamps
    all_told = subst (TellsAll times.scenario times.schedule) (sym read.all) (tells_all times.scenario (target_well plan schedule times m g is) times.schedule target_within)

    pub target_told : TellsAhead times.scenario times.schedule m g stamps
    target_told = all_told.ahead m g (target_goes plan schedule times m g is)

    -- the tables that the run keeps
    pub record AreKept (finals : List Timestamp) (progress : List Progress) (count : ℕ) : Type 0 where
      pub number : count ≡ length plan.multicasts
      pub finals_are : finals ≡ take count stamps.finals
      pub progress_is : progress
          ≡ map (λ at. progress_told times.scenario times.schedule stamps (at / MOST_GROUPS) (at % MOST_GROUPS))
          (range_with_len 0 (length times.scenario.multicasts * MOST_GROUPS))

    module _ (finals : List Timestamp) (progress : List Progress) (count : ℕ) (kept : AreKept finals progress count) where
      tables : AreTables times.scenario (target_well plan schedule times m g is) times.schedule target_within finals progress
      tables = record {
        finals_are = kept.finals_are
            ∙ ap₂ (λ n (t : StampTable). take n t.finals) (kept.number ∙ ap (λ (s : Scheduled). length s.scenario.multicasts) (sym is.same)) read.all;
        progress_is = kept.progress_is
            ∙ ap (λ t. map (λ at. progress_told times.scenario times.schedule t (at / MOST_GROUPS) (at % MOST_GROUPS))
            (range_with_len 0 (length times.scenario.multicasts * MOST_GROUPS))) read.all;
      }

      pub run_tabled : IsTabled finals progress
      run_tabled = tabled times.scenario (target_well plan schedule times m g is) times.schedule target_within finals progress tables

      pub run_told : (latency : ℕ) (run : Run) → run ≡ record { finals = finals; progress = progress; latency = latency }
          → latency ≡ latency_of plan schedule → IsRunOf plan schedule run
      run_told latency run e l =
          subst (λ (s : Scheduled). IsRunOf s.scenario s.schedule run) is.same
          (subst (IsRunOf times.scenario times.schedule) (sym e)
          (run_of times.scenario (target_well plan schedule times m g is) times.schedule target_within finals progress tables latency
          (l ∙ sym (ap (λ (s : Scheduled). latency_of s.scenario s.schedule) is.same))))
