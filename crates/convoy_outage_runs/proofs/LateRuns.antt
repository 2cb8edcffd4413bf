-- No run through outages is later than the runs of the compressed scenario allow, but by the ticks that are saved.
use Rattle.std.proofs.Common.{◌≡◌, ℕ, ◌+◌, ◌-◌, ◌*◌, ◌≤◌, inl, inr, sym, ap, subst₂, ◌∙◌, arith}
use Rattle.std.proofs.lemmas.Bool.{cases_lt}
use Rattle.convoy_draft.specs.declared.time.Time.TheVariants.{Real}
use Rattle.convoy_scenario.specs.Scenario.{Scenario}
use Rattle.convoy_scenario.specs.WellFormed.{IsScenario}
use Rattle.convoy_packets.specs.Assignment.{Schedule}
use Rattle.convoy_sim.specs.Times.{issue}
use Rattle.convoy_sim.specs.Delivery.{deliver, latency_at, latency_of}
use Rattle.convoy_sim.specs.Greatest.{IsUpper}
use Rattle.convoy_sim.proofs.Addressed.{number_of_goes}
use Rattle.convoy_laws.proofs.Ceiling.{times_fall, times_plus, times_rise}
use Rattle.convoy_outages.specs.Outages.{Outages, silent_ticks}
use Rattle.convoy_outage_runs.specs.OutageRuns.{IsRunThrough, LastInAll}
use Rattle.convoy_outage_runs.specs.Compressed.{compressed, saved_ticks, shortest_travel}
use Rattle.convoy_outage_runs.specs.OutageRunLaws.{CompressedRunsAreAsLate}
use Rattle.convoy_outage_runs.proofs.Used.{Used}
use Rattle.convoy_outage_runs.proofs.Slowed.{saved_cost, slowed_target, stretch, times_twice}
use Rattle.convoy_outage_runs.proofs.Squeezed.{squeezed_time}
use Rattle.convoy_outage_runs.proofs.Told.{target_goes}
use Rattle.convoy_outage_runs.proofs.Image.{image, image_parts, is_finer}
use Rattle.convoy_outage_runs.proofs.ImageRun.{delivers, image_run, is_assignment, issues}

module _ (used : Used) (down : Outages) (k times span : ℕ) (plan told : Scenario) (schedule : Schedule) where
  abbrev fine : Scenario
  fine = image down k times span plan told schedule

  module _ (well : IsScenario plan) (run : IsRunThrough down times plan told schedule) (some : 1 ≤ k) (short : LastInAll (times * span) down) where
    -- the target's latency is no less, but for what silence after its issue costs
    target_past : k * latency_at told schedule told.target_message told.target_group
        ≤ latency_at fine (image_run down k times span plan told schedule) told.target_message told.target_group + (k - 1) * (times * span)
    unfolding latency_at
    target_past =
        let goes = target_goes down times plan told schedule run well.addressed in
        let start : ℕ = issue told schedule told.target_message in
        let end : ℕ = deliver told schedule told.target_message told.target_group in
        let issued = issues down k times span plan told schedule used run some short well.target told.target_message (number_of_goes told told.target_message told.target_group goes) in
        let delivered = delivers down k times span plan told schedule used run some short well.target told.target_message told.target_group goes in
        let at = slowed_target down k start some in
        elim (cases_lt start end) [
          | inl waits ↦
              let whole = stretch down k start some start end (omega arith) in
              let cost = times_rise (k - 1) (silent_ticks down start end) (times * span) (short start end) in
              let split : end ≡ start + (end - start) = omega arith in
              let parts : k * end ≡ k * start + k * (end - start) = ap (λ n. k * n) split ∙ times_plus k start (end - start) in
              omega arith
          | inr at_once ↦
              let none : end - start ≡ 0 = omega arith in
              let nothing : k * (end - start) ≡ k * 0 = ap (λ n. k * n) none in
              omega arith
        ]

    latency_past : k * latency_of told schedule ≤ latency_of fine (image_run down k times span plan told schedule) + (k - 1) * (times * span)
    unfolding latency_of
    latency_past =
        let parts = image_parts down k times span plan told schedule in
        subst₂ (λ m g. k * latency_at told schedule told.target_message told.target_group ≤ latency_at fine (image_run down k times span plan told schedule) m g + (k - 1) * (times * span))
        (sym parts.2) (sym parts.3) target_past

    as_late : (latency : ℕ) → plan.time ≡ Real → k ≤ shortest_travel plan → IsScenario (compressed k span plan) → IsUpper (compressed k span plan) latency
        → latency_of told schedule ≤ times * (latency + saved_ticks k span)
    as_late latency real shortest squeezed_well upper =
        let finer = is_finer down k times span plan told schedule run some short well.target in
        let enough = used.enough (k * times) (compressed k span plan) fine latency (used.roundable (compressed k span plan) squeezed_well) (squeezed_time k span plan ∙ real) finer upper in
        let most = enough (image_run down k times span plan told schedule) (is_assignment down k times span plan told schedule used run some short well.target shortest) in
        let past = latency_past in
        let cost = saved_cost k times span some in
        let both = times_plus (k * times) latency (saved_ticks k span) in
        let twice = times_twice k times (latency + saved_ticks k span) in
        times_fall k some (latency_of told schedule) (times * (latency + saved_ticks k span)) (omega arith)

pub compressed_as_late : Used → CompressedRunsAreAsLate
compressed_as_late used k span latency plan well real some shortest squeezed_well upper down times told schedule run short =
    as_late used down k times span plan told schedule well run some short latency real shortest squeezed_well upper
