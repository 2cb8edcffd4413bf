use Rattle.std.proofs.Common.{◌≡◌, ◌-◌}
use Rattle.convoy_scenario.specs.Scenario.{is_addressed, message_at}
use Rattle.convoy_sim.specs.Stamps.{final_stamp, is_less, local_stamp}
use Rattle.convoy_intervals.proofs.Rivals.{greatest_passing}
use Rattle.convoy_finishes.specs.Finishes.{finish_by}
use Rattle.convoy_finishes.proofs.finish_run.FinishRun.latency.Given as goal

abbrev pub invariant-loop-message : goal.invariant-loop-message
invariant-loop-message l =
    let scenario = l.self.scenario in
    let schedule = l.self.schedule in
    let group = scenario.target_group in
    let from = greatest_passing (λ n. is_addressed (message_at scenario n) group) (λ n. is_less (local_stamp scenario schedule n group) (final_stamp scenario schedule scenario.target_message)) (finish_by scenario schedule l.self.ways) in
    from l.last l.message (l.message-end - l.message) ≡ from (finish_by scenario schedule l.self.ways scenario.target_message) 0 l.message-end
