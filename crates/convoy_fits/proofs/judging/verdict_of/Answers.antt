use Rattle.std.proofs.Common.{◌≡◌, ◌∙◌, List, None, Some, ap, sym, inr}
use Rattle.convoy_traces.specs.declared.told.Told.{Told}
use Rattle.convoy_fits.specs.Tests.{departure_in}
use Rattle.convoy_fits.proofs.Fine.{real_run, target_group_kept, target_message_kept}
use Rattle.convoy_fits.proofs.Judged.{judged_none, judged_some, late_from}
use Rattle.convoy_fits.proofs.judging.verdict_of.Goals as goal

pub returns-in-Some : goal.returns-in-Some
returns-in-Some c =
    let r = c.requires in
    let compared = ap (λ (told : List Told). departure_in c.args.finer.now c.args.schedule.now c.args.run.now told) c.told.ensures in
    let some : departure_in c.args.finer.now c.args.schedule.now c.args.run.now c.args.trace.now.told ≡ Some c.in-Some.departure =
    sym compared ∙ (sym c.departure_in.ensures ∙ c.in-Some.is) in
    inr (record {
      finer = c.args.finer.now;
      schedule = c.args.schedule.now;
      run = real_run c.args.trace.now.factor c.args.scenario.now c.args.finer.now r.finer c.args.schedule.now c.delay-lawful.ensures.lawful r.assignment;
      otherwise = judged_some c.args.finer.now c.args.schedule.now c.args.run.now r.run c.args.trace.now r.there c.in-Some.departure some;
    })

pub returns-in-None : goal.returns-in-None
returns-in-None c =
    let r = c.requires in
    let compared = ap (λ (told : List Told). departure_in c.args.finer.now c.args.schedule.now c.args.run.now told) c.told.ensures in
    let none : departure_in c.args.finer.now c.args.schedule.now c.args.run.now c.args.trace.now.told ≡ None =
    sym compared ∙ (sym c.departure_in.ensures ∙ c.in-None.is) in
    let judged = judged_none c.args.finer.now c.args.schedule.now c.args.run.now r.run c.args.trace.now r.there none in
    record {
      finer = c.args.finer.now;
      schedule = c.args.schedule.now;
      run = real_run c.args.trace.now.factor c.args.scenario.now c.args.finer.now r.finer c.args.schedule.now c.delay-lawful.ensures.lawful r.assignment;
      done = judged.0;
      complete = judged.1;
      late =
          late_from c.args.scenario.now c.args.finer.now c.args.trace.now _ _ _ (target_message_kept c.args.trace.now.factor c.args.scenario.now c.args.finer.now r.finer)
          (target_group_kept c.args.trace.now.factor c.args.scenario.now c.args.finer.now r.finer) c.latency_told.ensures r.run.latency;
    }
