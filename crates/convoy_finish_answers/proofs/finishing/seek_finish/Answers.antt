use Rattle.std.proofs.Common.{refl}
use Rattle.convoy_finish_answers.proofs.Between.{reached_by, sought_by}
use Rattle.convoy_finish_answers.proofs.NoSooner.{no_sooner_at, no_sooner_than}
use Rattle.convoy_finish_answers.proofs.finishing.seek_finish.Goals as goal

pub returns-then-branch-clause-no_sooner : goal.returns-then-branch-clause-no_sooner
returns-then-branch-clause-no_sooner c =
    no_sooner_at c.delivery_law.ensures c.args.instance.now c.args.start _ c.in_ok-latency.latency c.scenario-scenario.ensures.lawful c.in_ok-latency.ensures.value

pub returns-clause-sought : goal.returns-clause-sought
returns-clause-sought c =
    sought_by c.latest_finishes.ensures c.args.instance.now c.args.ways.now _ c.scenario-scenario.ensures.lawful
    c.in_ok-schedule.ensures.assignment c.in_ok-schedule.ensures.latency c.in_ok-most.ensures.holds

pub returns-clause-no_sooner : goal.returns-clause-no_sooner
returns-clause-no_sooner c =
    no_sooner_than c.delivery_law.ensures c.args.instance.now c.args.start _ c.in_ok-schedule.least c.scenario-scenario.ensures.lawful c.in_ok-schedule.ensures.no_less
