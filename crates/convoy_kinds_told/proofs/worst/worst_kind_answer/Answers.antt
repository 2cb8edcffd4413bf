use Rattle.std.proofs.Common.{rules, inl, sym, subst}
use Rattle.convoy_scenario.specs.Scenario.{Scenario}
use Rattle.convoy_kinds_told.specs.Worst.{IsTrafficBeside}
use Rattle.convoy_kinds_told.proofs.worst.worst_kind_answer.Goals as goal

pub returns : goal.returns
returns c =
    let kinds = c.in_ok-kinds.kinds in
    let worst = c.worst_row-worst.result in
    let run = c.in_ok-found.found.record in
    let beside = c.in_ok-found.ensures in
    inl (record {
      kinds = kinds;
      read = search rules;
      lawful = c.in_ok-kinds.ensures.lawful;
      rows = c.in_ok-rows.rows.items;
      told = c.in_ok-rows.ensures;
      worst = worst;
      first = search rules;
      traffic = run;
      beside = subst (λ (traffic : Scenario). IsTrafficBeside kinds worst traffic run) (sym beside.asked.of_traffic) beside;
      attained = search rules;
      written = search rules;
    })
