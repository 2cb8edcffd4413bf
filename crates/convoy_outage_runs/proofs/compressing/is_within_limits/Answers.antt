use Rattle.std.proofs.Common.{arith, refl}
use Rattle.std.proofs.lemmas.Bool.Decides.{nat_tests}
use Rattle.convoy_outage_runs.proofs.Limits.{decided}
use Rattle.convoy_outage_runs.proofs.compressing.is_within_limits.Goals as goal
use Rattle.convoy_outage_runs.proofs.compressing.is_within_limits.Goals.{then-compressed_delay-from, else-compressed_delay-from}

pub returns-then-windows_fit : goal.returns-then-windows_fit
returns-then-windows_fit c =
    let known = c.compressed_delay.ensures.lawful.target in
    elim c.if-compressed_delay-from.branch [
      | then-compressed_delay-from w ↦
          let all = decided c.args.factor c.args.span c.args.scenario.now known _ _ _ c.saved_ticks-saved.ensures w.windows_fit.ensures c.has_room.ensures in
          grind (arith, nat_tests, all)
      | else-compressed_delay-from w ↦ grind arith
    ]

pub returns-else-windows_fit : goal.returns-else-windows_fit
returns-else-windows_fit c =
    let known = c.compressed_delay.ensures.lawful.target in
    elim c.if-compressed_delay-from.branch [
      | then-compressed_delay-from w ↦
          let all = decided c.args.factor c.args.span c.args.scenario.now known _ _ _ c.saved_ticks-saved.ensures w.windows_fit.ensures refl in
          grind (arith, nat_tests, all)
      | else-compressed_delay-from w ↦
          let all = decided c.args.factor c.args.span c.args.scenario.now known _ _ _ c.saved_ticks-saved.ensures refl refl in
          grind (arith, nat_tests, all)
    ]
