use Rattle.std.proofs.Common.{get_or, None}
use Rattle.std.proofs.lemmas.List.Elements.{Contains-get_or}
use Rattle.convoy_plan_ceilings.specs.declared.target_ceiling.TargetCeiling.{TargetCeiling}
use Rattle.convoy_plan_ceilings.proofs.bounds.is_high_anyhow.Goals as goal

abbrev no_row : TargetCeiling
no_row = record { target = record { message = 0; group = 0; deadline = None }; ceiling = 0 }

pub returns-then-is_high : goal.returns-then-is_high
returns-then-is_high c = λ yes. record {
  row = get_or c.args.rows.now c.loop-row.row-index no_row;
  of_row = Contains-get_or c.args.rows.now c.loop-row.row-index no_row c.loop-row-test.true;
  total = c.total_known-total.result;
  total_low = c.total_known-total.ensures;
  high = c.is_high.ensures c.if-is_high.true;
}
