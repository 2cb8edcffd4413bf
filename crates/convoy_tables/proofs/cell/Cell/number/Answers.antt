use Rattle.std.proofs.Common.{subst, sym, arith}
use Rattle.json.specs.Print.{IsNumber}
use Rattle.json.proofs.Printed.Decimals.{IsNumber-decimal}
use Rattle.convoy_tables.proofs.cell.Cell.number.Goals as goal

pub invariant_of-result : goal.invariant_of-result
invariant_of-result c =
    subst IsNumber (sym c.in_ok-text.ensures.ok) (IsNumber-decimal c.args.value (omega arith))
