use Rattle.std.proofs.Common.{refl, arith}
use Rattle.convoy_case_answers.proofs.finding.back_after.Goals as goal

pub returns-in-None : goal.returns-in-None
returns-in-None c = record {
  late = c.args.late;
  way = c.ticks_of_way.result;
  beyond = omega (arith, c.in-None.ensures);
  told = refl;
}
