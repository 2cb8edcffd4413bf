use Rattle.std.proofs.Common.{refl}
use Rattle.convoy_ceiling.proofs.SameKinds.{own_kinds}
use Rattle.convoy_ceiling.proofs.ceiling_laws.own_kinds_are_traffic.Goals as goal

pub returns : goal.returns
returns c = λ plan. record {
  kinds = own_kinds plan;
  time = refl;
  tick = refl;
  kind = record { sender = refl; destinations = refl };
  group = refl;
}
