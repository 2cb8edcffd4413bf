use Rattle.std.proofs.Common.{◌<◌, length}
use Rattle.std.specs.Prelude.{IfSome}
use Rattle.convoy_branch.specs.Chains.{IsWide}
use Rattle.convoy_branch.proofs.placing.heaviest_of.Given as goal

abbrev pub invariant-loop-packet : goal.invariant-loop-packet
invariant-loop-packet l =
    record {
      wanted : IfSome l.heaviest (λ packet. packet < length l.wants);
      wide : IfSome l.heaviest (IsWide l.delay_box);
    }
