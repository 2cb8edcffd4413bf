use Rattle.std.proofs.Common.{All}
use Rattle.std.specs.Prelude.{IfSome}
use Rattle.convoy_starts.specs.Links.{IsLink}
use Rattle.convoy_starts.proofs.setting.Setting.chain.Given as goal

abbrev pub invariant-loop-place : goal.invariant-loop-place
invariant-loop-place l =
    record {
      next : IfSome l.next (λ barred. IsLink l.self.scenario.now barred.link);
      links : All (IsLink l.self.scenario.now) l.links.items;
    }
