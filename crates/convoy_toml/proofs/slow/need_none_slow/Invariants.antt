use Rattle.std.proofs.Common.{◌≡◌, drop}
use Rattle.convoy_toml.specs.Slow.{need_none_slow}
use Rattle.convoy_toml.proofs.slow.need_none_slow.Given as goal

abbrev pub invariant-loop-number : goal.invariant-loop-number
invariant-loop-number l = need_none_slow l.multicasts ≡ need_none_slow (drop l.number l.multicasts)
