use Rattle.std.proofs.Common.{◌≡◌, min, take, sum_by}
use Rattle.convoy_toml.specs.declared.share.TheConstants.{WHOLE_SHARE}
use Rattle.convoy_packets.specs.Packets.{packets_of}
use Rattle.convoy_outside.specs.Sums.{share_of}
use Rattle.convoy_outside.proofs.shares.outside_of.Given as goal

abbrev pub invariant-loop-place : goal.invariant-loop-place
invariant-loop-place l = l.sum ≡ min (sum_by (share_of l.shares l.instance) (take l.place (packets_of l.instance))) WHOLE_SHARE
