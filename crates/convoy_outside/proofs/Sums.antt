-- One more share in a sum that is capped.
use Rattle.std.proofs.Common.{◌≡◌, ℕ, ◌+◌, ◌^◌, ◌-◌, min, List, take, Some, ap, arith, sum_by}
use Rattle.std.specs.List.{slice_get}
use Rattle.std.proofs.lemmas.List.Sums.{sum_by_more}
use Rattle.std.proofs.lemmas.Option.{get_or_from_slice_get, slice_get_within}
use Rattle.convoy_packets.specs.declared.packet.Packet.{Packet}
use Rattle.convoy_toml.specs.declared.share.TheConstants.{WHOLE_SHARE}

pub one_more : (f : Packet → ℕ) (packets : List Packet) (i sum share capped new : ℕ) (packet : Packet) → slice_get packets i ≡ Some packet
    → sum ≡ min (sum_by f (take i packets)) WHOLE_SHARE → share ≡ f packet → capped ≡ min (share + sum) (2 ^ 64 - 1) → new ≡ min WHOLE_SHARE capped
    → new ≡ min (sum_by f (take (i + 1) packets)) WHOLE_SHARE
one_more f packets i sum share capped new packet there so_far shared added made =
    let more = sum_by_more f packets i packet (slice_get_within packets i packet there) in
    let at = ap f (get_or_from_slice_get packets i packet packet there) in
    omega (arith, so_far, shared, added, made, more, at)
