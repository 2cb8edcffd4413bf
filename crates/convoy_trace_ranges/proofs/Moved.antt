-- Shares of delays in another order.
use Rattle.std.proofs.Common.{◌≡◌, ℕ, ◌+◌, ◌-◌, ◌*◌, ◌<◌, ◌≤◌, List, length, sym, ◌∙◌, arith}
use Rattle.std.specs.Prelude.{IsSorted, IsPermutation}
use Rattle.std.specs.Int.{div_ceil}
use Rattle.std.specs.Ordering.{nat_cmp}
use Rattle.std.proofs.lemmas.List.Sorted.{IsPermutation-refl, length_permutation}
use Rattle.convoy_trace_ranges.specs.Shares.{share_within}
use Rattle.convoy_trace_ranges.proofs.Ranks.{rank_of}
use Rattle.convoy_trace_ranges.proofs.Sharing.{at_rank}

pub moved_share : (xs s : List ℕ) (share : ℕ) → IsPermutation xs s → IsSorted nat_cmp s → 1 ≤ share → share ≤ 1000 → 1 ≤ length xs → share_within s share ≡ share_within xs share
moved_share xs s share moved up some few many =
    let same : length s ≡ length xs = length_permutation xs s moved in
    let rank = rank_of share (length s) some few (omega (arith, same)) in
    let r : ℕ = div_ceil (share * length s) 1000 - 1 in
    let below : r < length s = omega (arith, rank.some, rank.within) in
    let enough : share * length s ≤ 1000 * (r + 1) = omega (arith, rank.some, rank.enough) in
    let less : 1000 * r < share * length s = omega (arith, rank.some, rank.few) in
    at_rank s up s share r 0 (IsPermutation-refl s) below enough less ∙ sym (at_rank s up xs share r 0 moved below enough less)
