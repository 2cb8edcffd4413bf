use Rattle.std.proofs.Common.{◌≡◌, ℕ, ◌*◌, ◌-◌, length, sym, ap, ◌∙◌, arith}
use Rattle.std.specs.Int.{div_ceil}
use Rattle.std.proofs.lemmas.List.Sorted.{IsPermutation-refl}
use Rattle.convoy_trace_ranges.proofs.Ranks.{rank_of}
use Rattle.convoy_trace_ranges.proofs.Sharing.{at_rank}
use Rattle.convoy_trace_ranges.proofs.shares.share_within.Goals as goal

pub returns-clause-value : goal.returns-clause-value
returns-clause-value c =
    let count : ℕ = length c.args.sorted.now in
    let rank = rank_of c.args.share count c.requires.share.0 c.requires.share.1 c.requires.some in
    let same : c.div_ceil-rank.result ≡ div_ceil (c.args.share * count) 1000 =
    c.div_ceil-rank.ensures ∙ ap (λ (share : ℕ). div_ceil (share * count) 1000) c.from.ensures in
    sym (at_rank c.args.sorted.now c.requires.sorted c.args.sorted.now c.args.share (c.div_ceil-rank.result - 1) 0 (IsPermutation-refl c.args.sorted.now)
    (omega (arith, same, rank.some, rank.within)) (omega (arith, same, rank.some, rank.enough)) (omega (arith, same, rank.some, rank.few)))
