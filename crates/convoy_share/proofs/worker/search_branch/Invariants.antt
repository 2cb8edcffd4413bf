use Rattle.std.proofs.Common.{◌≡◌, ◌≤◌, ◌+◌, ◌*◌, ◌-◌, ℕ, [], ◌∷◌, length, reverse}
use Rattle.convoy_share.specs.Growing.{pieces_in}
use Rattle.convoy_share.specs.Means.{IsGrown, IsLeftAtEnd, drawn}
use Rattle.convoy_share.proofs.worker.search_branch.Given as goal

abbrev pub invariant-loop-growing : goal.invariant-loop-growing
invariant-loop-growing g l =
    let H = g.H.Halves in
    ((low : ℕ) → low ≤ length (H.put l.fn.halves) → IsGrown l.shared.bounds l.shared.instance.now l.fn.means l.means (H.put l.fn.halves) (H.put l.halves) low (l.fn.branch.region ∷ []) (pieces_in l.growing))
    × IsLeftAtEnd l.shared.limit.may_stop l.means (reverse l.growing.written.items)
    × (l.means.hand.board ≡ l.shared.board.now)
    × (l.means.clerk.ledger ≡ l.shared.ledger.now)
    × (H.fixed l.halves ≡ H.fixed l.fn.halves)

abbrev pub decreases-loop-growing : goal.decreases-loop-growing
decreases-loop-growing g l = 3 * (l.shared.ledger.now.most - drawn l.means) + length l.growing.work.items
