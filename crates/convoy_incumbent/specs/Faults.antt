-- What comes back with a fault, and where it comes.
use Rattle.std.specs.Prelude.{◌≡◌, ◌≢◌}
use Rattle.convoy_shares.specs.Shares.{whole}
use Rattle.convoy_incumbent.specs.Boards.{BoardId, Holding}
use Rattle.convoy_incumbent.specs.declared.fault.CloseFault.{CloseFault}
use Rattle.convoy_incumbent.specs.declared.fault.CloseFault.TheVariants.{HandsOut, Memory}

-- board and hand come back; hands are out only where the hand has not the whole share
abbrev pub GiveBack : BoardId → Holding → CloseFault → Type 0
GiveBack board hand (HandsOut board' hand') = (board' ≡ board) × (hand' ≡ hand) × (hand.share ≢ whole)
GiveBack board hand (Memory board' hand') = (board' ≡ board) × (hand' ≡ hand) × (hand.share ≡ whole)
