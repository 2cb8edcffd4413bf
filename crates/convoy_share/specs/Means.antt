-- What a worker looks, publishes and draws with, from step to step.
use Rattle.std.specs.Prelude.{◌≡◌, ◌⊎◌, ℕ, ◌+◌, ◌≤◌, List, [], Bool, false, true, length}
use Rattle.convoy_scenario.specs.Scenario.{Scenario}
use Rattle.convoy_regions.specs.Regions.{Region}
use Rattle.convoy_regions.specs.Branches.{Branch}
use Rattle.convoy_branch.specs.declared.bounds.Bounds.{Bounds}
use Rattle.convoy_share.specs.declared.means.Means.{Means}
use Rattle.convoy_share.specs.declared.means.TakenUp.{TakenUp}
use Rattle.convoy_share.specs.declared.means.TakenUp.TheVariants.{Turned, Left}
use Rattle.convoy_share.specs.declared.piece.Piece.{Piece}
use Rattle.convoy_share.specs.Pieces.{left_regions}
use Rattle.convoy_share.specs.Subtrees.{IsUnderWay}
use Rattle.convoy_share.specs.Turns.{IsTurned}

-- the same board and ledger, as much share, and nothing forgotten
pub record IsLater (before after : Means) : Type 0 where
  pub board : after.hand.board ≡ before.hand.board
  pub ledger : after.clerk.ledger ≡ before.clerk.ledger
  pub hand : after.hand.share ≡ before.hand.share
  pub clerk : after.clerk.share ≡ before.clerk.share
  pub seen : before.hand.seen ≤ after.hand.seen
  pub done : before.clerk.done ≡ true → after.clerk.done ≡ true

-- how many tickets were drawn
abbrev pub drawn : Means → ℕ
drawn means = length means.clerk.tickets

-- nothing is promised of what is left: all tickets were drawn, or the search may be stopped
abbrev pub IsOver : Bool → Bool → Type 0
IsOver may_stop done = (done ≡ true) ⊎ (may_stop ≡ true)

-- what becomes of a branch that is taken up: a ticket is spent for its turn; or it is left, since there was none or the search was stopped
abbrev pub IsSpentFor : Bounds → Scenario → Bool → ℕ → Branch → Means → Means → TakenUp → Type 0
IsSpentFor bounds scenario may_stop most branch before after (Turned turn) =
    (drawn after ≡ drawn before + 1) × (drawn after ≤ most) × (before.clerk.done ≡ false) × IsTurned bounds scenario after.hand.seen branch.region turn
IsSpentFor bounds scenario may_stop most branch before after (Left left) =
    (left ≡ branch) × (drawn after ≡ drawn before) × IsOver may_stop after.clerk.done

pub record IsTakenUp (bounds : Bounds) (scenario : Scenario) (may_stop : Bool) (most : ℕ) (branch : Branch) (before after : Means) (taken : TakenUp) : Type 0 where
  pub later : IsLater before after
  pub ticket : IsSpentFor bounds scenario may_stop most branch before after taken

-- How far regions were searched that the worker took up: for each node it drew a ticket in between.
pub record IsGrown (bounds : Bounds) (scenario : Scenario) (before after : Means) (first put : List Region) (low : ℕ) (regions : List Region) (pieces : List Piece) : Type 0 where
  pub later : IsLater before after
  pub tickets : ℕ
  pub spent : drawn after ≡ drawn before + tickets
  pub way : IsUnderWay bounds scenario after.hand.seen first put low regions pieces tickets

-- unless all tickets were drawn or the search may be stopped, no branch is left among the pieces
abbrev pub IsLeftAtEnd : Bool → Means → List Piece → Type 0
IsLeftAtEnd may_stop means pieces = (left_regions pieces ≡ []) ⊎ IsOver may_stop means.clerk.done
