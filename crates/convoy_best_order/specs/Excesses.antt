-- By how much a latency exceeds what it is limited to: the latency less its limit, which is below nothing where the latency is below that.
use Rattle.std.specs.Prelude.{◌+◌, ◌≤◌, ◌<◌, nat_lt, Bool, List, Contains, All, if◌then◌else◌}
use Rattle.convoy_best_order.specs.declared.excess.Excess.{Excess}

-- the one is at most the other
abbrev pub IsAtMost : Excess → Excess → Type 0
IsAtMost excess other = excess.latency + other.limit ≤ other.latency + excess.limit

-- the one is less than the other
abbrev pub IsLess : Excess → Excess → Type 0
IsLess excess other = excess.latency + other.limit < other.latency + excess.limit

-- whether it is
abbrev pub is_less : Excess → Excess → Bool
is_less excess other = nat_lt (excess.latency + other.limit) (other.latency + excess.limit)

-- the lesser of two, and the greater
abbrev pub lesser : Excess → Excess → Excess
lesser excess other = if is_less other excess then other else excess

abbrev pub greater : Excess → Excess → Excess
greater excess other = if is_less excess other then other else excess

-- it is one of them, and none of them is less
pub record IsLeastOf (excesses : List Excess) (least : Excess) : Type 0 where
  pub one_of : Contains excesses least
  pub none_less : All (IsAtMost least) excesses

-- it is one of them, and none of them is greater
pub record IsGreatestOf (excesses : List Excess) (greatest : Excess) : Type 0 where
  pub one_of : Contains excesses greatest
  pub none_greater : All (λ excess. IsAtMost excess greatest) excesses
