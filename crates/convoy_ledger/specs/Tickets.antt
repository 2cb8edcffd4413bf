-- What contracts see of a ledger and of a clerk.
use Rattle.std.specs.Prelude.{ℕ, ◌≡◌, ◌≤◌, List, Bool, true, length, ◌==◌}
use Rattle.std.specs.List.{count_by}
use Rattle.atomic_table.specs.Seated.{TableId}
use Rattle.convoy_shares.specs.Shares.{once_below}

-- which ledger it is, and how many tickets it has
pub record LedgerId : Type 0 where
  pub table : TableId
  pub most : ℕ

-- a clerk: its ledger, the tickets that it drew, its share, and whether it is done, as it found that all tickets are drawn
pub record Account : Type 0 where
  pub ledger : LedgerId
  pub tickets : List ℕ
  pub share : ℕ
  pub done : Bool

-- the most tickets that a ledger may have
abbrev pub most_tickets : ℕ
most_tickets = 281474976710656

abbrev pub list_length : List ℕ → ℕ
list_length numbers = length numbers

-- how often the number stands in the list
abbrev pub times : ℕ → List ℕ → ℕ
times x numbers = count_by (λ number. number == x) numbers

-- they are the numbers below n, each once
abbrev pub AreAllBelow : ℕ → List ℕ → Type 0
AreAllBelow n numbers = (x : ℕ) → times x numbers ≡ once_below x n

-- of a clerk with the whole share, and of the number of tickets drawn in all: its tickets are those below that number, each once, and where it is done these are all that the ledger has
pub record HasAll (clerk : Account) (drawn : ℕ) : Type 0 where
  pub within : drawn ≤ clerk.ledger.most
  pub count : length clerk.tickets ≡ drawn
  pub once : AreAllBelow drawn clerk.tickets
  pub done : clerk.done ≡ true → drawn ≡ clerk.ledger.most
