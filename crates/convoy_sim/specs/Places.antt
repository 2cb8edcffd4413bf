-- Tables with an entry for each message at each group.
use Rattle.std.specs.Prelude.{◌≡◌, ◌≢◌, ℕ, ◌<◌, List, slice_index}
use Rattle.convoy_draft.specs.declared.limits.TheConstants.{MOST_GROUPS}
use Rattle.convoy_packets.specs.Order.{place}

-- the entries of message m at the first groups are those numbers
abbrev pub IsRow : (ℕ → ℕ) → ℕ → ℕ → List ℕ → Type 0
IsRow what groups m entries = (g : ℕ) → g < groups → slice_index entries (place m g) ≡ what g

-- the entries of all messages but m are kept
abbrev pub AreOthersKept : ℕ → List ℕ → List ℕ → Type 0
AreOthersKept m old new = (n g : ℕ) → n ≢ m → g < MOST_GROUPS → slice_index new (place n g) ≡ slice_index old (place n g)

-- the entries of the first messages at the first groups are those numbers
abbrev pub AreRows : (ℕ → ℕ → ℕ) → ℕ → ℕ → List ℕ → Type 0
AreRows what messages groups entries = (m : ℕ) → m < messages → IsRow (what m) groups m entries
