-- Entries that are raised, or lowered, stay within a limit.
use Rattle.std.proofs.Common.{◌≤◌, ℕ, List, All, max, min, set, arith}
use Rattle.std.proofs.lemmas.List.Elements.{All-set}

pub all_raised : (entries : List ℕ) (place least entry most : ℕ) → least ≤ most → entry ≤ most
    → All (λ e. e ≤ most) entries → All (λ e. e ≤ most) (set entries place (max least entry))
all_raised entries place least entry most low high all = All-set (λ e. e ≤ most) entries place (max least entry) (omega arith) all

pub all_lowered : (entries : List ℕ) (place most entry last : ℕ) → entry ≤ last
    → All (λ e. e ≤ last) entries → All (λ e. e ≤ last) (set entries place (min most entry))
all_lowered entries place most entry last high all = All-set (λ e. e ≤ last) entries place (min most entry) (omega arith) all
