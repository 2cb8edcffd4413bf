-- The rank of a share.
use Rattle.std.proofs.Common.{◌≡◌, ℕ, zero, suc, ◌+◌, ◌*◌, ◌/◌, ◌%◌, ◌<◌, ◌≤◌, arith}
use Rattle.std.specs.Prelude.{min}
use Rattle.std.specs.Int.{div_ceil}

some_product : (a b : ℕ) → 1 ≤ a → 1 ≤ b → 1 ≤ a * b
some_product a b some some_more = grind arith

few_product : (a b n : ℕ) → a ≤ b → a * n ≤ b * n
few_product a b n few = grind arith

ranked : (p n : ℕ) → 1 ≤ p → p ≤ 1000 * n → (1 ≤ div_ceil p 1000) × (div_ceil p 1000 ≤ n) × (p ≤ 1000 * div_ceil p 1000) × (1000 * div_ceil p 1000 < p + 1000)
ranked p n some few = (omega arith, omega arith, omega arith, omega arith)

-- the rank of a share of so many
pub record IsRank (share n rank : ℕ) : Type 0 where
  pub some : 1 ≤ rank
  pub within : rank ≤ n
  pub enough : share * n ≤ 1000 * rank
  pub few : 1000 * rank < share * n + 1000

pub rank_of : (share n : ℕ) → 1 ≤ share → share ≤ 1000 → 1 ≤ n → IsRank share n (div_ceil (share * n) 1000)
rank_of share n some few many =
    let is = ranked (share * n) n (some_product share n some many) (few_product share 1000 n few) in
    record { some = is.0; within = is.1; enough = is.2; few = is.3 }
