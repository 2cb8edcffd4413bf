-- Lists of tickets.
use Rattle.std.proofs.Common.{◌≡◌, ℕ, ◌+◌, List, [], ◌∷◌, ◌++◌, arith}
use Rattle.std.proofs.lemmas.Bool.Decides.{nat_tests}
use Rattle.std.proofs.lemmas.List.Sums.{sum_by-append}
use Rattle.convoy_shares.specs.Shares.{once_below}
use Rattle.convoy_ledger.specs.Tickets.{times}

pub times-append : (x : ℕ) (xs ys : List ℕ) → times x (xs ++ ys) ≡ times x xs + times x ys
times-append x xs ys = sum_by-append _ xs ys

pub times_one : (x n : ℕ) → once_below x (n + 1) ≡ once_below x n + times x (n ∷ [])
times_one x n = grind (arith, nat_tests)
