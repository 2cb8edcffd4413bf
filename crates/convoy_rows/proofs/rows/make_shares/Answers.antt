use Rattle.std.proofs.Common.{arith}
use Rattle.convoy_rows.proofs.rows.make_shares.Goals as goal

pub returns : goal.returns
returns g c = λ k d small. (c.in_ok-shares.ensures.each k d (omega (arith, c.in_ok-shares.ensures.len, small))).1.met
