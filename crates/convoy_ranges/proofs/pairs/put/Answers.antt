use Rattle.std.proofs.Common.{sym}
use Rattle.convoy_ranges.proofs.Pairing.{seen_at, seen_new}
use Rattle.convoy_ranges.proofs.pairs.put.Goals as goal

pub returns-in-Some : goal.returns-in-Some
returns-in-Some c =
    let is = sym (rw (c.in-Some.is, c.deref.ensures.value) at c.place_of.ensures.value) in
    rw (c.join.ensures, c.index_mut.ensures.value) (seen_at c.args.pairs.now.items c.args.seen.now _ c.in-Some.place is)

pub returns-in_ok-push-in-None : goal.returns-in_ok-push-in-None
returns-in_ok-push-in-None c =
    let is = sym (rw (c.in-None.is, c.deref.ensures.value) at c.place_of.ensures.value) in
    rw (c.in_ok-push-in-None.ensures.items, c.in_ok-copy-in-None.ensures) (seen_new c.args.pairs.now.items c.args.seen.now is)
