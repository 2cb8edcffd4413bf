use Rattle.std.proofs.Common.{◌≡◌, sym, ap, ◌∙◌}
use Rattle.std.specs.Prelude.{slice_set}
use Rattle.std.proofs.lemmas.Result.{on_ok_weaker}
use Rattle.convoy_trace_ranges.specs.Links.{Link, joined}
use Rattle.convoy_trace_ranges.proofs.Joining.{joined_at, joined_new}
use Rattle.convoy_trace_ranges.proofs.links.put.Goals as goal

pub returns-in-Some : goal.returns-in-Some
returns-in-Some c =
    let is = sym (rw (c.in-Some.is, c.deref.ensures.value) at c.place_of.ensures.value) in
    on_ok_weaker c.join.result
    (λ (joined_is : c.join.new.self ≡ joined c.index_mut.result.now c.args.packet.now).
    rw (joined_is, c.index_mut.ensures.value) (joined_at c.args.links.now.items c.args.packet.now _ c.in-Some.place is))
    c.join.ensures

pub returns-in_ok-push-in-None : goal.returns-in_ok-push-in-None
returns-in_ok-push-in-None c =
    let is = sym (rw (c.in-None.is, c.deref.ensures.value) at c.place_of.ensures.value) in
    rw (c.in_ok-push-in-None.ensures.items, c.in_ok-link-in-None.ensures) (joined_new c.args.links.now.items c.args.packet.now is)
