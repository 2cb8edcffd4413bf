use Rattle.std.proofs.Common.{◌≡◌, sym, ◌∙◌}
use Rattle.convoy_trace_ranges.specs.Marks.{has_mark}
use Rattle.convoy_trace_ranges.proofs.Marking.{found_below, found_nowhere, found_slot}
use Rattle.convoy_trace_ranges.proofs.traced.Traced.told_as.Goals as goal

pub entry_at-requires : goal.entry_at-requires
entry_at-requires c =
    let found = sym (c.self.invariant c.args.mark.now) ∙ sym (rw c.in-Some.is at c.get.ensures.value) in
    rw (c.entries.ensures, ← c.self.view_is) (found_below (has_mark c.args.mark.now) c.self.inside.entries.items c.in-Some.place.now found)

pub returns-in-Some : goal.returns-in-Some
returns-in-Some c =
    let found = sym (c.self.invariant c.args.mark.now) ∙ sym (rw c.in-Some.is at c.get.ensures.value) in
    let there = rw (c.entries.ensures, ← c.self.view_is) at c.entry_at.ensures in
    rw (← c.self.view_is) (sym (found_slot (has_mark c.args.mark.now) c.self.inside.entries.items c.in-Some.place.now found ∙ there))

pub returns-in-None : goal.returns-in-None
returns-in-None c =
    let none = sym (c.self.invariant c.args.mark.now) ∙ sym (rw c.in-None.is at c.get.ensures.value) in
    rw (← c.self.view_is) (sym (found_nowhere (has_mark c.args.mark.now) c.self.inside.entries.items none))
