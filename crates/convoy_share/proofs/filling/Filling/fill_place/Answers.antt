use Rattle.std.specs.List.{sum_by}
use Rattle.std.proofs.Common.{reverse, arith, ap, length, [], length-append}
use Rattle.std.proofs.lemmas.List.{length-reverse}
use Rattle.std.proofs.lemmas.List.Sums.{sum_by-set}
use Rattle.convoy_share.specs.Filling.{slot_at}
use Rattle.convoy_share.proofs.Fillings.{IsFilling-filled, IsFilling-by, place_below}
use Rattle.convoy_share.proofs.filling.Filling.fill_place.Goals as goal

pub fill-requires : goal.fill-requires
fill-requires c =
    let r = c.requires in
    place_below r.0 r.1 r.2 r.3 r.4 c.args.self.now.done.items (reverse c.args.self.now.rest.items) c.args.number c.args.self.now.slots.items r.5

pub returns-clause-filling : goal.returns-clause-filling
returns-clause-filling c bounds scenario seen tickets put filling =
    let old = c.args.self.now in
    let next = IsFilling-filled bounds scenario seen tickets put old.done.items (reverse old.rest.items) c.args.number old.slots.items filling in
    let told = c.in_ok-fill.ensures in
    IsFilling-by bounds scenario seen tickets put _ c.fill.new.self.done.items _ (reverse c.fill.new.self.rest.items) _ c.fill.new.self.slots.items told.done told.rest told.slots next

pub returns-clause-pieces : goal.returns-clause-pieces
returns-clause-pieces c =
    let old = c.args.self.now in
    let told = c.in_ok-fill.ensures in
    let r = c.requires in
    let slot = slot_at old.slots.items c.args.number in
    let low = place_below r.0 r.1 r.2 r.3 r.4 old.done.items (reverse old.rest.items) c.args.number old.slots.items r.5 in
    omega (arith, ap length told.rest, ap (sum_by length) told.slots, sum_by-set length old.slots.items c.args.number [] [] low, length-append slot (reverse old.rest.items), length-reverse old.rest.items, length-reverse c.fill.new.self.rest.items)
