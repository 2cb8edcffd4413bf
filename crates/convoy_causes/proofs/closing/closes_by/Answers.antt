use Rattle.std.proofs.Common.{◌≡◌, ◌<◌, ℕ, IsTrue, true, length, ap, subst, sym, ◌∙◌}
use Rattle.convoy_scenario.specs.Scenario.{Scenario}
use Rattle.convoy_causes.specs.Causes.{AreCauses}
use Rattle.convoy_causes.specs.CauseWindows.{has_room_from, scenario_from}
use Rattle.convoy_causes.proofs.MovedCauses.{causes_from, count_from}
use Rattle.convoy_causes.proofs.Told.{closing_told, from_some, never_closed, room_none, room_some}
use Rattle.convoy_causes.proofs.closing.closes_by.Goals as goal

pub returns-in_default-clause-value : goal.returns-in_default-clause-value
returns-in_default-clause-value c =
    never_closed c.args.instance.now c.args.causes.now c.args.origin c.args.within.now c.args.most
    (room_none c.args.instance.now c.args.origin c.in_ok-known.field-0 c.in_ok-known.ensures.room c.in_default.is)

pub narrow_windows-requires : goal.narrow_windows-requires
narrow_windows-requires c =
    let told : c.in-Some.known ≡ scenario_from c.args.instance.now c.args.origin = from_some c.args.instance.now c.args.origin c.in_ok-known.field-0 c.in-Some.known c.in_ok-known.ensures.some c.in-Some.is in
    subst (λ (s : Scenario). AreCauses s c.args.causes.now) (sym told) (causes_from c.args.instance.now c.args.causes.now c.args.origin c.requires.causes)

pub delivers_within-requires : goal.delivers_within-requires
delivers_within-requires c =
    let told : c.in-Some.known ≡ scenario_from c.args.instance.now c.args.origin = from_some c.args.instance.now c.args.origin c.in_ok-known.field-0 c.in-Some.known c.in_ok-known.ensures.some c.in-Some.is in
    let count = ap (λ (s : Scenario). length s.multicasts) told ∙ count_from c.args.instance.now c.args.origin in
    subst (λ (n : ℕ). c.args.origin < n) (sym count) c.requires.origin

pub returns-clause-value : goal.returns-clause-value
returns-clause-value c =
    let told : c.in-Some.known ≡ scenario_from c.args.instance.now c.args.origin = from_some c.args.instance.now c.args.origin c.in_ok-known.field-0 c.in-Some.known c.in_ok-known.ensures.some c.in-Some.is in
    let room : has_room_from c.args.instance.now c.args.origin ≡ true = room_some c.args.instance.now c.args.origin c.in_ok-known.field-0 c.in-Some.known c.in_ok-known.ensures.room c.in-Some.is in
    c.in_ok-closed.ensures
    ∙ closing_told c.args.instance.now c.args.causes.now c.args.origin c.args.within.now c.args.most c.in-Some.known c.in_ok-windows.windows room told c.in_ok-windows.ensures

pub returns-clause-holds : goal.returns-clause-holds
returns-clause-holds c closed =
    c.closed_by_causes.ensures c.args.instance.now c.args.causes.now c.args.origin c.args.within.now c.args.most c.in_ok-known.ensures.lawful c.requires.causes c.requires.origin
    (subst IsTrue (returns-clause-value c) closed)
