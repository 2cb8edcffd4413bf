use Rattle.std.proofs.Common.{◌≡◌, ◌<◌, ℕ, true, length, ap, subst, sym, ◌∙◌}
use Rattle.convoy_scenario.specs.Scenario.{Scenario}
use Rattle.convoy_causes.specs.Causes.{AreCauses}
use Rattle.convoy_causes.specs.CauseWindows.{has_room_from, scenario_from}
use Rattle.convoy_causes.proofs.MovedCauses.{causes_from, count_from}
use Rattle.convoy_causes.proofs.Told.{asked_told, closing_told, from_some, room_some}
use Rattle.convoy_causes.proofs.closing.least_closing.Goals as goal

pub least_narrowed-requires : goal.least_narrowed-requires
least_narrowed-requires c =
    let told : c.in-Some.known ≡ scenario_from c.args.instance.now c.args.origin = from_some c.args.instance.now c.args.origin c.in_ok-known.field-0 c.in-Some.known c.in_ok-known.ensures.some c.in-Some.is in
    subst (λ (s : Scenario). AreCauses s c.args.causes.now) (sym told) (causes_from c.args.instance.now c.args.causes.now c.args.origin c.requires.causes)

pub least_time-requires : goal.least_time-requires
least_time-requires c =
    let told : c.in-Some.known ≡ scenario_from c.args.instance.now c.args.origin = from_some c.args.instance.now c.args.origin c.in_ok-known.field-0 c.in-Some.known c.in_ok-known.ensures.some c.in-Some.is in
    let count = ap (λ (s : Scenario). length s.multicasts) (c.in_ok-test.ensures.instance ∙ told) ∙ count_from c.args.instance.now c.args.origin in
    subst (λ (n : ℕ). c.args.origin < n) (sym count) c.requires.origin

pub returns-clause-closes : goal.returns-clause-closes
returns-clause-closes c =
    let told : c.in-Some.known ≡ scenario_from c.args.instance.now c.args.origin = from_some c.args.instance.now c.args.origin c.in_ok-known.field-0 c.in-Some.known c.in_ok-known.ensures.some c.in-Some.is in
    let room : has_room_from c.args.instance.now c.args.origin ≡ true = room_some c.args.instance.now c.args.origin c.in_ok-known.field-0 c.in-Some.known c.in_ok-known.ensures.room c.in-Some.is in
    sym (asked_told c.in_ok-test.test.instance.now c.in-Some.known c.in_ok-test.test.leads.windows c.in_ok-found.found.windows c.args.origin c.in_ok-most.most c.in_ok-test.ensures.instance c.in_ok-test.ensures.windows
    ∙ closing_told c.args.instance.now c.args.causes.now c.args.origin c.in_ok-found.found.within.items c.in_ok-most.most c.in-Some.known c.in_ok-found.found.windows room told c.in_ok-found.ensures.windows)
    ∙ c.in_ok-most.ensures

pub returns-clause-holds : goal.returns-clause-holds
returns-clause-holds c =
    c.closed_by_causes.ensures c.args.instance.now c.args.causes.now c.args.origin c.in_ok-found.found.within.items c.in_ok-most.most c.in_ok-known.ensures.lawful c.requires.causes c.requires.origin
    (returns-clause-closes c)
