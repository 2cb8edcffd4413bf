use Rattle.std.proofs.Common.{◌≡◌, ◌≤◌, ℕ, List, length, Ok, sym, ap₂, subst, subst₂, ◌∙◌}
use Rattle.convoy_scenario.specs.Scenario.{Scenario}
use Rattle.convoy_kinds.specs.Checks.{checks, judge}
use Rattle.convoy_kinds.specs.Kinds.{IsKinds, Kind}
use Rattle.convoy_kinds.specs.Numbering.{kinds_from, table_names}
use Rattle.convoy_kinds.specs.Shape.{WrittenKind}
use Rattle.convoy_kinds.proofs.Formed.{formed, kept_by}
use Rattle.convoy_kinds.proofs.read.checked_kinds.Goals as goal

pub returns-clause-formed : goal.returns-clause-formed
returns-clause-formed c some few =
    let setting : Scenario = c.args.setting.now in
    let tables : List WrittenKind = c.args.tables.now in
    let asked = c.deref.ensures.value ∙ c.in_ok-groups.ensures in
    let asked_places = c.deref-2.ensures.value ∙ c.in_ok-places.ensures in
    let numbered = c.deref-3.ensures.value ∙ c.in_ok-groups.ensures in
    let numbered_places = c.deref-4.ensures.value ∙ c.in_ok-places.ensures in
    let kept : judge (checks setting.groups setting.places (table_names tables) tables) ≡ Ok tt =
    kept_by _ _ _ setting.groups setting.places (table_names tables) tables asked asked_places c.requires (sym c.in_ok-check.ensures) in
    let kinds : c.in_ok-kinds_of.field-0.items ≡ kinds_from 0 setting.groups setting.places tables =
    c.in_ok-kinds_of.ensures ∙ ap₂ (λ (groups places : List (List ℕ)). kinds_from 0 groups places tables) numbered numbered_places in
    subst₂ (λ (names : List (List ℕ)) (all : List Kind). IsKinds (record { setting = setting; unit = c.args._unit; tables = names; kinds = all })) (sym c.requires) (sym kinds)
    (formed setting tables c.group_count-count.ensures.lawful kept c.args._unit (subst (λ (all : List Kind). 1 ≤ length all) kinds some) (subst (λ (all : List Kind). length all ≤ 4096) kinds few))
