-- The row of the greatest ceiling: there is one, and it is one of the rows.
use Rattle.std.proofs.Common.{◌≡◌, ℕ, ◌+◌, ◌<◌, ◌≤◌, ◌==◌, inl, inr, List, [], ◌∷◌, length, map, None, Some, refl, sym, ap, subst, ◌∙◌, arith}
use Rattle.std.proofs.lemmas.Bool.{eq-eqb}
use Rattle.std.proofs.lemmas.List.{length-map}
use Rattle.convoy_scenario.specs.Scenario.{Message, message_at, message_numbers}
use Rattle.convoy_sim.proofs.Membership.{IsIn, all-in, find-in, greatest_is_one, in-flat_map, in-map, in-range, in_of_find}
use Rattle.convoy_kinds.specs.declared.ceiling_row.CeilingRow.{CeilingRow}
use Rattle.convoy_kinds.specs.Ceilings.{AreCeilingRows, IsCeilingRow, kind_targets, row_target, targets_of_kind}
use Rattle.convoy_kinds.specs.Kinds.{IsKinds, Kinds, all_kinds, kind_at, named, no_kind}
use Rattle.convoy_kinds.proofs.AllKinds.{message_is}
use Rattle.convoy_kinds_told.specs.Worst.{greatest_ceiling, worst_of}

some_in : (xs : List ℕ) → 0 < length xs → (x : ℕ) × IsIn x xs
some_in [] some = absurd (omega arith)
some_in (x ∷ xs) some = (x, inl refl)

-- the first kind goes somewhere
some_target : (kinds : Kinds) → IsKinds kinds → (target : ℕ × ℕ) × IsIn target (kind_targets kinds)
some_target kinds well =
    let kind = well.known 0 no_kind well.kinds_low in
    let goes = some_in (kind_at kinds 0).destinations kind.destinations in
    let at : IsIn goes.0 (message_at (all_kinds kinds) 0).destinations = subst (λ (m : Message). IsIn goes.0 m.destinations) (sym (message_is kinds 0)) goes.1 in
    let same = length-map kinds.kinds (named []) in
    let first : IsIn 0 (message_numbers (all_kinds kinds)) =
    in-range 0 0 (length (map (named []) kinds.kinds)) (omega arith) (let some = well.kinds_low in omega arith) in (
      (0, goes.0),
      in-flat_map (targets_of_kind kinds) 0 (0, goes.0) (message_numbers (all_kinds kinds)) first
          (in-map (λ (g : ℕ). (0, g)) goes.0 (message_at (all_kinds kinds) 0).destinations at),
    )

-- so there is a row of the greatest ceiling
pub some_worst : (kinds : Kinds) (rows : List CeilingRow) → IsKinds kinds → AreCeilingRows kinds rows → None ≡ worst_of rows → ⊥
some_worst kinds [] well are none =
    let target = some_target kinds well in
    subst (IsIn target.0) (sym are.targets) target.1
some_worst kinds (row ∷ rows) well are none =
    let top = greatest_is_one (λ (r : CeilingRow). r.ceiling) row rows in
    let found = find-in (λ (r : CeilingRow). r.ceiling == greatest_ceiling (row ∷ rows)) top.0 (row ∷ rows) top.1 (eq-eqb _ _ top.2) in
    let is = none ∙ found.1 in
    cc

-- and it tells its ceiling
pub worst_tells : (kinds : Kinds) (rows : List CeilingRow) (worst : CeilingRow) → AreCeilingRows kinds rows → Some worst ≡ worst_of rows → IsCeilingRow kinds worst
worst_tells kinds rows worst are is =
    all-in (IsCeilingRow kinds) worst rows are.told (in_of_find (λ (r : CeilingRow). r.ceiling == greatest_ceiling rows) worst rows (sym is)).0
