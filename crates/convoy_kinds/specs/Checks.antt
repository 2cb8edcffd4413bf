-- The rules for tables of kinds, in the order in which they are asked, among groups and places of these names.
use Rattle.std.specs.Prelude.{ℕ, ℤ, int_lt, nat_le, Bool, true, ◌&&◌, if◌then◌else◌, List, [], ◌∷◌, length, Option, Some, None, Result, Ok, Err}
use Rattle.std.specs.List.{list_all}
use Rattle.convoy_draft.specs.declared.fault.ScenarioFault.TheVariants as scenario
use Rattle.convoy_draft.specs.Checks.{all_differ, is_among, is_count, is_known_sender, is_within}
use Rattle.convoy_draft.specs.Names.{is_name}
use Rattle.convoy_kinds.specs.declared.fault.KindsFault.{KindsFault}
use Rattle.convoy_kinds.specs.declared.fault.KindsFault.TheVariants.{DoubleSender, OverLimit, Scenario}
use Rattle.convoy_kinds.specs.declared.fault.KindsLimit.TheVariants.{Sizes, Tables}
use Rattle.convoy_kinds.specs.declared.limits.TheConstants.{MOST_TABLES}
use Rattle.convoy_kinds.specs.Shape.{WrittenKind}

-- the number is below the first of these, if there is one
abbrev pub is_below_first : ℤ → List ℤ → Bool
is_below_first size [] = true
is_below_first size (next ∷ rest) = int_lt size next

-- each of the numbers is below the next
abbrev pub ascend : List ℤ → Bool
ascend [] = true
ascend (size ∷ rest) = is_below_first size rest && ascend rest

-- numbers of how many of so many groups: one or more, ascending, each from 1 to all
abbrev pub are_sizes : ℕ → Option (List ℤ) → Bool
are_sizes groups None = true
are_sizes groups (Some sizes) = is_count groups sizes && (list_all (λ size. is_within 1 groups size) sizes && ascend sizes)

-- the names that are written, if some are, are among the groups
abbrev pub are_known : List (List ℕ) → Option (List (List ℕ)) → Bool
are_known groups None = true
are_known groups (Some names) = list_all (λ name. is_among name groups) names

-- the names that are written, if some are, are one or more
abbrev pub are_some : Option (List (List ℕ)) → Bool
are_some None = true
are_some (Some names) = nat_le 1 (length names)

-- and no two of them are the same
abbrev pub do_differ : Option (List (List ℕ)) → Bool
do_differ None = true
do_differ (Some names) = all_differ names

-- the senders that are named, if some are, are among the groups and the places
abbrev pub are_senders : List (List ℕ) → List (List ℕ) → Option (List (List ℕ)) → Bool
are_senders groups places None = true
are_senders groups places (Some names) = list_all (λ name. is_known_sender groups places (Some name)) names

-- the senders of a table are known, and its destinations are among the groups
abbrev pub knows : List (List ℕ) → List (List ℕ) → WrittenKind → Bool
knows groups places table = are_senders groups places table.senders && are_known groups table.to

-- a rule and the fault that is told where it does not hold
abbrev pub KindsCheck : Type 0
KindsCheck = Bool × KindsFault

-- the rules, in order, where the names of the tables are these
abbrev pub checks : List (List ℕ) → List (List ℕ) → List (List ℕ) → List WrittenKind → List KindsCheck
checks groups places names tables =
    (is_count MOST_TABLES tables, OverLimit Tables)
    ∷ (list_all (λ table. are_sizes (length groups) table.sizes) tables, OverLimit Sizes)
    ∷ (list_all is_name names, Scenario scenario.BadName)
    ∷ (all_differ names, Scenario scenario.DoubleName)
    ∷ (list_all (knows groups places) tables, Scenario scenario.UnknownGroup)
    ∷ (list_all (λ table. are_some table.to) tables, Scenario scenario.NoDestination)
    ∷ (list_all (λ table. do_differ table.senders) tables, DoubleSender)
    ∷ (list_all (λ table. do_differ table.to) tables, Scenario scenario.DoubleDestination)
    ∷ []

-- the fault of the first rule that does not hold
abbrev pub judge : List KindsCheck → Result (Unit {0}) KindsFault
judge [] = Ok tt
judge (check ∷ rest) = if check.0 then judge rest else Err check.1
