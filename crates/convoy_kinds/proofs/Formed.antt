-- Tables that keep the rules write kinds that are well formed.
use Rattle.std.proofs.Common.{All, ◌≡◌, ℕ, ◌+◌, ◌<◌, ◌≤◌, ◌==◌, zero, suc, ℤ, pos, negsuc, Bool, true, false, cond, nat_le, inl, inr, List, [], ◌∷◌, length, map, Option, Some, None, Result, Ok, Err, refl, sym, ap, subst, ◌∙◌, leb-true, arith}
use Rattle.std.specs.List.{AllByRecursion, list_all, range_with_len}
use Rattle.std.specs.List.Sorted.{IsStrictlyIncreasing}
use Rattle.std.specs.Str.{bytes_eq}
use Rattle.std.proofs.lemmas.Bool.{and_parts, cases_Bool, eqb-true, false≢true}
use Rattle.std.proofs.lemmas.List.{length-map}
use Rattle.std.proofs.lemmas.List.Elements.{All-filter}
use Rattle.std.proofs.lemmas.List.FromFn.{get_or-range_with_len, length-range_with_len}
use Rattle.std.proofs.lemmas.List.Kept.{IsStrictlyIncreasing-filter}
use Rattle.std.proofs.lemmas.List.Sums.{AllPass-from_list_all}
use Rattle.std.proofs.lemmas.Slice.Eq.{bytes_eq-Decides}
use Rattle.std.proofs.lemmas.Bool.Decides.{nat_tests}
use Rattle.convoy_draft.specs.Checks.{is_among, is_count, is_known_sender, is_within, ticks}
use Rattle.convoy_draft.specs.declared.duration.TimeUnit.{TimeUnit}
use Rattle.convoy_draft.specs.Names.{is_name}
use Rattle.convoy_scenario.specs.declared.sender.Sender.{Sender}
use Rattle.convoy_scenario.specs.Numbering.{numbers_of, place, sender_of}
use Rattle.convoy_scenario.specs.Scenario.{Scenario}
use Rattle.convoy_scenario.specs.WellFormed.{IsScenario, IsSender}
use Rattle.convoy_scenario.proofs.NumberLemmas.{numbers_below, numbers_rise, numbers_some}
use Rattle.convoy_scenario.proofs.NumberedLemmas.{groups_distinct}
use Rattle.convoy_scenario.proofs.PlaceLemmas.{name_at_place, place_within}
use Rattle.convoy_sim.proofs.Membership.{IsIn, in_append_cases, in_of_filter, in_of_flat_map, in_of_map}
use Rattle.convoy_kinds.specs.declared.fault.KindsFault.{KindsFault}
use Rattle.convoy_kinds.specs.Checks.{KindsCheck, are_known, are_senders, are_sizes, are_some, checks, judge, knows}
use Rattle.convoy_kinds.specs.Kinds.{IsKind, IsKindsIfCounted, Kind}
use Rattle.convoy_kinds.specs.Numbering.{is_in_set, kinds_by, kinds_from, senders_in, set_of, sets_in, sets_of_size, table_names}
use Rattle.convoy_kinds.specs.Shape.{WrittenKind}

-- where no rule has a fault, each holds
next_holds : (b : Bool) (fault : KindsFault) (rest : Result (Unit {0}) KindsFault) → cond b rest (Err fault) ≡ Ok tt → (b ≡ true) × (rest ≡ Ok tt)
next_holds true fault rest h = (refl, h)
next_holds false fault rest h = cc

all_hold : (rules : List KindsCheck) → judge rules ≡ Ok tt → AllByRecursion (λ rule. rule.0 ≡ true) rules
all_hold [] h = tt
all_hold (rule ∷ rules) h =
    let next = next_holds rule.0 rule.1 (judge rules) h in
    (next.0, all_hold rules next.1)

-- what holds of each element holds at each place
all_from_in : {X : Type 0} (P : X → Type 0) (xs : List X) → ((x : X) → IsIn x xs → P x) → All P xs
all_from_in P [] h k past within = absurd (omega arith)
all_from_in P (x ∷ xs) h zero past within = h x (inl refl)
all_from_in P (x ∷ xs) h (suc k) past within = all_from_in P xs (λ y i. h y (inr i)) k past (omega arith)

-- a test that all elements of a list pass
passed : {X : Type 0} (p : X → Bool) (x : X) (xs : List X) → IsIn x xs → list_all p xs ≡ true → p x ≡ true
passed p x [] i h = absurd i
passed p x (y ∷ ys) (inl e) h = ap p (sym e) ∙ (and_parts (p y) (list_all p ys) h).0
passed p x (y ∷ ys) (inr i) h = passed p x ys i (and_parts (p y) (list_all p ys) h).1

-- a set of so many groups to which a message may go
record IsSet (groups : ℕ) (set : List ℕ) : Type 0 where
  some : 0 < length set
  ascending : IsStrictlyIncreasing set
  known : All (λ g. g < groups) set

range_rises : (n : ℕ) → IsStrictlyIncreasing (range_with_len 0 n)
range_rises n k within =
    let low : k < n = omega (arith, length-range_with_len 0 n) in
    let high : k + 1 < n = omega (arith, length-range_with_len 0 n) in
    rw (get_or-range_with_len 0 n k 0 low, get_or-range_with_len 0 n (k + 1) 0 high) (omega arith)

range_below : (n : ℕ) → All (λ g. g < n) (range_with_len 0 n)
range_below n k past within =
    let low : k < n = omega (arith, length-range_with_len 0 n) in
    rw (get_or-range_with_len 0 n k past low) (omega arith)

-- a size within 1 to the groups is no less in ticks
ticks_low : (groups : ℕ) (size : ℤ) → groups ≤ 8 → is_within 1 groups size ≡ true → 1 ≤ ticks 8 size
ticks_low groups (pos n) few h =
    let parts = and_parts (nat_le 1 n) (nat_le n groups) h in
    let low = leb-true 1 n parts.0 in
    let high = leb-true n groups parts.1 in
    grind (arith, nat_tests)
ticks_low groups (negsuc n) few h = absurd (false≢true h)

sized_is_set : (groups size : ℕ) (set : List ℕ) → 1 ≤ size → IsIn set (sets_of_size groups size) → IsSet groups set
sized_is_set groups size set low i =
    let kept = in_of_filter (λ (s : List ℕ). length s == size) set (map (set_of groups) (range_with_len 0 _)) i in
    let from = in_of_map (set_of groups) set (range_with_len 0 _) kept.0 in
    let long = eqb-true (length set) size kept.1 in
    record {
      some = omega arith;
      ascending = subst IsStrictlyIncreasing from.2 (IsStrictlyIncreasing-filter (is_in_set groups from.0) _ (range_rises groups));
      known = subst (λ (s : List ℕ). All (λ g. g < groups) s) from.2 (All-filter (is_in_set groups from.0) (λ g. g < groups) _ (range_below groups));
    }

-- some group of those that are named is a group
named_is_set : (groups named : List (List ℕ)) → list_all (λ name. is_among name groups) named ≡ true → nat_le 1 (length named) ≡ true → IsSet (length groups) (numbers_of groups named)
named_is_set groups [] known some = absurd (false≢true some)
named_is_set groups (name ∷ named) known some =
    let here = (and_parts (is_among name groups) (list_all (λ other. is_among other groups) named) known).0 in
    let at = name_at_place name groups here in
    record {
      some = numbers_some groups (name ∷ named) (place name groups) (place_within (bytes_eq name) groups here) (rw at (rw ((bytes_eq-Decides name name).1 refl) refl));
      ascending = numbers_rise groups (name ∷ named);
      known = numbers_below groups (name ∷ named);
    }

-- what has a name that is known sends
named_sender : (groups places : List (List ℕ)) (name : List ℕ) → is_known_sender groups places (Some name) ≡ true → IsSender (length groups) (length places) (sender_of groups places (Some name))
named_sender groups places name known = elim (cases_Bool (is_among name groups)) [
  | inl group ↦ rw group (place_within (bytes_eq name) groups group)
  | inr client ↦
      let there : is_among name places ≡ true = rw client at known in
      let below = place_within (bytes_eq name) places there in
      rw client (omega (arith, below))
]

sender_known : (groups places : List (List ℕ)) (senders : Option (List (List ℕ))) (sender : Sender) → are_senders groups places senders ≡ true → IsIn sender (senders_in groups places senders)
    → IsSender (length groups) (length places) sender
sender_known groups places None sender known (inl e) = subst (IsSender (length groups) (length places)) e (omega arith)
sender_known groups places None sender known (inr i) = absurd i
sender_known groups places (Some names) sender known i =
    let from = in_of_map (λ (name : List ℕ). sender_of groups places (Some name)) sender names i in
    subst (IsSender (length groups) (length places)) from.2
    (named_sender groups places from.0 (passed (λ name. is_known_sender groups places (Some name)) from.0 names from.1 known))

-- what the rules say of one table
record Keeps (groups places : List (List ℕ)) (table : WrittenKind) : Type 0 where
  sizes : are_sizes (length groups) table.sizes ≡ true
  known : knows groups places table ≡ true
  some : are_some table.to ≡ true

sets_are_sets : (groups : List (List ℕ)) (to : Option (List (List ℕ))) (sizes : Option (List ℤ)) (name : List ℕ) (senders : Option (List (List ℕ))) (set : List ℕ) → length groups ≤ 8
    → are_sizes (length groups) sizes ≡ true → are_known groups to ≡ true → are_some to ≡ true
    → IsIn set (sets_in groups (record { name = name; senders = senders; to = to; sizes = sizes })) → IsSet (length groups) set
sets_are_sets groups (Some names) sizes name senders set few sized known some (inl e) = subst (IsSet (length groups)) e (named_is_set groups names known some)
sets_are_sets groups (Some names) sizes name senders set few sized known some (inr i) = absurd i
sets_are_sets groups None None name senders set few sized known some i = absurd i
sets_are_sets groups None (Some sizes) name senders set few sized known some i =
    let from = in_of_flat_map (λ (size : ℤ). sets_of_size (length groups) (ticks 8 size)) set sizes i in
    let within = (and_parts (list_all (λ size. is_within 1 (length groups) size) sizes) _ (and_parts (is_count (length groups) sizes) _ sized).1).0 in
    sized_is_set (length groups) (ticks 8 from.0) set (ticks_low (length groups) from.0 few (passed (λ size. is_within 1 (length groups) size) from.0 sizes from.1 within)) from.2

-- so the kinds of a table are kinds
kinds_of_table : (count t : ℕ) (groups places : List (List ℕ)) (table : WrittenKind) → t < count → length groups ≤ 8 → Keeps groups places table → (kind : Kind)
    → IsIn kind (kinds_by t (sets_in groups table) (senders_in groups places table.senders)) → IsKind count (length groups) (length places) kind
kinds_of_table count t groups places table below few keeps kind i =
    let of_sender = in_of_flat_map (λ (sender : Sender). map (λ set. let k : Kind = record { table = t; sender = sender; destinations = set } in k) (sets_in groups table)) kind (senders_in groups places table.senders) i in
    let of_set = in_of_map (λ (set : List ℕ). let k : Kind = record { table = t; sender = of_sender.0; destinations = set } in k) kind (sets_in groups table) of_sender.2 in
    let parts = and_parts (are_senders groups places table.senders) (are_known groups table.to) keeps.known in
    let sent = sender_known groups places table.senders of_sender.0 parts.0 of_sender.1 in
    let set = sets_are_sets groups table.to table.sizes table.name table.senders of_set.0 few keeps.sizes parts.1 keeps.some of_set.1 in
    subst (IsKind count (length groups) (length places)) of_set.2 (record { table = below; sender = sent; destinations = set.some; ascending = set.ascending; known = set.known })

kinds_of_all : (count t : ℕ) (groups places : List (List ℕ)) (tables : List WrittenKind) → t + length tables ≤ count → length groups ≤ 8
    → ((table : WrittenKind) → IsIn table tables → Keeps groups places table) → (kind : Kind) → IsIn kind (kinds_from t groups places tables) → IsKind count (length groups) (length places) kind
kinds_of_all count t groups places [] most few keep kind i = absurd i
kinds_of_all count t groups places (table ∷ tables) most few keep kind i =
    elim (in_append_cases kind (kinds_by t (sets_in groups table) (senders_in groups places table.senders)) (kinds_from (t + 1) groups places tables) i) [
      | inl here ↦ kinds_of_table count t groups places table (omega arith) few (keep table (inl refl)) kind here
      | inr later ↦ kinds_of_all count (t + 1) groups places tables (omega arith) few (λ other j. keep other (inr j)) kind later
    ]

-- the rules for the names as they are asked hold for the same names
pub kept_by : (groups places names setting_groups setting_places table_names : List (List ℕ)) (tables : List WrittenKind) → groups ≡ setting_groups → places ≡ setting_places → names ≡ table_names
    → judge (checks groups places names tables) ≡ Ok tt → judge (checks setting_groups setting_places table_names tables) ≡ Ok tt
kept_by groups places names setting_groups setting_places table_names tables same too alike kept =
    subst (λ (gs : List (List ℕ)). judge (checks gs setting_places table_names tables) ≡ Ok tt) same
    (subst (λ (ps : List (List ℕ)). judge (checks groups ps table_names tables) ≡ Ok tt) too
    (subst (λ (ns : List (List ℕ)). judge (checks groups places ns tables) ≡ Ok tt) alike kept))

pub formed : (setting : Scenario) (tables : List WrittenKind) → IsScenario setting → judge (checks setting.groups setting.places (table_names tables) tables) ≡ Ok tt
    → (unit : Option TimeUnit) → IsKindsIfCounted (record { setting = setting; unit = unit; tables = table_names tables; kinds = kinds_from 0 setting.groups setting.places tables })
formed setting tables well kept unit some few =
    let rules = all_hold (checks setting.groups setting.places (table_names tables) tables) kept in
    let count = and_parts (nat_le 1 (length tables)) _ rules.0 in
    let same = length-map tables (λ (table : WrittenKind). table.name) in
    let low = leb-true _ _ count.0 in
    let high = leb-true _ _ count.1 in
    record {
      setting = well;
      tables_low = omega arith;
      tables_high = omega arith;
      names = AllPass-from_list_all is_name (table_names tables) rules.1.1.0;
      names_differ = groups_distinct (table_names tables) rules.1.1.1.0;
      kinds_low = some;
      kinds_high = few;
      known = all_from_in _ _
          (kinds_of_all (length (table_names tables)) 0 setting.groups setting.places tables (omega arith) well.groups_high
          (λ table i. record {
            sizes = passed (λ (t : WrittenKind). are_sizes (length setting.groups) t.sizes) table tables i rules.1.0;
            known = passed (knows setting.groups setting.places) table tables i rules.1.1.1.1.0;
            some = passed (λ (t : WrittenKind). are_some t.to) table tables i rules.1.1.1.1.1.0;
          }));
    }
