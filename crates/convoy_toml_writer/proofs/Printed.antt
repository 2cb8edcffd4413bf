-- The lines of the document are such as its reader takes: values are not too deep, and have no dates.
use Rattle.std.proofs.Common.{◌≡◌, ℕ, ◌≤◌, Bool, true, false, List, [], ◌∷◌, ◌++◌, map, codes, Option, Some, None, option_map, refl, arith, IfSome, inl, inr}
use Rattle.std.specs.List.{flat_map, AllByRecursion}
use Rattle.std.proofs.lemmas.Bool.{cases_Bool}
use Rattle.toml.specs.Data.{Data, string, array, depth, items_depth, has_valid_dates, items_have_valid_dates}
use Rattle.toml.specs.Tables.{Expression}
use Rattle.toml.specs.View.{items_of}
use Rattle.toml.proofs.ReadLines.{AllPrinted}
use Rattle.convoy_draft.specs.declared.time.Time.{Time}
use Rattle.convoy_draft.specs.declared.time.Time.TheVariants.{Ticks, Real}
use Rattle.convoy_scenario.specs.Naming.{sender_name}
use Rattle.convoy_scenario.specs.Scenario.{Message, Scenario, group_name_at, may_wait}
use Rattle.convoy_packets.specs.Assignment.{Schedule}
use Rattle.convoy_packets.specs.Order.{Order}
use Rattle.convoy_packets.specs.OrderLists.{is_no_order}
use Rattle.convoy_toml_writer.proofs.Document.{Pairs, pair_lines, array_lines, time_data, least_data, tick_data, order_data, places_data, stamps_data, until_data, head_of, head_pairs, link_pairs, message_pairs, target_pairs, document_lines}

-- a value that is a text, a number or an array of such
abbrev IsShallow : Data → Type 0
IsShallow d = (depth d ≤ 80) × (has_valid_dates d ≡ true)

AllPrinted-append : (es fs : List Expression) → AllPrinted es → AllPrinted fs → AllPrinted (es ++ fs)
AllPrinted-append [] fs a b = b
AllPrinted-append (e ∷ es) fs a b = (a.0, AllPrinted-append es fs a.1 b)

pairs_printed : (ps : Pairs) → AllByRecursion (λ p. IfSome p.1 IsShallow) ps → AllPrinted (pair_lines ps)
pairs_printed [] shallow = tt
pairs_printed ((key, None) ∷ ps) shallow = pairs_printed ps shallow.1
pairs_printed ((key, Some d) ∷ ps) shallow = ((refl, shallow.0.0, shallow.0.1), pairs_printed ps shallow.1)

tables_printed : {A : Type 0} (key : List ℕ) (pairs_of : A → Pairs) (xs : List A) → ((x : A) → AllByRecursion (λ p. IfSome p.1 IsShallow) (pairs_of x)) → AllPrinted (flat_map (λ x. array_lines key (pairs_of x)) xs)
tables_printed key pairs_of [] shallow = tt
tables_printed key pairs_of (x ∷ xs) shallow =
    (omega arith, AllPrinted-append (pair_lines (pairs_of x)) (flat_map (λ y. array_lines key (pairs_of y)) xs) (pairs_printed (pairs_of x) (shallow x)) (tables_printed key pairs_of xs shallow))

flat_items : {A : Type 0} (f : A → Data) (xs : List A) → ((x : A) → depth (f x) ≡ 0) → items_depth (items_of (map f xs)) ≡ 0
flat_items f [] flat = refl
flat_items f (x ∷ xs) flat = rw (flat x, flat_items f xs flat) refl

dateless_items : {A : Type 0} (f : A → Data) (xs : List A) → ((x : A) → has_valid_dates (f x) ≡ true) → items_have_valid_dates (items_of (map f xs)) ≡ true
dateless_items f [] none = refl
dateless_items f (x ∷ xs) none = rw (none x, dateless_items f xs none) refl

array_shallow : {A : Type 0} (f : A → Data) (xs : List A) → ((x : A) → depth (f x) ≡ 0) → ((x : A) → has_valid_dates (f x) ≡ true) → IsShallow (array (items_of (map f xs)))
array_shallow f xs flat none = (omega (arith, flat_items f xs flat), dateless_items f xs none)

text_shallow : (text : List ℕ) → IsShallow (string text)
text_shallow text = (omega arith, refl)

time_shallow : (time : Time) → IfSome (time_data time) IsShallow
time_shallow Ticks = tt
time_shallow Real = text_shallow (codes "real")

least_shallow : (time : Time) → IfSome (least_data time) IsShallow
least_shallow Ticks = tt
least_shallow Real = (omega arith, refl)

tick_shallow : (tick : Option ℕ) → IfSome (tick_data tick) IsShallow
tick_shallow None = tt
tick_shallow (Some tick) = (omega arith, refl)

sender_shallow : (name : Option (List ℕ)) → IfSome (option_map string name) IsShallow
sender_shallow None = tt
sender_shallow (Some name) = (omega arith, refl)

places_shallow : (places : List (List ℕ)) → IfSome (places_data places) IsShallow
places_shallow [] = tt
places_shallow (place ∷ places) = array_shallow string (place ∷ places) (λ x. refl) (λ x. refl)

stamps_shallow : (stamps : Bool) → IfSome (stamps_data stamps) IsShallow
stamps_shallow true = (omega arith, refl)
stamps_shallow false = tt

until_shallow : (message : Message) → IfSome (until_data message) IsShallow
until_shallow message =
    elim (cases_Bool (may_wait message)) [
      | inl waits ↦ rw waits (omega arith, refl)
      | inr known ↦ rw known tt
    ]

order_shallow : (scenario : Scenario) (order : Order) → IfSome (order_data scenario order) IsShallow
order_shallow scenario order =
    elim (cases_Bool (is_no_order order)) [
      | inl none ↦ rw none tt
      | inr some ↦ rw some (array_shallow _ _ (λ n. refl) (λ n. refl))
    ]

-- all lines of the document are
pub document_printed : (scenario : Scenario) (schedule : Schedule) → AllPrinted (document_lines scenario schedule)
document_printed scenario schedule =
    AllPrinted-append _ _
    (pairs_printed (head_pairs (head_of scenario schedule))
    (time_shallow scenario.time, (tick_shallow scenario.tick, ((omega arith, refl), (least_shallow scenario.time, (array_shallow string scenario.groups (λ x. refl) (λ x. refl), (places_shallow scenario.places, (array_shallow _ schedule.delays (λ n. refl) (λ n. refl), (order_shallow scenario schedule.order, tt)))))))))
    (AllPrinted-append _ _
    (tables_printed (codes "link") (link_pairs scenario) scenario.links (λ link. (sender_shallow (sender_name scenario link.sender), ((omega arith, refl), ((omega arith, refl), ((omega arith, refl), (stamps_shallow link.stamps, tt)))))))
    (AllPrinted-append _ _
    (tables_printed (codes "multicast") (message_pairs scenario) scenario.multicasts (λ m. ((omega arith, refl), (sender_shallow (sender_name scenario m.sender), (array_shallow string (map (group_name_at scenario) m.destinations) (λ x. refl) (λ x. refl), ((omega arith, refl), (until_shallow m, tt)))))))
    (omega arith, pairs_printed (target_pairs scenario) ((omega arith, refl), ((omega arith, refl), tt)))))
