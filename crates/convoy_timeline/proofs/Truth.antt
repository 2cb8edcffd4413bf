-- Where a run tells the truth, the timeline that it tells is that of its schedule.
use Rattle.std.proofs.Common.{◌≡◌, ℕ, ◌<◌, ◌==◌, ◌++◌, true, List, [], ◌∷◌, Option, Some, unwrap_or, length, refl, ap, ap₂, arith}
use Rattle.std.proofs.lemmas.Bool.{eq-eqb, or_left, or_right}
use Rattle.std.proofs.lemmas.List.Elements.{All-nil, All-cons, All-head, All-tail, All-weaker}
use Rattle.std.proofs.lemmas.List.FromFn.{length-range_with_len, get_or-range_with_len}
use Rattle.std.specs.List.{All, fold, flat_map, list_any, range_with_len}
use Rattle.std.specs.Option.{option_map, option_to_list}
use Rattle.convoy_scenario.specs.Scenario.{Scenario, message_at, message_numbers}
use Rattle.convoy_packets.specs.Assignment.{Schedule}
use Rattle.convoy_sim.specs.declared.timestamp.Timestamp.{Timestamp}
use Rattle.convoy_sim.specs.declared.run.Proposal.{Proposal}
use Rattle.convoy_sim.specs.Run.{Run, IsRunOf, proposed_of, committed_of, delivered_of, final_stamp_of}
use Rattle.convoy_sim.specs.Stamps.{no_stamp, local_stamp, final_stamp}
use Rattle.convoy_sim.specs.Times.{arrive, settle}
use Rattle.convoy_sim.specs.Delivery.{deliver}
use Rattle.convoy_scenario.specs.Scenario.{GoesTo}
use Rattle.convoy_timeline.specs.declared.entry.EntryKind.TheVariants.{Propose, Commit, Deliver}
use Rattle.convoy_timeline.specs.Timeline.{entry_of, insert_entry, line_text, tick_line, entries_at, entries_of, timeline_of, timeline_text, with_issues}
use Rattle.convoy_timeline.specs.Told.{proposal_told, entries_told_at, entries_told, told_in_order, lines_told, text_told}

-- two functions that agree on a list's elements make the same of it
flat_map_same : {X A : Type 0} (f h : X → List A) (xs : List X) → All (λ x. f x ≡ h x) xs → flat_map f xs ≡ flat_map h xs
flat_map_same f h [] same = refl
flat_map_same f h (x ∷ xs) same =
    ap₂ (λ ys zs. ys ++ zs) (All-head (λ y. f y ≡ h y) x xs same) (flat_map_same f h xs (All-tail (λ y. f y ≡ h y) x xs same))

-- the first n numbers are below n
below : (n : ℕ) → All (λ m. m < n) (range_with_len 0 n)
below n k d l =
    let within : k < n = rw length-range_with_len at l in
    let at = get_or-range_with_len 0 n k d within in
    omega arith

-- each element of a list is found in it
found : (xs : List ℕ) → All (λ g. list_any (λ h. h == g) xs ≡ true) xs
found [] = All-nil (λ g. list_any (λ h. h == g) [] ≡ true)
found (x ∷ xs) =
    All-cons (λ g. list_any (λ h. h == g) (x ∷ xs) ≡ true) x xs
    (or_left (x == x) (list_any (λ h. h == x) xs) (eq-eqb x x refl))
    (All-weaker (λ g. list_any (λ h. h == g) xs ≡ true) (λ g. list_any (λ h. h == g) (x ∷ xs) ≡ true)
    (λ g e. or_right (x == g) (list_any (λ h. h == g) xs) e) xs (found xs))

entries_by : (m g : ℕ) (own last : Timestamp) (a b c : ℕ)
    (proposed : Option Proposal) (committed delivered : Option ℕ) (final : Option Timestamp)
    → proposed ≡ Some (record { tick = a; stamp = own }) → committed ≡ Some b → delivered ≡ Some c → final ≡ Some last
    → option_to_list (option_map (proposal_told m g) proposed)
    ++ option_to_list (option_map (entry_of Commit m g (unwrap_or final no_stamp)) committed)
    ++ option_to_list (option_map (entry_of Deliver m g (unwrap_or final no_stamp)) delivered)
    ≡ entry_of Propose m g own a ∷ entry_of Commit m g last b ∷ entry_of Deliver m g last c ∷ []
entries_by m g own last a b c proposed committed delivered final p q r s = rw (p, q, r, s) refl

entries_told_at-true : (plan : Scenario) (schedule : Schedule) (run : Run) (m g : ℕ) → IsRunOf plan schedule run
    → GoesTo plan m g → m < length plan.multicasts → entries_told_at run m g ≡ entries_at plan schedule m g
entries_told_at-true plan schedule run m g told goes known =
    entries_by m g (local_stamp plan schedule m g) (final_stamp plan schedule m)
    (arrive plan schedule m g) (settle plan schedule m g) (deliver plan schedule m g)
    (proposed_of run m g) (committed_of run m g) (delivered_of run m g) (final_stamp_of run m)
    (told.proposed m g goes) (told.committed m g goes) (told.delivered m g goes) (told.final_stamps m known)

entries_told-true : (plan : Scenario) (schedule : Schedule) (run : Run) → IsRunOf plan schedule run
    → entries_told plan run ≡ entries_of plan schedule
entries_told-true plan schedule run told =
    flat_map_same (λ m. flat_map (entries_told_at run m) (message_at plan m).destinations)
    (λ m. flat_map (entries_at plan schedule m) (message_at plan m).destinations) (message_numbers plan)
    (All-weaker (λ m. m < length plan.multicasts) _ (λ m known.
    flat_map_same (entries_told_at run m) (entries_at plan schedule m) (message_at plan m).destinations
    (All-weaker (GoesTo plan m) _ (λ g goes. entries_told_at-true plan schedule run m g told goes known)
    (message_at plan m).destinations (found (message_at plan m).destinations)))
    (message_numbers plan) (below (length plan.multicasts)))

pub told_in_order-true : (plan : Scenario) (schedule : Schedule) (run : Run) → IsRunOf plan schedule run
    → told_in_order plan run ≡ timeline_of plan schedule
unfolding told_in_order
told_in_order-true plan schedule run told = ap (λ entries. fold insert_entry [] entries) (entries_told-true plan schedule run told)

pub text_told-true : (plan : Scenario) (schedule : Schedule) (run : Run) → IsRunOf plan schedule run
    → text_told plan schedule run ≡ timeline_text plan schedule
unfolding lines_told text_told timeline_text
text_told-true plan schedule run told =
    ap (λ entries. tick_line plan.tick ++ flat_map (line_text plan) (with_issues plan schedule entries)) (told_in_order-true plan schedule run told)
