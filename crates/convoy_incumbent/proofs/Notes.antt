-- Notes: the better of two, and what the note of the greatest pair tells.
use Rattle.std.proofs.Common.{◌≡◌, ℕ, ◌+◌, ◌*◌, ◌/◌, ◌%◌, ◌<◌, ◌≤◌, max, List, [], ◌∷◌, ◌++◌, sym, ap, ◌∙◌, subst, ⊎_elim, arith, Some, None, append-nil}
use Rattle.std.specs.Prelude.{Option}
use Rattle.std.proofs.lemmas.Nat.{div-mul-add, mod-mul-add}
use Rattle.std.proofs.lemmas.List.Elements.{All-nil, All-push, All-append, All-weaker, Contains-append_left, Contains-append_right, Contains-push}
use Rattle.boxcar.specs.Table.{Where}
use Rattle.convoy_scenario.specs.Scenario.{Scenario}
use Rattle.convoy_packets.specs.Assignment.{IsAssignment}
use Rattle.convoy_sim.specs.Delivery.{latency_of}
use Rattle.convoy_sim.specs.Greatest.{IsReached}
use Rattle.convoy_sim.specs.Record.{Record, IsAttained}
use Rattle.convoy_incumbent.specs.declared.rule.Pair.{Pair}
use Rattle.convoy_incumbent.specs.Boards.{BoardId, places, IsNoteOf, pair_of, NoneAbove, IsBetterOf, IsBest}
use Rattle.convoy_incumbent.specs.Rule.{latency_in, pair_in}
use Rattle.convoy_incumbent.proofs.Steps.{latency_rises}

pub none_above_more : (low high : ℕ) (pairs : List Pair) → low ≤ high → NoneAbove low pairs → NoneAbove high pairs
none_above_more low high pairs le none = All-weaker (λ pair. pair.latency ≤ low) (λ pair. pair.latency ≤ high) (λ pair below. omega arith) pairs none

-- the better note is that of the greatest pair of both lists
pub best_append : (board : BoardId) (ps qs : List Pair) (a b r : Option (Where Record)) → IsBest board ps a → IsBest board qs b → IsBetterOf a b r → IsBest board (ps ++ qs) r
best_append board ps qs None b r x y is = subst (λ l. IsBest board (l ++ qs) r) (sym x) (subst (λ o. IsBest board qs o) (sym is) y)
best_append board ps qs (Some a) None r x y is = subst (λ l. IsBest board (ps ++ l) r) (sym y) (subst (λ l. IsBest board l r) (sym (append-nil ps)) (subst (λ o. IsBest board ps o) (sym is) x))
best_append board ps qs (Some a) (Some b) r x y is =
    let le = λ (latency : ℕ). λ (pair : Pair). pair.latency ≤ latency in
    ⊎_elim
    (
    λ (t : (r ≡ Some a) × (b.value.latency ≤ a.value.latency)).
    subst (λ o. IsBest board (ps ++ qs) o) (sym t.0) (x.0, Contains-append_left ps qs (pair_of a) x.1, All-append (le a.value.latency) ps qs x.2 (none_above_more b.value.latency a.value.latency qs t.1 y.2))
    )
    (
    λ (t : (r ≡ Some b) × (a.value.latency ≤ b.value.latency)).
    subst (λ o. IsBest board (ps ++ qs) o) (sym t.0) (y.0, Contains-append_right ps qs (pair_of b) y.1, All-append (le b.value.latency) ps qs (none_above_more a.value.latency b.value.latency ps t.1 x.2) y.2)
    )
    is

-- the pair of a note is that of the word that it makes
pub pair_of_word : (note : Where Record) (pair : Pair) (word : ℕ) → word ≡ pair.latency * places + pair.place → pair ≡ pair_of note → pair.place < places → pair_in word ≡ pair_of note
pair_of_word note pair word is same small =
    let within : pair.place < 4294967296 = small in
    let first : word / 4294967296 ≡ pair.latency = ap (λ k. k / 4294967296) is ∙ div-mul-add pair.latency 4294967296 pair.place within in
    let second : word % 4294967296 ≡ pair.place = ap (λ k. k % 4294967296) is ∙ mod-mul-add pair.latency 4294967296 pair.place within in
    let own : pair_in word ≡ pair = λ i. record { latency = first i; place = second i } in
    own ∙ same

-- a note whose pair is put beside the others
pub best_put : (board : BoardId) (ps : List Pair) (best : Option (Where Record)) (note : Where Record) (word : ℕ) (r : Option (Where Record)) → pair_in word ≡ pair_of note → IsBest board ps best → IsNoteOf board note → IsBetterOf best (Some note) r → IsBest board (ps ++ pair_in word ∷ []) r
best_put board ps best note word r pair old new better =
    let le = λ (other : Pair). other.latency ≤ note.value.latency in
    let alone : IsBest board (pair_of note ∷ []) (Some note) = (new, Contains-push [] (pair_of note), All-push le [] (pair_of note) (All-nil le) (omega arith)) in
    subst (λ p. IsBest board (ps ++ p ∷ []) r) (sym pair) (best_append board ps (pair_of note ∷ []) best (Some note) r old alone better)

-- no pair is above what is seen after one more is put
pub none_above_put : (seen found word : ℕ) (pairs : List Pair) → seen ≤ latency_in (max found word) → NoneAbove seen pairs → NoneAbove (latency_in (max found word)) (pairs ++ pair_in word ∷ [])
none_above_put seen found word pairs le none =
    let top = latency_in (max found word) in
    let own : latency_in word ≤ top = latency_rises word (max found word) (omega arith) in
    All-push (λ pair. pair.latency ≤ top) pairs (pair_in word) (none_above_more seen top pairs le none) own

-- no pair of two hands is above the greater of what they saw
pub none_above_joined : (seen seen' : ℕ) (ps qs : List Pair) → NoneAbove seen ps → NoneAbove seen' qs → NoneAbove (max seen seen') (ps ++ qs)
none_above_joined seen seen' ps qs mine theirs =
    let top = max seen seen' in
    All-append (λ pair. pair.latency ≤ top) ps qs (none_above_more seen top ps (omega arith) mine) (none_above_more seen' top qs (omega arith) theirs)

-- what `publish` tells in the words of its clause: of the hand as its caller sees it
pub least_is_told : (seen seen' found word top : ℕ) (pairs pairs' : List Pair) (note : Where Record) → pair_in word ≡ pair_of note → top ≡ max found word → seen ≡ seen' → pairs ≡ pairs' → seen ≤ latency_in (max found word) → NoneAbove seen pairs → (seen' ≤ latency_in top) × NoneAbove (latency_in top) (pairs' ++ pair_of note ∷ [])
least_is_told seen seen' found word top pairs pairs' note pair is same_seen same_pairs le none =
    let told = none_above_put seen found word pairs le none in
    let shown : NoneAbove (latency_in (max found word)) (pairs' ++ pair_of note ∷ []) = subst (λ p. NoneAbove (latency_in (max found word)) (pairs' ++ p ∷ [])) pair (subst (λ ps. NoneAbove (latency_in (max found word)) (ps ++ pair_in word ∷ [])) same_pairs told) in
    subst (λ n. (seen' ≤ latency_in n) × NoneAbove (latency_in n) (pairs' ++ pair_of note ∷ [])) (sym is) (subst (λ n. n ≤ latency_in (max found word)) same_seen le, shown)

pub reached_by : (a : Record) (plan : Scenario) (n : ℕ) → IsAttained a → a.scenario ≡ plan → n ≡ a.latency → IsReached plan n
reached_by a plan n right is same = (a.schedule, subst (λ (p : Scenario). IsAssignment p a.schedule) is right.assignment, ap (λ (p : Scenario). latency_of p a.schedule) (sym is) ∙ sym right.latency ∙ sym same)
