-- Of the links of a draft, no two of which lead from one place to one place, the one that leads there is found.
use Rattle.std.proofs.Common.{◌≡◌, ℕ, ◌+◌, ◌==◌, ◌||◌, Bool, true, false, not, cond, List, [], ◌∷◌, map, get_or, Option, Some, None, refl, sym, ap, ◌∙◌, arith, inl, inr}
use Rattle.std.specs.List.{find, list_all, list_any}
use Rattle.std.specs.Str.{bytes_eq}
use Rattle.std.proofs.lemmas.Bool.{and_from, and_parts, cases_Bool, eqb-true, false≢true}
use Rattle.convoy_draft.specs.Checks.{is_among, is_known_sender, is_named_alike, is_same_pair, knows_link, links_differ}
use Rattle.convoy_draft.specs.Draft.{DraftLink}
use Rattle.convoy_scenario.specs.declared.sender.Sender.{Sender}
use Rattle.convoy_scenario.specs.declared.sender.Sender.TheVariants.{Client, Group}
use Rattle.convoy_scenario.specs.Numbering.{link_of, place, sender_of}
use Rattle.convoy_scenario.specs.Scenario.{is_same_sender}
use Rattle.convoy_scenario.proofs.KeptRanges.{leads, one_sender}
use Rattle.convoy_scenario.proofs.NumberedAgain.{itself}
use Rattle.convoy_scenario.proofs.PlaceLemmas.{name_at_place}
use Rattle.convoy_plans.proofs.Members.{In, all_in, any_in}

pub one_name : (groups : List (List ℕ)) (a b : List ℕ) → is_among a groups ≡ true → is_among b groups ≡ true → place a groups ≡ place b groups → bytes_eq a b ≡ true
one_name groups a b known other e =
    let same : a ≡ b = sym (name_at_place a groups known) ∙ ap (λ g. get_or groups g []) e ∙ name_at_place b groups other in
    rw same (itself b)

group_number : (g h : ℕ) → ◌≡◌ {A = Sender} (Group g) (Group h) → g ≡ h
group_number g h e = cc

client_number : (p q : ℕ) → ◌≡◌ {A = Sender} (Client (p + 1)) (Client (q + 1)) → p ≡ q
client_number p q e = let more : p + 1 ≡ q + 1 = cc in omega (arith, more)

-- the sender of a name that is a group's or not
abbrev sender_named : List (List ℕ) → List (List ℕ) → List ℕ → Bool → Sender
sender_named groups places name among = cond among (Group (place name groups)) (Client (place name places + 1))

no_first : (n : ℕ) → ◌≡◌ {A = Sender} (Client 0) (Client (n + 1)) → ⊥
no_first n e = let more : 0 ≡ n + 1 = cc in omega (arith, more)

not_first : (groups places : List (List ℕ)) (name : List ℕ) (among : Bool) → Client 0 ≡ sender_named groups places name among → ⊥
not_first groups places name true e = absurd cc
not_first groups places name false e = no_first (place name places) e

alike_named : (groups places : List (List ℕ)) (a b : List ℕ) (in_a in_b : Bool) → is_among a groups ≡ in_a → is_among b groups ≡ in_b
    → (in_a || is_among a places) ≡ true → (in_b || is_among b places) ≡ true → sender_named groups places a in_a ≡ sender_named groups places b in_b → bytes_eq a b ≡ true
alike_named groups places a b true true is too known other e = one_name groups a b is too (group_number _ _ e)
alike_named groups places a b true false is too known other e = absurd cc
alike_named groups places a b false true is too known other e = absurd cc
alike_named groups places a b false false is too known other e = one_name places a b known other (client_number _ _ e)

alike : (groups places : List (List ℕ)) (a b : Option (List ℕ)) → is_known_sender groups places a ≡ true → is_known_sender groups places b ≡ true → sender_of groups places a ≡ sender_of groups places b → is_named_alike a b ≡ true
alike groups places None None known other e = refl
alike groups places None (Some name) known other e = absurd (not_first groups places name (is_among name groups) e)
alike groups places (Some name) None known other e = absurd (not_first groups places name (is_among name groups) (sym e))
alike groups places (Some a) (Some b) known other e = alike_named groups places a b (is_among a groups) (is_among b groups) refl refl known other e

-- two links that lead from one sender to one group are of one pair
one_pair : (groups places : List (List ℕ)) (sender : Sender) (to : ℕ) (a b : DraftLink) → knows_link groups places a ≡ true → knows_link groups places b ≡ true
    → leads sender to (link_of groups places a) ≡ true → leads sender to (link_of groups places b) ≡ true → is_same_pair a b ≡ true
one_pair groups places sender to a b known other here there =
    let k = and_parts (is_known_sender groups places a.sender) (is_among a.to groups) known in
    let o = and_parts (is_known_sender groups places b.sender) (is_among b.to groups) other in
    let h = and_parts (is_same_sender sender (sender_of groups places a.sender)) (to == place a.to groups) here in
    let t = and_parts (is_same_sender sender (sender_of groups places b.sender)) (to == place b.to groups) there in
    let senders : sender_of groups places a.sender ≡ sender_of groups places b.sender = sym (one_sender _ _ h.0) ∙ one_sender _ _ t.0 in
    let ends : place a.to groups ≡ place b.to groups = sym (eqb-true _ _ h.1) ∙ eqb-true _ _ t.1 in
    and_from _ _ (alike groups places a.sender b.sender k.0 o.0 senders) (one_name groups a.to b.to k.1 o.1 ends)

never : (b : Bool) → not b ≡ true → b ≡ true → ⊥
never true n e = false≢true n
never false n e = false≢true e

pub link_found : (groups places : List (List ℕ)) (sender : Sender) (to : ℕ) (links : List DraftLink) (link : DraftLink)
    → links_differ links ≡ true → list_all (knows_link groups places) links ≡ true → In link links → leads sender to (link_of groups places link) ≡ true
    → find (leads sender to) (map (link_of groups places) links) ≡ Some (link_of groups places link)
link_found groups places sender to [] link differ known h there = absurd h
link_found groups places sender to (first ∷ links) link differ known (inl is) there =
    let here : leads sender to (link_of groups places first) ≡ true = rw (← is) there in
    rw (is, here) refl
link_found groups places sender to (first ∷ links) link differ known (inr h) there =
    let parts = and_parts (not (list_any (is_same_pair first) links)) (links_differ links) differ in
    let all = and_parts (knows_link groups places first) (list_all (knows_link groups places) links) known in
    elim (cases_Bool (leads sender to (link_of groups places first))) [
      | inl here ↦
          let same = one_pair groups places sender to first link all.0 (all_in (knows_link groups places) link links h all.1) here there in
          absurd (never (list_any (is_same_pair first) links) parts.0 (any_in (is_same_pair first) link links h same))
      | inr away ↦ rw away (link_found groups places sender to links link parts.1 all.1 h there)
    ]
