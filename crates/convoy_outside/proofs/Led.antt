-- Links with the ends that a table names lead just where the links lead that the table writes.
use Rattle.std.proofs.Common.{◌≡◌, ℕ, Bool, true, false, not, ◌&&◌, ◌||◌, List, [], ◌∷◌, ◌++◌, filter, Option, Some, None, inl, inr, refl, sym, ap, ap₂, ◌∙◌}
use Rattle.std.specs.List.{list_all, list_any}
use Rattle.std.specs.Str.{bytes_eq}
use Rattle.std.proofs.lemmas.Bool.{and_from, and_parts, both_ways, cases_Bool, false≢true, or_right}
use Rattle.std.proofs.lemmas.List.Folds.{list_any-append}
use Rattle.convoy_draft.specs.Checks.{is_among, is_named_alike, leads_elsewhere}
use Rattle.convoy_draft.specs.Draft.{DraftLink}
use Rattle.convoy_scenario.proofs.NumberedAgain.{itself, same_bytes}
use Rattle.convoy_toml.specs.Links.{Bundle, apart, links_between, links_from, links_of_bundle}
use Rattle.convoy_toml.specs.Ways.{Way, is_one_of, leads_along}
use Rattle.convoy_outside.specs.Sums.{leads}

both_tests : (a x y : Bool) → ((a && x) || (a && y)) ≡ (a && (x || y))
both_tests true x y = refl
both_tests false x y = refl

either_test : (x y a : Bool) → ((x && a) || (y && a)) ≡ ((x || y) && a)
either_test true true true = refl
either_test true true false = refl
either_test true false true = refl
either_test true false false = refl
either_test false y a = refl

or_false : (a : Bool) → (a || false) ≡ a
or_false true = refl
or_false false = refl

not_both : (a b : Bool) → (not a || not b) ≡ not (a && b)
not_both true b = refl
not_both false b = refl

-- each of the names is each of the others
abbrev are_alike : List (List ℕ) → List (List ℕ) → Bool
are_alike names others = list_all (λ name. list_all (bytes_eq name) others) names

alike_first : (name : List ℕ) (names others : List (List ℕ)) → are_alike names (name ∷ others) ≡ true → list_all (bytes_eq name) names ≡ true
alike_first name [] others e = refl
alike_first name (other ∷ names) others e =
    let parts = and_parts (bytes_eq other name && list_all (bytes_eq other) others) (are_alike names (name ∷ others)) e in
    let same : other ≡ name = same_bytes other name (and_parts (bytes_eq other name) (list_all (bytes_eq other) others) parts.0).0 in
    and_from _ _ (rw same (itself name)) (alike_first name names others parts.1)

alike_rest : (name : List ℕ) (names others : List (List ℕ)) → are_alike names (name ∷ others) ≡ true → are_alike names others ≡ true
alike_rest name [] others e = refl
alike_rest name (other ∷ names) others e =
    let parts = and_parts (bytes_eq other name && list_all (bytes_eq other) others) (are_alike names (name ∷ others)) e in
    and_from _ _ (and_parts (bytes_eq other name) (list_all (bytes_eq other) others) parts.0).1 (alike_rest name names others parts.1)

alike_back : (names others : List (List ℕ)) → are_alike names others ≡ true → are_alike others names ≡ true
alike_back names [] e = refl
alike_back names (other ∷ others) e = and_from _ _ (alike_first other names others e) (alike_back names others (alike_rest other names others e))

module _ (bundle : Bundle) where
  -- ---- whether some lead to another place
  elsewhere_from : (name : List ℕ) (to : List (List ℕ)) → list_any leads_elsewhere (links_from bundle (Some name) to) ≡ not (list_all (bytes_eq name) to)
  elsewhere_from name [] = refl
  elsewhere_from name (t ∷ to) = ap (λ b. not (bytes_eq name t) || b) (elsewhere_from name to) ∙ not_both (bytes_eq name t) (list_all (bytes_eq name) to)

  elsewhere_between : (names to : List (List ℕ)) → list_any leads_elsewhere (links_between bundle names to) ≡ not (are_alike names to)
  elsewhere_between [] to = refl
  elsewhere_between (name ∷ names) to =
      list_any-append leads_elsewhere (links_from bundle (Some name) to) (links_between bundle names to)
      ∙ ap₂ (λ a b. a || b) (elsewhere_from name to) (elsewhere_between names to)
      ∙ not_both (list_all (bytes_eq name) to) (are_alike names to)

  -- ---- whether one leads along a way
  module _ (sender : Option (List ℕ)) (to : List ℕ) where
    abbrev way : Way
    way = record { sender = sender; to = to }

    along_from : (from : Option (List ℕ)) (ts : List (List ℕ)) → list_any (leads_along way) (links_from bundle from ts) ≡ (is_named_alike sender from && is_among to ts)
    along_from from [] = elim (cases_Bool (is_named_alike sender from)) [ inl e ↦ rw e refl | inr e ↦ rw e refl ]
    along_from from (t ∷ ts) =
        ap (λ b. (is_named_alike sender from && bytes_eq to t) || b) (along_from from ts) ∙ both_tests (is_named_alike sender from) (bytes_eq to t) (is_among to ts)

    one_of_more : (name : List ℕ) (names : List (List ℕ)) → (is_named_alike sender (Some name) || is_one_of sender names) ≡ is_one_of sender (name ∷ names)
    one_of_more name names = by_sender sender where
      by_sender : (s : Option (List ℕ)) → (is_named_alike s (Some name) || is_one_of s names) ≡ is_one_of s (name ∷ names)
      by_sender None = refl
      by_sender (Some s) = refl

    one_of_none : is_one_of sender [] ≡ false
    one_of_none = by_sender sender where
      by_sender : (s : Option (List ℕ)) → is_one_of s [] ≡ false
      by_sender None = refl
      by_sender (Some s) = refl

    along_between : (names ts : List (List ℕ)) → list_any (leads_along way) (links_between bundle names ts) ≡ (is_one_of sender names && is_among to ts)
    along_between [] ts = sym (ap (λ b. b && is_among to ts) one_of_none)
    along_between (name ∷ names) ts =
        list_any-append (leads_along way) (links_from bundle (Some name) ts) (links_between bundle names ts)
        ∙ ap₂ (λ a b. a || b) (along_from (Some name) ts) (along_between names ts)
        ∙ either_test (is_named_alike sender (Some name)) (is_one_of sender names) (is_among to ts)
        ∙ ap (λ b. b && is_among to ts) (one_of_more name names)

    -- what leads along the way leads to another place just where the way does
    same_way : (link : DraftLink) → leads_along way link ≡ true → leads_elsewhere link ≡ not (is_named_alike sender (Some to))
    same_way link e =
        let ends = and_parts (is_named_alike sender link.sender) (bytes_eq to link.to) e in
        let there : to ≡ link.to = same_bytes to link.to ends.1 in
        ap₂ (λ (s : Option (List ℕ)) (t : List ℕ). not (is_named_alike s (Some t))) (sym (same_sender sender link.sender ends.0)) (sym there)
      where
        same_sender : (a b : Option (List ℕ)) → is_named_alike a b ≡ true → a ≡ b
        same_sender None None e = refl
        same_sender None (Some b) e = absurd cc
        same_sender (Some a) None e = absurd cc
        same_sender (Some a) (Some b) e = ap Some (same_bytes a b e)

    along_elsewhere : (links : List DraftLink) → list_any (leads_along way) (filter leads_elsewhere links) ≡ (list_any (leads_along way) links && not (is_named_alike sender (Some to)))
    along_elsewhere [] = refl
    along_elsewhere (link ∷ links) = elim (cases_Bool (leads_along way link)) [
      | inl here ↦ elim (cases_Bool (leads_elsewhere link)) [
        | inl other ↦ rw (other, here) (sym (sym (same_way link here) ∙ other))
        | inr none ↦ rw (none, here) (along_elsewhere links ∙ none_home (sym (same_way link here) ∙ none) (list_any (leads_along way) links))
      ]
      | inr away ↦ elim (cases_Bool (leads_elsewhere link)) [
        | inl other ↦ rw (other, away) (along_elsewhere links)
        | inr none ↦ rw (none, away) (along_elsewhere links)
      ]
    ] where
      none_home : not (is_named_alike sender (Some to)) ≡ false → (b : Bool) → (b && not (is_named_alike sender (Some to))) ≡ not (is_named_alike sender (Some to))
      none_home e true = refl
      none_home e false = sym e

    decided : (links : List DraftLink) (named home : Bool) → list_any (leads_along way) links ≡ named → (list_any leads_elsewhere links ≡ true → home ≡ false)
        → (list_any leads_elsewhere links ≡ false → named ≡ true → (not (is_named_alike sender (Some to)) || home) ≡ true)
        → list_any (leads_along way) (apart links) ≡ (named && (not (is_named_alike sender (Some to)) || home))
    decided links named home along others alone = elim (cases_Bool (list_any leads_elsewhere links)) [
      | inl some ↦
          rw (some, others some, or_false (not (is_named_alike sender (Some to))))
          (along_elsewhere links ∙ ap (λ b. b && not (is_named_alike sender (Some to))) along)
      | inr none ↦ rw none (along ∙ by_named named (alone none))
    ] where
      by_named : (b : Bool) → (b ≡ true → (not (is_named_alike sender (Some to)) || home) ≡ true) → b ≡ (b && (not (is_named_alike sender (Some to)) || home))
      by_named true h = sym (h refl)
      by_named false h = refl

-- where some lead to another place, not all names are alike; else they are
some_differ : (home back some : Bool) → some ≡ (not home || not back) → (home ≡ true → back ≡ true) → some ≡ true → home ≡ false
some_differ false back some is too e = refl
some_differ true back some is too e =
    let both : (not true || not back) ≡ false = ap not (too refl) in
    absurd (both_ways some (is ∙ both) e)

all_alike : (home back some : Bool) → some ≡ (not home || not back) → some ≡ false → home ≡ true
all_alike true back some is e = refl
all_alike false back some is e = absurd (both_ways some e is)

-- the ends of a table between groups
module _ (bundle : Bundle) (names ts : List (List ℕ)) (both : Bool) (sender : Option (List ℕ)) (to : List ℕ) where
  abbrev between : Bundle
  between = record bundle { ends = record { senders = Some names; to = ts; both = both } }

  between_led : (back : List DraftLink) (named alike : Bool) → list_any (leads_along (way between sender to)) back ≡ named → list_any leads_elsewhere back ≡ not alike → (are_alike names ts ≡ true → alike ≡ true)
      → list_any (leads_along (way between sender to)) (apart (links_between between names ts ++ back))
      ≡ (((is_one_of sender names && is_among to ts) || named) && (not (is_named_alike sender (Some to)) || are_alike names ts))
  between_led back named alike along differ too =
      let there = links_between between names ts in
      let all = list_any-append (leads_along (way between sender to)) there back ∙ ap₂ (λ a b. a || b) (along_between between sender to names ts) along in
      let some = list_any-append leads_elsewhere there back ∙ ap₂ (λ a b. a || b) (elsewhere_between between names ts) differ in
      decided between sender to (there ++ back) ((is_one_of sender names && is_among to ts) || named) (are_alike names ts) all
      (some_differ (are_alike names ts) alike _ some too)
      (λ none goes. or_right (not (is_named_alike sender (Some to))) (are_alike names ts) (all_alike (are_alike names ts) alike _ some none))

led_by : (bundle : Bundle) (senders : Option (List (List ℕ))) (ts : List (List ℕ)) (both : Bool) (sender : Option (List ℕ)) (to : List ℕ)
    → list_any (leads_along (record { sender = sender; to = to })) (links_of_bundle (record bundle { ends = record { senders = senders; to = ts; both = both } }))
    ≡ leads (record { senders = senders; to = ts; both = both }) sender to
led_by bundle None ts both None to =
    let clients : Bundle = record bundle { ends = record { senders = None; to = ts; both = both } } in
    decided clients None to (links_from clients None ts) (is_among to ts) false (along_from clients None to None ts) (λ e. refl) (λ none goes. refl)
led_by bundle None ts both (Some name) to =
    let clients : Bundle = record bundle { ends = record { senders = None; to = ts; both = both } } in
    decided clients (Some name) to (links_from clients None ts) false false (along_from clients (Some name) to None ts) (λ e. refl) (λ none goes. absurd (false≢true goes))
led_by bundle (Some names) ts true None to =
    between_led bundle names ts true None to (links_between (between bundle names ts true None to) ts names) false (are_alike ts names)
    (along_between (between bundle names ts true None to) None to ts names) (elsewhere_between (between bundle names ts true None to) ts names) (alike_back names ts)
led_by bundle (Some names) ts true (Some name) to =
    between_led bundle names ts true (Some name) to (links_between (between bundle names ts true (Some name) to) ts names) (is_among name ts && is_among to names) (are_alike ts names)
    (along_between (between bundle names ts true (Some name) to) (Some name) to ts names) (elsewhere_between (between bundle names ts true (Some name) to) ts names) (alike_back names ts)
led_by bundle (Some names) ts false None to = between_led bundle names ts false None to [] false true refl refl (λ e. refl)
led_by bundle (Some names) ts false (Some name) to = between_led bundle names ts false (Some name) to [] false true refl refl (λ e. refl)

-- the share of a packet is that of the table that writes its link
led : (bundle : Bundle) (sender : Option (List ℕ)) (to : List ℕ)
    → leads bundle.ends sender to ≡ list_any (leads_along (record { sender = sender; to = to })) (links_of_bundle bundle)
led bundle sender to = sym (led_by bundle bundle.ends.senders bundle.ends.to bundle.ends.both sender to)
