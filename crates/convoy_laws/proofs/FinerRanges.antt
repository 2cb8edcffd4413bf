-- What a draft says in ticks, and what the same says in ticks so many times as fine: all ranges and all times of issue are so many times as great.
use Rattle.std.proofs.Common.{◌≡◌, ℕ, ◌+◌, ◌-◌, ◌*◌, ◌==◌, ◌&&◌, ◌≤◌, ℤ, pos, negsuc, int_le, leb, le-leb, leb-true, eq-eqb, Bool, true, false, List, [], ◌∷◌, length, map, take, Option, Some, None, option_map, refl, sym, ap, subst, ◌∙◌, arith, inl, inr}
use Rattle.std.specs.List.{find, list_all, list_any, AllByRecursion, AllZip}
use Rattle.std.specs.Str.{bytes_eq}
use Rattle.std.proofs.lemmas.Bool.{and_parts, and_from, both_ways, cases_Bool, eqb-true, false≢true, false_from_ne_true}
use Rattle.std.proofs.lemmas.List.{map-append}
use Rattle.std.proofs.lemmas.List.Folds.{find-append}
use Rattle.convoy_draft.specs.declared.limits.TheConstants.{GREATEST_AT, GREATEST_DELAY, GREATEST_UNTIL, LONGEST_WAIT, MOST_GROUPS, MOST_PLACES}
use Rattle.convoy_draft.specs.declared.time.Time.TheVariants.{Real}
use Rattle.convoy_draft.specs.Checks.{has_range, has_wait, is_named_alike, is_within, ticks}
use Rattle.convoy_draft.specs.Draft.{Draft, DraftLink, DraftMessage}
use Rattle.convoy_scenario.specs.declared.sender.Sender.{Sender}
use Rattle.convoy_scenario.specs.Numbering.{link_of, message_of, place, sender_of}
use Rattle.convoy_scenario.specs.Scenario.{Link, Message, is_same_sender}
use Rattle.convoy_scenario.proofs.KeptRanges.{leads, range_found}
use Rattle.convoy_scenario.proofs.LinkLemmas.{ticks_again}
use Rattle.convoy_scenario.proofs.NumberedAgain.{same_bytes}
use Rattle.convoy_sim.proofs.Membership.{IsIn, find-in, in-filter, in-map, in_of_list_any}
use Rattle.convoy_toml.specs.Ways.{Way, carries, has_ranges, lacks_link, leads_along, link_along, ways_between, ways_without_link, with_least}
use Rattle.convoy_toml.proofs.FinerDrafts.{finer_link, finer_message, finer_ticks}

-- ---- numbers

-- the number, where it and so many times the number are within the limit
pub ticks_finer : (times most : ℕ) (z : ℤ) → is_within 0 most z ≡ true → is_within 0 most (finer_ticks times z) ≡ true → ticks most (finer_ticks times z) ≡ times * ticks most z
ticks_finer times most (pos n) low high =
    let p = leb-true n most (and_parts (leb 0 n) (leb n most) low).1 in
    let q = leb-true (times * n) most (and_parts (leb 0 (times * n)) (leb (times * n) most) high).1 in
    rw (ticks_again most (times * n) q, ticks_again most n p) refl
ticks_finer times most (negsuc n) low high = absurd (false≢true low)

pub within_from : (most n : ℕ) → n ≤ most → is_within 0 most (pos n) ≡ true
within_from most n low = and_from _ _ (le-leb 0 n (omega arith)) (le-leb n most low)

-- a range within 1 to D, where D is within its limit, is within that, too
within_range : (least most delay : ℤ) → is_within 1 GREATEST_DELAY delay ≡ true → (int_le (pos 1) least && int_le least most && int_le most delay) ≡ true
    → (is_within 0 GREATEST_DELAY least ≡ true) × (is_within 0 GREATEST_DELAY most ≡ true)
within_range (pos a) (pos b) (pos d) within h =
    let p = and_parts (leb 1 d) (leb d GREATEST_DELAY) within in
    let q = and_parts (leb 1 a && leb a b) (leb b d) h in
    let ordered = leb-true a b (and_parts (leb 1 a) (leb a b) q.0).1 in
    let high = leb-true b d q.1 in
    let top = leb-true d GREATEST_DELAY p.1 in
    (within_from GREATEST_DELAY a (omega arith), within_from GREATEST_DELAY b (omega arith))
within_range (negsuc a) most delay within h = absurd (false≢true (and_parts (int_le (pos 1) (negsuc a)) (int_le (negsuc a) most) (and_parts _ (int_le most delay) h).0).0)
within_range (pos a) (negsuc b) delay within h = absurd (false≢true (and_parts (leb 1 a) (int_le (pos a) (negsuc b)) (and_parts _ (int_le (negsuc b) delay) h).0).1)
within_range (pos a) (pos b) (negsuc d) within h = absurd (false≢true within)

-- ---- links

-- a link in ticks so many times as fine
abbrev pub as_fine : ℕ → Link → Link
as_fine times link = record link { least = times * link.least; most = times * link.most }

-- the links of a list have so many times the numbers
abbrev pub AreAsFine : ℕ → List (List ℕ) → List (List ℕ) → List DraftLink → Type 0
AreAsFine times groups places links = AllByRecursion (λ link. link_of groups places (finer_link times link) ≡ as_fine times (link_of groups places link)) links

link_finer : (times : ℕ) (groups places : List (List ℕ)) (delay finer_delay : ℤ) (link : DraftLink) → is_within 1 GREATEST_DELAY delay ≡ true → is_within 1 GREATEST_DELAY finer_delay ≡ true
    → has_range delay link ≡ true → has_range finer_delay (finer_link times link) ≡ true → link_of groups places (finer_link times link) ≡ as_fine times (link_of groups places link)
link_finer times groups places delay finer_delay link within finer_within range finer_has =
    let here = within_range link.least link.most delay within range in
    let there = within_range (finer_ticks times link.least) (finer_ticks times link.most) finer_delay finer_within finer_has in
    rw (ticks_finer times GREATEST_DELAY link.least here.0 there.0, ticks_finer times GREATEST_DELAY link.most here.1 there.1) refl

pub links_finer : (times : ℕ) (groups places : List (List ℕ)) (delay finer_delay : ℤ) (links : List DraftLink) → is_within 1 GREATEST_DELAY delay ≡ true → is_within 1 GREATEST_DELAY finer_delay ≡ true
    → list_all (has_range delay) links ≡ true → list_all (has_range finer_delay) (map (finer_link times) links) ≡ true → AreAsFine times groups places links
links_finer times groups places delay finer_delay [] within finer_within ranges finer_ranges = tt
links_finer times groups places delay finer_delay (link ∷ links) within finer_within ranges finer_ranges =
    let p = and_parts (has_range delay link) (list_all (has_range delay) links) ranges in
    let q = and_parts (has_range finer_delay (finer_link times link)) (list_all (has_range finer_delay) (map (finer_link times) links)) finer_ranges in
    (link_finer times groups places delay finer_delay link within finer_within p.0 q.0, links_finer times groups places delay finer_delay links within finer_within p.1 q.1)

-- the link between two places is the same, with so many times the numbers
pub found_finer : (times : ℕ) (groups places : List (List ℕ)) (sender : Sender) (to : ℕ) (links : List DraftLink) → AreAsFine times groups places links
    → find (leads sender to) (map (link_of groups places) (map (finer_link times) links)) ≡ option_map (as_fine times) (find (leads sender to) (map (link_of groups places) links))
found_finer times groups places sender to [] are = refl
found_finer times groups places sender to (link ∷ links) are =
    elim (cases_Bool (leads sender to (link_of groups places link))) [
      | inl here ↦ rw here (ap Some are.0)
      | inr away ↦ rw away (found_finer times groups places sender to links are.1)
    ]

-- ---- the links that a least delay of what goes by none adds

-- the ways stay the same
pub some_lead : (times : ℕ) (way : Way) (links : List DraftLink) → list_any (leads_along way) (map (finer_link times) links) ≡ list_any (leads_along way) links
some_lead times way [] = refl
some_lead times way (link ∷ links) = rw (some_lead times way links) refl

pub some_carry : (times : ℕ) (way : Way) (messages : List DraftMessage) → list_any (carries way) (map (finer_message times) messages) ≡ list_any (carries way) messages
some_carry times way [] = refl
some_carry times way (message ∷ messages) = rw (some_carry times way messages) refl

module _ (sender : Sender) (to : ℕ) where
  -- the range of a link that is added along a way
  found_along : (groups places : List (List ℕ)) (least delay : ℤ) (default : ℕ) (way : Way) (ways : List Way) → sender_of groups places way.sender ≡ sender → place way.to groups ≡ to → is_same_sender sender sender ≡ true → IsIn way ways
      → range_found default (find (leads sender to) (map (link_of groups places) (map (link_along least delay) ways))) ≡ (ticks GREATEST_DELAY least, ticks GREATEST_DELAY delay)
  found_along groups places least delay default way [] from there itself i = absurd i
  found_along groups places least delay default way (other ∷ ways) from there itself i =
      elim (cases_Bool (leads sender to (link_of groups places (link_along least delay other)))) [
        | inl here ↦ rw here refl
        | inr away ↦ rw away (further i away (λ rest. found_along groups places least delay default way ways from there itself rest))
      ]
    where
      further : IsIn way (other ∷ ways) → leads sender to (link_of groups places (link_along least delay other)) ≡ false
          → (IsIn way ways → range_found default (find (leads sender to) (map (link_of groups places) (map (link_along least delay) ways))) ≡ (ticks GREATEST_DELAY least, ticks GREATEST_DELAY delay))
          → range_found default (find (leads sender to) (map (link_of groups places) (map (link_along least delay) ways))) ≡ (ticks GREATEST_DELAY least, ticks GREATEST_DELAY delay)
      further (inl same) away others =
          let here : leads sender to (link_of groups places (link_along least delay way)) ≡ true = rw (from, there) (and_from _ _ itself (eq-eqb to to refl)) in
          absurd (both_ways _ away (ap (λ (w : Way). leads sender to (link_of groups places (link_along least delay w))) same ∙ here))
      further (inr rest) away others = others rest

  -- a link that is written stays the one between its places, whatever is added
  pub found_before : (least : Option ℤ) (draft : Draft) (link : Link) → find (leads sender to) (map (link_of draft.groups draft.places) draft.links) ≡ Some link
      → find (leads sender to) (map (link_of draft.groups draft.places) (with_least least draft).links) ≡ Some link
  found_before None draft link e = e
  found_before (Some least) draft link e =
      elim (cases_Bool (int_le least (pos 1))) [
        | inl one ↦ rw one e
        | inr more ↦
            let added = map (link_along least draft.delay) (ways_without_link draft) in
            rw (more, map-append (link_of draft.groups draft.places) draft.links added, find-append (leads sender to) (map (link_of draft.groups draft.places) draft.links) (map (link_of draft.groups draft.places) added), e) refl
      ]

  -- where none is written, the range is from the least delay of what goes by none to D
  pub found_after : (least : ℕ) (draft : Draft) (way : Way) → 1 ≤ least → is_same_sender sender sender ≡ true → sender_of draft.groups draft.places way.sender ≡ sender → place way.to draft.groups ≡ to → IsIn way (ways_without_link draft)
      → find (leads sender to) (map (link_of draft.groups draft.places) draft.links) ≡ None
      → range_found (ticks GREATEST_DELAY draft.delay) (find (leads sender to) (map (link_of draft.groups draft.places) (with_least (Some (pos least)) draft).links)) ≡ (ticks GREATEST_DELAY (pos least), ticks GREATEST_DELAY draft.delay)
  found_after least draft way some itself from there lacks none =
      elim (cases_Bool (leb least 1)) [
        | inl one ↦
            let is : least ≡ 1 = omega (arith, leb-true least 1 one, some) in
            rw (one, none, is) refl
        | inr more ↦
            let added = map (link_along (pos least) draft.delay) (ways_without_link draft) in
            rw (more, map-append (link_of draft.groups draft.places) draft.links added, find-append (leads sender to) (map (link_of draft.groups draft.places) draft.links) (map (link_of draft.groups draft.places) added), none)
            (found_along draft.groups draft.places (pos least) draft.delay (ticks GREATEST_DELAY draft.delay) way (ways_without_link draft) from there itself lacks)
      ]

-- ---- the ways that have no link

leads_by_name : (groups places : List (List ℕ)) (way : Way) (link : DraftLink) → is_same_sender (sender_of groups places way.sender) (sender_of groups places way.sender) ≡ true → leads_along way link ≡ true
    → leads (sender_of groups places way.sender) (place way.to groups) (link_of groups places link) ≡ true
leads_by_name groups places way link itself e =
    let ends = and_parts (is_named_alike way.sender link.sender) (bytes_eq way.to link.to) e in
    let to : way.to ≡ link.to = same_bytes way.to link.to ends.1 in
    let from : way.sender ≡ link.sender = same_sender way.sender link.sender ends.0 in
    rw (sym from, sym to) (and_from _ _ itself (eq-eqb _ _ refl))
  where
    same_sender : (a b : Option (List ℕ)) → is_named_alike a b ≡ true → a ≡ b
    same_sender None None e = refl
    same_sender None (Some b) e = absurd (false≢true e)
    same_sender (Some a) None e = absurd (false≢true e)
    same_sender (Some a) (Some b) e = ap Some (same_bytes a b e)

-- where no link is found between the places of a way, none leads along it
pub none_leads : (groups places : List (List ℕ)) (way : Way) (links : List DraftLink) → is_same_sender (sender_of groups places way.sender) (sender_of groups places way.sender) ≡ true
    → find (leads (sender_of groups places way.sender) (place way.to groups)) (map (link_of groups places) links) ≡ None → list_any (leads_along way) links ≡ false
none_leads groups places way links itself none =
    false_from_ne_true _ (λ e.
    let found = in_of_list_any (leads_along way) links e in
    let is = find-in (leads (sender_of groups places way.sender) (place way.to groups)) (link_of groups places found.0) (map (link_of groups places) links) (in-map (link_of groups places) found.0 links found.1) (leads_by_name groups places way found.0 itself found.2) in
    nothing is.0 (sym none ∙ is.1))
  where
    nothing : (link : Link) → ◌≡◌ {A = Option Link} None (Some link) → ⊥
    nothing link e = absurd cc

-- such a way is among those without a link
pub lacks : (draft : Draft) (way : Way) → IsIn way (ways_between (take MOST_GROUPS draft.groups) (take MOST_PLACES draft.places)) → list_any (carries way) draft.messages ≡ true → list_any (leads_along way) draft.links ≡ false → IsIn way (ways_without_link draft)
lacks draft way between carried none =
    in-filter (lacks_link draft.messages draft.links) way (ways_between (take MOST_GROUPS draft.groups) (take MOST_PLACES draft.places)) between (rw (carried, none) refl)

-- where ranges are asked for and no least delay is written, there is none such
pub none_lacks : (draft : Draft) (way : Way) → draft.time ≡ Real → has_ranges false draft ≡ true → IsIn way (ways_without_link draft) → ⊥
none_lacks draft way real ranges i =
    let empty : (length (ways_without_link draft) == 0) ≡ true = rw real at ranges in
    nothing (ways_without_link draft) i (eqb-true (length (ways_without_link draft)) 0 empty)
  where
    nothing : (ways : List Way) → IsIn way ways → length ways ≡ 0 → ⊥
    nothing [] i e = i
    nothing (w ∷ ways) i e = absurd (omega (arith, e))

-- ---- messages

-- a message in ticks so many times as fine
pub record IsAsFine (times : ℕ) (message finer : Message) : Type 0 where
  pub sender : finer.sender ≡ message.sender
  pub destinations : finer.destinations ≡ message.destinations
  pub at : finer.at ≡ times * message.at
  pub wait : finer.longest_wait ≡ times * message.longest_wait

minus_times : (times at wait : ℕ) → times * (at + wait) - times * at ≡ times * ((at + wait) - at)
minus_times times at wait =
    let e : (at + wait) - at ≡ wait = omega arith in
    rw e (omega arith)

waits_finer : (times : ℕ) (at until : ℤ) → is_within 0 GREATEST_AT at ≡ true → is_within 0 GREATEST_AT (finer_ticks times at) ≡ true
    → is_within (ticks GREATEST_AT at) (ticks GREATEST_AT at + LONGEST_WAIT) until ≡ true → is_within (ticks GREATEST_AT (finer_ticks times at)) (ticks GREATEST_AT (finer_ticks times at) + LONGEST_WAIT) (finer_ticks times until) ≡ true
    → ticks GREATEST_UNTIL (finer_ticks times until) - ticks GREATEST_AT (finer_ticks times at) ≡ times * (ticks GREATEST_UNTIL until - ticks GREATEST_AT at)
waits_finer times (pos a) (pos u) low high waits finer_waits =
    let top = leb-true a GREATEST_AT (and_parts (leb 0 a) (leb a GREATEST_AT) low).1 in
    let finer_top = leb-true (times * a) GREATEST_AT (and_parts (leb 0 (times * a)) (leb (times * a) GREATEST_AT) high).1 in
    let first : ticks GREATEST_AT (pos a) ≡ a = ticks_again GREATEST_AT a top in
    let finer_first : ticks GREATEST_AT (pos (times * a)) ≡ times * a = ticks_again GREATEST_AT (times * a) finer_top in
    let parts = and_parts (leb (ticks GREATEST_AT (pos a)) u) (leb u (ticks GREATEST_AT (pos a) + LONGEST_WAIT)) waits in
    let finer_parts = and_parts (leb (ticks GREATEST_AT (pos (times * a))) (times * u)) (leb (times * u) (ticks GREATEST_AT (pos (times * a)) + LONGEST_WAIT)) finer_waits in
    let after = leb-true (ticks GREATEST_AT (pos a)) u parts.0 in
    let end = leb-true u (ticks GREATEST_AT (pos a) + LONGEST_WAIT) parts.1 in
    let finer_end = leb-true (times * u) (ticks GREATEST_AT (pos (times * a)) + LONGEST_WAIT) finer_parts.1 in
    let last : ticks GREATEST_UNTIL (pos u) ≡ u = ticks_again GREATEST_UNTIL u (omega (arith, first, end, top)) in
    let finer_last : ticks GREATEST_UNTIL (pos (times * u)) ≡ times * u = ticks_again GREATEST_UNTIL (times * u) (omega (arith, finer_first, finer_end, finer_top)) in
    let split : a + (u - a) ≡ u = omega (arith, first, after) in
    let waited : times * u - times * a ≡ times * (u - a) = subst (λ (n : ℕ). times * n - times * a ≡ times * (n - a)) split (minus_times times a (u - a)) in
    rw (last, finer_last, first, finer_first) waited
waits_finer times (negsuc a) until low high waits finer_waits = absurd (false≢true low)
waits_finer times (pos a) (negsuc u) low high waits finer_waits = absurd (false≢true waits)

pub messages_finer : (times : ℕ) (groups places : List (List ℕ)) (messages : List DraftMessage) → list_all (λ m. is_within 0 GREATEST_AT m.at) messages ≡ true → list_all (λ m. is_within 0 GREATEST_AT m.at) (map (finer_message times) messages) ≡ true
    → list_all has_wait messages ≡ true → list_all has_wait (map (finer_message times) messages) ≡ true → AllZip (IsAsFine times) (map (message_of groups places) messages) (map (message_of groups places) (map (finer_message times) messages))
messages_finer times groups places [] at finer_at waits finer_waits = tt
messages_finer times groups places (message ∷ messages) at finer_at waits finer_waits =
    let within : DraftMessage → Bool = λ m. is_within 0 GREATEST_AT m.at in
    let fine = map (finer_message times) messages in
    let a = and_parts (within message) (list_all within messages) at in
    let b = and_parts (within (finer_message times message)) (list_all within fine) finer_at in
    let c = and_parts (has_wait message) (list_all has_wait messages) waits in
    let d = and_parts (has_wait (finer_message times message)) (list_all has_wait fine) finer_waits in
    let here : IsAsFine times (message_of groups places message) (message_of groups places (finer_message times message)) = record {
      sender = refl;
      destinations = refl;
      at = ticks_finer times GREATEST_AT message.at a.0 b.0;
      wait = waits_finer times message.at message.until a.0 b.0 c.0 d.0;
    } in
    (here, messages_finer times groups places messages a.1 b.1 c.1 d.1)
