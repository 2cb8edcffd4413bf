-- What agreements add to a draft, and to the same draft in ticks so many times as fine: all numbers are so many times as great.
use Rattle.std.proofs.Common.{◌≡◌, ℕ, ◌+◌, ◌*◌, ◌&&◌, ◌||◌, ◌≤◌, ℤ, pos, negsuc, int_le, leb, leb-true, le-leb, Bool, true, false, cond, if◌then◌else◌, List, [], ◌∷◌, ◌++◌, map, filter, take, Option, Some, None, is_some, option_map, Result, Ok, Err, refl, sym, ap, subst, ◌∙◌, arith, inl, inr}
use Rattle.std.specs.List.{list_all, list_any, find}
use Rattle.std.proofs.lemmas.Bool.{and_parts, and_from, cases_Bool, false≢true}
use Rattle.std.proofs.lemmas.List.{map-append}
use Rattle.std.proofs.lemmas.List.Folds.{list_any-append}
use Rattle.convoy_draft.specs.declared.fault.Limit.TheVariants.{Agree, Delay, Link}
use Rattle.convoy_draft.specs.declared.fault.ScenarioFault.{ScenarioFault}
use Rattle.convoy_draft.specs.declared.fault.ScenarioFault.TheVariants.{OverLimit}
use Rattle.convoy_draft.specs.declared.limits.TheConstants.{GREATEST_DELAY, GREATEST_WHOLE_DELAY, MOST_GROUPS, MOST_PLACES}
use Rattle.convoy_draft.specs.declared.time.Time.{Time}
use Rattle.convoy_draft.specs.declared.time.Time.TheVariants.{Ticks, Real}
use Rattle.convoy_draft.specs.Checks.{Check, has_range, is_among, is_named_alike, is_within, judge, leads_elsewhere, ticks}
use Rattle.convoy_draft.specs.Draft.{Draft, DraftLink, DraftMessage}
use Rattle.convoy_draft.specs.Limits.{greatest_delay}
use Rattle.convoy_scenario.proofs.NumberedAgain.{itself}
use Rattle.convoy_toml.specs.Agreements.{Agreement, agreed, agreed_links, agreement_at, agreement_checks, filled, filled_by, greatest_of, home_link, home_links, is_agreement, is_short, least_of_rest, lengthened, lengthened_by, together, with_agreements}
use Rattle.convoy_toml.specs.Times.{need_least}
use Rattle.convoy_toml.specs.Ways.{Way, carries, has_ranges, lacks_link, leads_along, link_along, ways_between, ways_without_link, with_least}
use Rattle.convoy_toml.proofs.FinerTicks.{after_ok, finer_link, finer_message, finer_order, finer_ticks, same_ok}

-- ---- rules that hold

-- the first of the rules holds, and those after it do
pub first_holds : (check : Check) (rest : List Check) (u : Unit {0}) → judge (check ∷ rest) ≡ Ok u → (check.0 ≡ true) × (judge rest ≡ Ok u)
first_holds check rest u e = by_test check.0 e where
  by_test : (b : Bool) → ◌≡◌ {A = Result (Unit {0}) ScenarioFault} (cond b (judge rest) (Err check.1)) (Ok u) → (b ≡ true) × (judge rest ≡ Ok u)
  by_test true h = (refl, h)
  by_test false h = absurd cc

-- what the rules say where they hold
pub record Holds (agreements : List Agreement) (draft : Draft) : Type 0 where
  pub delay : is_within 0 GREATEST_DELAY draft.delay ≡ true
  pub links : list_all (has_range draft.delay) draft.links ≡ true
  pub ranges : list_all is_agreement agreements ≡ true
  pub short : list_all (λ agreement. int_le agreement.most (pos GREATEST_DELAY)) agreements ≡ true

-- what is at most the greatest delay, by how time goes, is at most that of real time
at_most : (time : Time) (z : ℤ) → int_le z (pos (greatest_delay time)) ≡ true → int_le z (pos GREATEST_DELAY) ≡ true
at_most Ticks (pos n) e = le-leb n GREATEST_DELAY (omega (arith, leb-true n GREATEST_WHOLE_DELAY e))
at_most Ticks (negsuc n) e = refl
at_most Real z e = e

all_at_most : (time : Time) (agreements : List Agreement) → list_all (is_short time) agreements ≡ true → list_all (λ agreement. int_le agreement.most (pos GREATEST_DELAY)) agreements ≡ true
all_at_most time [] e = refl
all_at_most time (agreement ∷ agreements) e =
    let parts = and_parts (is_short time agreement) (list_all (is_short time) agreements) e in
    and_from _ _ (at_most time agreement.most parts.0) (all_at_most time agreements parts.1)

delay_within : (time : Time) (z : ℤ) → is_within 1 (greatest_delay time) z ≡ true → is_within 0 GREATEST_DELAY z ≡ true
delay_within time (pos n) e = and_from _ _ (le-leb 0 n (omega arith)) (at_most time (pos n) (and_parts (leb 1 n) (int_le (pos n) (pos (greatest_delay time))) e).1)
delay_within time (negsuc n) e = absurd (false≢true e)

pub holds : (agreements : List Agreement) (draft : Draft) (u : Unit {0}) → judge (agreement_checks agreements draft) ≡ Ok u → Holds agreements draft
holds agreements draft u e =
    let delay : Check = (is_within 1 (greatest_delay draft.time) draft.delay, OverLimit Delay) in
    let links : Check = (list_all (has_range draft.delay) draft.links, OverLimit Link) in
    let ranges : Check = (list_all is_agreement agreements, OverLimit Agree) in
    let short : Check = (list_all (is_short draft.time) agreements, OverLimit Delay) in
    let one = first_holds delay (links ∷ ranges ∷ short ∷ []) u e in
    let two = first_holds links (ranges ∷ short ∷ []) u one.1 in
    let three = first_holds ranges (short ∷ []) u two.1 in
    let four = first_holds short [] u three.1 in
    record { delay = delay_within draft.time draft.delay one.0; links = two.0; ranges = three.0; short = all_at_most draft.time agreements four.0 }

-- ---- numbers

-- the number, where it is within the limit
ticks_of_within : (n : ℕ) → is_within 0 GREATEST_DELAY (pos n) ≡ true → ticks GREATEST_DELAY (pos n) ≡ n
ticks_of_within n e = rw e refl

-- two delays within their limits, together
pub together_is : (m n : ℕ) → is_within 0 GREATEST_DELAY (pos m) ≡ true → is_within 0 GREATEST_DELAY (pos n) ≡ true → together (pos m) (pos n) ≡ pos (m + n)
together_is m n low high = rw (ticks_of_within m low, ticks_of_within n high) refl

together_finer : (times : ℕ) (x y : ℤ) → is_within 0 GREATEST_DELAY x ≡ true → is_within 0 GREATEST_DELAY y ≡ true → is_within 0 GREATEST_DELAY (finer_ticks times x) ≡ true → is_within 0 GREATEST_DELAY (finer_ticks times y) ≡ true
    → together (finer_ticks times x) (finer_ticks times y) ≡ finer_ticks times (together x y)
together_finer times (pos m) (pos n) a b c d =
    let split : times * m + times * n ≡ times * (m + n) = omega arith in
    together_is (times * m) (times * n) c d ∙ ap (λ k. pos k) split ∙ ap (finer_ticks times) (sym (together_is m n a b))
together_finer times (negsuc m) y a b c d = absurd (false≢true a)
together_finer times (pos m) (negsuc n) a b c d = absurd (false≢true b)

-- what is between 1 and a number within the limit is within it, too
pub within_range : (least most delay : ℤ) → is_within 0 GREATEST_DELAY delay ≡ true → int_le (pos 1) least ≡ true → int_le least most ≡ true → int_le most delay ≡ true
    → (is_within 0 GREATEST_DELAY least ≡ true) × (is_within 0 GREATEST_DELAY most ≡ true)
within_range (pos a) (pos b) (pos d) within low ordered high =
    let top = leb-true d GREATEST_DELAY (and_parts (leb 0 d) (leb d GREATEST_DELAY) within).1 in
    let up = leb-true a b ordered in
    let below = leb-true b d high in
    (and_from _ _ (le-leb 0 a (omega arith)) (le-leb a GREATEST_DELAY (omega arith)), and_from _ _ (le-leb 0 b (omega arith)) (le-leb b GREATEST_DELAY (omega arith)))
within_range (negsuc a) most delay within low ordered high = absurd (false≢true low)
within_range (pos a) (negsuc b) delay within low ordered high = absurd (false≢true ordered)
within_range (pos a) (pos b) (negsuc d) within low ordered high = absurd (false≢true within)

-- the range of a link is within the limit
pub link_within : (delay : ℤ) (link : DraftLink) → is_within 0 GREATEST_DELAY delay ≡ true → has_range delay link ≡ true → (is_within 0 GREATEST_DELAY link.least ≡ true) × (is_within 0 GREATEST_DELAY link.most ≡ true)
link_within delay link within range =
    let outer = and_parts (int_le (pos 1) link.least && int_le link.least link.most) (int_le link.most delay) range in
    let inner = and_parts (int_le (pos 1) link.least) (int_le link.least link.most) outer.0 in
    within_range link.least link.most delay within inner.0 inner.1 outer.1

-- the range of an agreement is, too
pub agreement_within : (agreement : Agreement) → is_agreement agreement ≡ true → int_le agreement.most (pos GREATEST_DELAY) ≡ true → (is_within 0 GREATEST_DELAY agreement.least ≡ true) × (is_within 0 GREATEST_DELAY agreement.most ≡ true)
agreement_within agreement range short =
    let parts = and_parts (int_le (pos 1) agreement.least) (int_le agreement.least agreement.most) range in
    within_range agreement.least agreement.most (pos GREATEST_DELAY) refl parts.0 parts.1 short

-- ---- links

abbrev pub finer_agreement : ℕ → Agreement → Agreement
finer_agreement times agreement = record agreement { least = finer_ticks times agreement.least; most = finer_ticks times agreement.most }

at_finer : (times : ℕ) (agreements : List Agreement) (group : List ℕ) → agreement_at (map (finer_agreement times) agreements) group ≡ option_map (finer_agreement times) (agreement_at agreements group)
at_finer times [] group = refl
at_finer times (agreement ∷ agreements) group =
    elim (cases_Bool (is_among group agreement.groups)) [
      | inl here ↦ rw here refl
      | inr away ↦ rw away (at_finer times agreements group)
    ]

-- what is found among some has what all of them have
pub found_has : (p q : Agreement → Bool) (agreements : List Agreement) (agreement : Agreement) → list_all p agreements ≡ true → find q agreements ≡ Some agreement → p agreement ≡ true
found_has p q [] agreement all e = absurd cc
found_has p q (first ∷ others) agreement all e =
    let parts = and_parts (p first) (list_all p others) all in
    by_test (q first) e parts.0 (found_has p q others agreement parts.1)
  where
    by_test : (b : Bool) → cond b (Some first) (find q others) ≡ Some agreement → p first ≡ true → (find q others ≡ Some agreement → p agreement ≡ true) → p agreement ≡ true
    by_test true is here later = let same : first ≡ agreement = cc in subst (λ (a : Agreement). p a ≡ true) same here
    by_test false is here later = later is

module _ (times : ℕ) (agreements : List Agreement) (ranges : list_all is_agreement agreements ≡ true) (short : list_all (λ agreement. int_le agreement.most (pos GREATEST_DELAY)) agreements ≡ true)
    (fine_ranges : list_all is_agreement (map (finer_agreement times) agreements) ≡ true) (fine_short : list_all (λ agreement. int_le agreement.most (pos GREATEST_DELAY)) (map (finer_agreement times) agreements) ≡ true) where
  by_finer : (link : DraftLink) (found : Option Agreement) → agreement_at agreements link.to ≡ found
      → (is_within 0 GREATEST_DELAY link.least ≡ true) × (is_within 0 GREATEST_DELAY link.most ≡ true) → (is_within 0 GREATEST_DELAY (finer_ticks times link.least) ≡ true) × (is_within 0 GREATEST_DELAY (finer_ticks times link.most) ≡ true)
      → lengthened_by (option_map (finer_agreement times) found) (finer_link times link) ≡ finer_link times (lengthened_by found link)
  by_finer link None e here there = refl
  by_finer link (Some agreement) e here there =
      let by = λ (a : Agreement). is_among link.to a.groups in
      let fine_e : agreement_at (map (finer_agreement times) agreements) link.to ≡ Some (finer_agreement times agreement) = at_finer times agreements link.to ∙ ap (option_map (finer_agreement times)) e in
      let own = agreement_within agreement (found_has is_agreement by agreements agreement ranges e) (found_has (λ a. int_le a.most (pos GREATEST_DELAY)) by agreements agreement short e) in
      let fine_own = agreement_within (finer_agreement times agreement) (found_has is_agreement by (map (finer_agreement times) agreements) (finer_agreement times agreement) fine_ranges fine_e)
      (found_has (λ a. int_le a.most (pos GREATEST_DELAY)) by (map (finer_agreement times) agreements) (finer_agreement times agreement) fine_short fine_e) in
      rw (together_finer times link.least agreement.least here.0 own.0 there.0 fine_own.0, together_finer times link.most agreement.most here.1 own.1 there.1 fine_own.1) refl

  link_finer : (link : DraftLink) → (is_within 0 GREATEST_DELAY link.least ≡ true) × (is_within 0 GREATEST_DELAY link.most ≡ true) → (is_within 0 GREATEST_DELAY (finer_ticks times link.least) ≡ true) × (is_within 0 GREATEST_DELAY (finer_ticks times link.most) ≡ true)
      → lengthened (map (finer_agreement times) agreements) (finer_link times link) ≡ finer_link times (lengthened agreements link)
  link_finer link here there =
      elim (cases_Bool (leads_elsewhere link)) [
        | inl other ↦ rw other (ap (λ (o : Option Agreement). lengthened_by o (finer_link times link)) (at_finer times agreements link.to) ∙ by_finer link (agreement_at agreements link.to) refl here there)
        | inr home ↦ rw home refl
      ]

  links_finer : (delay : ℤ) (links : List DraftLink) → is_within 0 GREATEST_DELAY delay ≡ true → is_within 0 GREATEST_DELAY (finer_ticks times delay) ≡ true → list_all (has_range delay) links ≡ true → list_all (has_range (finer_ticks times delay)) (map (finer_link times) links) ≡ true
      → map (lengthened (map (finer_agreement times) agreements)) (map (finer_link times) links) ≡ map (finer_link times) (map (lengthened agreements) links)
  links_finer delay [] within fine_within all fine_all = refl
  links_finer delay (link ∷ links) within fine_within all fine_all =
      let p = and_parts (has_range delay link) (list_all (has_range delay) links) all in
      let q = and_parts (has_range (finer_ticks times delay) (finer_link times link)) (list_all (has_range (finer_ticks times delay)) (map (finer_link times) links)) fine_all in
      rw (link_finer link (link_within delay link within p.0) (link_within (finer_ticks times delay) (finer_link times link) fine_within q.0)) (ap (λ ls. finer_link times (lengthened agreements link) ∷ ls) (links_finer delay links within fine_within p.1 q.1))

homes_of_finer : (times : ℕ) (agreement : Agreement) (groups : List (List ℕ)) → map (home_link (finer_agreement times agreement)) groups ≡ map (finer_link times) (map (home_link agreement) groups)
homes_of_finer times agreement [] = refl
homes_of_finer times agreement (group ∷ groups) = ap (λ links. finer_link times (home_link agreement group) ∷ links) (homes_of_finer times agreement groups)

homes_finer : (times : ℕ) (agreements : List Agreement) → home_links (map (finer_agreement times) agreements) ≡ map (finer_link times) (home_links agreements)
homes_finer times [] = refl
homes_finer times (agreement ∷ agreements) =
    rw (homes_of_finer times agreement agreement.groups, homes_finer times agreements) (sym (map-append (finer_link times) (map (home_link agreement) agreement.groups) (home_links agreements)))

greatest_finer : (times : ℕ) (some : 1 ≤ times) (so_far : ℤ) (links : List DraftLink) → greatest_of (finer_ticks times so_far) (map (finer_link times) links) ≡ finer_ticks times (greatest_of so_far links)
greatest_finer times some so_far [] = refl
greatest_finer times some so_far (link ∷ links) =
    ap (λ b. greatest_of (if b then finer_ticks times link.most else finer_ticks times so_far) (map (finer_link times) links)) (finer_order times so_far link.most some)
    ∙ by_order (int_le so_far link.most) (greatest_finer times some link.most links) (greatest_finer times some so_far links)
  where
    by_order : (more : Bool) → greatest_of (finer_ticks times link.most) (map (finer_link times) links) ≡ finer_ticks times (greatest_of link.most links)
        → greatest_of (finer_ticks times so_far) (map (finer_link times) links) ≡ finer_ticks times (greatest_of so_far links)
        → greatest_of (if more then finer_ticks times link.most else finer_ticks times so_far) (map (finer_link times) links) ≡ finer_ticks times (greatest_of (if more then link.most else so_far) links)
    by_order true greater least = greater
    by_order false greater least = least

-- ---- links for what goes by none

-- a draft in ticks so many times as fine, of this length
abbrev pub finer_draft : ℕ → Option ℕ → Draft → Draft
finer_draft times tick draft = record draft {
  tick = tick;
  delay = finer_ticks times draft.delay;
  links = map (finer_link times) draft.links;
  messages = map (finer_message times) draft.messages;
}

some_lead : (times : ℕ) (way : Way) (links : List DraftLink) → list_any (leads_along way) (map (finer_link times) links) ≡ list_any (leads_along way) links
some_lead times way [] = refl
some_lead times way (link ∷ links) = rw (some_lead times way links) refl

some_carry : (times : ℕ) (way : Way) (messages : List DraftMessage) → list_any (carries way) (map (finer_message times) messages) ≡ list_any (carries way) messages
some_carry times way [] = refl
some_carry times way (message ∷ messages) = rw (some_carry times way messages) refl

lacks_finer : (times : ℕ) (messages : List DraftMessage) (links : List DraftLink) (ways : List Way) → filter (lacks_link (map (finer_message times) messages) (map (finer_link times) links)) ways ≡ filter (lacks_link messages links) ways
lacks_finer times messages links [] = refl
lacks_finer times messages links (way ∷ ways) = rw (some_carry times way messages, some_lead times way links, lacks_finer times messages links ways) refl

along_finer : (times : ℕ) (least delay : ℤ) (ways : List Way) → map (link_along (finer_ticks times least) (finer_ticks times delay)) ways ≡ map (finer_link times) (map (link_along least delay) ways)
along_finer times least delay [] = refl
along_finer times least delay (way ∷ ways) = ap (λ links. finer_link times (link_along least delay way) ∷ links) (along_finer times least delay ways)

filled_finer : (times : ℕ) (tick : Option ℕ) (least : Option ℤ) (draft : Draft) → filled_by (option_map (finer_ticks times) least) (finer_draft times tick draft) ≡ finer_draft times tick (filled_by least draft)
filled_finer times tick None draft = refl
filled_finer times tick (Some least) draft =
    ap (λ ls. record (finer_draft times tick draft) { links = ls })
    (ap (λ ways. map (finer_link times) draft.links ++ map (link_along (finer_ticks times least) (finer_ticks times draft.delay)) ways) (lacks_finer times draft.messages draft.links (ways_between (take MOST_GROUPS draft.groups) (take MOST_PLACES draft.places)))
    ∙ ap (λ ls. map (finer_link times) draft.links ++ ls) (along_finer times least draft.delay (ways_without_link draft))
    ∙ sym (map-append (finer_link times) draft.links (map (link_along least draft.delay) (ways_without_link draft))))

-- ---- drafts

agreed_finer : (times : ℕ) (tick : Option ℕ) (agreements : List Agreement) (draft : Draft) → 1 ≤ times → Holds agreements draft → Holds (map (finer_agreement times) agreements) (finer_draft times tick draft)
    → agreed (map (finer_agreement times) agreements) (finer_draft times tick draft) ≡ finer_draft times tick (agreed agreements draft)
agreed_finer times tick agreements draft some here there =
    let fine = map (finer_agreement times) agreements in
    let links : agreed_links fine (map (finer_link times) draft.links) ≡ map (finer_link times) (agreed_links agreements draft.links) =
    rw (links_finer times agreements here.ranges here.short there.ranges there.short draft.delay draft.links here.delay there.delay here.links there.links, homes_finer times agreements)
    (sym (map-append (finer_link times) (map (lengthened agreements) draft.links) (home_links agreements))) in
    ap (λ ls. record (finer_draft times tick draft) { links = ls; delay = greatest_of (finer_ticks times draft.delay) ls }) links
    ∙ ap (λ d. record (finer_draft times tick draft) { links = map (finer_link times) (agreed_links agreements draft.links); delay = d }) (greatest_finer times some draft.delay (agreed_links agreements draft.links))

-- ---- the ways that are left

-- links that are lengthened lead where they did
still_lead : (way : Way) (agreements : List Agreement) (links : List DraftLink) → list_any (leads_along way) (map (lengthened agreements) links) ≡ list_any (leads_along way) links
still_lead way agreements [] = refl
still_lead way agreements (link ∷ links) = rw (same link, still_lead way agreements links) refl where
  by_found : (found : Option Agreement) (l : DraftLink) → leads_along way (lengthened_by found l) ≡ leads_along way l
  by_found None l = refl
  by_found (Some agreement) l = refl

  same : (l : DraftLink) → leads_along way (lengthened agreements l) ≡ leads_along way l
  same l =
      elim (cases_Bool (leads_elsewhere l)) [
        | inl other ↦ rw other (by_found (agreement_at agreements l.to) l)
        | inr home ↦ rw home refl
      ]

or_some : (a b : Bool) → a ≡ true → (a || b) ≡ true
or_some true b e = refl
or_some false b e = absurd (false≢true e)

or_other : (a b : Bool) → b ≡ true → (a || b) ≡ true
or_other true b e = refl
or_other false b e = e

-- a link along a way leads there
along_leads : (least delay : ℤ) (way : Way) → leads_along way (link_along least delay way) ≡ true
along_leads least delay way = and_from _ _ (alike way.sender) (itself way.to) where
  alike : (sender : Option (List ℕ)) → is_named_alike sender sender ≡ true
  alike None = refl
  alike (Some name) = itself name

module _ (messages : List DraftMessage) (links more : List DraftLink) (least delay : ℤ) where
  -- where the further links lead wherever the first do, and along each way of these that has none, no way is left
  none_left : (ways : List Way) → ((way : Way) → list_any (leads_along way) links ≡ true → list_any (leads_along way) more ≡ true)
      → ((way : Way) → list_any (leads_along way) (map (link_along least delay) (filter (lacks_link messages links) ways)) ≡ true → list_any (leads_along way) more ≡ true)
      → filter (lacks_link messages more) ways ≡ []
  none_left [] leads fills = refl
  none_left (way ∷ ways) leads fills =
      elim (cases_Bool (list_any (carries way) messages)) [
        | inr none ↦ rw none (none_left ways leads (λ w h. fills w (rw none h)))
        | inl some ↦
            elim (cases_Bool (list_any (leads_along way) links)) [
              | inl led ↦ rw (leads way led, some) (none_left ways leads (λ w h. fills w (rw (some, led) h)))
              | inr lacking ↦
                  let filling : list_any (leads_along way) more ≡ true = fills way (rw (some, lacking) (or_some (leads_along way (link_along least delay way)) (list_any (leads_along way) (map (link_along least delay) (filter (lacks_link messages links) ways))) (along_leads least delay way))) in
                  rw (filling, some) (none_left ways leads (λ w h. fills w (rw (some, lacking) (or_other (leads_along w (link_along least delay way)) (list_any (leads_along w) (map (link_along least delay) (filter (lacks_link messages links) ways))) h))))
            ]
      ]

module _ (agreements : List Agreement) (least : ℤ) (draft : Draft) where
  abbrev added : List DraftLink
  added = map (link_along least draft.delay) (ways_without_link draft)

  abbrev more : List DraftLink
  more = agreed_links agreements (draft.links ++ added)

  led : (way : Way) → list_any (leads_along way) (draft.links ++ added) ≡ true → list_any (leads_along way) more ≡ true
  led way e =
      list_any-append (leads_along way) (map (lengthened agreements) (draft.links ++ added)) (home_links agreements)
      ∙ or_some (list_any (leads_along way) (map (lengthened agreements) (draft.links ++ added))) (list_any (leads_along way) (home_links agreements)) (still_lead way agreements (draft.links ++ added) ∙ e)

  -- once what goes by no link has links, no way is left
  all_led : ways_without_link (agreed agreements (filled_by (Some least) draft)) ≡ []
  all_led =
      none_left draft.messages draft.links more least draft.delay (ways_between (take MOST_GROUPS draft.groups) (take MOST_PLACES draft.places))
      (λ way e. led way (list_any-append (leads_along way) draft.links added ∙ or_some (list_any (leads_along way) draft.links) (list_any (leads_along way) added) e))
      (λ way e. led way (list_any-append (leads_along way) draft.links added ∙ or_other (list_any (leads_along way) draft.links) (list_any (leads_along way) added) e))

-- ---- both drafts

-- a draft with what agreements add, and the same in ticks so many times as fine: drafts with a least delay of what goes by no link, or with none
pub record AreAgreed (times : ℕ) (tick : Option ℕ) (least : Option ℤ) (plain draft finer : Draft) : Type 0 where
  pub rest : Option ℤ
  pub delay : ℤ
  pub links : List DraftLink
  pub is : draft ≡ with_least rest (record plain { delay = delay; links = links })
  pub finer_is : finer ≡ with_least (option_map (finer_ticks times) rest) (finer_draft times tick (record plain { delay = delay; links = links }))
  pub ranged : has_ranges (is_some least) draft ≡ true → has_ranges (is_some rest) draft ≡ true
  pub within : need_least plain.time plain.delay least ≡ Ok tt → need_least plain.time delay rest ≡ Ok tt
  pub finer_within : need_least plain.time (finer_ticks times plain.delay) (option_map (finer_ticks times) least) ≡ Ok tt → need_least plain.time (finer_ticks times delay) (option_map (finer_ticks times) rest) ≡ Ok tt

-- what is added changes D and the links alone
only_links : (agreements : List Agreement) (least : Option ℤ) (plain : Draft)
    → agreed agreements (filled_by least plain) ≡ record plain { delay = (agreed agreements (filled_by least plain)).delay; links = (agreed agreements (filled_by least plain)).links }
only_links agreements None plain = refl
only_links agreements (Some least) plain = refl

none_left_ranged : (draft : Draft) → draft.time ≡ Real → ways_without_link draft ≡ [] → has_ranges false draft ≡ true
none_left_ranged draft real none = rw (real, none) refl

still_ranged : (agreements : List Agreement) (least : Option ℤ) (plain : Draft) → plain.time ≡ Real
    → has_ranges (is_some least) (agreed agreements (filled_by least plain)) ≡ true → has_ranges false (agreed agreements (filled_by least plain)) ≡ true
still_ranged agreements None plain real e = e
still_ranged agreements (Some least) plain real e = none_left_ranged (agreed agreements (filled_by (Some least) plain)) real (all_led agreements least plain)

pub with_finer : (times : ℕ) (tick : Option ℕ) (least : Option ℤ) (agreements : List Agreement) (plain draft finer : Draft) → 1 ≤ times → plain.time ≡ Real → with_agreements least agreements plain ≡ Ok draft
    → with_agreements (option_map (finer_ticks times) least) (map (finer_agreement times) agreements) (finer_draft times tick plain) ≡ Ok finer → AreAgreed times tick least plain draft finer
with_finer times tick least [] plain draft finer some real e f = record {
  rest = least;
  delay = plain.delay;
  links = plain.links;
  is = sym (same_ok (with_least least plain) draft e);
  finer_is = sym (same_ok (with_least (option_map (finer_ticks times) least) (finer_draft times tick plain)) finer f);
  ranged = λ h. h;
  within = λ h. h;
  finer_within = λ h. h;
}
with_finer times tick least (agreement ∷ others) plain draft finer some real e f =
    let agreements : List Agreement = agreement ∷ others in
    let fine : List Agreement = map (finer_agreement times) agreements in
    let more : Option ℤ = option_map (finer_ticks times) least in
    let base : Draft = filled_by least plain in
    let fine_base : Draft = finer_draft times tick base in
    let in_real : filled least plain ≡ base = ap (λ t. filled_by (least_of_rest t least) plain) real in
    let fine_real : filled more (finer_draft times tick plain) ≡ fine_base = ap (λ t. filled_by (least_of_rest t more) (finer_draft times tick plain)) real ∙ filled_finer times tick least plain in
    let here = after_ok (judge (agreement_checks agreements (filled least plain))) (λ u. Ok (agreed agreements (filled least plain))) draft e in
    let there = after_ok (judge (agreement_checks fine (filled more (finer_draft times tick plain)))) (λ u. Ok (agreed fine (filled more (finer_draft times tick plain)))) finer f in
    let held = holds agreements base here.0 (subst (λ (d : Draft). judge (agreement_checks agreements d) ≡ Ok here.0) in_real here.1) in
    let fine_held = holds fine fine_base there.0 (subst (λ (d : Draft). judge (agreement_checks fine d) ≡ Ok there.0) fine_real there.1) in
    let draft_is : draft ≡ agreed agreements base = sym (same_ok (agreed agreements (filled least plain)) draft here.2) ∙ ap (agreed agreements) in_real in
    let finer_is : finer ≡ finer_draft times tick (agreed agreements base) =
    sym (same_ok (agreed fine (filled more (finer_draft times tick plain))) finer there.2) ∙ ap (agreed fine) fine_real ∙ agreed_finer times tick agreements base some held fine_held in
    record {
      rest = None;
      delay = (agreed agreements base).delay;
      links = (agreed agreements base).links;
      is = draft_is ∙ only_links agreements least plain;
      finer_is = finer_is ∙ ap (finer_draft times tick) (only_links agreements least plain);
      ranged = λ h. subst (λ (d : Draft). has_ranges false d ≡ true) (sym draft_is) (still_ranged agreements least plain real (subst (λ (d : Draft). has_ranges (is_some least) d ≡ true) draft_is h));
      within = λ h. refl;
      finer_within = λ h. refl;
    }
