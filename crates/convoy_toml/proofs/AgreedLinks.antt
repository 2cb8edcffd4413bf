-- The links of a draft in which replicas agree: those that are written, with what agreements add.
use Rattle.std.proofs.Common.{◌≡◌, ℕ, zero, suc, ◌<◌, ℤ, pos, negsuc, int_le, ◌+ℤ◌, Bool, true, List, [], ◌∷◌, length, get_or, map, flat_map, Option, Some, None, Ok, IsNone, refl, sym, ap, subst, ◌∙◌, arith, inl, inr}
use Rattle.std.specs.List.{Contains, list_all}
use Rattle.std.proofs.Math.ListN.{get_or-map}
use Rattle.std.proofs.lemmas.Bool.{and_parts, cases_Bool, false≢true, true≢false}
use Rattle.std.proofs.lemmas.List.{length-map}
use Rattle.std.proofs.lemmas.List.Elements.{Contains-append_left, Contains-append_right}
use Rattle.convoy_draft.specs.declared.limits.TheConstants.{GREATEST_DELAY}
use Rattle.convoy_draft.specs.Checks.{has_range, is_among, is_within, judge, leads_elsewhere}
use Rattle.convoy_draft.specs.Draft.{Draft, DraftLink}
use Rattle.convoy_toml.specs.Agreements.{Agreement, agreed, agreement_at, agreement_checks, filled, filled_by, home_link, home_links, is_agreement, least_of_rest, lengthened, lengthened_by, together}
use Rattle.convoy_toml.specs.Ways.{link_along, ways_without_link, with_least}
use Rattle.convoy_toml.specs.TextLaws.{AgreementsLengthenLinks, HasAgreements}
use Rattle.convoy_toml.proofs.FinerAgreements.{Holds, agreement_within, found_has, holds, link_within, together_is}
use Rattle.convoy_toml.proofs.FinerTicks.{after_ok, same_ok}

-- ---- elements of lists

contains_map : {X Y : Type 0} (f : X → Y) (xs : List X) (x : X) → Contains xs x → Contains (map f xs) (f x)
contains_map f xs x is = (is.0, rw (length-map xs f) is.1, get_or-map f xs is.0 x ∙ ap f is.2)

contains_none : {X : Type 0} (x : X) → Contains [] x → ⊥
contains_none x is = absurd (omega (arith, is.1))

contains_later : {X : Type 0} (x y : X) (ys : List X) → Contains ys x → Contains (y ∷ ys) x
contains_later x y ys is = Contains-append_right (y ∷ []) ys x is

-- what each of a list has, each of its elements has
all_contains : {X : Type 0} (p : X → Bool) (xs : List X) (x : X) → list_all p xs ≡ true → Contains xs x → p x ≡ true
all_contains {X = X} p xs x all is = by_place xs is.0 all is.1 is.2 where
  by_place : (ys : List X) (k : ℕ) → list_all p ys ≡ true → k < length ys → get_or ys k x ≡ x → p x ≡ true
  by_place [] k every low same = absurd (omega (arith, low))
  by_place (y ∷ ys) zero every low same = subst (λ (v : X). p v ≡ true) same (and_parts (p y) (list_all p ys) every).0
  by_place (y ∷ ys) (suc k) every low same = by_place ys k (and_parts (p y) (list_all p ys) every).1 (omega (arith, low)) same

-- what is in the list of one element is in those of all, one after the other
contains_flat_map : {X Y : Type 0} (f : X → List Y) (xs : List X) (x : X) (y : Y) → Contains xs x → Contains (f x) y → Contains (flat_map f xs) y
contains_flat_map {X = X} f xs x y is there = by_place xs is.0 is.1 is.2 where
  by_place : (ys : List X) (k : ℕ) → k < length ys → get_or ys k x ≡ x → Contains (flat_map f ys) y
  by_place [] k low same = absurd (omega (arith, low))
  by_place (z ∷ ys) zero low same = Contains-append_left (f z) (flat_map f ys) y (subst (λ (v : X). Contains (f v) y) (sym same) there)
  by_place (z ∷ ys) (suc k) low same = Contains-append_right (f z) (flat_map f ys) y (by_place ys k (omega (arith, low)) same)

-- ---- links

-- two delays within their limits, together, are their sum
together_sums : (x y : ℤ) → is_within 0 GREATEST_DELAY x ≡ true → is_within 0 GREATEST_DELAY y ≡ true → together x y ≡ x +ℤ y
together_sums (pos m) (pos n) a b = together_is m n a b
together_sums (negsuc m) y a b = absurd (false≢true a)
together_sums (pos m) (negsuc n) a b = absurd (false≢true b)

abbrev longer : DraftLink → Agreement → DraftLink
longer link agreement = record link { least = link.least +ℤ agreement.least; most = link.most +ℤ agreement.most }

module _ (agreements : List Agreement) (base : Draft) (are : Holds agreements base) where
  abbrev by : DraftLink → Agreement → Bool
  by link agreement = is_among link.to agreement.groups

  lengthened_is : (link : DraftLink) (agreement : Agreement) → Contains base.links link → leads_elsewhere link ≡ true → agreement_at agreements link.to ≡ Some agreement → lengthened agreements link ≡ longer link agreement
  lengthened_is link agreement there other e =
      let own = link_within base.delay link are.delay (all_contains (has_range base.delay) base.links link are.links there) in
      let more = agreement_within agreement (found_has is_agreement (by link) agreements agreement are.ranges e) (found_has (λ a. int_le a.most (pos GREATEST_DELAY)) (by link) agreements agreement are.short e) in
      let sums : lengthened_by (Some agreement) link ≡ longer link agreement = rw (together_sums link.least agreement.least own.0 more.0, together_sums link.most agreement.most own.1 more.1) refl in
      rw (other, e) sums

  kept_is : (link : DraftLink) → IsNone (agreement_at agreements link.to) → lengthened agreements link ≡ link
  kept_is link none =
      elim (cases_Bool (leads_elsewhere link)) [
        | inl other ↦ rw other (by_found (agreement_at agreements link.to) none)
        | inr home ↦ rw home refl
      ]
    where
      by_found : (found : Option Agreement) → IsNone found → lengthened_by found link ≡ link
      by_found None is = refl
      by_found (Some agreement) is = absurd (true≢false is)

  among : (link : DraftLink) → Contains base.links link → Contains (agreed agreements base).links (lengthened agreements link)
  among link there = Contains-append_left (map (lengthened agreements) base.links) (home_links agreements) (lengthened agreements link) (contains_map (lengthened agreements) base.links link there)

  base_has : HasAgreements agreements base.links (agreed agreements base).links
  base_has = record {
    lengthened = λ link agreement there other e. subst (λ (l : DraftLink). Contains (agreed agreements base).links l) (lengthened_is link agreement there other e) (among link there);
    kept = λ link there none. subst (λ (l : DraftLink). Contains (agreed agreements base).links l) (kept_is link none) (among link there);
    home = λ agreement group there named.
        Contains-append_right (map (lengthened agreements) base.links) (home_links agreements) (home_link agreement group)
        (contains_flat_map (λ a. map (home_link a) a.groups) agreements agreement (home_link agreement group) there (contains_map (home_link agreement) agreement.groups group named));
  }

-- what is written stays among the links when those for what goes by none are added
filled_has : (least : Option ℤ) (plain : Draft) (link : DraftLink) → Contains plain.links link → Contains (filled_by least plain).links link
filled_has None plain link there = there
filled_has (Some least) plain link there = Contains-append_left plain.links (map (link_along least plain.delay) (ways_without_link plain)) link there

least_has : (least : Option ℤ) (plain : Draft) (link : DraftLink) → Contains plain.links link → Contains (with_least least plain).links link
least_has None plain link there = there
least_has (Some least) plain link there =
    elim (cases_Bool (int_le least (pos 1))) [
      | inl one ↦ rw one there
      | inr more ↦ rw more (Contains-append_left plain.links (map (link_along least plain.delay) (ways_without_link plain)) link there)
    ]

pub all_lengthened : AgreementsLengthenLinks
all_lengthened least [] plain draft e =
    let is = same_ok (with_least least plain) draft e in
    record {
      lengthened = λ link agreement there other found. absurd cc;
      kept = λ link there none. subst (λ (d : Draft). Contains d.links link) is (least_has least plain link there);
      home = λ agreement group there named. absurd (contains_none agreement there);
    }
all_lengthened least (agreement ∷ others) plain draft e =
    let agreements : List Agreement = agreement ∷ others in
    let base : Draft = filled least plain in
    let checked = after_ok (judge (agreement_checks agreements base)) (λ u. Ok (agreed agreements base)) draft e in
    let is = same_ok (agreed agreements base) draft checked.2 in
    let has = base_has agreements base (holds agreements base checked.0 checked.1) in
    let stays = filled_has (least_of_rest plain.time least) plain in
    record {
      lengthened = λ link by there other found. subst (λ (d : Draft). Contains d.links (longer link by)) is (has.lengthened link by (stays link there) other found);
      kept = λ link there none. subst (λ (d : Draft). Contains d.links link) is (has.kept link (stays link there) none);
      home = λ by group there named. subst (λ (d : Draft). Contains d.links (home_link by group)) is (has.home by group there named);
    }
