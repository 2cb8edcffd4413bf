-- The scenarios of a plan have ticks of one length, wherever the groups are; or in all of them ticks have no length.
use Rattle.std.proofs.Common.{◌≡◌, ℕ, ℤ, ◌&&◌, max, Bool, true, false, cond, List, [], ◌∷◌, ◌++◌, map, flat_map, find, Option, Some, None, Result, Ok, Err, append-nil, refl, sym, ap, subst, ◌∙◌}
use Rattle.std.specs.List.{list_all}
use Rattle.std.proofs.lemmas.Bool.{and_parts, false≢true}
use Rattle.std.proofs.lemmas.List.Folds.{list_all-append}
use Rattle.convoy_toml.specs.Results.{◌>>=◌}
use Rattle.convoy_draft.specs.Checks.{is_named_alike}
use Rattle.convoy_draft.specs.declared.fault.Key.{Key}
use Rattle.convoy_draft.specs.declared.fault.Key.TheVariants.{Least, Most, Tick}
use Rattle.convoy_draft.specs.declared.fault.ScenarioFault.{ScenarioFault}
use Rattle.convoy_draft.specs.declared.fault.ScenarioFault.TheVariants.{Shape}
use Rattle.convoy_toml.specs.declared.written.WrittenTime.{WrittenTime}
use Rattle.convoy_toml.specs.declared.written.WrittenTime.TheVariants.{Count, Lasting}
use Rattle.convoy_toml.specs.Links.{Bundle}
use Rattle.convoy_toml.specs.Shape.{WrittenLink}
use Rattle.convoy_toml.specs.Times.{bundle_of, bundles_of, divisor_of_all, if_written, is_count, is_lasting, length_of, tick_between, tick_of, times_of_links, times_of_message, whole}
use Rattle.convoy_toml.proofs.FinerDrafts.{after_ok, same_ok}
use Rattle.convoy_plans.specs.Placements.{Spot, group_numbers, link_along, link_to, links_at, links_from, message_in, site_at, spots, table_between, table_to, written_at}
use Rattle.convoy_plans.specs.Plans.{IsPlan, Plan, group_name, site_name}
use Rattle.convoy_plans.specs.Ranges.{leads}

-- ---- times that are all numbers of ticks
abbrev all_counts : List WrittenTime → Bool
all_counts times = list_all is_count times

abbrev AreCounted : List WrittenLink → Type 0
AreCounted links = all_counts (times_of_links links) ≡ true

times_append : (xs ys : List WrittenLink) → times_of_links (xs ++ ys) ≡ times_of_links xs ++ times_of_links ys
times_append [] ys = refl
times_append (x ∷ xs) ys = ap (λ times. x.least ∷ x.most ∷ times) (times_append xs ys)

counted_append : (xs ys : List WrittenLink) → AreCounted xs → AreCounted ys → AreCounted (xs ++ ys)
counted_append xs ys first second =
    ap all_counts (times_append xs ys) ∙ list_all-append is_count (times_of_links xs) (times_of_links ys)
    ∙ ap (λ b. b && all_counts (times_of_links ys)) first ∙ second

counted_each : {X : Type 0} (f : X → List WrittenLink) (xs : List X) → ((x : X) → AreCounted (f x)) → AreCounted (flat_map f xs)
counted_each f [] each = refl
counted_each f (x ∷ xs) each = counted_append (f x) (flat_map f xs) (each x) (counted_each f xs each)

-- a link of some that are
counted_link : (link : WrittenLink) (links : List WrittenLink) → AreCounted (link ∷ links) → AreCounted (link ∷ [])
counted_link link links counted =
    let first = and_parts (is_count link.least) (is_count link.most && all_counts (times_of_links links)) counted in
    let second = and_parts (is_count link.most) (all_counts (times_of_links links)) first.1 in
    ap (λ b. b && (is_count link.most && true)) first.0 ∙ ap (λ b. b && true) second.0

counted_rest : (link : WrittenLink) (links : List WrittenLink) → AreCounted (link ∷ links) → AreCounted links
counted_rest link links counted =
    let first = and_parts (is_count link.least) (is_count link.most && all_counts (times_of_links links)) counted in
    (and_parts (is_count link.most) (all_counts (times_of_links links)) first.1).1

counted_found : (test : WrittenLink → Bool) (links : List WrittenLink) (link : WrittenLink) → AreCounted links → find test links ≡ Some link → AreCounted (link ∷ [])
counted_found test [] link counted found = absurd cc
counted_found test (x ∷ xs) link counted found = by_test (test x) found (counted_found test xs link (counted_rest x xs counted)) where
  by_test : (b : Bool) → cond b (Some x) (find test xs) ≡ Some link → (find test xs ≡ Some link → AreCounted (link ∷ [])) → AreCounted (link ∷ [])
  by_test true is later =
      let same : x ≡ link = cc in
      subst (λ l. AreCounted (l ∷ [])) same (counted_link x xs counted)
  by_test false is later = later is

-- ---- the links of a placement
counted_along : (spot : Spot) (to : List ℕ) (table : Option WrittenLink) → ((link : WrittenLink) → table ≡ Some link → AreCounted (link ∷ [])) → AreCounted (link_along spot to table)
counted_along spot to None each = refl
counted_along spot to (Some link) each = each link refl

counted_at : (plan : Plan) (placement : List ℕ) → AreCounted plan.written.links → AreCounted (links_at plan placement)
counted_at plan placement counted =
    counted_each (links_from plan placement) (spots plan placement)
    (λ spot. counted_each (link_to plan placement spot) (group_numbers plan)
    (λ g. counted_along spot (group_name plan g) (table_to plan placement spot g)
    (λ link. between spot g link (is_named_alike spot.name (Some (group_name plan g))))))
  where
    between : (spot : Spot) (g : ℕ) (link : WrittenLink) (alike : Bool) → cond alike None (table_between plan spot.site (site_at placement g)) ≡ Some link → AreCounted (link ∷ [])
    between spot g link true is = absurd cc
    between spot g link false is = counted_found (λ l. leads l.ends (site_name plan spot.site) (site_name plan (site_at placement g))) plan.written.links link counted is

-- ---- where no tick has a length
whole_counts : (key : Key) (time : WrittenTime) (ticks : ℤ) → whole None key time ≡ Ok ticks → is_count time ≡ true
whole_counts key (Count ticks) made is = refl
whole_counts key (Lasting length) made is = absurd cc

bundle_counts : (link : WrittenLink) (made : Bundle) → bundle_of None link ≡ Ok made → AreCounted (link ∷ [])
bundle_counts link made is =
    let least = after_ok (whole None Least link.least) (λ n. whole None Most link.most >>= λ most. Ok (record { ends = link.ends; least = n; most = most; stamps = link.stamps })) made is in
    let most = after_ok (whole None Most link.most) (λ n. Ok (record { ends = link.ends; least = least.0; most = n; stamps = link.stamps })) made least.2 in
    ap (λ b. b && (is_count link.most && true)) (whole_counts Least link.least least.0 least.1) ∙ ap (λ b. b && true) (whole_counts Most link.most most.0 most.1)

bundles_count : (links : List WrittenLink) (made : List Bundle) → bundles_of None links ≡ Ok made → AreCounted links
bundles_count [] made is = refl
bundles_count (link ∷ links) made is =
    let here = after_ok (bundle_of None link) (λ b. bundles_of None links >>= λ bs. Ok (b ∷ bs)) made is in
    let others = after_ok (bundles_of None links) (λ bs. Ok (here.0 ∷ bs)) made here.2 in
    counted_append (link ∷ []) links (bundle_counts link here.0 here.1) (bundles_count links others.0 others.1)

-- ---- the length of a tick
-- times that are all numbers of ticks say nothing of it
without_counts : (xs ys : List WrittenTime) (tick : Option ℕ) → all_counts ys ≡ true → tick_between (xs ++ ys) ≡ Ok tick → tick_between xs ≡ Ok tick
without_counts xs [] tick counted is = subst (λ times. tick_between times ≡ Ok tick) (append-nil xs) is
without_counts xs (Lasting length ∷ ys) tick counted is = absurd (false≢true counted)
without_counts xs (Count ticks ∷ ys) tick counted is = by_test (all_counts xs) refl where
  rest : List WrittenTime
  rest = Count ticks ∷ ys

  lasting : list_all is_lasting (xs ++ rest) ≡ false
  lasting = list_all-append is_lasting xs rest ∙ none (list_all is_lasting xs) where
    none : (b : Bool) → (b && false) ≡ false
    none true = refl
    none false = refl

  all : all_counts (xs ++ rest) ≡ all_counts xs
  all = list_all-append is_count xs rest ∙ ap (λ b. all_counts xs && b) counted ∙ whole_test (all_counts xs) where
    whole_test : (b : Bool) → (b && true) ≡ b
    whole_test true = refl
    whole_test false = refl

  by : Bool → Bool → List WrittenTime → Result (Option ℕ) ScenarioFault
  by counts last times = cond counts (Ok None) (cond last (Ok (Some (max 1 (divisor_of_all 0 (map length_of times))))) (Err (Shape Tick)))

  read : by (all_counts xs) false (xs ++ rest) ≡ Ok tick
  read = subst (λ b. by (all_counts xs) b (xs ++ rest) ≡ Ok tick) lasting (subst (λ b. by b (list_all is_lasting (xs ++ rest)) (xs ++ rest) ≡ Ok tick) all is)

  by_test : (b : Bool) → all_counts xs ≡ b → tick_between xs ≡ Ok tick
  by_test true counts =
      ap (λ b. by b (list_all is_lasting xs) xs) counts ∙ subst (λ b. by b false (xs ++ rest) ≡ Ok tick) counts read
  by_test false counts = absurd (let wrong = subst (λ b. by b false (xs ++ rest) ≡ Ok tick) counts read in cc)

-- the times that are in each scenario of the plan
abbrev times_in : Plan → List WrittenTime
times_in plan = if_written plan.written.delay ++ if_written plan.written.least ++ flat_map times_of_message (map (message_in plan) plan.written.messages)

tick_without : (plan : Plan) (placement : List ℕ) (tick : Option ℕ) → IsPlan plan → plan.tick ≡ None → tick_of (written_at plan placement) ≡ Ok tick
    → tick_between (times_in plan) ≡ Ok tick
tick_without plan placement tick is none made =
    without_counts (times_in plan) (times_of_links (links_at plan placement)) tick
    (counted_at plan placement (bundles_count plan.written.links is.bundles (subst (λ (t : Option ℕ). bundles_of t plan.written.links ≡ Ok is.bundles) none is.ticks)))
    (sym (ap (λ (t : Option ℕ). tick_of (record (written_at plan placement) { tick = t })) none) ∙ made)

pub same_tick : (plan : Plan) (first second : List ℕ) (tick other : Option ℕ) → IsPlan plan → tick_of (written_at plan first) ≡ Ok tick
    → tick_of (written_at plan second) ≡ Ok other → tick ≡ other
same_tick plan first second tick other is made other_made = by_tick plan.tick refl where
  by_tick : (t : Option ℕ) → plan.tick ≡ t → tick ≡ other
  by_tick (Some length) here =
      let one : tick_of (written_at plan first) ≡ Ok (Some length) = ap (λ (t : Option ℕ). tick_of (record (written_at plan first) { tick = t })) here in
      let two : tick_of (written_at plan second) ≡ Ok (Some length) = ap (λ (t : Option ℕ). tick_of (record (written_at plan second) { tick = t })) here in
      same_ok tick (Some length) (sym made ∙ one) ∙ sym (same_ok other (Some length) (sym other_made ∙ two))
  by_tick None here = same_ok tick other (sym (tick_without plan first tick is here made) ∙ tick_without plan second other is here other_made)
