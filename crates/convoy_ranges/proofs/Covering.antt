-- Each round trip of a table is covered by that of its pair.
use Rattle.std.proofs.Common.{◌≡◌, ℕ, suc, ◌≤◌, true, List, [], ◌∷◌, length, Option, Some, None, Ok, min, refl, inl, inr, arith, IfSome, ◌⊎◌, if◌then◌else◌}
use Rattle.std.specs.Prelude.{nat_le, nat_lt}
use Rattle.std.specs.List.{All, AllByRecursion}
use Rattle.std.proofs.lemmas.Bool.{cases_Bool}
use Rattle.std.proofs.lemmas.Bool.Decides.{nat_tests}
use Rattle.std.proofs.lemmas.List.Elements.{All-from_recursion}
use Rattle.convoy_scenario.proofs.NumberedAgain.{itself}
use Rattle.convoy_ranges.specs.declared.fault.TheConstants.{MOST_PAIRS}
use Rattle.convoy_ranges.specs.Tables.{Sighting}
use Rattle.convoy_ranges.specs.Ranges.{is_same_pair, joined, nearer, pairs_from, with_seen}
use Rattle.convoy_ranges.specs.RangeLaws.{IsCovered}

-- one round trip covers another
record Covers (pair seen : Sighting) : Type 0 where
  same : is_same_pair pair seen ≡ true
  longest : seen.round_trip ≤ pair.round_trip
  nearest : IfSome seen.kilometres (λ far. (near : ℕ) × (pair.kilometres ≡ Some near) × (near ≤ far))

-- one of the pairs covers it
abbrev CoverOf : List Sighting → Sighting → Type 0
CoverOf [] seen = ⊥
CoverOf (pair ∷ pairs) seen = Covers pair seen ⊎ CoverOf pairs seen

near_more : (a b far : Option ℕ) → IfSome far (λ f. (n : ℕ) × (a ≡ Some n) × (n ≤ f)) → IfSome far (λ f. (n : ℕ) × (nearer a b ≡ Some n) × (n ≤ f))
near_more a b None h = tt
near_more None b (Some f) (n, is, le) = absurd cc
near_more (Some m) None (Some f) (n, is, le) = (n, is, le)
near_more (Some m) (Some k) (Some f) (n, is, le) = let same : m ≡ n = cc in (min m k, refl, omega arith)

near_new : (a b : Option ℕ) → IfSome b (λ f. (n : ℕ) × (nearer a b ≡ Some n) × (n ≤ f))
near_new a None = tt
near_new None (Some k) = (k, refl, omega arith)
near_new (Some m) (Some k) = (min m k, refl, omega arith)

longer : (a b n : ℕ) → n ≤ a → n ≤ (if nat_lt a b then b else a)
longer a b n le = elim (cases_Bool (nat_lt a b)) [ inl less ↦ rw less (grind (arith, nat_tests)) | inr not_less ↦ rw not_less le ]

longer_new : (a b : ℕ) → b ≤ (if nat_lt a b then b else a)
longer_new a b = elim (cases_Bool (nat_lt a b)) [ inl less ↦ rw less (omega arith) | inr not_less ↦ rw not_less (grind (arith, nat_tests)) ]

covers_more : (pair more seen : Sighting) → Covers pair seen → Covers (joined pair more) seen
covers_more pair more seen c = record {
  same = c.same;
  longest = longer pair.round_trip more.round_trip seen.round_trip c.longest;
  nearest = near_more pair.kilometres more.kilometres seen.kilometres c.nearest;
}

covers_new : (pair seen : Sighting) → is_same_pair pair seen ≡ true → Covers (joined pair seen) seen
covers_new pair seen same = record {
  same = same;
  longest = longer_new pair.round_trip seen.round_trip;
  nearest = near_new pair.kilometres seen.kilometres;
}

near_self : (a : Option ℕ) → IfSome a (λ f. (n : ℕ) × (a ≡ Some n) × (n ≤ f))
near_self None = tt
near_self (Some k) = (k, refl, omega arith)

covers_self : (seen : Sighting) → Covers seen seen
covers_self seen = record { same = rw (itself seen.from, itself seen.to) refl; longest = omega arith; nearest = near_self seen.kilometres }

-- what was covered stays so
cover_stays : (pairs : List Sighting) (more seen : Sighting) → CoverOf pairs seen → CoverOf (with_seen pairs more) seen
cover_stays [] more seen h = absurd h
cover_stays (pair ∷ pairs) more seen h =
    elim (cases_Bool (is_same_pair pair more)) [
      | inl same ↦ rw same (elim h [ inl here ↦ inl (covers_more pair more seen here) | inr later ↦ inr later ])
      | inr differs ↦ rw differs (elim h [ inl here ↦ inl here | inr later ↦ inr (cover_stays pairs more seen later) ])
    ]

-- what is joined is covered
cover_new : (pairs : List Sighting) (seen : Sighting) → CoverOf (with_seen pairs seen) seen
cover_new [] seen = inl (covers_self seen)
cover_new (pair ∷ pairs) seen =
    elim (cases_Bool (is_same_pair pair seen)) [
      | inl same ↦ rw same (inl (covers_new pair seen same))
      | inr differs ↦ rw differs (inr (cover_new pairs seen))
    ]

-- the pairs that are told at last
record IsKept (pairs rest last : List Sighting) : Type 0 where
  before : (seen : Sighting) → CoverOf pairs seen → CoverOf last seen
  after : AllByRecursion (CoverOf last) rest

all_kept : (pairs rest last : List Sighting) → pairs_from pairs rest ≡ Ok last → IsKept pairs rest last
unfolding pairs_from
all_kept pairs [] last is = let same : pairs ≡ last = cc in record { before = λ seen h. rw (← same) h; after = tt }
all_kept pairs (seen ∷ rest) last is =
    elim (cases_Bool (nat_le (length (with_seen pairs seen)) MOST_PAIRS)) [
      | inl few ↦
          let k = all_kept (with_seen pairs seen) rest last (rw few at is) in
          record { before = λ other h. k.before other (cover_stays pairs seen other h); after = (k.before seen (cover_new pairs seen), k.after) }
      | inr many ↦ absurd (let h = rw many at is in cc h)
    ]

covered_by : (pairs : List Sighting) (seen : Sighting) → CoverOf pairs seen → IsCovered pairs seen
covered_by [] seen h = absurd h
covered_by (pair ∷ pairs) seen (inl here) = record { pair = pair; listed = (0, omega arith, refl); same = here.same; longest = here.longest; nearest = here.nearest }
covered_by (pair ∷ pairs) seen (inr later) =
    let c = covered_by pairs seen later in
    let (k, below, is) = c.listed in
    record { pair = c.pair; listed = (suc k, omega arith, is); same = c.same; longest = c.longest; nearest = c.nearest }

all_covered : (pairs rest : List Sighting) → AllByRecursion (CoverOf pairs) rest → AllByRecursion (IsCovered pairs) rest
all_covered pairs [] h = tt
all_covered pairs (seen ∷ rest) h = (covered_by pairs seen h.0, all_covered pairs rest h.1)

pub pairs_cover : (seen pairs : List Sighting) → pairs_from [] seen ≡ Ok pairs → All (IsCovered pairs) seen
pairs_cover seen pairs is = All-from_recursion (IsCovered pairs) seen (all_covered pairs seen (all_kept [] seen pairs is).after)
