-- Packets joined with those of their links.
use Rattle.std.proofs.Common.{◌≡◌, ℕ, suc, ◌+◌, ◌<◌, ◌≤◌, true, false, List, [], ◌∷◌, ◌++◌, length, get_or, drop, Some, None, Result, Ok, Err, refl, ap, sym, ◌∙◌, inl, inr, arith}
use Rattle.std.specs.Prelude.{slice_set, position, nat_le, nat_lt}
use Rattle.std.specs.List.{position_or_len}
use Rattle.std.proofs.lemmas.Bool.{cases_Bool}
use Rattle.std.proofs.lemmas.Bool.Decides.{nat_tests}
use Rattle.std.proofs.lemmas.List.{drop_all, drop_more}
use Rattle.convoy_lines.specs.Results.{◌>>=◌}
use Rattle.convoy_scenario.specs.Memory.{IsUnlessMemory}
use Rattle.convoy_traces.specs.declared.fault.TraceFault.{TraceFault}
use Rattle.convoy_traces.specs.declared.fault.TraceFault.TheVariants.{Memory}
use Rattle.convoy_traces.proofs.Chains.{goes_on, stops}
use Rattle.convoy_trace_ranges.specs.Events.{Entry}
use Rattle.convoy_trace_ranges.specs.Links.{Link, goes_by, joined, link_of, links_from, with_packet, with_packet_of}
use Rattle.convoy_trace_ranges.specs.Packets.{Packet}

-- the place of the first link by which the packet goes, or how many there are
abbrev place_of : List Link → Packet → ℕ
place_of links packet = position_or_len (goes_by packet) links

after_one : (k : ℕ) → 1 + k ≡ suc k
after_one k = omega arith

there : (links : List Link) (packet : Packet) (other : Link) → place_of links packet < length links
    → slice_set links (place_of links packet) (joined (get_or links (place_of links packet) other) packet) ≡ with_packet links packet
there [] packet other below = absurd (omega arith)
there (link ∷ links) packet other below =
    elim (cases_Bool (goes_by packet link)) [
      | inl same ↦ rw same refl
      | inr differs ↦
          let rest : place_of links packet < length links = let h = rw (differs, after_one) at below in omega (arith, h) in
          rw (differs, after_one) (ap (λ (ls : List Link). link ∷ ls) (there links packet other rest))
    ]

nowhere : (links : List Link) (packet : Packet) → length links ≤ place_of links packet → links ++ link_of packet ∷ [] ≡ with_packet links packet
nowhere [] packet past = refl
nowhere (link ∷ links) packet past =
    elim (cases_Bool (goes_by packet link)) [
      | inl same ↦ absurd (let h = rw same at past in omega (arith, h))
      | inr differs ↦
          let rest : length links ≤ place_of links packet = let h = rw (differs, after_one) at past in omega (arith, h) in
          rw differs (ap (λ (ls : List Link). link ∷ ls) (nowhere links packet rest))
    ]

pub joined_at : (links : List Link) (packet : Packet) (other : Link) (i : ℕ) → position (goes_by packet) links ≡ Some i
    → slice_set links i (joined (get_or links i other) packet) ≡ with_packet links packet
joined_at links packet other i is =
    elim (cases_Bool (nat_lt (place_of links packet) (length links))) [
      | inl below ↦
          let same : place_of links packet ≡ i = let h = rw below at is in cc h in
          rw (← same) (there links packet other (grind (arith, nat_tests)))
      | inr past ↦ absurd (let h = rw past at is in cc h)
    ]

pub joined_new : (links : List Link) (packet : Packet) → position (goes_by packet) links ≡ None → links ++ link_of packet ∷ [] ≡ with_packet links packet
joined_new links packet is =
    elim (cases_Bool (nat_lt (place_of links packet) (length links))) [
      | inl below ↦ absurd (let h = rw below at is in cc h)
      | inr past ↦ nowhere links packet (grind (arith, nat_tests))
    ]

module _ (entries all : List Entry) (links : List Link) (one : Entry) (i : ℕ) (total : Result (List Link) TraceFault) (below : i < length all) (is : one ≡ get_or all i one)
    (so_far : links_from entries links (drop i all) ≡ total) where
  -- the entry at hand stands before those that are left
  opened : (with_packet_of entries links one >>= (λ more. links_from entries more (drop (i + 1) all))) ≡ total
  unfolding links_from
  opened = sym (ap (links_from entries links) (rw (← is) at (drop_more all i one below))) ∙ so_far

  pub link_more : (new : List Link) → IsUnlessMemory Memory (with_packet_of entries links one) (Ok new) → links_from entries new (drop (i + 1) all) ≡ total
  link_more new told = goes_on (with_packet_of entries links one) (λ more. links_from entries more (drop (i + 1) all)) new total told opened

  pub link_stops : (fault : TraceFault) → IsUnlessMemory Memory (with_packet_of entries links one) (Err fault) → IsUnlessMemory Memory total (Err fault)
  link_stops fault told = stops (with_packet_of entries links one) (λ more. links_from entries more (drop (i + 1) all)) fault total told opened

pub links_done : (entries all : List Entry) (links : List Link) (i : ℕ) (total : Result (List Link) TraceFault) → length all ≤ i → links_from entries links (drop i all) ≡ total
    → IsUnlessMemory Memory total (Ok links)
unfolding links_from
links_done entries all links i total past so_far = inl (sym (ap (links_from entries links) (drop_all i all past)) ∙ so_far)
