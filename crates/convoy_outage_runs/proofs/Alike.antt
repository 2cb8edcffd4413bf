-- Scenarios whose messages are alike: the same packets travel.
use Rattle.std.proofs.Common.{◌≡◌, ℕ, suc, ◌<◌, ◌==◌, ◌&&◌, false, List, [], ◌∷◌, length, get_or, refl, sym, ap, ap₂, ◌∙◌, arith}
use Rattle.std.specs.List.{AllZip, list_any}
use Rattle.std.proofs.lemmas.Bool.{false≢true}
use Rattle.convoy_scenario.specs.Scenario.{HaveSameHomes, Scenario, is_addressed, message_at, stamp_takes_time, takes_time}
use Rattle.convoy_scenario.proofs.TakingTime.{same_takes}
use Rattle.convoy_packets.specs.declared.packet.Packet.{Packet}
use Rattle.convoy_packets.specs.declared.packet.Packet.TheVariants.{Wait, Multicast, Propose}
use Rattle.convoy_packets.specs.Packets.{is_wait}
use Rattle.convoy_packets.specs.ScheduleLaws.{is_sent}
use Rattle.convoy_laws.specs.IssueWindows.{AreAlike}

-- what holds of two lists place by place
pub zip_by_place : {X Y : Type 0} (R : X → Y → Type 0) (d : X) (e : Y) (xs : List X) (ys : List Y) → length ys ≡ length xs
    → ((m : ℕ) → m < length xs → R (get_or xs m d) (get_or ys m e)) → AllZip R xs ys
zip_by_place R d e [] [] long h = tt
zip_by_place R d e [] (y ∷ ys) long h = absurd (omega arith)
zip_by_place R d e (x ∷ xs) [] long h = absurd (omega arith)
zip_by_place R d e (x ∷ xs) (y ∷ ys) long h = (h 0 (omega arith), zip_by_place R d e xs ys (omega arith) (λ m l. h (suc m) (omega arith)))

pub length_zip : {X Y : Type 0} (R : X → Y → Type 0) (xs : List X) (ys : List Y) → AllZip R xs ys → length ys ≡ length xs
length_zip R [] [] h = refl
length_zip R [] (y ∷ ys) h = absurd h
length_zip R (x ∷ xs) [] h = absurd h
length_zip R (x ∷ xs) (y ∷ ys) h = ap suc (length_zip R xs ys h.1)

-- where messages are alike and the same groups have links to themselves, the same packets travel
module _ (plan other : Scenario) (homes : HaveSameHomes plan other) (alike : (m : ℕ) → AreAlike (message_at plan m) (message_at other m)) where
  same_addressed : (m g : ℕ) → is_addressed (message_at other m) g ≡ is_addressed (message_at plan m) g
  same_addressed m g = ap (λ hs. list_any (λ h. h == g) hs) (alike m).destinations

  pub sends_alike : (packet : Packet) → is_wait packet ≡ false → is_sent other packet ≡ is_sent plan packet
  sends_alike (Wait m) travels = absurd (false≢true (sym travels))
  sends_alike (Multicast m g) travels =
      let takes = same_takes plan other homes in
      ap₂ (λ a b. a && b) (same_addressed m g) (takes.messages (message_at other m).sender g ∙ ap (λ sender. takes_time plan sender g) (alike m).sender)
  sends_alike (Propose m h g) travels =
      let takes = same_takes plan other homes in
      ap₂ (λ a b. a && b && stamp_takes_time other h g) (same_addressed m h) (same_addressed m g)
      ∙ ap (λ takes. is_addressed (message_at plan m) h && is_addressed (message_at plan m) g && takes) (takes.stamps h g)
