-- A scenario in finer ticks has the same sum of shares.
use Rattle.std.proofs.Common.{◌≡◌, ℕ, ◌+◌, ◌*◌, min, List, [], ◌∷◌, ◌++◌, inl, inr, refl, ap, ap₂, ◌∙◌, arith, sum_by}
use Rattle.std.specs.List.{AllZip, enumerate_from, flat_map}
use Rattle.std.proofs.lemmas.Bool.{cases_Bool}
use Rattle.std.proofs.lemmas.List.Sums.{sum_by-append, sum_by-cons}
use Rattle.convoy_scenario.specs.declared.sender.Sender.{Sender}
use Rattle.convoy_scenario.specs.declared.sender.Sender.TheVariants.{Client, Group}
use Rattle.convoy_scenario.specs.Naming.{sender_name}
use Rattle.convoy_scenario.specs.Scenario.{Message, Scenario, TakeTimeAlike, may_wait, message_at}
use Rattle.convoy_scenario.proofs.TakingTime.{same_takes}
use Rattle.convoy_packets.specs.declared.packet.Packet.{Packet}
use Rattle.convoy_packets.specs.declared.packet.Packet.TheVariants.{Wait, Multicast, Propose}
use Rattle.convoy_packets.specs.Packets.{message_packets, multicast_packets, packets_of, propose_packets, wait_packets}
use Rattle.convoy_sim.specs.Greatest.{IsUpper}
use Rattle.convoy_laws.specs.FinerTicks.{IsFiner, IsFinerMessage, ScenariosAreRoundable, WholeTicksAreEnough}
use Rattle.convoy_laws.proofs.SameParts.{same_message}
use Rattle.convoy_laws.proofs.Stretched.{same_sends}
use Rattle.convoy_toml.specs.declared.share.TheConstants.{WHOLE_SHARE}
use Rattle.convoy_toml.specs.Outside.{LinkShare}
use Rattle.convoy_outside.specs.Sums.{outside_of, share_of}
use Rattle.convoy_outside.specs.OutsideLaws.{LateFinerRunsAreFew, LateRunsAreFew}

-- what travels of a message, which tells who sends it and where it goes
abbrev travelling : Scenario → ℕ → Sender → List ℕ → List Packet
travelling plan m sender destinations =
    multicast_packets plan m (record { name = []; sender = sender; destinations = destinations; at = 0; longest_wait = 0 })
    ++ flat_map (propose_packets plan m (record { name = []; sender = sender; destinations = destinations; at = 0; longest_wait = 0 })) destinations

module _ (f : Packet → ℕ) (light : (m : ℕ) → f (Wait m) ≡ 0) where
  wait_sum : (m : ℕ) (message : Message) → sum_by f (wait_packets m message) ≡ 0
  wait_sum m message = elim (cases_Bool (may_wait message)) [
    | inl waits ↦ rw waits (omega (arith, sum_by-cons f (Wait m) [], light m))
    | inr known ↦ rw known refl
  ]

  message_sum : (plan : Scenario) (m : ℕ) (message : Message) → sum_by f (message_packets plan m message) ≡ sum_by f (travelling plan m message.sender message.destinations)
  message_sum plan m message =
      omega (arith, sum_by-append f (wait_packets m message) (travelling plan m message.sender message.destinations), wait_sum m message)

  module _ (k : ℕ) (plan fine : Scenario) (takes : TakeTimeAlike plan fine) where
    sums_in : (n : ℕ) (xs ys : List Message) → AllZip (IsFinerMessage k) xs ys
        → sum_by f (flat_map (λ p. message_packets fine p.0 p.1) (enumerate_from n ys)) ≡ sum_by f (flat_map (λ p. message_packets plan p.0 p.1) (enumerate_from n xs))
    sums_in n [] [] h = refl
    sums_in n [] (y ∷ ys) h = absurd h
    sums_in n (x ∷ xs) [] h = absurd h
    sums_in n (x ∷ xs) (y ∷ ys) h =
        let one = sum_by-append f (message_packets plan n x) (flat_map (λ p. message_packets plan p.0 p.1) (enumerate_from (n + 1) xs)) in
        let other = sum_by-append f (message_packets fine n y) (flat_map (λ p. message_packets fine p.0 p.1) (enumerate_from (n + 1) ys)) in
        let sends = ap (λ (packets : List Packet). sum_by f packets) (same_sends plan fine takes n y) in
        let same = ap₂ (λ sender destinations. sum_by f (travelling plan n sender destinations)) h.0.sender h.0.destinations in
        omega (arith, one, other, sends, same, message_sum plan n x, message_sum plan n y, sums_in (n + 1) xs ys h.1)

pointwise : (f g : Packet → ℕ) → ((p : Packet) → f p ≡ g p) → (ps : List Packet) → sum_by f ps ≡ sum_by g ps
pointwise f g same [] = refl
pointwise f g same (p ∷ ps) = omega (arith, sum_by-cons f p ps, sum_by-cons g p ps, same p, pointwise f g same ps)

module _ (times : ℕ) (shares : List LinkShare) (scenario finer : Scenario) (is : IsFiner times scenario finer) (groups : finer.groups ≡ scenario.groups) (places : finer.places ≡ scenario.places) where
  same_name : (sender : Sender) → sender_name finer sender ≡ sender_name scenario sender
  same_name (Client p) = rw places refl
  same_name (Group g) = rw groups refl

  same_share : (packet : Packet) → share_of shares finer packet ≡ share_of shares scenario packet
  same_share (Wait m) = refl
  same_share (Multicast m g) =
      let sent = (same_message times scenario finer is m).sender in
      rw (sent, same_name (message_at scenario m).sender, groups) refl
  same_share (Propose m h g) = rw groups refl

  same_sum : outside_of shares finer ≡ outside_of shares scenario
  unfolding outside_of packets_of
  same_sum =
      ap (λ n. min n WHOLE_SHARE)
      (pointwise (share_of shares finer) (share_of shares scenario) same_share (packets_of finer)
      ∙ sums_in (share_of shares scenario) (λ m. refl) times scenario finer (same_takes scenario finer is.homes) 0 scenario.multicasts finer.multicasts is.messages)

pub finer_are_few : LateRunsAreFew → ScenariosAreRoundable → WholeTicksAreEnough → LateFinerRunsAreFew
finer_are_few few roundable enough times shares scenario finer upper runs well real is groups places up are =
    let none_above : IsUpper finer (times * upper) = enough times scenario finer upper (roundable scenario well) real is up in
    rw (← same_sum times shares scenario finer is groups places) (few shares finer (times * upper) runs none_above are)
