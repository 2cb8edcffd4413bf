-- What a scenario has in common with the same one in finer ticks: its messages, their destinations, and the packets that travel.
use Rattle.std.proofs.Common.{◌≡◌, ℕ, zero, suc, ◌+◌, ◌*◌, ◌==◌, ◌&&◌, List, [], ◌∷◌, length, get_or, filter, refl, ap, ap₂, ◌∙◌, arith}
use Rattle.std.specs.List.{AllZip, list_any, range_with_len}
use Rattle.convoy_scenario.specs.Scenario.{Message, Scenario, GoesTo, no_message, message_at, message_numbers, is_addressed, stamp_takes_time, takes_time}
use Rattle.convoy_scenario.proofs.TakingTime.{same_takes}
use Rattle.convoy_packets.specs.declared.packet.Packet.TheVariants.{Multicast, Propose}
use Rattle.convoy_packets.specs.ScheduleLaws.{is_sent}
use Rattle.convoy_sim.specs.Delivery.{addressed_to}
use Rattle.convoy_laws.specs.FinerTicks.{IsFinerMessage, IsFiner}
use Rattle.convoy_origin.proofs.Lists.{filter_same}

message_in : (k : ℕ) (xs ys : List Message) (m : ℕ) → AllZip (IsFinerMessage k) xs ys → IsFinerMessage k (get_or xs m no_message) (get_or ys m no_message)
message_in k [] [] m h = record { sender = refl; destinations = refl; at = omega arith; until = omega arith }
message_in k [] (y ∷ ys) m h = absurd h
message_in k (x ∷ xs) [] m h = absurd h
message_in k (x ∷ xs) (y ∷ ys) zero h = h.0
message_in k (x ∷ xs) (y ∷ ys) (suc m) h = message_in k xs ys m h.1

as_many : (k : ℕ) (xs ys : List Message) → AllZip (IsFinerMessage k) xs ys → length ys ≡ length xs
as_many k [] [] h = refl
as_many k [] (y ∷ ys) h = absurd h
as_many k (x ∷ xs) [] h = absurd h
as_many k (x ∷ xs) (y ∷ ys) h = ap suc (as_many k xs ys h.1)

module _ (k : ℕ) (plan fine : Scenario) (is : IsFiner k plan fine) where
  pub same_message : (m : ℕ) → IsFinerMessage k (message_at plan m) (message_at fine m)
  same_message m = message_in k plan.multicasts fine.multicasts m is.messages

  pub same_numbers : message_numbers fine ≡ message_numbers plan
  same_numbers = ap (range_with_len 0) (as_many k plan.multicasts fine.multicasts is.messages)

  pub same_addressed : (m g : ℕ) → is_addressed (message_at fine m) g ≡ is_addressed (message_at plan m) g
  same_addressed m g = ap (λ hs. list_any (λ h. h == g) hs) (same_message m).destinations

  pub goes_too : (m g : ℕ) → GoesTo plan m g → GoesTo fine m g
  goes_too m g goes = same_addressed m g ∙ goes

  pub same_addressed_to : (g : ℕ) → addressed_to fine g ≡ addressed_to plan g
  same_addressed_to g =
      filter_same (λ n. is_addressed (message_at fine n) g) (λ n. is_addressed (message_at plan n) g) (message_numbers fine) (λ n. same_addressed n g)
      ∙ ap (filter (λ n. is_addressed (message_at plan n) g)) same_numbers

  -- a message or a stamp is a packet of both, or of none
  pub same_multicast : (m g : ℕ) → is_sent fine (Multicast m g) ≡ is_sent plan (Multicast m g)
  same_multicast m g =
      ap₂ (λ a b. a && b) (same_addressed m g)
      ((same_takes plan fine is.homes).messages (message_at fine m).sender g ∙ ap (λ sender. takes_time plan sender g) (same_message m).sender)

  pub same_propose : (m h g : ℕ) → is_sent fine (Propose m h g) ≡ is_sent plan (Propose m h g)
  same_propose m h g =
      ap₂ (λ a b. a && b && stamp_takes_time fine h g) (same_addressed m h) (same_addressed m g)
      ∙ ap (λ takes. is_addressed (message_at plan m) h && is_addressed (message_at plan m) g && takes) ((same_takes plan fine is.homes).stamps h g)

  -- what is issued at a tick is issued just then in finer ticks
  pub fixed_too : (m : ℕ) → (message_at plan m).longest_wait ≡ 0 → ((message_at fine m).at ≡ k * (message_at plan m).at) × ((message_at fine m).longest_wait ≡ 0)
  fixed_too m fixed =
      let is_in = same_message m in
      let first = is_in.at in
      let last = is_in.until in
      let end : (message_at plan m).at + (message_at plan m).longest_wait ≡ (message_at plan m).at = omega arith in
      let times_end = ap (λ n. k * n) end in
      (omega arith, omega arith)
