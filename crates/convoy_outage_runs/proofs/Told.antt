-- What a run through outages has in common with the scenario that it is a run of: its messages, each issued in its window, and the packets that travel.
use Rattle.std.proofs.Common.{◌≡◌, ℕ, ◌+◌, ◌*◌, ◌<◌, ◌≤◌, ◌==◌, false, inl, inr, length, sym, ap, subst₂, ◌∙◌, arith}
use Rattle.std.specs.List.{list_any}
use Rattle.std.proofs.lemmas.Bool.{cases_lt}
use Rattle.std.proofs.lemmas.List.{get_or_past}
use Rattle.std.proofs.lemmas.List.Elements.{AllZip-get_or}
use Rattle.convoy_scenario.specs.Scenario.{Message, Scenario, GoesTo, message_at, no_message}
use Rattle.convoy_packets.specs.declared.packet.Packet.{Packet}
use Rattle.convoy_packets.specs.Packets.{is_wait}
use Rattle.convoy_packets.specs.Assignment.{Schedule}
use Rattle.convoy_packets.specs.ScheduleLaws.{is_sent}
use Rattle.convoy_sim.specs.Times.{issue}
use Rattle.convoy_laws.specs.FinerTicks.{IsFinerMessage}
use Rattle.convoy_laws.specs.IssueWindows.{AreAlike}
use Rattle.convoy_outages.specs.Outages.{Outages}
use Rattle.convoy_outage_runs.specs.OutageRuns.{IsRunThrough}
use Rattle.convoy_outage_runs.proofs.Alike.{length_zip, sends_alike}

module _ (down : Outages) (times : ℕ) (plan told : Scenario) (schedule : Schedule) (run : IsRunThrough down times plan told schedule) where
  pub told_many : length told.multicasts ≡ length plan.multicasts
  told_many = length_zip (IsFinerMessage times) plan.multicasts told.multicasts run.messages

  pub told_message : (m : ℕ) → m < length plan.multicasts → IsFinerMessage times (message_at plan m) (message_at told m)
  told_message m l = AllZip-get_or (IsFinerMessage times) plan.multicasts told.multicasts m no_message no_message run.messages l

  pub told_alike : (m : ℕ) → AreAlike (message_at plan m) (message_at told m)
  told_alike m = elim (cases_lt m (length plan.multicasts)) [
    | inl l ↦ let is = told_message m l in record { sender = is.sender; destinations = is.destinations }
    | inr past ↦
        let many = told_many in
        let none = get_or_past plan.multicasts m no_message past in
        let told_none = get_or_past told.multicasts m no_message (omega arith) in
        record { sender = ap (λ (message : Message). message.sender) (told_none ∙ sym none); destinations = ap (λ (message : Message). message.destinations) (told_none ∙ sym none) }
  ]

  -- each message is issued in its window
  pub issued_within : (m : ℕ) → m < length plan.multicasts
      → (times * (message_at plan m).at ≤ issue told schedule m) × (issue told schedule m ≤ times * ((message_at plan m).at + (message_at plan m).longest_wait))
  issued_within m l =
      let is = told_message m l in
      let first = is.at in
      let last = is.until in
      let wait = run.waits m in
      (omega arith, omega arith)

  -- the same packets travel
  pub told_sends : (packet : Packet) → is_wait packet ≡ false → is_sent told packet ≡ is_sent plan packet
  told_sends = sends_alike plan told run.homes told_alike

  -- a message goes where it does, and so does the target
  pub told_goes : (m g : ℕ) → GoesTo plan m g → GoesTo told m g
  told_goes m g goes = ap (λ hs. list_any (λ h. h == g) hs) (told_alike m).destinations ∙ goes

  pub target_goes : GoesTo plan plan.target_message plan.target_group → GoesTo told told.target_message told.target_group
  target_goes goes =
      subst₂ (λ m g. GoesTo told m g) (sym run.target_message) (sym run.target_group) (told_goes plan.target_message plan.target_group goes)
