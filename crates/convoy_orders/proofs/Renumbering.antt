-- What is told by numbers of groups, where each group goes by another one.
use Rattle.std.proofs.Common.{◌≡◌, ℕ, ◌==◌, inl, inr, refl, sym, ap, ◌∙◌}
use Rattle.std.proofs.lemmas.Bool.{cases_eq, eq-eqb, ne_eqb}
use Rattle.convoy_scenario.specs.declared.sender.Sender.{Sender}
use Rattle.convoy_scenario.specs.declared.sender.Sender.TheVariants.{Client, Group}
use Rattle.convoy_scenario.specs.Scenario.{is_same_sender}
use Rattle.convoy_packets.specs.declared.packet.Packet.{Packet}
use Rattle.convoy_packets.specs.declared.packet.Packet.TheVariants.{Wait, Multicast, Propose}
use Rattle.convoy_orders.specs.Renumbered.{renumbered_sender}

-- the packet, where each group goes by another number
abbrev pub renumbered_packet : (ℕ → ℕ) → Packet → Packet
renumbered_packet renumber (Wait m) = Wait m
renumbered_packet renumber (Multicast m g) = Multicast m (renumber g)
renumbered_packet renumber (Propose m h g) = Propose m (renumber h) (renumber g)

-- ---- numbers that lead back
module _ (renumber back : ℕ → ℕ) (again : (g : ℕ) → back (renumber g) ≡ g) where
  pub same_number : (a b : ℕ) → (renumber a == renumber b) ≡ (a == b)
  same_number a b = elim (cases_eq a b) [
    | inl e ↦ eq-eqb (renumber a) (renumber b) (ap renumber e) ∙ sym (eq-eqb a b e)
    | inr differ ↦ ne_eqb (renumber a) (renumber b) (λ e. differ (sym (again a) ∙ ap back e ∙ again b)) ∙ sym (ne_eqb a b differ)
  ]

  pub sender_again : (sender : Sender) → renumbered_sender back (renumbered_sender renumber sender) ≡ sender
  sender_again (Client p) = refl
  sender_again (Group g) = ap (λ h. Group h) (again g)

  pub same_sender : (sender other : Sender) → is_same_sender (renumbered_sender renumber sender) (renumbered_sender renumber other) ≡ is_same_sender sender other
  same_sender (Client p) (Client q) = refl
  same_sender (Client p) (Group h) = refl
  same_sender (Group g) (Client q) = refl
  same_sender (Group g) (Group h) = same_number g h
