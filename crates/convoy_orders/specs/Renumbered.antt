-- Two scenarios that are one but for the order in which their groups are listed: each group goes by another number.
use Rattle.std.specs.Prelude.{◌≡◌, ℕ, length}
use Rattle.convoy_scenario.specs.declared.sender.Sender.{Sender}
use Rattle.convoy_scenario.specs.declared.sender.Sender.TheVariants.{Client, Group}
use Rattle.convoy_scenario.specs.Scenario.{Message, Scenario, message_at, is_addressed, range_between, stamp_takes_time, takes_time}

-- the sender, where each group goes by another number; clients stay where they are
abbrev pub renumbered_sender : (ℕ → ℕ) → Sender → Sender
renumbered_sender renumber (Client p) = Client p
renumbered_sender renumber (Group g) = Group (renumber g)

-- the messages are one but for the numbers of groups: one sender, the same destinations, in whatever order, and the same times of issue
pub record IsRenumberedMessage (renumber : ℕ → ℕ) (message other : Message) : Type 0 where
  pub sender : other.sender ≡ renumbered_sender renumber message.sender
  pub destinations : (g : ℕ) → is_addressed other (renumber g) ≡ is_addressed message g
  pub at : other.at ≡ message.at
  pub wait : other.longest_wait ≡ message.longest_wait

-- the same groups have links to themselves, for messages alone or for stamps, too, where each group goes by another number
pub record HaveRenumberedHomes (renumber : ℕ → ℕ) (scenario other : Scenario) : Type 0 where
  pub messages : (g : ℕ) → takes_time other (Group (renumber g)) (renumber g) ≡ takes_time scenario (Group g) g
  pub stamps : (g : ℕ) → stamp_takes_time other (renumber g) (renumber g) ≡ stamp_takes_time scenario g g

-- each group of the scenario goes by its new number in the other one, and by `back` of that in the scenario; time, messages, which groups have links to themselves, the range between any two places, and the target are the same
pub record IsRenumbered (renumber back : ℕ → ℕ) (scenario other : Scenario) : Type 0 where
  pub back_again : (g : ℕ) → back (renumber g) ≡ g
  pub there_again : (g : ℕ) → renumber (back g) ≡ g
  pub time : other.time ≡ scenario.time
  pub message_count : length other.multicasts ≡ length scenario.multicasts
  pub messages : (m : ℕ) → IsRenumberedMessage renumber (message_at scenario m) (message_at other m)
  pub homes : HaveRenumberedHomes renumber scenario other
  pub ranges : (sender : Sender) (to : ℕ) → range_between other (renumbered_sender renumber sender) (renumber to) ≡ range_between scenario sender to
  pub target_message : other.target_message ≡ scenario.target_message
  pub target_group : other.target_group ≡ renumber scenario.target_group
