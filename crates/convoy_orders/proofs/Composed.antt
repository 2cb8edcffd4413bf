-- A scenario with its groups listed in one order and then in another.
use Rattle.std.proofs.Common.{◌≡◌, ℕ, refl, sym, ap, ◌∙◌}
use Rattle.convoy_scenario.specs.declared.sender.Sender.{Sender}
use Rattle.convoy_scenario.specs.declared.sender.Sender.TheVariants.{Client, Group}
use Rattle.convoy_scenario.specs.Scenario.{Scenario, message_at, range_between}
use Rattle.convoy_orders.specs.Renumbered.{IsRenumbered, renumbered_sender}

sender_twice : (first then : ℕ → ℕ) (sender : Sender) → renumbered_sender then (renumbered_sender first sender) ≡ renumbered_sender (λ g. then (first g)) sender
sender_twice first then (Client p) = refl
sender_twice first then (Group g) = refl

sender_itself : (sender : Sender) → renumbered_sender (λ g. g) sender ≡ sender
sender_itself (Client p) = refl
sender_itself (Group g) = refl

-- a scenario with its groups listed as they are
pub unchanged : (plan : Scenario) → IsRenumbered (λ g. g) (λ g. g) plan plan
unchanged plan = record {
  back_again = λ g. refl;
  there_again = λ g. refl;
  time = refl;
  message_count = refl;
  messages = λ m. record { sender = sym (sender_itself (message_at plan m).sender); destinations = λ g. refl; at = refl; wait = refl };
  homes = record { messages = λ g. refl; stamps = λ g. refl };
  ranges = λ sender to. ap (λ (s : Sender). range_between plan s to) (sender_itself sender);
  target_message = refl;
  target_group = refl;
}

pub composed : (first back_first then back_then : ℕ → ℕ) (plan middle other : Scenario) → IsRenumbered first back_first plan middle → IsRenumbered then back_then middle other
    → IsRenumbered (λ g. then (first g)) (λ g. back_first (back_then g)) plan other
composed first back_first then back_then plan middle other is too = record {
  back_again = λ g. ap back_first (too.back_again (first g)) ∙ is.back_again g;
  there_again = λ g. ap then (is.there_again (back_then g)) ∙ too.there_again g;
  time = too.time ∙ is.time;
  message_count = too.message_count ∙ is.message_count;
  messages = λ m. record {
    sender = (too.messages m).sender ∙ ap (renumbered_sender then) (is.messages m).sender ∙ sender_twice first then _;
    destinations = λ g. (too.messages m).destinations (first g) ∙ (is.messages m).destinations g;
    at = (too.messages m).at ∙ (is.messages m).at;
    wait = (too.messages m).wait ∙ (is.messages m).wait;
  };
  homes = record { messages = λ g. too.homes.messages (first g) ∙ is.homes.messages g; stamps = λ g. too.homes.stamps (first g) ∙ is.homes.stamps g };
  ranges = λ sender to.
      ap (λ (s : Sender). range_between other s (then (first to))) (sym (sender_twice first then sender))
      ∙ too.ranges (renumbered_sender first sender) (first to)
      ∙ is.ranges sender to;
  target_message = too.target_message ∙ is.target_message;
  target_group = too.target_group ∙ ap then is.target_group;
}
