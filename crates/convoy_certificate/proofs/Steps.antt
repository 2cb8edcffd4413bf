-- Reading a text, step by step: what is left to read after each part.
use Rattle.std.proofs.Common.{◌≡◌, ℕ, cond, List, Result, Ok, Err, refl, ap, ◌∙◌, codes}
use Rattle.convoy_lines.specs.Labels.{number_in}
use Rattle.convoy_lines.specs.Places.{Place, place_before}
use Rattle.convoy_lines.specs.Results.{◌>>=◌}
use Rattle.convoy_packets.specs.Assignment.{Schedule}
use Rattle.convoy_packets.specs.Order.{Order}
use Rattle.convoy_scenario.specs.Scenario.{Scenario}
use Rattle.convoy_scenario_lines.specs.declared.line_fault.Expected.TheVariants as expected
use Rattle.convoy_scenario_lines.specs.LineReading.{form_at, scenario_at}
use Rattle.convoy_certificate.specs.declared.node.Node.{Node}
use Rattle.convoy_certificate.specs.declared.text_fault.TextFault.{TextFault}
use Rattle.convoy_certificate.specs.declared.text_fault.TextFault.TheVariants as faults
use Rattle.convoy_certificate.specs.declared.version.Version.{Version}
use Rattle.convoy_certificate.specs.Certificate.{Certificate}
use Rattle.convoy_certificate.specs.Forms.{version_in}
use Rattle.convoy_certificate.specs.Reading.{in_text, is_assignment, order_at, schedule_at, tree_at, certificate_with, certificate_of}
use Rattle.convoy_certificate.specs.Text.{lines_version}

-- the order of ties, where the delays are one for each packet, each in its range
abbrev pub order_after : Scenario → List ℕ × Place → Result (Order × Place) TextFault
order_after plan delays = cond (is_assignment plan delays.0) (order_at plan delays.1) (Err faults.Schedule)

abbrev pub after_order : List ℕ → Order × Place → Result (Schedule × Place) TextFault
after_order delays order = Ok (record { delays = delays; order = order.0 }, order.1)

abbrev pub after_delays : Scenario → List ℕ × Place → Result (Schedule × Place) TextFault
after_delays plan delays = order_after plan delays >>= after_order delays.0

abbrev pub after_tree : Scenario → ℕ → Schedule → List Node → Result Certificate TextFault
after_tree plan latency schedule nodes = Ok (certificate_with plan latency schedule nodes)

abbrev pub after_schedule : Version → Scenario → ℕ → Schedule × Place → Result Certificate TextFault
after_schedule version plan latency schedule = tree_at version plan schedule.1 >>= after_tree plan latency schedule.0

abbrev pub after_latency : Version → Scenario → ℕ × Place → Result Certificate TextFault
after_latency version plan latency = schedule_at plan latency.1 >>= after_schedule version plan latency.0

abbrev pub after_scenario : Version → Scenario × Place → Result Certificate TextFault
after_scenario version scenario = in_text (form_at expected.Latency (number_in (codes "latency")) scenario.1) >>= after_latency version scenario.0

abbrev pub after_version : Version × Place → Result Certificate TextFault
after_version version = in_text (scenario_at (lines_version version.0) version.1) >>= after_scenario version.0

-- all that is read from a place on
abbrev pub read_from : Place → Result Certificate TextFault
read_from place = in_text (form_at expected.Convoy version_in place) >>= after_version

pub in_steps : (text : List ℕ) → certificate_of text ≡ read_from (place_before text 1)
unfolding certificate_of
in_steps text = refl

-- a step that was made, and one that can be made
pub bind_ok : {A B : Type 0} (r : Result A TextFault) (f : A → Result B TextFault) (y : B) → (r >>= f) ≡ Ok y → (x : A) × (r ≡ Ok x) × (f x ≡ Ok y)
bind_ok (Ok x) f y e = (x, refl, e)
bind_ok (Err fault) f y e = absurd cc

pub then_ok : {A B : Type 0} (r : Result A TextFault) (f : A → Result B TextFault) (x : A) (y : Result B TextFault) → r ≡ Ok x → f x ≡ y → (r >>= f) ≡ y
then_ok r f x y e g = ap (λ z. z >>= f) e ∙ g
