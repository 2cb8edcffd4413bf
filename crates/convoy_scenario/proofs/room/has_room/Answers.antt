use Rattle.std.proofs.Common.{◌≡◌, ◌+◌, nat_le, true, ◌&&◌, length, refl, ap, sym, ◌∙◌, rules, tests, arith}
use Rattle.std.specs.List.{list_all}
use Rattle.std.proofs.lemmas.Bool.{le-leb}
use Rattle.std.proofs.lemmas.Iterator.{YieldsList-from_range}
use Rattle.std.proofs.lemmas.Iterator.Search.{all_from_yields_List}
use Rattle.convoy_draft.specs.declared.limits.TheConstants.{GREATEST_AT}
use Rattle.convoy_scenario.specs.Room.{is_target_or_has_room}
use Rattle.convoy_scenario.specs.Scenario.{message_at, message_numbers}
use Rattle.convoy_scenario.specs.Widened.{target_wait}
use Rattle.convoy_scenario.proofs.room.has_room.Goals as goal

pub returns-then-last-from : goal.returns-then-last-from
returns-then-last-from c = λ scenario.
    let plan = record scenario { multicasts = c.args.multicasts.now; target_message = c.args.target } in
    let many = length c.args.multicasts.now in
    let others : c.all.result ≡ list_all (is_target_or_has_room plan) (message_numbers plan) =
    all_from_yields_List (is_target_or_has_room plan) _ _ _ c.all.ensures.ran (YieldsList-from_range 0 many many refl (omega arith)) (λ x b q k. search (rules, tests)) in
    let last : nat_le ((message_at plan c.args.target).at + target_wait plan) GREATEST_AT ≡ true =
    le-leb _ _ (omega (arith, c.if-last-from.true, c.first_tick.ensures.value, c.longest_wait.ensures.value, c.from.ensures)) in
    others ∙ ap (λ b. b && list_all (is_target_or_has_room plan) (message_numbers plan)) (sym last)
