use Rattle.std.proofs.Common.{◌≡◌, ◌∷◌, ◌++◌, ◌-◌, length, flat_map, string_bytes}
use Rattle.std.specs.List.{range_with_len}
use Rattle.convoy_best_plan.specs.PlanTexts.{place_word, site_words}
use Rattle.convoy_best_plan.proofs.telling.site_words.Given as goal

-- the words so far and those of the groups that are left are all words
abbrev pub invariant-loop-group : goal.invariant-loop-group
invariant-loop-group l =
    string_bytes l.words ++ flat_map (λ g. 32 ∷ place_word l.plan l.placement g) (range_with_len l.group (length l.plan.written.groups - l.group))
    ≡ site_words l.plan l.placement
