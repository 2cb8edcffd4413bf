use Rattle.std.proofs.Common.{◌≡◌, ◌-◌, ◌++◌, flat_map, length}
use Rattle.std.specs.Prelude.{string_bytes}
use Rattle.std.specs.List.{range_with_len}
use Rattle.convoy_lines.specs.Texts.{spaced}
use Rattle.convoy_case_survey.specs.CaseSurveys.{senders_word, sent_by}
use Rattle.convoy_case_survey.proofs.telling.senders_word.Given as goal

-- the text so far and that of the messages that are left are all
abbrev pub invariant-loop-message : goal.invariant-loop-message
invariant-loop-message l =
    string_bytes l.text ++ flat_map (λ m. spaced (sent_by l.scenario m)) (range_with_len l.message (length l.scenario.multicasts - l.message))
    ≡ senders_word l.scenario
