-- What the commands `check`, `explain` and `draw` write for a certificate that was read.
use Rattle.std.specs.Prelude.{◌≡◌, ℕ, List, Result, Ok, Err}
use Rattle.convoy_certificate.specs.Certificate.{Certificate}
use Rattle.convoy_checker.specs.declared.refused.Refused.{Refused as Fault-of-check}
use Rattle.convoy_commands.specs.declared.asking.Asking.{Asking}
use Rattle.convoy_commands.specs.declared.asking.Asking.TheVariants.{Check, Explain, Draw}
use Rattle.convoy_commands.specs.declared.done.Done.TheVariants.{Fine}
use Rattle.convoy_commands.specs.Checks.{CheckSays, reply_of_check}
use Rattle.convoy_commands.specs.Draws.{DrawSays, IsImageOf}
use Rattle.convoy_commands.specs.Explains.{ExplainSays, certificate_explained}
use Rattle.convoy_commands.specs.ReplyLines.{accepted_line}
use Rattle.convoy_commands.specs.Replies.{Reply, Rule}

-- what is written where the checker accepts it: the yes, why its schedule has its latency, or an image of the schedule's run
abbrev pub IsTextAsked : Asking → Certificate → ℕ → List ℕ → Type 0
IsTextAsked Check certificate latency out = out ≡ accepted_line latency
IsTextAsked (Explain asked) certificate latency out = out ≡ certificate_explained asked certificate
IsTextAsked (Draw asked) certificate latency out = IsImageOf asked certificate out

-- the reply, by what the checker said: that text, or the refusal
abbrev pub RepliesTo : Asking → Certificate → Result ℕ Fault-of-check → Reply → Type 0
RepliesTo asking certificate (Ok latency) reply =
    (out : List ℕ) × (reply ≡ Ok (Fine, out)) × IsTextAsked asking certificate latency out
RepliesTo asking certificate (Err fault) reply = reply ≡ reply_of_check (Err fault)

-- the rule of each of them
abbrev pub AskSays : Asking → Rule
AskSays Check = CheckSays
AskSays (Explain asked) = ExplainSays asked
AskSays (Draw asked) = DrawSays asked
