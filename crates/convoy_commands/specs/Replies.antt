-- What a command may answer for a text.
use Rattle.std.specs.Prelude.{◌≡◌, ◌⊎◌, ℕ, List, Result, Err}
use Rattle.std.specs.Result.{result_map_both}
use Rattle.convoy_commands.specs.declared.answer.Answer.{Answer}
use Rattle.convoy_commands.specs.declared.done.Done.{Done}
use Rattle.convoy_commands.specs.declared.done.Done.TheVariants.{Fine}
use Rattle.convoy_commands.specs.declared.fault.Fault.{Fault}
use Rattle.convoy_commands.specs.declared.fault.Fault.TheVariants.{Memory}

-- how a command ends and what it writes, or a fault
abbrev pub Reply : Type 0
Reply = Result (Done × List ℕ) Fault

-- which replies a command may give for which texts
abbrev pub Rule : Type 1
Rule = List ℕ → Reply → Type 0

-- how a command ends and what it writes, of an answer
abbrev pub told_of_answer : Answer → Done × List ℕ
told_of_answer answer = (answer.done, answer.text.items)

-- the same of a command that may have no answer
abbrev pub reply_of : Result Answer Fault → Reply
reply_of result = result_map_both told_of_answer (λ fault. fault) result

-- what is written where all is well
abbrev pub fine : Result (List ℕ) Fault → Reply
fine answer = result_map_both (λ out. (Fine, out)) (λ fault. fault) answer

-- the one reply of a command that knows its answer for each text
abbrev pub Answers : (List ℕ → Reply) → Rule
Answers answer text reply = reply ≡ answer text

-- the reply is that one, unless memory ran out
abbrev pub IsReply : Reply → Reply → Type 0
IsReply want reply = (reply ≡ want) ⊎ (reply ≡ Err Memory)

-- the rule allows the reply, unless memory ran out
abbrev pub SaysUnlessMemory : Rule → Rule
SaysUnlessMemory says text reply = says text reply ⊎ (reply ≡ Err Memory)
