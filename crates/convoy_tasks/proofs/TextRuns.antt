-- How a run ends that reads a text and writes what is replied to it: before its text was read, and once it was.
use Rattle.std.proofs.Common.{◌≡◌, inl, inr, ℕ, List, [], ◌≤◌, length, Result, Ok, Err, refl, sym, subst}
use Rattle.convoy_streams.specs.declared.reading.ReadFault.{ReadFault}
use Rattle.convoy_streams.specs.declared.reading.ReadFault.TheVariants as reading
use Rattle.convoy_streams.specs.Devices.{Answer, HasRun}
use Rattle.convoy_streams.specs.Reads.{ReadsText, StopsReading}
use Rattle.convoy_commands.specs.declared.done.Done.{Done}
use Rattle.convoy_commands.specs.declared.fault.Fault.{Fault}
use Rattle.convoy_commands.specs.declared.fault.Fault.TheVariants.{Memory, Write}
use Rattle.convoy_commands.specs.Faults.{told_of_reading}
use Rattle.convoy_commands.specs.Replies.{Reply, Rule, SaysUnlessMemory}
use Rattle.convoy_tasks.specs.Runs.{IsRun, RunsTo, WritesReply}

-- Where reading stopped, nothing was written.
pub unread_run : (longest : ℕ) (says : Rule) (most_reads : ℕ) (reads : List Answer) (cause : ReadFault) →
    StopsReading longest most_reads reads cause → RunsTo longest says most_reads reads [] (Err (told_of_reading cause))
unread_run longest says most_reads reads reading.Memory stop = (inl stop, refl)
unread_run longest says most_reads reads cause stop = (inl (record { cause = cause; stopped = stop; told = refl }), refl)

-- a fault that is not want of memory is one that the rule allows
from_text : (says : Rule) (text : List ℕ) (fault : Fault) → (fault ≡ Memory → ⊥) →
    SaysUnlessMemory says text (Err fault) → says text (Err fault)
from_text says text fault other (inl allowed) = allowed
from_text says text fault other (inr is) = absurd (other cc)

-- Where a text was read, and its answer is a fault or memory ran out, nothing was written.
refused_run : (longest : ℕ) (says : Rule) (most_reads : ℕ) (reads : List Answer) (text : List ℕ) (fault : Fault) →
    (says text (Err Write) → ⊥) → ReadsText longest reads text → SaysUnlessMemory says text (Err fault) →
    RunsTo longest says most_reads reads [] (Err fault)
refused_run longest says most_reads reads text Memory sane read allowed = (inr (text, read), refl)
refused_run longest says most_reads reads text Write sane read allowed = absurd (sane (from_text says text Write (λ is. cc) allowed))
refused_run longest says most_reads reads text other sane read allowed =
    (inr (record { text = text; read = read; allowed = from_text says text _ (λ is. cc) allowed }), refl)

-- Where a text was read and the reply to it is allowed, the run ends by what becomes of the reply.
pub replied_run : (longest : ℕ) (says : Rule) (most_reads : ℕ) (reads writes : List Answer) (text : List ℕ) (reply : Reply) (result : Result Done Fault) →
    (says text (Err Write) → ⊥) → ReadsText longest reads text → SaysUnlessMemory says text reply → WritesReply reply writes result →
    RunsTo longest says most_reads reads writes result
replied_run longest says most_reads reads writes text (Err refused) result sane read allowed wrote =
    subst (λ (ended : Result Done Fault). RunsTo longest says most_reads reads writes ended) (sym wrote.0)
    (subst (λ (gone : List Answer). RunsTo longest says most_reads reads gone (Err refused)) (sym wrote.1)
    (refused_run longest says most_reads reads text refused sane read allowed))
replied_run longest says most_reads reads writes text (Ok (done, out)) (Ok ended) sane read (inl allowed) wrote =
    rw wrote.0 (out, record { text = text; read = read; allowed = allowed }, wrote.1)
replied_run longest says most_reads reads writes text (Ok (done, out)) (Err fault) sane read (inl allowed) wrote =
    rw wrote.0 (done, out, record { text = text; read = read; allowed = allowed }, wrote.1)
replied_run longest says most_reads reads writes text (Ok (done, out)) result sane read (inr refused) wrote = cc

-- So a run ends whose reads stopped: with the fault of these, and with nothing written.
pub unread_so : {S K : Type 0} (longest : ℕ) (says : Rule) (most_reads : ℕ)
    {may_read : S → Answer → S → Type 0} {may_write : K → Answer → K → Type 0} {source new_source : S} {sink : K} (cause : ReadFault) →
    HasRun may_read source new_source (λ reads. (length reads ≤ most_reads) × StopsReading longest most_reads reads cause) →
    IsRun longest says most_reads may_read may_write source new_source sink sink (Err (told_of_reading cause))
unread_so longest says most_reads cause read = record {
  reads = read.answers;
  writes = [];
  read = read.calls;
  few = read.says.0;
  wrote = refl;
  outcome = unread_run longest says most_reads read.answers cause read.says.1;
}

-- So a run ends whose text was read and replied to: as the writing of the reply does.
pub replied_so : {S K : Type 0} (longest : ℕ) (says : Rule) (most_reads : ℕ)
    {may_read : S → Answer → S → Type 0} {may_write : K → Answer → K → Type 0} {source new_source : S} {sink new_sink : K}
    {text : List ℕ} {reply : Reply} {result : Result Done Fault} →
    (says text (Err Write) → ⊥) →
    HasRun may_read source new_source (λ reads. (length reads ≤ most_reads) × ReadsText longest reads text) →
    SaysUnlessMemory says text reply →
    HasRun may_write sink new_sink (λ writes. WritesReply reply writes result) →
    IsRun longest says most_reads may_read may_write source new_source sink new_sink result
replied_so longest says most_reads sane read allowed wrote = record {
  reads = read.answers;
  writes = wrote.answers;
  read = read.calls;
  few = read.says.0;
  wrote = wrote.calls;
  outcome = replied_run longest says most_reads read.answers wrote.answers _ _ _ sane read.says.1 allowed wrote.says;
}
