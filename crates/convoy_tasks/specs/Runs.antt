-- What a run does that reads a text and then writes what is replied to it, as each task does: from the bytes that come to the bytes that go out.
use Rattle.std.specs.Prelude.{◌≡◌, ◌⊎◌, ℕ, ◌≤◌, List, [], length, Result, Ok, Err}
use Rattle.std.specs.List.{FoldsTo}
use Rattle.std.specs.Result.{result_map_both}
use Rattle.convoy_streams.specs.declared.reading.ReadFault.{ReadFault}
use Rattle.convoy_streams.specs.declared.reading.ReadFault.TheVariants as reading
use Rattle.convoy_streams.specs.Devices.{Answer}
use Rattle.convoy_streams.specs.Reads.{ReadsText, StopsReading}
use Rattle.convoy_streams.specs.Writes.{WritesAll, FailsWithin}
use Rattle.convoy_commands.specs.declared.done.Done.{Done}
use Rattle.convoy_commands.specs.declared.fault.Fault.{Fault}
use Rattle.convoy_commands.specs.declared.fault.Fault.TheVariants.{Memory, Write}
use Rattle.convoy_commands.specs.Faults.{told_of_reading}
use Rattle.convoy_commands.specs.Replies.{Reply, Rule}
use Rattle.convoy_tasks.specs.declared.ended.Ended.{Ended}

-- the reads gave a text whole, of at most so many bytes, and the rule allows this reply to it
pub record Replied (longest : ℕ) (says : Rule) (reads : List Answer) (reply : Reply) : Type 0 where
  pub text : List ℕ
  pub read : ReadsText longest reads text
  pub allowed : says text reply

-- the text was not read to its end, where it has at most so many bytes and at most so many reads are made, and the fault tells why
pub record IsUnread (longest most_reads : ℕ) (reads : List Answer) (fault : Fault) : Type 0 where
  pub cause : ReadFault
  pub stopped : StopsReading longest most_reads reads cause
  pub told : fault ≡ told_of_reading cause

-- What a run gives, by what its reads and its writes answered, where the input has at most so many
-- bytes and at most so many reads are made.
abbrev pub RunsTo : ℕ → Rule → ℕ → List Answer → List Answer → Result Done Fault → Type 0
-- all that is to be written went out
RunsTo longest says most_reads reads writes (Ok end) =
    (out : List ℕ) × Replied longest says reads (Ok (end, out)) × WritesAll out writes
-- a front of it went out, and then the sink failed
RunsTo longest says most_reads reads writes (Err Write) =
    (end : Done) × (out : List ℕ) × Replied longest says reads (Ok (end, out)) × FailsWithin out writes
-- memory ran out, in reading or after the text was read, and nothing was written
RunsTo longest says most_reads reads writes (Err Memory) =
    (StopsReading longest most_reads reads reading.Memory ⊎ ((text : List ℕ) × ReadsText longest reads text)) × (writes ≡ [])
-- reading stopped, or the text has a fault, and nothing was written
RunsTo longest says most_reads reads writes (Err fault) =
    (IsUnread longest most_reads reads fault ⊎ Replied longest says reads (Err fault)) × (writes ≡ [])

-- what becomes of a reply at the sink: all of its text goes out, or a front of it and then the sink fails, or, where it is a fault, nothing
abbrev pub WritesReply : Reply → List Answer → Result Done Fault → Type 0
WritesReply (Ok (end, out)) writes (Ok ended) = (ended ≡ end) × WritesAll out writes
WritesReply (Ok (end, out)) writes (Err fault) = (fault ≡ Write) × FailsWithin out writes
WritesReply (Err refused) writes result = (result ≡ Err refused) × (writes ≡ [])

-- Over a source and a sink that may answer so, from their old states to their new ones, there is
-- a run that gives this result.
pub record IsRun {S K : Type 0} (longest : ℕ) (says : Rule) (most_reads : ℕ)
    (may_read : S → Answer → S → Type 0) (may_write : K → Answer → K → Type 0)
    (source new_source : S) (sink new_sink : K) (result : Result Done Fault) : Type 0 where
  pub reads : List Answer
  pub writes : List Answer
  pub read : FoldsTo may_read source reads new_source
  pub few : length reads ≤ most_reads
  pub wrote : FoldsTo may_write sink writes new_sink
  pub outcome : RunsTo longest says most_reads reads writes result

-- how a task ended, or its fault, whatever else is known of it
abbrev pub done_of : Result Ended Fault → Result Done Fault
done_of result = result_map_both (λ ended. ended.done) (λ fault. fault) result
