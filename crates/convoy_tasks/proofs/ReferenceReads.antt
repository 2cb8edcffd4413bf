-- How the reading of what is wanted ends: where its text was not read to the end, and where it was.
use Rattle.std.proofs.Common.{◌≡◌, ◌≤◌, inl, inr, ℕ, Bool, List, length, Result, Ok, Err, refl}
use Rattle.convoy_streams.specs.declared.reading.ReadFault.{ReadFault}
use Rattle.convoy_streams.specs.declared.reading.ReadFault.TheVariants as reading
use Rattle.convoy_streams.specs.Devices.{Answer, HasRun}
use Rattle.convoy_streams.specs.Reads.{ReadsText, StopsReading}
use Rattle.convoy_commands.specs.declared.fault.Fault.{Fault}
use Rattle.convoy_commands.specs.declared.fault.Fault.TheVariants.{Memory}
use Rattle.convoy_commands.specs.declared.limits.TheConstants.{LONGEST_JOB}
use Rattle.convoy_commands.specs.Faults.{told_of_reading}
use Rattle.convoy_workflow_replies.specs.declared.reference.Reference.{Reference}
use Rattle.convoy_tasks.specs.WantedReads.{Form, GivesUnlessMemory, IsFaulty, IsReferenceRead, ReadsReference, form_of}

-- reading stopped
unread_reference : (takes : Bool) (most_reads : ℕ) (reads : List Answer) (cause : ReadFault) → StopsReading LONGEST_JOB most_reads reads cause →
    ReadsReference takes most_reads reads (Err (told_of_reading cause))
unread_reference takes most_reads reads reading.Memory stop = inl stop
unread_reference takes most_reads reads cause stop = inl (record { cause = cause; stopped = stop; told = refl })

pub unread_so : {S : Type 0} (takes : Bool) (most_reads : ℕ) {may_read : S → Answer → S → Type 0} {source new_source : S} (cause : ReadFault) →
    HasRun may_read source new_source (λ reads. (length reads ≤ most_reads) × StopsReading LONGEST_JOB most_reads reads cause) →
    IsReferenceRead takes most_reads may_read source new_source (Err (told_of_reading cause))
unread_so takes most_reads cause read = record {
  reads = read.answers;
  read = read.calls;
  few = read.says.0;
  outcome = unread_reference takes most_reads read.answers cause read.says.1;
}

-- a fault that is not want of memory is one of the text
of_text : (form : Form) (text : List ℕ) (fault : Fault) → (fault ≡ Memory → ⊥) →
    GivesUnlessMemory form text (Err fault) → IsFaulty form text fault
of_text form text fault other (inl faulty) = faulty
of_text form text fault other (inr is) = absurd (other cc)

-- the text was read
read_reference : (takes : Bool) (most_reads : ℕ) (reads : List Answer) (text : List ℕ) (result : Result Reference Fault) →
    ReadsText LONGEST_JOB reads text → GivesUnlessMemory (form_of takes text) text result →
    ReadsReference takes most_reads reads result
read_reference takes most_reads reads text (Ok reference) read (inl gives) = (text, read, gives)
read_reference takes most_reads reads text (Ok reference) read (inr none) = cc
read_reference takes most_reads reads text (Err Memory) read gives = inr (text, read)
read_reference takes most_reads reads text (Err other) read gives =
    inr (text, read, of_text (form_of takes text) text _ (λ is. cc) gives)

pub read_so : {S : Type 0} (takes : Bool) (most_reads : ℕ) {may_read : S → Answer → S → Type 0} {source new_source : S} {text : List ℕ}
    {result : Result Reference Fault} →
    HasRun may_read source new_source (λ reads. (length reads ≤ most_reads) × ReadsText LONGEST_JOB reads text) →
    GivesUnlessMemory (form_of takes text) text result →
    IsReferenceRead takes most_reads may_read source new_source result
read_so takes most_reads read gives = record {
  reads = read.answers;
  read = read.calls;
  few = read.says.0;
  outcome = read_reference takes most_reads read.answers _ _ read.says.1 gives;
}
