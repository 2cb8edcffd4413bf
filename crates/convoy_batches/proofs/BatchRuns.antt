-- How the run of a batch ends, from what was read so far and the blocks that went out.
use Rattle.std.proofs.Common.{◌≡◌, inl, inr, ℕ, ◌+◌, ◌<◌, List, [], ◌∷◌, ◌++◌, length, get_or, take, drop, Result, Ok, Err, refl, ap, sym, ◌∙◌, append_assoc, arith, length-append, take-append-drop}
use Rattle.std.specs.List.{FoldsTo}
use Rattle.std.proofs.lemmas.List.{take_more}
use Rattle.std.proofs.lemmas.List.Elements.{All-nil}
use Rattle.std.proofs.lemmas.Fn.{FoldsTo-push}
use Rattle.convoy_streams.specs.declared.reading.ReadFault.TheVariants.{Read, TooManyReads}
use Rattle.convoy_streams.specs.Jobs.{ended_jobs}
use Rattle.convoy_streams.specs.StreamLaws.{EndedJobsStay, PiecesGoOn}
use Rattle.convoy_streams.specs.Devices.{Answer, Moved, Failed, HasRun, IsPiece}
use Rattle.convoy_batches.specs.declared.batch.Batch.{Batch}
use Rattle.convoy_commands.specs.declared.fault.Fault.{Fault}
use Rattle.convoy_commands.specs.declared.fault.Fault.TheVariants.{Reading, Write, TooManyJobs}
use Rattle.convoy_commands.specs.declared.done.Done.{Done}
use Rattle.convoy_commands.specs.declared.done.Done.TheVariants.{Fine}
use Rattle.convoy_commands.specs.Replies.{Rule}
use Rattle.convoy_batches.specs.Batches.{BatchRunsTo, EndsSo, IsBatchRun, ReadsOn, ReadsThen}
use Rattle.convoy_batches.specs.BatchSteps.{EndsBatch, IsUnderWay, StopsAnswering}
use Rattle.convoy_batches.proofs.Blocks.{stops_among}

-- one byte more of a piece
pub byte_taken : (text piece : List ℕ) (i : ℕ) → i < length piece → (text ++ take i piece) ++ get_or piece i 0 ∷ [] ≡ text ++ take (i + 1) piece
byte_taken text piece i below = append_assoc text (take i piece) (get_or piece i 0 ∷ []) ∙ ap (λ x. text ++ x) (sym (take_more piece i 0 below))

-- to stop in a piece is to stop among the jobs of the whole piece
pub stops_in_piece : EndedJobsStay → {K : Type 0} (says : Rule) (may_write : K → Answer → K → Type 0) (start new : K) (text piece : List ℕ) (i : ℕ) (fault : Fault) →
    i < length piece → StopsAnswering says may_write start new (ended_jobs ((text ++ take i piece) ++ get_or piece i 0 ∷ [])) fault →
    StopsAnswering says may_write start new (ended_jobs (text ++ piece)) fault
stops_in_piece stay says may_write start new text piece i fault below stop =
    let front = (text ++ take i piece) ++ get_or piece i 0 ∷ [] in
    let more = stay front (drop (i + 1) piece) in
    let whole : text ++ piece ≡ front ++ drop (i + 1) piece =
    ap (λ x. text ++ x) (sym (take-append-drop (i + 1) piece)) ∙ sym (append_assoc text (take (i + 1) piece) (drop (i + 1) piece))
    ∙ ap (λ x. x ++ drop (i + 1) piece) (sym (byte_taken text piece i below)) in
    stops_among says may_write start new (ended_jobs front) more.0 (ended_jobs (text ++ piece)) fault stop (ap ended_jobs whole ∙ more.1)

-- so many reads led from the one state of the source to the other, and gave this piece by piece
pub record HasReadOn {S : Type 0} (reads : S → Answer → S → Type 0) (old : S) (text : List ℕ) (count : ℕ) (new : S) : Type 0 where
  pub answers : List Answer
  pub calls : FoldsTo reads old answers new
  pub given : ReadsOn answers text
  pub made : length answers ≡ count

-- no read yet
pub nothing_read : {S : Type 0} (reads : S → Answer → S → Type 0) (source : S) → HasReadOn reads source [] 0 source
nothing_read reads source = record { answers = []; calls = refl; given = record { each = All-nil IsPiece; whole = refl }; made = refl }

-- what was read, and a piece more
more_given : PiecesGoOn → (answers : List Answer) (text more : List ℕ) → ReadsOn answers text → 0 < length more →
    ReadsOn (answers ++ Moved more ∷ []) (text ++ more)
more_given go_on answers text more given some =
    let both = go_on answers more given.each some in
    record { each = both.0; whole = rw (both.1, given.whole) refl }

-- one more piece
pub one_more_read : PiecesGoOn → {S : Type 0} (reads : S → Answer → S → Type 0) (old mid new : S) (text more : List ℕ) (count : ℕ) →
    HasReadOn reads old text count mid → reads mid (Moved more) new → 0 < length more → HasReadOn reads old (text ++ more) (count + 1) new
one_more_read go_on reads old mid new text more count p moved some = record {
  answers = p.answers ++ Moved more ∷ [];
  calls = FoldsTo-push reads old p.answers mid (Moved more) new p.calls moved;
  given = more_given go_on p.answers text more p.given some;
  made = omega (arith, length-append p.answers (Moved more ∷ []), p.made);
}

-- no block yet
pub no_blocks : {K : Type 0} (says : Rule) (may_write : K → Answer → K → Type 0) (start : K) (end : Done) → end ≡ Fine →
    HasRun may_write start start (λ answers. EndsSo says [] answers end)
no_blocks says may_write start end is = record {
  answers = [];
  calls = refl;
  says = record { answered = record { replies = []; allowed = tt; written = record { each = All-nil IsPiece; whole = refl } }; end_is = is };
}

module _ {S K : Type 0} (reads : S → Answer → S → Type 0) (writes : K → Answer → K → Type 0) (says : Rule) (most count : ℕ) (source mid new : S) (sink now : K)
    (bytes : List ℕ) (batch : Batch) (p : HasReadOn reads source bytes count mid) (u : IsUnderWay says writes sink now bytes batch) (below : count < most) where
  then_so : (answer : Answer) → ReadsThen answer (p.answers ++ answer ∷ []) bytes
  then_so answer = record { pieces = p.answers; last = refl; given = p.given }

  -- one more read answered so, and these are the writes
  by_last : (answer : Answer) (answers : List Answer) (last : K) (result : Result Done Fault) → reads mid answer new → FoldsTo writes sink answers last →
      BatchRunsTo says most (p.answers ++ answer ∷ []) answers result → IsBatchRun says most reads writes source new sink last result
  by_last answer answers last result moved wrote outcome = record {
    reads = p.answers ++ answer ∷ [];
    writes = answers;
    read = FoldsTo-push reads source p.answers mid answer new p.calls moved;
    few = omega (arith, length-append p.answers (answer ∷ []), p.made, below);
    wrote = wrote;
    outcome = outcome;
  }

  -- a read failed
  pub by_failure : reads mid Failed new → IsBatchRun says most reads writes source new sink now (Err (Reading Read))
  by_failure failed =
      by_last Failed u.ready.wrote.answers now (Err (Reading Read)) failed u.ready.wrote.calls
      (bytes, then_so Failed, u.ready.few, u.ready.wrote.says.answered)

  -- the text ended
  pub by_finish : (more : List ℕ) (last : K) (result : Result Done Fault) → reads mid (Moved more) new → length more ≡ 0 → EndsBatch says writes sink last bytes result →
      IsBatchRun says most reads writes source new sink last result
  by_finish (b ∷ more) last result moved none ends = absurd (omega arith)
  by_finish [] last (Ok end) moved none ends =
      by_last (Moved []) ends.1.answers last (Ok end) moved ends.1.calls (bytes, then_so (Moved []), omega (arith, ends.0), ends.1.says)
  by_finish [] last (Err Write) moved none ends =
      by_last (Moved []) ends.answers last (Err Write) moved ends.calls (bytes, inr (then_so (Moved []), ends.says))
  by_finish [] last (Err TooManyJobs) moved none ends =
      by_last (Moved []) ends.1.answers last (Err TooManyJobs) moved ends.1.calls
      (record { bytes = []; before = bytes; last = then_so (Moved []); few = u.ready.few; outcome = inr (bytes, then_so (Moved []), ends.0, ends.1.says) })
  by_finish [] last (Err other) moved none ends = absurd ends

  -- answering stopped in a piece
  pub in_piece : PiecesGoOn → (more : List ℕ) (last : K) (fault : Fault) → reads mid (Moved more) new → 0 < length more →
      StopsAnswering says writes sink last (ended_jobs (bytes ++ more)) fault →
      IsBatchRun says most reads writes source new sink last (Err fault)
  in_piece go_on more last Write moved some stop =
      by_last (Moved more) stop.answers last (Err Write) moved stop.calls
      (bytes ++ more, inl (more_given go_on p.answers bytes more p.given some, stop.says))
  in_piece go_on more last TooManyJobs moved some stop =
      by_last (Moved more) stop.answers last (Err TooManyJobs) moved stop.calls
      (record {
        bytes = more;
        before = bytes;
        last = then_so (Moved more);
        few = u.ready.few;
        outcome = inl (bytes ++ more, more_given go_on p.answers bytes more p.given some, stop.says);
      })
  in_piece go_on more last other moved some stop = absurd stop

-- as many reads as there may be gave no end
pub by_reads : {S K : Type 0} (reads : S → Answer → S → Type 0) (writes : K → Answer → K → Type 0) (says : Rule) (most count : ℕ) (source mid : S) (sink now : K)
    (bytes : List ℕ) (batch : Batch) → HasReadOn reads source bytes count mid → IsUnderWay says writes sink now bytes batch → count ≡ most →
    IsBatchRun says most reads writes source mid sink now (Err (Reading TooManyReads))
by_reads reads writes says most count source mid sink now bytes batch p u all = record {
  reads = p.answers;
  writes = u.ready.wrote.answers;
  read = p.calls;
  few = omega (arith, p.made, all);
  wrote = u.ready.wrote.calls;
  outcome = (bytes, p.given, p.made ∙ all, u.ready.few, u.ready.wrote.says.answered);
}
