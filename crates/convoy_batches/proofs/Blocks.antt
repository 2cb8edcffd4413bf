-- Blocks, one after another, and how they go out.
use Rattle.std.proofs.Common.{◌≡◌, ◌⊎◌, inl, inr, ℕ, ◌+◌, ◌<◌, ◌≤◌, Bool, true, false, ◌||◌, List, [], ◌∷◌, ◌++◌, length, Result, Ok, Err, MatchResult, refl, ap, sym, subst, ◌∙◌, append_assoc, arith, length-append, codes, decimal}
use Rattle.std.specs.List.{FoldsTo, list_any}
use Rattle.std.specs.Result.{IsOk, OnOk, OnErr, is_err}
use Rattle.std.proofs.lemmas.Grind.{flat_map-append}
use Rattle.std.proofs.lemmas.List.{append-nil}
use Rattle.std.proofs.lemmas.List.Elements.{All-append}
use Rattle.std.proofs.lemmas.List.Folds.{list_any-append}
use Rattle.convoy_streams.specs.declared.reading.ReadFault.TheVariants.{TooLong}
use Rattle.convoy_streams.specs.Devices.{Answer, Failed, HasRun, IsPiece, bytes_of, joined}
use Rattle.convoy_streams.specs.Writes.{WritesAll, FailsWithin}
use Rattle.convoy_commands.specs.declared.done.Done.{Done}
use Rattle.convoy_commands.specs.declared.fault.Fault.{Fault}
use Rattle.convoy_commands.specs.declared.fault.Fault.TheVariants.{Memory, Reading, Write, TooManyJobs}
use Rattle.convoy_streams.specs.Jobs.{Job, ended_jobs, jobs_of}
use Rattle.convoy_streams.specs.Splitting.{IsAfter, IsBegun, IsJobStart, next_label_of}
use Rattle.convoy_streams.specs.declared.splitter.Splitter.{Splitter}
use Rattle.convoy_batches.specs.declared.batch.Batch.{Batch}
use Rattle.convoy_batches.specs.declared.limits.TheConstants.{MOST_JOBS}
use Rattle.convoy_commands.specs.declared.done.Done.TheVariants as ends
use Rattle.convoy_commands.specs.declared.limits.TheConstants.{LONGEST_JOB}
use Rattle.convoy_batches.specs.Batches.{AnswersMost, AreReplies, EndsSo, FailsAnswering, JobSays, block_of, blocks_from, end_of_jobs, is_beyond, is_fault, is_open, job_line}
use Rattle.convoy_commands.specs.Ends.{end_by, worse}
use Rattle.convoy_batches.specs.BatchSteps.{AnswersOne, EndsBatch, IsBlockFor, IsFresh, IsReady, IsUnderWay, StopsAnswering, end_of}
use Rattle.convoy_commands.specs.Faults.{fault_line_of, row_of}
use Rattle.convoy_commands.specs.Replies.{Reply, Rule}

-- a block in which the answer found no room
pub no_room : {E : Type 0} (number : ℕ) (label : List ℕ) (done : Done) (text : List ℕ) (pushed : Result (Unit {0}) E) (start with_text out : List ℕ) →
    is_err pushed ≡ true → OnErr pushed (with_text ≡ start) → start ≡ job_line number label →
    out ≡ with_text ++ fault_line_of Memory → IsBlockFor number label (Ok (done, text)) ends.Faulty out
no_room number label done text (Ok x) start with_text out failed same line told = cc
no_room number label done text (Err e) start with_text out failed same line told = record {
  reply = Err Memory;
  told = inr (refl, refl);
  end_is = refl;
  block = told ∙ ap (λ x. x ++ fault_line_of Memory) (same ∙ line);
}

-- a block with the answer
pub has_room : {E : Type 0} (number : ℕ) (label : List ℕ) (done : Done) (end : Done) (text : List ℕ) (pushed : Result (Unit {0}) E) (start with_text : List ℕ) →
    is_err pushed ≡ false → OnOk pushed (with_text ≡ start ++ text) → start ≡ job_line number label →
    end ≡ end_of (Ok (done, text)) → IsBlockFor number label (Ok (done, text)) end with_text
has_room number label done end text (Ok x) start with_text failed same line ended = record {
  reply = Ok (done, text);
  told = inl refl;
  end_is = ended;
  block = same ∙ ap (λ x. x ++ text) line;
}
has_room number label done end text (Err e) start with_text failed same line ended = cc

-- the line of a fault, piece by piece
pub fault_pushed : (fault : Fault) (old a b c d e out digits phrase ending : List ℕ) →
    a ≡ old ++ codes "fault " → b ≡ a ++ digits → c ≡ b ++ 32 ∷ [] → d ≡ c ++ phrase → e ≡ d ++ ending → out ≡ e ++ 10 ∷ [] →
    digits ≡ decimal (row_of fault).0 → phrase ++ ending ≡ (row_of fault).1 → out ≡ old ++ fault_line_of fault
unfolding fault_line_of
fault_pushed fault old a b c d e out digits phrase ending h1 h2 h3 h4 h5 h6 number text =
    rw (h6, h5, h4, h3, h2, h1, number, ← text) (simp append_assoc)

-- one more reply
replies_push : (says : Rule) (jobs : List Job) (replies : List Reply) (job : Job) (reply : Reply) →
    AreReplies says jobs replies → JobSays says job reply → AreReplies says (jobs ++ job ∷ []) (replies ++ reply ∷ [])
replies_push says [] [] job reply are allowed = (allowed, tt)
replies_push says [] (r ∷ replies) job reply are allowed = absurd are
replies_push says (j ∷ jobs) [] job reply are allowed = absurd are
replies_push says (j ∷ jobs) (r ∷ replies) job reply are allowed = (are.0, replies_push says jobs replies job reply are.1 allowed)

blocks_push : (says : Rule) (number last : ℕ) (jobs : List Job) (replies : List Reply) (job : Job) (reply : Reply) →
    AreReplies says jobs replies → last ≡ number + length jobs →
    blocks_from number (jobs ++ job ∷ []) (replies ++ reply ∷ []) ≡ blocks_from number jobs replies ++ block_of last job.label reply
blocks_push says number last [] [] job reply are is =
    let same : number ≡ last = omega (arith, is) in
    append-nil (block_of number job.label reply) ∙ ap (λ n. block_of n job.label reply) same
blocks_push says number last [] (r ∷ replies) job reply are is = absurd are
blocks_push says number last (j ∷ jobs) [] job reply are is = absurd are
blocks_push says number last (j ∷ jobs) (r ∷ replies) job reply are is =
    let next : last ≡ (number + 1) + length jobs = omega (arith, is) in
    ap (λ x. block_of number j.label r ++ x) (blocks_push says (number + 1) last jobs replies job reply are.1 next)
    ∙ sym (append_assoc (block_of number j.label r) (blocks_from (number + 1) jobs replies) (block_of last job.label reply))

-- the end of jobs, with one more
worse_by : (beyond fault open_one new_beyond new_fault new_open : Bool) →
    worse (end_by beyond fault open_one) (end_by new_beyond new_fault new_open)
    ≡ end_by (beyond || (new_beyond || false)) (fault || (new_fault || false)) (open_one || (new_open || false))
worse_by true f o b g p = refl
worse_by false true o true g p = refl
worse_by false true o false true p = refl
worse_by false true o false false true = refl
worse_by false true o false false false = refl
worse_by false false true true g p = refl
worse_by false false true false true p = refl
worse_by false false true false false true = refl
worse_by false false true false false false = refl
worse_by false false false true g p = refl
worse_by false false false false true p = refl
worse_by false false false false false true = refl
worse_by false false false false false false = refl

end_push : (replies : List Reply) (reply : Reply) → worse (end_of_jobs replies) (end_of reply) ≡ end_of_jobs (replies ++ reply ∷ [])
end_push replies reply =
    let all : List Reply = replies ++ reply ∷ [] in
    let beyond : Bool = list_any is_beyond replies || (is_beyond reply || false) in
    let fault : Bool = list_any is_fault replies || (is_fault reply || false) in
    worse_by (list_any is_beyond replies) (list_any is_fault replies) (list_any is_open replies) (is_beyond reply) (is_fault reply) (is_open reply)
    ∙ sym (ap (λ (b : Bool). end_by b (list_any is_fault all) (list_any is_open all)) (list_any-append is_beyond replies (reply ∷ []))
    ∙ ap (λ (f : Bool). end_by beyond f (list_any is_open all)) (list_any-append is_fault replies (reply ∷ []))
    ∙ ap (end_by beyond fault) (list_any-append is_open replies (reply ∷ [])))

-- two runs are one
pub runs_join : {S : Type 0} (step : S → Answer → S → Type 0) (old mid new : S) (xs ys : List Answer) →
    FoldsTo step old xs mid → FoldsTo step mid ys new → FoldsTo step old (xs ++ ys) new
runs_join {S} step old mid new [] ys first second = let P : S → Type 0 = λ s. FoldsTo step s ys new in subst P (sym first) second
runs_join step old mid new (x ∷ xs) ys first second = (first.0, first.1, runs_join step first.0 mid new xs ys first.2 second)

joined_join : (xs ys : List Answer) → joined (xs ++ ys) ≡ joined xs ++ joined ys
joined_join xs ys = flat_map-append bytes_of xs ys

writes_join : (a b : List ℕ) (xs ys : List Answer) → WritesAll a xs → WritesAll b ys → WritesAll (a ++ b) (xs ++ ys)
writes_join a b xs ys first second = record {
  each = All-append IsPiece xs ys first.each second.each;
  whole = joined_join xs ys ∙ ap (λ x. x ++ joined ys) first.whole ∙ ap (λ y. a ++ y) second.whole;
}

fails_join : (a b : List ℕ) (xs ys : List Answer) → WritesAll a xs → FailsWithin b ys → FailsWithin (a ++ b) (xs ++ ys)
fails_join a b xs ys first second = record {
  pieces = xs ++ second.pieces;
  rest = second.rest;
  last = ap (λ y. xs ++ y) second.last ∙ sym (append_assoc xs second.pieces (Failed ∷ []));
  each = All-append IsPiece xs second.pieces first.each second.each;
  front = ap (λ x. x ++ second.rest) (joined_join xs second.pieces ∙ ap (λ x. x ++ joined second.pieces) first.whole)
      ∙ append_assoc a (joined second.pieces) second.rest ∙ ap (λ y. a ++ y) second.front;
  more = second.more;
}

-- the block of one more job goes out
pub one_more : {K : Type 0} (says : Rule) (number : ℕ) (before end : Done) (may_write : K → Answer → K → Type 0) (start mid new : K)
    (jobs : List Job) (job : Job) →
    HasRun may_write start mid (λ answers. EndsSo says jobs answers before) → number ≡ length jobs + 1 →
    AnswersOne says may_write mid new number before job (Ok end) → HasRun may_write start new (λ answers. EndsSo says (jobs ++ job ∷ []) answers end)
one_more says number before end may_write start mid new jobs job ran next one =
    let all = ran.says.answered in
    record {
      answers = ran.answers ++ one.run.answers;
      calls = runs_join may_write start mid new ran.answers one.run.answers ran.calls one.run.calls;
      says = record {
        answered = record {
          replies = all.replies ++ one.reply ∷ [];
          allowed = replies_push says jobs all.replies job one.reply all.allowed one.allowed;
          written = subst (λ (text : List ℕ). WritesAll text (ran.answers ++ one.run.answers))
              (sym (blocks_push says 1 number jobs all.replies job one.reply all.allowed (omega (arith, next))))
              (writes_join (blocks_from 1 jobs all.replies) (block_of number job.label one.reply) ran.answers one.run.answers all.written one.run.says.1);
        };
        end_is = one.run.says.0 ∙ ap (λ (e : Done). worse e (end_of one.reply)) ran.says.end_is ∙ end_push all.replies one.reply;
      };
    }

-- the sink fails within it
pub one_fails : {K : Type 0} (says : Rule) (number : ℕ) (before : Done) (may_write : K → Answer → K → Type 0) (start mid new : K)
    (jobs all : List Job) (job : Job) (more : List Job) (fault : Fault) →
    HasRun may_write start mid (λ answers. EndsSo says jobs answers before) → number ≡ length jobs + 1 → length jobs < MOST_JOBS →
    AnswersOne says may_write mid new number before job (Err fault) → (jobs ++ job ∷ []) ++ more ≡ all →
    (fault ≡ Write) × HasRun may_write start new (FailsAnswering says all)
one_fails says number before may_write start mid new jobs all job more fault ran next few one is =
    let done = ran.says.answered in (
      one.run.says.0,
      record {
        answers = ran.answers ++ one.run.answers;
        calls = runs_join may_write start mid new ran.answers one.run.answers ran.calls one.run.calls;
        says = record {
          first = jobs ++ job ∷ [];
          others = more;
          front = is;
          few = omega (arith, few, length-append jobs (job ∷ []));
          replies = done.replies ++ one.reply ∷ [];
          allowed = replies_push says jobs done.replies job one.reply done.allowed one.allowed;
          written = subst (λ (text : List ℕ). FailsWithin text (ran.answers ++ one.run.answers))
              (sym (blocks_push says 1 number jobs done.replies job one.reply done.allowed (omega (arith, next))))
              (fails_join (blocks_from 1 jobs done.replies) (block_of number job.label one.reply) ran.answers one.run.answers done.written one.run.says.1);
        };
      },
    )

-- what a block tells is allowed for its job
told_allowed : (says : Rule) (job : Job) (want reply : Reply) → JobSays says job want →
    (reply ≡ want) ⊎ (IsOk want × (reply ≡ Err Memory)) → JobSays says job reply
told_allowed says job want reply allowed (inl same) = subst (JobSays says job) (sym same) allowed
told_allowed says job want reply allowed (inr memory) = record {
  long = λ more. let bad : IsOk {T = Done × List ℕ} {E = Fault} (Err (Reading (TooLong LONGEST_JOB))) = subst IsOk (allowed.long more) memory.0 in cc;
  short = λ few. inr memory.1;
}

-- the block went out
pub block_out : {E K : Type 0} (says : Rule) (number : ℕ) (before one end : Done) (may_write : K → Answer → K → Type 0) (old new : K) (job : Job) (want : Reply)
    (label block text : List ℕ) (wrote : Result (Unit {0}) E) → JobSays says job want → IsBlockFor number label want one block → label ≡ job.label → text ≡ block →
    HasRun may_write old new (λ answers. MatchResult wrote (λ u. WritesAll text answers) (λ e. FailsWithin text answers)) →
    is_err wrote ≡ false → end ≡ worse before one → AnswersOne says may_write old new number before job (Ok end)
block_out says number before one end may_write old new job want label block text (Ok x) allowed is named same run fine ended = record {
  reply = is.reply;
  allowed = told_allowed says job want is.reply allowed is.told;
  run = record {
    answers = run.answers;
    calls = run.calls;
    says = (
      ended ∙ ap (worse before) is.end_is,
      subst (λ (t : List ℕ). WritesAll t run.answers) (same ∙ is.block ∙ ap (λ l. block_of number l is.reply) named) run.says,
    );
  };
}
block_out says number before one end may_write old new job want label block text (Err e) allowed is named same run fine ended = cc

-- the sink failed
pub block_failed : {E K : Type 0} (says : Rule) (number : ℕ) (before one : Done) (may_write : K → Answer → K → Type 0) (old new : K) (job : Job) (want : Reply)
    (label block text : List ℕ) (wrote : Result (Unit {0}) E) → JobSays says job want → IsBlockFor number label want one block → label ≡ job.label → text ≡ block →
    HasRun may_write old new (λ answers. MatchResult wrote (λ u. WritesAll text answers) (λ e. FailsWithin text answers)) →
    is_err wrote ≡ true → AnswersOne says may_write old new number before job (Err Write)
block_failed says number before one may_write old new job want label block text (Ok x) allowed is named same run failed = cc
block_failed says number before one may_write old new job want label block text (Err e) allowed is named same run failed = record {
  reply = is.reply;
  allowed = told_allowed says job want is.reply allowed is.told;
  run = record {
    answers = run.answers;
    calls = run.calls;
    says = (refl, subst (λ (t : List ℕ). FailsWithin t run.answers) (same ∙ is.block ∙ ap (λ l. block_of number l is.reply) named) run.says);
  };
}

-- the block of the job that ended fails
pub end_fails : {K : Type 0} (says : Rule) (number : ℕ) (before : Done) (may_write : K → Answer → K → Type 0) (start mid new : K)
    (jobs : List Job) (job : Job) (fault : Fault) → IsReady says may_write start mid jobs number before →
    AnswersOne says may_write mid new number before job (Err fault) → StopsAnswering says may_write start new (jobs ++ job ∷ []) fault
end_fails says number before may_write start mid new jobs job fault ready one =
    let failed = one_fails says number before may_write start mid new jobs (jobs ++ job ∷ []) job [] fault ready.wrote ready.next ready.few one (append-nil (jobs ++ job ∷ [])) in
    subst (StopsAnswering says may_write start new (jobs ++ job ∷ [])) (sym failed.0) failed.1

-- it is the last that there may be
pub end_most : {K : Type 0} (says : Rule) (number : ℕ) (before end : Done) (may_write : K → Answer → K → Type 0) (start mid new : K)
    (jobs : List Job) (job : Job) → IsReady says may_write start mid jobs number before → MOST_JOBS ≤ number →
    AnswersOne says may_write mid new number before job (Ok end) → HasRun may_write start new (AnswersMost says (jobs ++ job ∷ []))
end_most says number before end may_write start mid new jobs job ready most one =
    let all = one_more says number before end may_write start mid new jobs job ready.wrote ready.next one in
    record {
      answers = all.answers;
      calls = all.calls;
      says = record {
        first = jobs ++ job ∷ [];
        others = [];
        front = append-nil (jobs ++ job ∷ []);
        most = omega (arith, ready.next, ready.few, length-append jobs (job ∷ []));
        answered = all.says.answered;
      };
    }

-- one more may come
pub end_ready : {K : Type 0} (says : Rule) (number next : ℕ) (before end new_end : Done) (may_write : K → Answer → K → Type 0) (start mid new : K)
    (jobs : List Job) (job : Job) → IsReady says may_write start mid jobs number before → number < MOST_JOBS → next ≡ number + 1 →
    AnswersOne says may_write mid new number before job (Ok end) → new_end ≡ end → IsReady says may_write start new (jobs ++ job ∷ []) next new_end
end_ready says number next before end new_end may_write start mid new jobs job ready few then one same = record {
  wrote = subst (λ (e : Done). HasRun may_write start new (λ answers. EndsSo says (jobs ++ job ∷ []) answers e)) (sym same)
      (one_more says number before end may_write start mid new jobs job ready.wrote ready.next one);
  next = omega (arith, then, ready.next, length-append jobs (job ∷ []));
  few = omega (arith, ready.next, few, length-append jobs (job ∷ []));
}

-- the splitter has begun the next job
pub fresh : (before after new : Splitter) → after ≡ before → IsBegun LONGEST_JOB new (next_label_of after) →
    ((text : List ℕ) → IsJobStart (next_label_of after) text → IsAfter LONGEST_JOB new text) → IsFresh (next_label_of before) new
fresh before after new same begun starts =
    subst (λ (s : Splitter). IsFresh (next_label_of s) new) same (record { empty = begun.held; after = starts })

-- the divider that ended the job is the end of the text so far
pub job_ended : {K : Type 0} (says : Rule) (may_write : K → Answer → K → Type 0) (start new : K) (jobs : List Job) (label read : List ℕ)
    (batch : Batch) (result : Result (Unit {0}) Fault) →
    MatchResult result (λ u. IsReady says may_write start new jobs batch.number batch.end × IsFresh label batch.splitter) (StopsAnswering says may_write start new jobs) →
    ended_jobs read ≡ jobs → IsJobStart label read →
    MatchResult result (λ u. IsUnderWay says may_write start new read batch) (StopsAnswering says may_write start new (ended_jobs read))
job_ended says may_write start new jobs label read batch (Ok u) ended is fresh = record {
  ready = subst (λ (all : List Job). IsReady says may_write start new all batch.number batch.end) (sym is) ended.0;
  after = ended.1.after read fresh;
}
job_ended says may_write start new jobs label read batch (Err fault) ended is fresh =
    subst (λ (all : List Job). StopsAnswering says may_write start new all fault) (sym is) ended

-- a run of which less is said
runs_weaker : {K : Type 0} (may_write : K → Answer → K → Type 0) (start new : K) (P Q : List Answer → Type 0) → ((answers : List Answer) → P answers → Q answers) →
    HasRun may_write start new P → HasRun may_write start new Q
runs_weaker may_write start new P Q weaker run = record { answers = run.answers; calls = run.calls; says = weaker run.answers run.says }

-- a front of some jobs is one of more
front_among : (first others jobs more all : List Job) → first ++ others ≡ jobs → all ≡ jobs ++ more → first ++ (others ++ more) ≡ all
front_among first others jobs more all front is = sym (append_assoc first others more) ∙ ap (λ x. x ++ more) front ∙ sym is

fails_among : (says : Rule) (jobs more all : List Job) (writes : List Answer) → all ≡ jobs ++ more → FailsAnswering says jobs writes → FailsAnswering says all writes
fails_among says jobs more all writes is failed =
    record {
      first = failed.first;
      others = failed.others ++ more;
      front = front_among failed.first failed.others jobs more all failed.front is;
      few = failed.few;
      replies = failed.replies;
      allowed = failed.allowed;
      written = failed.written;
    }

most_among : (says : Rule) (jobs more all : List Job) (writes : List Answer) → all ≡ jobs ++ more → AnswersMost says jobs writes → AnswersMost says all writes
most_among says jobs more all writes is answers =
    record {
      first = answers.first;
      others = answers.others ++ more;
      front = front_among answers.first answers.others jobs more all answers.front is;
      most = answers.most;
      answered = answers.answered;
    }

-- to stop among some jobs is to stop among more
pub stops_among : {K : Type 0} (says : Rule) (may_write : K → Answer → K → Type 0) (start new : K) (jobs more all : List Job) (fault : Fault) →
    StopsAnswering says may_write start new jobs fault → all ≡ jobs ++ more → StopsAnswering says may_write start new all fault
stops_among says may_write start new jobs more all Write stop is =
    runs_weaker may_write start new (FailsAnswering says jobs) (FailsAnswering says all) (λ writes. fails_among says jobs more all writes is) stop
stops_among says may_write start new jobs more all TooManyJobs stop is =
    runs_weaker may_write start new (AnswersMost says jobs) (AnswersMost says all) (λ writes. most_among says jobs more all writes is) stop
stops_among says may_write start new jobs more all other stop is = absurd stop

-- the last job of the text is answered
pub last_answered : {K : Type 0} (says : Rule) (number : ℕ) (before : Done) (may_write : K → Answer → K → Type 0) (start mid new : K)
    (text : List ℕ) (jobs : List Job) (job : Job) (result : Result Done Fault) → IsReady says may_write start mid jobs number before →
    AnswersOne says may_write mid new number before job result → jobs_of text ≡ jobs ++ job ∷ [] → EndsBatch says may_write start new text result
last_answered says number before may_write start mid new text jobs job (Ok end) ready one is = (
  omega (arith, ready.few, ap length is, length-append jobs (job ∷ [])),
  subst (λ (all : List Job). HasRun may_write start new (λ answers. EndsSo says all answers end)) (sym is)
      (one_more says number before end may_write start mid new jobs job ready.wrote ready.next one),
)
last_answered says number before may_write start mid new text jobs job (Err fault) ready one is =
    let failed = one_fails says number before may_write start mid new jobs (jobs_of text) job [] fault ready.wrote ready.next ready.few one
    (append-nil (jobs ++ job ∷ []) ∙ sym is) in
    subst (λ (f : Fault). EndsBatch says may_write start new text (Err f)) (sym failed.0) failed.1

-- the job before the last divider is answered, and no more
pub last_stops : {K : Type 0} (says : Rule) (may_write : K → Answer → K → Type 0) (start new : K)
    (text : List ℕ) (jobs : List Job) (job next : Job) (fault : Fault) → StopsAnswering says may_write start new (jobs ++ job ∷ []) fault →
    jobs_of text ≡ (jobs ++ job ∷ []) ++ next ∷ [] → EndsBatch says may_write start new text (Err fault)
last_stops says may_write start new text jobs job next Write stop is =
    stops_among says may_write start new (jobs ++ job ∷ []) (next ∷ []) (jobs_of text) Write stop is
last_stops says may_write start new text jobs job next TooManyJobs stop is = (
  omega (arith, ap length is, length-append (jobs ++ job ∷ []) (next ∷ []), ap length stop.says.front, length-append stop.says.first stop.says.others, stop.says.most),
  stops_among says may_write start new (jobs ++ job ∷ []) (next ∷ []) (jobs_of text) TooManyJobs stop is,
)
last_stops says may_write start new text jobs job next other stop is = absurd stop
