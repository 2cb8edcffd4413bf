-- What a step over a byte, and the end of a text, make of the line and of what is kept.
use Rattle.std.proofs.Common.{◌≡◌, inl, inr, ℕ, ◌==◌, nat_le, nat_lt, Bool, true, false, not, ◌&&◌, if◌then◌else◌, MatchBool, List, [], ◌∷◌, ◌++◌, length, arith, refl, ap, sym, ◌∙◌, subst, append_assoc, length-append}
use Rattle.std.specs.List.{list_all}
use Rattle.std.proofs.lemmas.List.{append-nil}
use Rattle.std.proofs.lemmas.List.Folds.{list_all-append}
use Rattle.std.proofs.lemmas.Bool.{and_cases, and_from, and_left, and_parts, and_right, eqb-true}
use Rattle.std.proofs.lemmas.Bool.Decides.{nat_tests}
use Rattle.convoy_lines.specs.Texts.{ended}
use Rattle.convoy_streams.specs.declared.label.TheConstants.{LONGEST_LABEL}
use Rattle.convoy_streams.specs.declared.line.Line.{Line}
use Rattle.convoy_streams.specs.declared.line.Line.TheVariants.{Start, OneDash, TwoDashes, Dashes, Named, Other}
use Rattle.convoy_streams.specs.declared.line.Step.{Step}
use Rattle.convoy_streams.specs.declared.line.Step.TheVariants.{Ends, Waits, Adds, Keeps}
use Rattle.convoy_streams.specs.declared.splitter.Splitter.{Splitter}
use Rattle.convoy_streams.specs.Jobs.{Divided, Job, Progress, after_bytes, after_divider, all_jobs, begun, ended_jobs, is_divider, is_label, is_label_byte, jobs_of, label_in, may_be_label, progress_of, with_bytes}
use Rattle.convoy_streams.specs.Steps.{adds_if, front_of, is_whole, step_at_end, step_of, step_within, waits_for}
use Rattle.convoy_streams.specs.Splitting.{DividesJob, EndsJob, Finishes, GoesOn, Holds, IsAfter, IsBegun, IsJobStart, LineIs, kept_job, next_label_of}
use Rattle.convoy_streams.proofs.Growth.{progress_push, progress_then}

-- a label that has a byte is not empty
some_bytes : (first : ℕ) (others : List ℕ) → not (length (first ∷ others) == 0) ≡ true
some_bytes first others = grind (arith, nat_tests)

named_whole : (label : List ℕ) → may_be_label label ≡ true → is_divider (front_of Named ++ label) ≡ not (length label == 0)
named_whole [] is = refl
named_whole (first ∷ others) is = is ∙ sym (some_bytes first others)

-- a line is a divider just where it is a whole one
whole_is : (line : Line) (label l : List ℕ) → LineIs line label l → is_divider l ≡ is_whole line (length label)
whole_is Start label l is = ap is_divider is.1
whole_is OneDash label l is = ap is_divider is.1
whole_is TwoDashes label l is = ap is_divider is.1
whole_is Dashes label l is = ap is_divider is.1
whole_is Named label l is = ap is_divider is.0 ∙ named_whole label is.1
whole_is Other label l is = ap is_divider (sym (append-nil l)) ∙ is.1 []

whole_label : (line : Line) (label l : List ℕ) → LineIs line label l → is_whole line (length label) ≡ true → label_in l ≡ label
whole_label Dashes label l is whole = ap label_in is.1 ∙ sym is.0
whole_label Named label l is whole = ap label_in is.0
whole_label Start label l is whole = cc
whole_label OneDash label l is whole = cc
whole_label TwoDashes label l is whole = cc
whole_label Other label l is whole = cc

-- the line of a divider is not kept
whole_kept : (line : Line) (named : ℕ) (p : Progress) → is_whole line named ≡ true → kept_job line p ≡ p.so_far.last
whole_kept Dashes named p whole = refl
whole_kept Named named p whole = refl
whole_kept Start named p whole = cc
whole_kept OneDash named p whole = cc
whole_kept TwoDashes named p whole = cc
whole_kept Other named p whole = cc

-- what the steps tell: byte 10 ends a divider, and no other byte does
whole_when : (whole : Bool) → step_at_end whole ≡ Ends → whole ≡ true
whole_when true e = refl
whole_when false e = cc

wait_ends_not : (is_next : Bool) (line : Line) → waits_for is_next line ≡ Ends → ⊥
wait_ends_not true line e = cc
wait_ends_not false line e = cc

add_ends_not : (may : Bool) → adds_if may ≡ Ends → ⊥
add_ends_not true e = cc
add_ends_not false e = cc

ends_not : (line : Line) (named byte : ℕ) → step_within line named byte ≡ Ends → ⊥
ends_not Start named byte e = wait_ends_not (byte == 45) OneDash e
ends_not OneDash named byte e = wait_ends_not (byte == 45) TwoDashes e
ends_not TwoDashes named byte e = wait_ends_not (byte == 45) Dashes e
ends_not Dashes named byte e = wait_ends_not (byte == 32) Named e
ends_not Named named byte e = add_ends_not (is_label_byte byte && nat_lt named LONGEST_LABEL) e
ends_not Other named byte e = cc

-- the step, by whether the byte is byte 10
abbrev step_by : Bool → Line → ℕ → ℕ → Step
step_by n line named byte = if n then step_at_end (is_whole line named) else step_within line named byte

ends_when : (n : Bool) (line : Line) (named byte : ℕ) → step_by n line named byte ≡ Ends → (n ≡ true) × (is_whole line named ≡ true)
ends_when true line named byte e = (refl, whole_when (is_whole line named) e)
ends_when false line named byte e = absurd (ends_not line named byte e)

-- a byte for which a line waits
end_waits_not : (whole : Bool) (next : Line) → step_at_end whole ≡ Waits next → ⊥
end_waits_not true next e = cc
end_waits_not false next e = cc

add_waits_not : (may : Bool) (next : Line) → adds_if may ≡ Waits next → ⊥
add_waits_not true next e = cc
add_waits_not false next e = cc

waited : (is_next : Bool) (line next : Line) → waits_for is_next line ≡ Waits next → (is_next ≡ true) × (line ≡ next)
waited true line next e = (refl, cc)
waited false line next e = cc

longer : (l front : List ℕ) (byte wanted : ℕ) → l ≡ front → (byte == wanted) ≡ true → l ++ byte ∷ [] ≡ front ++ wanted ∷ []
longer l front byte wanted is same = ap (λ x. x ++ byte ∷ []) is ∙ ap (λ (b : ℕ). front ++ b ∷ []) (eqb-true byte wanted same)

-- a line that waits is the front of a divider, with that byte too
record WaitsAs (byte : ℕ) (line next : Line) (label l : List ℕ) : Type 0 where
  pub is : LineIs next label (l ++ byte ∷ [])
  pub same : (p : Progress) (m : List ℕ) → kept_job next (record { so_far = p.so_far; line = m }) ≡ kept_job line p

waits_as : (line next : Line) (label l : List ℕ) (byte : ℕ) → step_within line (length label) byte ≡ Waits next → LineIs line label l →
    WaitsAs byte line next label l
waits_as Start next label l byte e is =
    let found = waited (byte == 45) OneDash next e in
    subst (λ (m : Line). WaitsAs byte Start m label l) found.1
    (record { is = (is.0, longer l [] byte 45 is.1 found.0); same = λ p m. refl })
waits_as OneDash next label l byte e is =
    let found = waited (byte == 45) TwoDashes next e in
    subst (λ (m : Line). WaitsAs byte OneDash m label l) found.1
    (record { is = (is.0, longer l (45 ∷ []) byte 45 is.1 found.0); same = λ p m. refl })
waits_as TwoDashes next label l byte e is =
    let found = waited (byte == 45) Dashes next e in
    subst (λ (m : Line). WaitsAs byte TwoDashes m label l) found.1
    (record { is = (is.0, longer l (45 ∷ 45 ∷ []) byte 45 is.1 found.0); same = λ p m. refl })
waits_as Dashes next label l byte e is =
    let found = waited (byte == 32) Named next e in
    subst (λ (m : Line). WaitsAs byte Dashes m label l) found.1
    (record {
      is = (
        longer l (45 ∷ 45 ∷ 45 ∷ []) byte 32 is.1 found.0 ∙ ap (λ x. front_of Named ++ x) (sym is.0),
        ap may_be_label is.0,
      );
      same = λ p m. refl;
    })
waits_as Named next label l byte e is = absurd (add_waits_not (is_label_byte byte && nat_lt (length label) LONGEST_LABEL) next e)
waits_as Other next label l byte e is = cc

-- a byte of a label
end_adds_not : (whole : Bool) → step_at_end whole ≡ Adds → ⊥
end_adds_not true e = cc
end_adds_not false e = cc

wait_adds_not : (is_next : Bool) (line : Line) → waits_for is_next line ≡ Adds → ⊥
wait_adds_not true line e = cc
wait_adds_not false line e = cc

may_add : (may : Bool) → adds_if may ≡ Adds → may ≡ true
may_add true e = refl
may_add false e = cc

one_more_fits : (label : List ℕ) (byte : ℕ) → nat_lt (length label) LONGEST_LABEL ≡ true → nat_le (length (label ++ byte ∷ [])) LONGEST_LABEL ≡ true
one_more_fits label byte room = let one = length-append label (byte ∷ []) in grind (arith, nat_tests, one)

longer_label : (label : List ℕ) (byte : ℕ) → may_be_label label ≡ true → (is_label_byte byte && nat_lt (length label) LONGEST_LABEL) ≡ true →
    may_be_label (label ++ byte ∷ []) ≡ true
longer_label label byte is one =
    let before = and_parts (list_all is_label_byte label) (nat_le (length label) LONGEST_LABEL) is in
    let last = and_parts (is_label_byte byte) (nat_lt (length label) LONGEST_LABEL) one in
    let short = one_more_fits label byte last.1 in
    and_from _ _ (list_all-append is_label_byte label (byte ∷ []) ∙ and_from _ _ before.0 (and_from _ _ last.0 refl)) short

record AddsAs (byte : ℕ) (line : Line) (label l : List ℕ) : Type 0 where
  pub is : LineIs line (label ++ byte ∷ []) (l ++ byte ∷ [])
  pub same : (p : Progress) (m : List ℕ) → kept_job line (record { so_far = p.so_far; line = m }) ≡ kept_job line p

adds_as : (line : Line) (label l : List ℕ) (byte : ℕ) → step_within line (length label) byte ≡ Adds → LineIs line label l → AddsAs byte line label l
adds_as Named label l byte e is = record {
  is = (
    ap (λ x. x ++ byte ∷ []) is.0 ∙ append_assoc (front_of Named) label (byte ∷ []),
    longer_label label byte is.1 (may_add (is_label_byte byte && nat_lt (length label) LONGEST_LABEL) e),
  );
  same = λ p m. refl;
}
adds_as Start label l byte e is = absurd (wait_adds_not (byte == 45) OneDash e)
adds_as OneDash label l byte e is = absurd (wait_adds_not (byte == 45) TwoDashes e)
adds_as TwoDashes label l byte e is = absurd (wait_adds_not (byte == 45) Dashes e)
adds_as Dashes label l byte e is = absurd (wait_adds_not (byte == 32) Named e)
adds_as Other label l byte e is = cc

-- the line with another byte at its end is no divider, however it goes on
abbrev no_more : List ℕ → ℕ → Type 0
no_more l byte = (rest : List ℕ) → is_divider ((l ++ byte ∷ []) ++ rest) ≡ false

no_dash : (byte : ℕ) (rest : List ℕ) → (byte == 45) ≡ false → is_divider (byte ∷ rest) ≡ false
no_dash byte [] e = refl
no_dash byte (b ∷ []) e = refl
no_dash byte (b ∷ c ∷ rest) e = and_left _ _ (and_left (byte == 45) _ e)

no_second : (byte : ℕ) (rest : List ℕ) → (byte == 45) ≡ false → is_divider (45 ∷ byte ∷ rest) ≡ false
no_second byte [] e = refl
no_second byte (c ∷ rest) e = and_left _ _ (and_left (byte == 45) _ e)

no_third : (byte : ℕ) (rest : List ℕ) → (byte == 45) ≡ false → is_divider (45 ∷ 45 ∷ byte ∷ rest) ≡ false
no_third byte rest e = and_left (byte == 45) _ e

no_space : (byte : ℕ) (rest : List ℕ) → (byte == 32) ≡ false → is_divider (45 ∷ 45 ∷ 45 ∷ byte ∷ rest) ≡ false
no_space byte rest e = and_left (byte == 32) _ e

not_all : (label rest : List ℕ) (byte : ℕ) → is_label_byte byte ≡ false → list_all is_label_byte ((label ++ byte ∷ []) ++ rest) ≡ false
not_all [] rest byte e = and_left (is_label_byte byte) _ e
not_all (first ∷ others) rest byte e = and_right (is_label_byte first) _ (not_all others rest byte e)

too_long : (label rest : List ℕ) (byte : ℕ) → nat_lt (length label) LONGEST_LABEL ≡ false →
    nat_le (length ((label ++ byte ∷ []) ++ rest)) LONGEST_LABEL ≡ false
too_long label rest byte e =
    let all = length-append (label ++ byte ∷ []) rest in
    let one = length-append label (byte ∷ []) in
    grind (arith, nat_tests, all, one)

too_much : (label rest : List ℕ) (byte : ℕ) → (is_label_byte byte && nat_lt (length label) LONGEST_LABEL) ≡ false →
    may_be_label ((label ++ byte ∷ []) ++ rest) ≡ false
too_much label rest byte e = elim (and_cases (is_label_byte byte) (nat_lt (length label) LONGEST_LABEL) e) [
  | inl bad ↦ and_left _ _ (not_all label rest byte bad)
  | inr long ↦ and_right (list_all is_label_byte ((label ++ byte ∷ []) ++ rest)) _ (too_long label rest byte long)
]

no_label : (label rest : List ℕ) (byte : ℕ) → (is_label_byte byte && nat_lt (length label) LONGEST_LABEL) ≡ false →
    is_label ((label ++ byte ∷ []) ++ rest) ≡ false
no_label [] rest byte e = too_much [] rest byte e
no_label (first ∷ others) rest byte e = too_much (first ∷ others) rest byte e

-- a byte by which the line can be no divider
end_keeps : (whole : Bool) (next : Line) → step_at_end whole ≡ Keeps next → (whole ≡ false) × (Start ≡ next)
end_keeps true next e = cc
end_keeps false next e = (refl, cc)

wait_keeps : (is_next : Bool) (line next : Line) → waits_for is_next line ≡ Keeps next → (is_next ≡ false) × (Other ≡ next)
wait_keeps true line next e = cc
wait_keeps false line next e = (refl, cc)

add_keeps : (may : Bool) (next : Line) → adds_if may ≡ Keeps next → (may ≡ false) × (Other ≡ next)
add_keeps true next e = cc
add_keeps false next e = (refl, cc)

keeps_as : (line next : Line) (label l : List ℕ) (byte : ℕ) → step_within line (length label) byte ≡ Keeps next → LineIs line label l →
    (Other ≡ next) × no_more l byte
keeps_as Start next label l byte e is =
    let P : List ℕ → Type 0 = λ x. no_more x byte in
    let found = wait_keeps (byte == 45) OneDash next e in
    (found.1, subst P (sym is.1) (λ rest. no_dash byte rest found.0))
keeps_as OneDash next label l byte e is =
    let P : List ℕ → Type 0 = λ x. no_more x byte in
    let found = wait_keeps (byte == 45) TwoDashes next e in
    (found.1, subst P (sym is.1) (λ rest. no_second byte rest found.0))
keeps_as TwoDashes next label l byte e is =
    let P : List ℕ → Type 0 = λ x. no_more x byte in
    let found = wait_keeps (byte == 45) Dashes next e in
    (found.1, subst P (sym is.1) (λ rest. no_third byte rest found.0))
keeps_as Dashes next label l byte e is =
    let P : List ℕ → Type 0 = λ x. no_more x byte in
    let found = wait_keeps (byte == 32) Named next e in
    (found.1, subst P (sym is.1) (λ rest. no_space byte rest found.0))
keeps_as Named next label l byte e is =
    let P : List ℕ → Type 0 = λ x. no_more x byte in
    let found = add_keeps (is_label_byte byte && nat_lt (length label) LONGEST_LABEL) next e in
    (found.1, subst P (sym is.0) (λ rest. no_label label rest byte found.0))
keeps_as Other next label l byte e is =
    (cc, λ rest. ap is_divider (append_assoc l (byte ∷ []) rest) ∙ is.1 (byte ∷ rest))

-- what is kept, with the line that was not, is the job with all of its line
twice : (job : Job) (a b : List ℕ) → with_bytes (with_bytes job a) b ≡ with_bytes job (a ++ b)
twice job a b = let with_text : List ℕ → Job = λ t. record { label = job.label; text = t } in ap with_text (append_assoc job.text a b)

-- two pieces that were kept one after the other
pub kept_twice : (longest : ℕ) (splitter : Splitter) (job : Job) (a b first second : List ℕ) → a ≡ first → b ≡ second →
    Holds longest splitter (with_bytes (with_bytes job a) b) → Holds longest splitter (with_bytes job (first ++ second))
kept_twice longest splitter job a b first second is_first is_second held =
    subst (Holds longest splitter)
    (ap (λ x. with_bytes (with_bytes job x) b) is_first ∙ ap (with_bytes (with_bytes job first)) is_second ∙ twice job first second) held

front_kept : (job : Job) (front label l : List ℕ) → label ≡ [] → l ≡ front → with_bytes job (front ++ label) ≡ with_bytes job l
front_kept job front label l none is = ap (with_bytes job) (ap (λ x. front ++ x) none ∙ append-nil front ∙ sym is)

all_kept : (line : Line) (label l : List ℕ) (d : Divided) → LineIs line label l →
    with_bytes (kept_job line (record { so_far = d; line = l })) (front_of line ++ label) ≡ with_bytes d.last l
all_kept Start label l d is = front_kept d.last [] label l is.0 is.1
all_kept OneDash label l d is = front_kept d.last (front_of OneDash) label l is.0 is.1
all_kept TwoDashes label l d is = front_kept d.last (front_of TwoDashes) label l is.0 is.1
all_kept Dashes label l d is = front_kept d.last (front_of Dashes) label l is.0 is.1
all_kept Named label l d is = ap (with_bytes d.last) (sym is.0)
all_kept Other label l d is =
    twice d.last l label ∙ ap (with_bytes d.last) (ap (λ x. l ++ x) is.0 ∙ append-nil l)

-- the progress is this one after the byte
goes_on : (longest : ℕ) (new : Splitter) (text : List ℕ) (byte : ℕ) (q : Progress) → progress_of (text ++ byte ∷ []) ≡ q →
    q.so_far.jobs ≡ ended_jobs text → LineIs new.line (next_label_of new) q.line → Holds longest new (kept_job new.line q) →
    GoesOn longest new text (byte ∷ [])
goes_on longest new text byte q e jobs is held = record {
  none_more = ap (λ p. p.so_far.jobs) e ∙ jobs;
  after = record {
    line = subst (λ (p : Progress). LineIs new.line (next_label_of new) p.line) (sym e) is;
    held = subst (λ (p : Progress). Holds longest new (kept_job new.line p)) (sym e) held;
  };
}

-- a splitter at the start of a job, whatever stands before it
pub begun_after : (longest : ℕ) (splitter : Splitter) (label text : List ℕ) → IsBegun longest splitter label → IsJobStart label text →
    IsAfter longest splitter text
begun_after longest splitter label text is start =
    let p = progress_of text in
    record {
      line = subst (λ (m : Line). LineIs m (next_label_of splitter) p.line) (sym is.line) (is.next, start.no_line);
      held = subst (λ (m : Line). Holds longest splitter (kept_job m p)) (sym is.line) (subst (Holds longest splitter) (sym start.no_text) is.held);
    }

-- the jobs after a divider, which may only name the last one
abbrev jobs_after : Divided → Bool → List Job
jobs_after d named = if named then d.jobs else d.jobs ++ d.last ∷ []

-- what a divider makes of the splitter, where its byte 10 has come
divided_by_line : (longest : ℕ) (new : Splitter) (text label : List ℕ) (byte : ℕ) (divides : Bool) →
    progress_of (text ++ byte ∷ []) ≡ record { so_far = after_divider label (progress_of text).so_far; line = [] } →
    DividesJob longest new label (progress_of text).so_far.last divides →
    MatchBool divides (EndsJob longest new text (byte ∷ [])) (GoesOn longest new text (byte ∷ []))
divided_by_line longest new text label byte true now d =
    let p = progress_of text in
    record {
      job = p.so_far.last;
      one_more = ap (λ q. q.so_far.jobs) now ∙ ap (jobs_after p.so_far) d.0;
      start = record { no_text = ap (λ q. q.so_far.last) now ∙ ap begun (sym d.2); no_line = ap (λ q. q.line) now };
      held = d.1;
    }
divided_by_line longest new text label byte false now d =
    let p = progress_of text in
    let q : Progress = record { so_far = after_divider label p.so_far; line = [] } in
    goes_on longest new text byte q now (ap (jobs_after p.so_far) d.0)
    (subst (λ (m : Line). LineIs m (next_label_of new) []) (sym d.1.line) (d.1.next, refl))
    (subst (λ (m : Line). Holds longest new (kept_job m q)) (sym d.1.line) d.1.held)

-- the step ends a divider
pub ends : (longest : ℕ) (old new : Splitter) (text : List ℕ) (byte : ℕ) (divides : Bool) →
    Ends ≡ step_of old.line (length (next_label_of old)) byte →
    ((job : Job) → Holds longest old job → DividesJob longest new (next_label_of old) job divides) →
    IsAfter longest old text → MatchBool divides (EndsJob longest new text (byte ∷ [])) (GoesOn longest new text (byte ∷ []))
ends longest old new text byte divides e division after =
    let p = progress_of text in
    let label = next_label_of old in
    let when = ends_when (byte == 10) old.line (length label) byte (sym e) in
    let divider : is_divider p.line ≡ true = whole_is old.line label p.line after.line ∙ when.1 in
    let named : label_in p.line ≡ label = whole_label old.line label p.line after.line when.1 in
    let held = subst (Holds longest old) (whole_kept old.line (length label) p when.1) after.held in
    let at_start : Divided → Progress = λ d. record { so_far = d; line = [] } in
    let by_test : Bool → Progress = λ t. at_start (if t then after_divider (label_in p.line) p.so_far else after_bytes (ended p.line) p.so_far) in
    let now : progress_of (text ++ byte ∷ []) ≡ at_start (after_divider label p.so_far) =
    progress_push text byte ∙ ap (λ (n : Bool). progress_then n byte p) when.0 ∙ ap by_test divider
    ∙ ap (λ x. at_start (after_divider x p.so_far)) named in
    divided_by_line longest new text label byte divides now (division p.so_far.last held)

-- the step waits for more of the line
pub waits : (longest : ℕ) (old new : Splitter) (text : List ℕ) (byte : ℕ) → Waits new.line ≡ step_of old.line (length (next_label_of old)) byte →
    next_label_of new ≡ next_label_of old → ((job : Job) → Holds longest old job → Holds longest new job) →
    IsAfter longest old text → GoesOn longest new text (byte ∷ [])
waits longest old new text byte e same held after = by_byte (byte == 10) refl (sym e) where
  p : Progress
  p = progress_of text

  by_byte : (n : Bool) → (byte == 10) ≡ n → step_by n old.line (length (next_label_of old)) byte ≡ Waits new.line → GoesOn longest new text (byte ∷ [])
  by_byte true is waiting = absurd (end_waits_not (is_whole old.line (length (next_label_of old))) new.line waiting)
  by_byte false is waiting =
      let found = waits_as old.line new.line (next_label_of old) p.line byte waiting after.line in
      let now = progress_push text byte ∙ ap (λ (n : Bool). progress_then n byte p) is in
      goes_on longest new text byte (record { so_far = p.so_far; line = p.line ++ byte ∷ [] }) now refl
      (subst (λ label. LineIs new.line label (p.line ++ byte ∷ [])) (sym same) found.is)
      (held _ (subst (Holds longest old) (sym (found.same p (p.line ++ byte ∷ []))) after.held))

-- the step adds to the label
pub adds : (longest : ℕ) (old new : Splitter) (text : List ℕ) (byte : ℕ) → Adds ≡ step_of old.line (length (next_label_of old)) byte →
    next_label_of new ≡ next_label_of old ++ byte ∷ [] → new.line ≡ old.line → ((job : Job) → Holds longest old job → Holds longest new job) →
    IsAfter longest old text → GoesOn longest new text (byte ∷ [])
adds longest old new text byte e grown same held after = by_byte (byte == 10) refl (sym e) where
  p : Progress
  p = progress_of text

  by_byte : (n : Bool) → (byte == 10) ≡ n → step_by n old.line (length (next_label_of old)) byte ≡ Adds → GoesOn longest new text (byte ∷ [])
  by_byte true is adding = absurd (end_adds_not (is_whole old.line (length (next_label_of old))) adding)
  by_byte false is adding =
      let found = adds_as old.line (next_label_of old) p.line byte adding after.line in
      let now = progress_push text byte ∙ ap (λ (n : Bool). progress_then n byte p) is in
      let q : Progress = record { so_far = p.so_far; line = p.line ++ byte ∷ [] } in
      goes_on longest new text byte q now refl
      (subst (λ label. LineIs new.line label q.line) (sym grown) (subst (λ (m : Line). LineIs m (next_label_of old ++ byte ∷ []) q.line) (sym same) found.is))
      (held _ (subst (λ (m : Line). Holds longest old (kept_job m q)) (sym same) (subst (Holds longest old) (sym (found.same p q.line)) after.held)))

-- the step keeps the line
pub keeps : (longest : ℕ) (old new : Splitter) (text : List ℕ) (byte : ℕ) → Keeps new.line ≡ step_of old.line (length (next_label_of old)) byte →
    next_label_of new ≡ [] →
    ((job : Job) → Holds longest old job → Holds longest new (with_bytes (with_bytes job (front_of old.line ++ next_label_of old)) (byte ∷ []))) →
    IsAfter longest old text → GoesOn longest new text (byte ∷ [])
keeps longest old new text byte e none held after = by_byte (byte == 10) refl (sym e) where
  p : Progress
  p = progress_of text

  last : Job
  last = p.so_far.last

  kept : Holds longest new (with_bytes last (p.line ++ byte ∷ []))
  kept =
      subst (Holds longest new) (ap (λ job. with_bytes job (byte ∷ [])) (all_kept old.line (next_label_of old) p.line p.so_far after.line) ∙ twice last p.line (byte ∷ []))
      (held _ after.held)

  by_byte : (n : Bool) → (byte == 10) ≡ n → step_by n old.line (length (next_label_of old)) byte ≡ Keeps new.line → GoesOn longest new text (byte ∷ [])
  by_byte true is keeping =
      let found = end_keeps (is_whole old.line (length (next_label_of old))) new.line keeping in
      let by_test : Bool → Progress = λ t. record { so_far = if t then after_divider (label_in p.line) p.so_far else after_bytes (ended p.line) p.so_far; line = [] } in
      let q : Progress = record { so_far = after_bytes (ended p.line) p.so_far; line = [] } in
      let now : progress_of (text ++ byte ∷ []) ≡ q =
      progress_push text byte ∙ ap (λ (n : Bool). progress_then n byte p) is ∙ ap by_test (whole_is old.line (next_label_of old) p.line after.line ∙ found.0) in
      let whole : Holds longest new q.so_far.last =
      subst (λ (b : ℕ). Holds longest new (with_bytes last (p.line ++ b ∷ []))) (eqb-true byte 10 is) kept in
      goes_on longest new text byte q now refl
      (subst (λ (m : Line). LineIs m (next_label_of new) []) found.1 (none, refl))
      (subst (λ (m : Line). Holds longest new (kept_job m q)) found.1 whole)
  by_byte false is keeping =
      let found = keeps_as old.line new.line (next_label_of old) p.line byte keeping after.line in
      let q : Progress = record { so_far = p.so_far; line = p.line ++ byte ∷ [] } in
      let now : progress_of (text ++ byte ∷ []) ≡ q = progress_push text byte ∙ ap (λ (n : Bool). progress_then n byte p) is in
      goes_on longest new text byte q now refl
      (subst (λ (m : Line). LineIs m (next_label_of new) q.line) found.0 (none, found.1))
      (subst (λ (m : Line). Holds longest new (kept_job m q)) found.0 kept)

-- the end of the text, by whether its last line is a divider
abbrev ended_by : Bool → Progress → List Job
ended_by divider p = all_jobs (if divider then after_divider (label_in p.line) p.so_far else after_bytes p.line p.so_far)

finishes_by : (longest : ℕ) (new : Splitter) (text label : List ℕ) (divides : Bool) →
    jobs_of text ≡ all_jobs (after_divider label (progress_of text).so_far) →
    DividesJob longest new label (progress_of text).so_far.last divides → Finishes longest new text divides
finishes_by longest new text label true all d =
    let so_far = (progress_of text).so_far in
    record {
      job = so_far.last;
      all = all ∙ ap (λ jobs. jobs ++ begun label ∷ []) (ap (jobs_after so_far) d.0) ∙ append_assoc so_far.jobs (so_far.last ∷ []) (begun label ∷ [])
          ∙ ap (λ x. so_far.jobs ++ so_far.last ∷ begun x ∷ []) (sym d.2);
      held = d.1;
    }
finishes_by longest new text label false all d =
    let so_far = (progress_of text).so_far in
    record { job = begun label; all = all ∙ ap (λ jobs. jobs ++ begun label ∷ []) (ap (jobs_after so_far) d.0); held = d.1.held }

-- the text ends with a divider
pub finishes_whole : (longest : ℕ) (old new : Splitter) (text : List ℕ) (divides : Bool) → is_whole old.line (length (next_label_of old)) ≡ true →
    ((job : Job) → Holds longest old job → DividesJob longest new (next_label_of old) job divides) → IsAfter longest old text → Finishes longest new text divides
finishes_whole longest old new text divides whole division after =
    let p = progress_of text in
    let label = next_label_of old in
    let divider : is_divider p.line ≡ true = whole_is old.line label p.line after.line ∙ whole in
    let named : label_in p.line ≡ label = whole_label old.line label p.line after.line whole in
    let held = subst (Holds longest old) (whole_kept old.line (length label) p whole) after.held in
    finishes_by longest new text label divides
    (ap (λ (t : Bool). ended_by t p) divider ∙ ap (λ x. all_jobs (after_divider x p.so_far)) named) (division p.so_far.last held)

-- it ends otherwise
pub finishes_part : (longest : ℕ) (old new : Splitter) (text : List ℕ) → is_whole old.line (length (next_label_of old)) ≡ false →
    ((job : Job) → Holds longest old job → Holds longest new (with_bytes job (front_of old.line ++ next_label_of old))) →
    IsAfter longest old text → Finishes longest new text false
finishes_part longest old new text part held after =
    let p = progress_of text in
    record {
      job = with_bytes p.so_far.last p.line;
      all = ap (λ (t : Bool). ended_by t p) (whole_is old.line (next_label_of old) p.line after.line ∙ part);
      held = subst (Holds longest new) (all_kept old.line (next_label_of old) p.line p.so_far after.line) (held _ after.held);
    }
