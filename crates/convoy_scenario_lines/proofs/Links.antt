-- The lines `link`, one after another.
use Rattle.std.proofs.Common.{◌≡◌, ℕ, ◌+◌, ◌==◌, if◌then◌else◌, true, false, List, [], ◌∷◌, ◌++◌, Some, None, ok_or, Result, Ok, Err, refl, sym, ap, ◌∙◌, append_assoc, inl, inr}
use Rattle.std.proofs.lemmas.List.{append-nil}
use Rattle.convoy_draft.specs.declared.fault.ScenarioFault.TheVariants.{OverLimit}
use Rattle.convoy_draft.specs.declared.fault.Limit.TheVariants as limit
use Rattle.convoy_draft.specs.declared.limits.TheConstants.{MOST_LINKS}
use Rattle.convoy_scenario_lines.specs.declared.line_fault.Expected.TheVariants.{Link}
use Rattle.convoy_scenario_lines.specs.declared.line_fault.LineFault.{LineFault}
use Rattle.convoy_scenario_lines.specs.declared.line_fault.LineFault.TheVariants as faults
use Rattle.convoy_scenario_lines.specs.declared.version.Version.{Version}
use Rattle.convoy_scenario.specs.Memory.{IsUnlessMemory}
use Rattle.convoy_draft.specs.Draft.{DraftLink}
use Rattle.convoy_scenario_lines.specs.LineForms.{link_in}
use Rattle.convoy_lines.specs.Results.{◌>>=◌}
use Rattle.convoy_lines.specs.Places.{Place, upcoming}
use Rattle.convoy_scenario_lines.specs.LineReading.{form_at, is_link_due, links_in, links_at}

-- one link more, unless there are too many
abbrev pub with_next : Version → ℕ → DraftLink × Place → Result (List DraftLink × Place) LineFault
with_next version count next = (if count == MOST_LINKS then Err (faults.Scenario (OverLimit limit.Link)) else links_at version (count + 1) next.1) >>= λ more. Ok (next.0 ∷ more.0, more.1)

unfolds : (version : Version) (count number : ℕ) (rest : List ℕ) (ended : List (List ℕ)) → is_link_due version (upcoming (record { ended = ended; rest = rest; number = number })) ≡ true
    → links_in version count number rest ended ≡ (form_at Link (link_in version) (record { ended = ended; rest = rest; number = number }) >>= with_next version count)
unfolding links_in
unfolds version count number rest [] come = rw come refl
unfolds version count number rest (line ∷ lines) come =
    rw come (elim (link_in version line) as (λ m. (ok_or m (faults.Line number Link) >>= λ link. (if count == MOST_LINKS then Err (faults.Scenario (OverLimit limit.Link)) else links_in version (count + 1) (number + 1) rest lines) >>= λ more. Ok (link ∷ more.0, more.1))
    ≡ ((ok_or m (faults.Line number Link) >>= λ value. Ok (value, record { ended = lines; rest = rest; number = number + 1 })) >>= with_next version count)) [ None ↦ refl | Some m ↦ refl ])

-- a line that is to come is read
pub one_more : (version : Version) (count : ℕ) (p : Place) → is_link_due version (upcoming p) ≡ true → links_at version count p ≡ (form_at Link (link_in version) p >>= with_next version count)
one_more version count p come = unfolds version count p.number p.rest p.ended come

-- no line is to come
none : (version : Version) (count number : ℕ) (rest : List ℕ) (ended : List (List ℕ)) → is_link_due version (upcoming (record { ended = ended; rest = rest; number = number })) ≡ false
    → links_in version count number rest ended ≡ Ok ([], record { ended = ended; rest = rest; number = number })
unfolding links_in
none version count number rest [] due = rw due refl
none version count number rest (line ∷ lines) due = rw due refl

pub no_more : (version : Version) (count : ℕ) (p : Place) → is_link_due version (upcoming p) ≡ false → links_at version count p ≡ Ok ([], p)
no_more version count p due = none version count p.number p.rest p.ended due

-- what is read so far, and what is to come
abbrev pub with_front : List DraftLink → Result (List DraftLink × Place) LineFault → Result (List DraftLink × Place) LineFault
with_front front read = read >>= λ more. Ok (front ++ more.0, more.1)

regroup : (front : List DraftLink) (m : DraftLink) (read : Result (List DraftLink × Place) LineFault) → with_front front (read >>= λ more. Ok (m ∷ more.0, more.1)) ≡ with_front (front ++ m ∷ []) read
regroup front m (Ok x) = ap (λ (ms : List DraftLink). Ok (ms, x.1)) (sym (append_assoc front (m ∷ []) x.0))
regroup front m (Err e) = refl

pub faulty : (front : List DraftLink) (version : Version) (count : ℕ) (p : Place) (total : Result (List DraftLink × Place) LineFault) (fault : LineFault) → is_link_due version (upcoming p) ≡ true
    → IsUnlessMemory faults.Memory (form_at Link (link_in version) p) (Err fault) → with_front front (links_at version count p) ≡ total → IsUnlessMemory faults.Memory total (Err fault)
faulty front version count p total fault due (inl e) so_far =
    let step : Result (DraftLink × Place) LineFault → Result (List DraftLink × Place) LineFault = λ r. with_front front (r >>= with_next version count) in
    let all : step (Err fault) ≡ total = ap step e ∙ sym (ap (with_front front) (one_more version count p due)) ∙ so_far in
    inl all
faulty front version count p total fault due (inr e) so_far = let same : fault ≡ faults.Memory = cc in inr (ap (λ (f : LineFault). Err f) same)

pub too_many : (front : List DraftLink) (version : Version) (count : ℕ) (p : Place) (total : Result (List DraftLink × Place) LineFault) (next : DraftLink × Place) → is_link_due version (upcoming p) ≡ true
    → IsUnlessMemory faults.Memory (form_at Link (link_in version) p) (Ok next) → (count == MOST_LINKS) ≡ true → with_front front (links_at version count p) ≡ total
    → IsUnlessMemory faults.Memory total (Err (faults.Scenario (OverLimit limit.Link)))
too_many front version count p total next due (inl e) many so_far =
    let over : with_front front (with_next version count next) ≡ Err (faults.Scenario (OverLimit limit.Link)) = rw many refl in
    let step : Result (DraftLink × Place) LineFault → Result (List DraftLink × Place) LineFault = λ r. with_front front (r >>= with_next version count) in
    inl (sym over ∙ ap step e ∙ sym (ap (with_front front) (one_more version count p due)) ∙ so_far)
too_many front version count p total next due (inr e) many so_far = absurd cc

pub goes_on : (front : List DraftLink) (version : Version) (count : ℕ) (p : Place) (total : Result (List DraftLink × Place) LineFault) (next : DraftLink × Place) → is_link_due version (upcoming p) ≡ true
    → IsUnlessMemory faults.Memory (form_at Link (link_in version) p) (Ok next) → (count == MOST_LINKS) ≡ false → with_front front (links_at version count p) ≡ total
    → with_front (front ++ next.0 ∷ []) (links_at version (count + 1) next.1) ≡ total
goes_on front version count p total next due (inl e) few so_far =
    let within : with_next version count next ≡ (links_at version (count + 1) next.1 >>= λ more. Ok (next.0 ∷ more.0, more.1)) = rw few refl in
    let step : Result (DraftLink × Place) LineFault → Result (List DraftLink × Place) LineFault = λ r. with_front front (r >>= with_next version count) in
    sym (ap (with_front front) within ∙ regroup front next.0 (links_at version (count + 1) next.1)) ∙ ap step e ∙ sym (ap (with_front front) (one_more version count p due)) ∙ so_far
goes_on front version count p total next due (inr e) few so_far = absurd cc

pub done : (front : List DraftLink) (version : Version) (count : ℕ) (p : Place) (total : Result (List DraftLink × Place) LineFault) → is_link_due version (upcoming p) ≡ false
    → with_front front (links_at version count p) ≡ total → IsUnlessMemory faults.Memory total (Ok (front, p))
done front version count p total due so_far =
    inl (sym (sym so_far ∙ ap (with_front front) (no_more version count p due) ∙ ap (λ (ms : List DraftLink). Ok (ms, p)) (append-nil front)))
