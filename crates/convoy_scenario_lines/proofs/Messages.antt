-- The lines `multicast`, one after another.
use Rattle.std.proofs.Common.{◌≡◌, ℕ, ◌+◌, if◌then◌else◌, inr, ◌==◌, true, false, List, [], ◌∷◌, ◌++◌, map, Some, None, ok_or, Result, Ok, Err, refl, sym, ap, ◌∙◌, append_assoc, inl}
use Rattle.std.proofs.lemmas.List.{append-nil}
use Rattle.convoy_draft.specs.declared.fault.ScenarioFault.TheVariants.{OverLimit}
use Rattle.convoy_draft.specs.declared.fault.Limit.TheVariants.{Multicasts}
use Rattle.convoy_draft.specs.declared.limits.TheConstants.{MOST_MULTICASTS}
use Rattle.convoy_scenario_lines.specs.declared.line_fault.Expected.TheVariants.{Multicast}
use Rattle.convoy_scenario_lines.specs.declared.line_fault.LineFault.{LineFault}
use Rattle.convoy_scenario_lines.specs.declared.line_fault.LineFault.TheVariants as faults
use Rattle.convoy_scenario_lines.specs.declared.version.Version.{Version}
use Rattle.convoy_scenario.specs.Memory.{IsUnlessMemory}
use Rattle.convoy_draft.specs.Draft.{DraftMessage}
use Rattle.convoy_scenario_lines.specs.Keeping.{kept_message, kept_multicast_in}
use Rattle.convoy_scenario_lines.specs.LineForms.{multicast_in}
use Rattle.convoy_lines.specs.Results.{◌>>=◌}
use Rattle.convoy_lines.specs.Places.{Place, upcoming}
use Rattle.convoy_scenario_lines.specs.LineReading.{form_at, is_multicast_due, messages_in, messages_at}
use Rattle.convoy_scenario_lines.proofs.KeptLines.{multicast_kept}

-- one message more, unless there are too many
abbrev pub with_next : Version → ℕ → DraftMessage × Place → Result (List DraftMessage × Place) LineFault
with_next version count next = (if count == MOST_MULTICASTS then Err (faults.Scenario (OverLimit Multicasts)) else messages_at version (count + 1) next.1) >>= λ more. Ok (next.0 ∷ more.0, more.1)

unfolds : (version : Version) (count number : ℕ) (rest : List ℕ) (ended : List (List ℕ)) → is_multicast_due count (upcoming (record { ended = ended; rest = rest; number = number })) ≡ true
    → messages_in version count number rest ended ≡ (form_at Multicast (multicast_in version) (record { ended = ended; rest = rest; number = number }) >>= with_next version count)
unfolding messages_in
unfolds version count number rest [] come = rw come refl
unfolds version count number rest (line ∷ lines) come =
    rw come (elim (multicast_in version line) as (λ m. (ok_or m (faults.Line number Multicast) >>= λ message. (if count == MOST_MULTICASTS then Err (faults.Scenario (OverLimit Multicasts)) else messages_in version (count + 1) (number + 1) rest lines) >>= λ more. Ok (message ∷ more.0, more.1))
    ≡ ((ok_or m (faults.Line number Multicast) >>= λ value. Ok (value, record { ended = lines; rest = rest; number = number + 1 })) >>= with_next version count)) [ None ↦ refl | Some m ↦ refl ])

-- a line that is to come is read
pub one_more : (version : Version) (count : ℕ) (p : Place) → is_multicast_due count (upcoming p) ≡ true → messages_at version count p ≡ (form_at Multicast (multicast_in version) p >>= with_next version count)
one_more version count p come = unfolds version count p.number p.rest p.ended come

-- no line is to come
none : (version : Version) (count number : ℕ) (rest : List ℕ) (ended : List (List ℕ)) → is_multicast_due count (upcoming (record { ended = ended; rest = rest; number = number })) ≡ false
    → messages_in version count number rest ended ≡ Ok ([], record { ended = ended; rest = rest; number = number })
unfolding messages_in
none version count number rest [] due = rw due refl
none version count number rest (line ∷ lines) due = rw due refl

pub no_more : (version : Version) (count : ℕ) (p : Place) → is_multicast_due count (upcoming p) ≡ false → messages_at version count p ≡ Ok ([], p)
no_more version count p due = none version count p.number p.rest p.ended due

-- what is kept so far, and what is kept of what is to come
abbrev pub with_front : List (List ℕ) → List DraftMessage → Result (List DraftMessage × Place) LineFault → Result (List DraftMessage × Place) LineFault
with_front groups front read = read >>= λ more. Ok (front ++ map (kept_message groups) more.0, more.1)

regroup : (groups : List (List ℕ)) (front : List DraftMessage) (m : DraftMessage) (read : Result (List DraftMessage × Place) LineFault)
    → with_front groups front (read >>= λ more. Ok (m ∷ more.0, more.1)) ≡ with_front groups (front ++ kept_message groups m ∷ []) read
regroup groups front m (Ok x) = ap (λ (ms : List DraftMessage). Ok (ms, x.1)) (sym (append_assoc front (kept_message groups m ∷ []) (map (kept_message groups) x.0)))
regroup groups front m (Err e) = refl

abbrev kept_next : List (List ℕ) → DraftMessage × Place → DraftMessage × Place
kept_next groups next = (kept_message groups next.0, next.1)

-- the line of which a message is kept
from_kept : (groups : List (List ℕ)) (r : Result (DraftMessage × Place) LineFault) (next : DraftMessage × Place) → (r >>= λ x. Ok (kept_next groups x)) ≡ Ok next
    → (whole : DraftMessage × Place) × (r ≡ Ok whole) × (next ≡ kept_next groups whole)
from_kept groups (Ok whole) next e = (whole, refl, cc)
from_kept groups (Err fault) next e = absurd cc

from_faulty : (groups : List (List ℕ)) (r : Result (DraftMessage × Place) LineFault) (fault : LineFault) → (r >>= λ x. Ok (kept_next groups x)) ≡ Err fault → r ≡ Err fault
from_faulty groups (Ok whole) fault e = absurd cc
from_faulty groups (Err other) fault e = e

pub faulty : (version : Version) (groups : List (List ℕ)) (front : List DraftMessage) (count : ℕ) (p : Place) (total : Result (List DraftMessage × Place) LineFault) (fault : LineFault) → is_multicast_due count (upcoming p) ≡ true
    → IsUnlessMemory faults.Memory (form_at Multicast (kept_multicast_in version groups) p) (Err fault) → with_front groups front (messages_at version count p) ≡ total → IsUnlessMemory faults.Memory total (Err fault)
faulty version groups front count p total fault due (inl e) so_far =
    let whole = from_faulty groups (form_at Multicast (multicast_in version) p) fault (sym (multicast_kept version groups p) ∙ sym e) in
    let step : Result (DraftMessage × Place) LineFault → Result (List DraftMessage × Place) LineFault = λ r. with_front groups front (r >>= with_next version count) in
    let all : step (Err fault) ≡ total = ap step (sym whole) ∙ sym (ap (with_front groups front) (one_more version count p due)) ∙ so_far in
    inl all
faulty version groups front count p total fault due (inr e) so_far = let same : fault ≡ faults.Memory = cc in inr (ap (λ (f : LineFault). Err f) same)

pub too_many : (version : Version) (groups : List (List ℕ)) (front : List DraftMessage) (count : ℕ) (p : Place) (total : Result (List DraftMessage × Place) LineFault) (next : DraftMessage × Place) → is_multicast_due count (upcoming p) ≡ true
    → IsUnlessMemory faults.Memory (form_at Multicast (kept_multicast_in version groups) p) (Ok next) → (count == MOST_MULTICASTS) ≡ true → with_front groups front (messages_at version count p) ≡ total
    → IsUnlessMemory faults.Memory total (Err (faults.Scenario (OverLimit Multicasts)))
too_many version groups front count p total next due (inl e) many so_far =
    let found = from_kept groups (form_at Multicast (multicast_in version) p) next (sym (multicast_kept version groups p) ∙ sym e) in
    let limit : with_front groups front (with_next version count found.0) ≡ Err (faults.Scenario (OverLimit Multicasts)) = rw many refl in
    let step : Result (DraftMessage × Place) LineFault → Result (List DraftMessage × Place) LineFault = λ r. with_front groups front (r >>= with_next version count) in
    inl (sym limit ∙ ap step (sym found.1) ∙ sym (ap (with_front groups front) (one_more version count p due)) ∙ so_far)
too_many version groups front count p total next due (inr e) many so_far = absurd cc

pub goes_on : (version : Version) (groups : List (List ℕ)) (front : List DraftMessage) (count : ℕ) (p : Place) (total : Result (List DraftMessage × Place) LineFault) (next : DraftMessage × Place) → is_multicast_due count (upcoming p) ≡ true
    → IsUnlessMemory faults.Memory (form_at Multicast (kept_multicast_in version groups) p) (Ok next) → (count == MOST_MULTICASTS) ≡ false → with_front groups front (messages_at version count p) ≡ total
    → with_front groups (front ++ next.0 ∷ []) (messages_at version (count + 1) next.1) ≡ total
goes_on version groups front count p total next due (inl e) few so_far =
    let found = from_kept groups (form_at Multicast (multicast_in version) p) next (sym (multicast_kept version groups p) ∙ sym e) in
    let whole = found.0 in
    let within : with_next version count whole ≡ (messages_at version (count + 1) whole.1 >>= λ more. Ok (whole.0 ∷ more.0, more.1)) = rw few refl in
    let step : Result (DraftMessage × Place) LineFault → Result (List DraftMessage × Place) LineFault = λ r. with_front groups front (r >>= with_next version count) in
    ap (λ (n : DraftMessage × Place). with_front groups (front ++ n.0 ∷ []) (messages_at version (count + 1) n.1)) found.2
    ∙ sym (ap (with_front groups front) within ∙ regroup groups front whole.0 (messages_at version (count + 1) whole.1)) ∙ ap step (sym found.1) ∙ sym (ap (with_front groups front) (one_more version count p due)) ∙ so_far
goes_on version groups front count p total next due (inr e) few so_far = absurd cc

pub done : (version : Version) (groups : List (List ℕ)) (front : List DraftMessage) (count : ℕ) (p : Place) (total : Result (List DraftMessage × Place) LineFault) → is_multicast_due count (upcoming p) ≡ false
    → with_front groups front (messages_at version count p) ≡ total → IsUnlessMemory faults.Memory total (Ok (front, p))
done version groups front count p total due so_far =
    inl (sym (sym so_far ∙ ap (with_front groups front) (no_more version count p due) ∙ ap (λ (ms : List DraftMessage). Ok (ms, p)) (append-nil front)))
