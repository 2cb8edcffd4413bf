-- What the program tells of windows that it cuts by when what messages follow is delivered.
use Rattle.std.proofs.Common.{◌≡◌, ℕ, ◌+◌, ◌<◌, ◌≤◌, ◌++◌, min, true, List, [], ◌∷◌, length, get_or, drop, zip, fold, refl, ap, ap₂, sym, ◌∙◌, arith}
use Rattle.std.proofs.Math.Nat.{zero-max}
use Rattle.std.proofs.lemmas.Bool.{or_left}
use Rattle.std.proofs.lemmas.List.{length-append, set-get_or}
use Rattle.std.proofs.lemmas.List.Sums.{fold-append}
use Rattle.std.proofs.lemmas.Slice.Zip.{get_or-zip, length-zip}
use Rattle.std.specs.List.{slice_set}
use Rattle.convoy_scenario.specs.Scenario.{Scenario, message_at}
use Rattle.convoy_scenario.specs.Targets.{with_target}
use Rattle.convoy_sim.specs.Times.{Tick}
use Rattle.convoy_packets.specs.Order.{place}
use Rattle.convoy_sure.specs.Windows.{Windows, entry_at, raised, with_commit}
use Rattle.convoy_causes.specs.declared.cause.Cause.{Cause}
use Rattle.convoy_causes.specs.CauseWindows.{all_windows, is_before, is_delivered_within, narrowed, tick_within, with_causes, with_effect_within, with_issue_since}
use Rattle.convoy_causes.proofs.Told.{asked_told}
use Rattle.convoy_causes.proofs.Turns.{fold_end, fold_turn}

-- ---- windows that are cut by nothing
raised_nothing : (entries : List ℕ) (m g : ℕ) → raised entries m g 0 ≡ entries
raised_nothing entries m g = ap (slice_set entries (place m g)) (zero-max (entry_at entries m g)) ∙ set-get_or entries (place m g) 0

pub same_windows : (windows : Windows) (m k : ℕ) → with_commit windows m k 0 ≡ windows
same_windows windows m k = ap (λ (entries : List ℕ). record windows { least_settlings = entries }) (raised_nothing windows.least_settlings m k)

-- ---- a turn more of a loop that takes a number for each element
module _ {S X : Type 0} (step : S → X × ℕ → S) (start now : S) (xs : List X) (ns : List ℕ) where
  pub zip_turn : (next : S) (i : ℕ) (d : X) (e : ℕ) → i < min (length xs) (length ns) → next ≡ step now (get_or xs i d, get_or ns i e)
      → fold step now (drop i (zip xs ns)) ≡ fold step start (zip xs ns) → fold step next (drop (i + 1) (zip xs ns)) ≡ fold step start (zip xs ns)
  zip_turn next i d e l is so_far =
      let long = length-zip xs ns in
      fold_turn step start now next (zip xs ns) i (d, e) (omega arith) (is ∙ sym (ap (step now) (get_or-zip xs ns i (d, e) (omega arith) (omega arith)))) so_far

  pub zip_end : (i : ℕ) → min (length xs) (length ns) ≤ i → fold step now (drop i (zip xs ns)) ≡ fold step start (zip xs ns) → now ≡ fold step start (zip xs ns)
  zip_end i past so_far = let long = length-zip xs ns in fold_end step start now (zip xs ns) i (omega arith) so_far

-- and of one that finds them
zip_nothing : {X : Type 0} (xs : List X) → zip {K = X} {X = ℕ} xs [] ≡ []
zip_nothing [] = refl
zip_nothing (x ∷ xs) = refl

pub found_none : {S X : Type 0} (step : S → X × ℕ → S) (start : S) (xs : List X) (ns : List ℕ) → ns ≡ [] → start ≡ fold step start (zip xs ns)
found_none step start xs ns none = sym (ap (λ (ms : List ℕ). fold step start (zip xs ms)) none ∙ ap (fold step start) (zip_nothing xs))

zip_more : {X : Type 0} (xs : List X) (ns : List ℕ) (d : X) (n : ℕ) → length ns < length xs → zip xs (ns ++ n ∷ []) ≡ zip xs ns ++ (get_or xs (length ns) d, n) ∷ []
zip_more [] ns d n l = absurd (omega arith)
zip_more (x ∷ xs) [] d n l = ap (λ more. (x, n) ∷ more) (zip_nothing xs)
zip_more (x ∷ xs) (m ∷ ns) d n l = ap (λ more. (x, m) ∷ more) (zip_more xs ns d n (omega arith))

pub found_turn : {S X : Type 0} (step : S → X × ℕ → S) (start now next : S) (xs : List X) (ns : List ℕ) (d : X) (n : ℕ) → length ns < length xs
    → next ≡ step now (get_or xs (length ns) d, n) → now ≡ fold step start (zip xs ns) → next ≡ fold step start (zip xs (ns ++ n ∷ []))
found_turn step start now next xs ns d n l is so_far =
    is ∙ ap (λ s. step s (get_or xs (length ns) d, n)) so_far
    ∙ sym (ap (fold step start) (zip_more xs ns d n l) ∙ fold-append step start (zip xs ns) ((get_or xs (length ns) d, n) ∷ []))

pub found_next : {S X : Type 0} (step : S → X × ℕ → S) (start now next : S) (xs : List X) (ns more : List ℕ) (d : X) (n i : ℕ) → i < length xs → length ns ≡ i
    → next ≡ step now (get_or xs i d, n) → more ≡ ns ++ n ∷ [] → now ≡ fold step start (zip xs ns) → (next ≡ fold step start (zip xs more)) × (length more ≡ i + 1)
found_next step start now next xs ns more d n i l long is more_is so_far =
    let here : length ns < length xs = omega (arith, l, long) in
    let turn = found_turn step start now next xs ns d n here (is ∙ ap (λ (k : ℕ). step now (get_or xs k d, n)) (sym long)) so_far in
    let longer = length-append ns (n ∷ []) in
    (turn ∙ ap (λ (ms : List ℕ). fold step start (zip xs ms)) (sym more_is), ap length more_is ∙ longer ∙ ap (λ (k : ℕ). k + 1) long)

-- ---- all cuts
pub narrowed_told : (scenario asked : Scenario) (given causes : List Cause) (within : List ℕ) (first narrower cut : Windows) → scenario ≡ asked → given ≡ causes
    → first ≡ with_causes scenario given (all_windows scenario)
    → narrower ≡ fold (λ (w : Windows) (step : Cause × ℕ). with_effect_within scenario given w step.0 step.1) first (zip given within)
    → cut ≡ with_causes scenario given narrower → cut ≡ narrowed asked causes within
narrowed_told scenario asked given causes within first narrower cut scenario_is given_is first_is narrower_is cut_is =
    let each : Windows → Windows = λ start. fold (λ (w : Windows) (step : Cause × ℕ). with_effect_within scenario given w step.0 step.1) start (zip given within) in
    cut_is ∙ ap (with_causes scenario given) (narrower_is ∙ ap each first_is) ∙ ap₂ (λ (s : Scenario) (c : List Cause). narrowed s c within) scenario_is given_is

-- ---- when a delivery comes
module _ (scenario : Scenario) (causes : List Cause) (cause : Cause) (within : ℕ) (windows : Windows) where
  abbrev goal_of : Scenario
  goal_of = with_target scenario cause.message cause.group

  abbrev last_tick : Tick
  last_tick = tick_within scenario cause.message within

  abbrev late_windows : Windows
  late_windows = with_causes scenario causes (with_issue_since scenario cause.effect (last_tick + 1 + cause.least) windows)

  pub plain_told : (tested goal : Scenario) (kept same : Windows) → tested ≡ goal → goal ≡ goal_of → kept ≡ same → same ≡ windows
      → is_before tested kept ((message_at tested cause.message).at + within + 1) ≡ true → is_delivered_within scenario causes cause within windows ≡ true
  plain_told tested goal kept same tested_is goal_is kept_is same_is before =
      or_left (is_before goal_of windows (last_tick + 1)) (is_before goal_of late_windows (last_tick + 1))
      (sym (asked_told tested goal_of kept windows cause.message within (tested_is ∙ goal_is) (kept_is ∙ same_is)) ∙ before)

  pub late_told : (goal : Scenario) (same late cut : Windows) (from : ℕ) → goal ≡ goal_of → same ≡ windows → from ≡ last_tick + 1 + cause.least
      → late ≡ with_issue_since scenario cause.effect from same → cut ≡ with_causes scenario causes late
      → is_before goal cut (tick_within goal cause.message within + 1) ≡ is_before goal_of late_windows (last_tick + 1)
  late_told goal same late cut from goal_is same_is from_is late_is cut_is =
      asked_told goal goal_of cut late_windows cause.message within goal_is
      (cut_is ∙ ap (with_causes scenario causes) (late_is ∙ ap₂ (λ (t : ℕ) (w : Windows). with_issue_since scenario cause.effect t w) from_is same_is))
