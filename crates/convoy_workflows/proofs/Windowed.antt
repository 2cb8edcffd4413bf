-- The windows of messages, in the scenario.
use Rattle.std.proofs.Common.{◌≡◌, ℕ, ◌+◌, ◌-◌, ◌<◌, ◌≤◌, zero, suc, ℤ, pos, negsuc, Bool, true, nat_le, List, [], ◌∷◌, length, get_or, inl, inr, refl, sym, ap, ◌∙◌, leb-true, arith}
use Rattle.std.specs.List.{list_all}
use Rattle.std.proofs.lemmas.Bool.{and_parts, cases_lt, false≢true}
use Rattle.std.proofs.lemmas.List.{get_or-map, get_or_append_left, get_or_push, length-map, length_push}
use Rattle.convoy_draft.specs.declared.limits.TheConstants.{GREATEST_AT, GREATEST_UNTIL, LONGEST_WAIT}
use Rattle.convoy_draft.specs.Checks.{is_within, ticks}
use Rattle.convoy_draft.specs.Draft.{Draft, DraftMessage}
use Rattle.convoy_scenario.specs.Numbering.{message_of, scenario_of}
use Rattle.convoy_scenario.specs.Scenario.{message_at, no_message}
use Rattle.convoy_scenario.proofs.LinkLemmas.{ticks_again}
use Rattle.convoy_workflows.specs.Rules.{DraftCause, draft_message_at, no_draft_message}
use Rattle.convoy_workflows.specs.Windows.{Window, in_windows, message_within, messages_within, own_window, window_in, windows_of}
use Rattle.convoy_workflows.proofs.Drafted.{passed_at}
use Rattle.convoy_workflows.proofs.Loops.{length-messages_within}

module _ (draft : Draft) (causes : List DraftCause) where
  length-windows : (k : ℕ) → length (windows_of draft causes k) ≡ k
  length-windows zero = refl
  length-windows (suc k) =
      let before = length-windows k in
      let more = length_push (windows_of draft causes k) (window_in draft causes (windows_of draft causes k) k) in
      omega (arith, before, more)

  -- the window of message m
  abbrev pub window : ℕ → Window
  window m = window_in draft causes (windows_of draft causes m) m

  -- it stays as it is while those of more messages follow
  pub window_stays : (k j : ℕ) (d : Window) → j < k → get_or (windows_of draft causes k) j d ≡ window j
  window_stays zero j d less = absurd (omega arith)
  window_stays (suc k) j d less = elim (cases_lt j k) [
    | inl before ↦
        let within : j < length (windows_of draft causes k) = omega (arith, before, length-windows k) in
        get_or_append_left (windows_of draft causes k) _ d j within ∙ window_stays k j d before
    | inr last ↦
        let same : k ≡ j = omega (arith, less, last) in
        get_or_push (windows_of draft causes k) (window k) d j (length-windows k ∙ same) ∙ ap window same
  ]

within_at : (windows : List Window) (m : ℕ) (messages : List DraftMessage) (k : ℕ) (d : DraftMessage) → k < length messages
    → get_or (messages_within windows m messages) k d ≡ message_within (get_or windows (m + k) (own_window (get_or messages k d))) (get_or messages k d)
within_at windows m [] k d less = absurd (omega arith)
within_at windows m (message ∷ messages) zero d less =
    let same : m ≡ m + 0 = omega arith in
    ap (λ (i : ℕ). message_within (get_or windows i (own_window message)) message) same
within_at windows m (message ∷ messages) (suc k) d less =
    let same : m + 1 + k ≡ m + suc k = omega arith in
    within_at windows (m + 1) messages k d (omega arith)
    ∙ ap (λ (i : ℕ). message_within (get_or windows i (own_window (get_or messages k d))) (get_or messages k d)) same

-- a number of ticks within the limit is itself
pub ticks_kept : (most n : ℕ) → is_within 0 most (pos n) ≡ true → ticks most (pos n) ≡ n
ticks_kept most n h = ticks_again most n (leb-true n most (and_parts (nat_le 0 n) (nat_le n most) h).1)

at_most : (most : ℕ) (z : ℤ) → is_within 0 most z ≡ true → ticks most z ≤ most
at_most most (pos n) h =
    let high = leb-true n most (and_parts (nat_le 0 n) (nat_le n most) h).1 in
    rw (ticks_again most n high) high
at_most most (negsuc n) h = absurd (false≢true h)

-- the last tick of a window, and that it is what is written
pub last_of : (at until : ℤ) → is_within 0 GREATEST_AT at ≡ true → is_within (ticks GREATEST_AT at) (ticks GREATEST_AT at + LONGEST_WAIT) until ≡ true
    → (ticks GREATEST_AT at + (ticks GREATEST_UNTIL until - ticks GREATEST_AT at) ≡ ticks GREATEST_UNTIL until) × (pos (ticks GREATEST_UNTIL until) ≡ until)
last_of at (pos u) soon h =
    let parts = and_parts (nat_le (ticks GREATEST_AT at) u) (nat_le u (ticks GREATEST_AT at + LONGEST_WAIT)) h in
    let low = leb-true _ _ parts.0 in
    let high = leb-true _ _ parts.1 in
    let first = at_most GREATEST_AT at soon in
    let kept : ticks GREATEST_UNTIL (pos u) ≡ u = ticks_again GREATEST_UNTIL u (omega (arith, high, first)) in
    (omega (arith, kept, low), ap pos kept)
last_of at (negsuc u) soon h = absurd (false≢true h)

module _ (draft : Draft) (causes : List DraftCause) where
  -- the messages in their windows
  abbrev pub windowed : List DraftMessage
  windowed = messages_within (windows_of draft causes (length draft.messages)) 0 draft.messages

  pub length-windowed : length windowed ≡ length draft.messages
  length-windowed = length-messages_within (windows_of draft causes (length draft.messages)) 0 draft.messages

  pub windowed_at : (m : ℕ) → m < length draft.messages → get_or windowed m no_draft_message ≡ message_within (window draft causes m) (draft_message_at draft.messages m)
  windowed_at m less =
      let same : 0 + m ≡ m = omega arith in
      within_at (windows_of draft causes (length draft.messages)) 0 draft.messages m no_draft_message less
      ∙ ap (λ (k : ℕ). message_within (get_or (windows_of draft causes (length draft.messages)) k (own_window (draft_message_at draft.messages m))) (draft_message_at draft.messages m)) same
      ∙ ap (λ (w : Window). message_within w (draft_message_at draft.messages m)) (window_stays draft causes (length draft.messages) m (own_window (draft_message_at draft.messages m)) less)

  pub numbered_at : (m : ℕ) → m < length draft.messages
      → message_at (scenario_of (in_windows causes draft)) m ≡ message_of draft.groups draft.places (message_within (window draft causes m) (draft_message_at draft.messages m))
  numbered_at m less =
      let within : m < length windowed = omega (arith, less, length-windowed) in
      get_or-map (message_of draft.groups draft.places) windowed m no_draft_message no_message within
      ∙ ap (message_of draft.groups draft.places) (windowed_at m less)

  pub length-numbered : length (scenario_of (in_windows causes draft)).multicasts ≡ length draft.messages
  length-numbered = length-map windowed (message_of draft.groups draft.places) ∙ length-windowed

  -- what all messages in their windows pass, each does
  pub windowed_passes : (p : DraftMessage → Bool) (m : ℕ) → m < length draft.messages → list_all p windowed ≡ true → p (message_within (window draft causes m) (draft_message_at draft.messages m)) ≡ true
  windowed_passes p m less h =
      let within : m < length windowed = omega (arith, less, length-windowed) in
      sym (ap p (windowed_at m less)) ∙ passed_at p windowed m no_draft_message within h
