-- What a window of a message says of each time in it.
use Rattle.std.proofs.Common.{◌≡◌, ℕ, zero, suc, List, [], ◌∷◌, get_or, slice_set, refl, sym, ap, ◌∙◌, arith}
use Rattle.std.specs.List.{AllZip}
use Rattle.convoy_scenario.specs.Scenario.{Message, Scenario, no_message, message_at, window_of}
use Rattle.convoy_packets.specs.Assignment.{Schedule, IsAssignment, IsWithin}
use Rattle.convoy_sim.specs.Times.{issue}
use Rattle.convoy_sim.specs.Delivery.{latency_of}
use Rattle.convoy_sim.specs.ProtocolLaws.{IssuedWithinItsWait}
use Rattle.convoy_laws.specs.IssueWindows.{AreAlike, IsNarrowerMessage, NarrowerWindowsAreNoSlower, RunsFitOtherWindows, SomeTimeInWindowIsAsLate, TimesInWindowAreNoSlower, at_tick, with_messages}

-- ---- messages that are alike
alike_back : (xs ys : List Message) → AllZip IsNarrowerMessage xs ys → AllZip AreAlike ys xs
alike_back [] [] h = tt
alike_back [] (y ∷ ys) h = absurd h
alike_back (x ∷ xs) [] h = absurd h
alike_back (x ∷ xs) (y ∷ ys) h = (record { sender = sym h.0.alike.sender; destinations = sym h.0.alike.destinations }, alike_back xs ys h.1)

narrower_in : (xs ys : List Message) (m : ℕ) → AllZip IsNarrowerMessage xs ys → IsNarrowerMessage (get_or xs m no_message) (get_or ys m no_message)
narrower_in [] [] m h = record { alike = record { sender = refl; destinations = refl }; first = omega arith; last = omega arith }
narrower_in [] (y ∷ ys) m h = absurd h
narrower_in (x ∷ xs) [] m h = absurd h
narrower_in (x ∷ xs) (y ∷ ys) zero h = h.0
narrower_in (x ∷ xs) (y ∷ ys) (suc m) h = narrower_in xs ys m h.1

alike_of : (xs ys : List Message) → AllZip IsNarrowerMessage xs ys → AllZip AreAlike xs ys
alike_of [] [] h = tt
alike_of [] (y ∷ ys) h = absurd h
alike_of (x ∷ xs) [] h = absurd h
alike_of (x ∷ xs) (y ∷ ys) h = (h.0.alike, alike_of xs ys h.1)

narrower_self : (xs : List Message) → AllZip IsNarrowerMessage xs xs
narrower_self [] = tt
narrower_self (x ∷ xs) = (record { alike = record { sender = refl; destinations = refl }; first = omega arith; last = omega arith }, narrower_self xs)

-- ---- one message that is issued at one tick
issued_narrower : (xs : List Message) (m tick : ℕ) → IsWithin (window_of (get_or xs m no_message)) tick
    → AllZip IsNarrowerMessage xs (slice_set xs m (at_tick tick (get_or xs m no_message)))
issued_narrower [] m tick within = tt
issued_narrower (x ∷ xs) zero tick within =
    let first = within.0 in
    let last = within.1 in
    (record { alike = record { sender = refl; destinations = refl }; first = first; last = omega arith }, narrower_self xs)
issued_narrower (x ∷ xs) (suc m) tick within =
    (record { alike = record { sender = refl; destinations = refl }; first = omega arith; last = omega arith }, issued_narrower xs m tick within)

-- where that is the tick at which a run issues it, each time of issue in the run is one that its message may have
issued_fits : (xs : List Message) (m n tick issued : ℕ) → IsWithin (window_of (get_or xs n no_message)) issued → (n ≡ m → issued ≡ tick)
    → IsWithin (window_of (get_or (slice_set xs m (at_tick tick (get_or xs m no_message))) n no_message)) issued
issued_fits [] m n tick issued within same = within
issued_fits (x ∷ xs) zero zero tick issued within same = let is = same refl in (omega arith, omega arith)
issued_fits (x ∷ xs) zero (suc n) tick issued within same = within
issued_fits (x ∷ xs) (suc m) zero tick issued within same = within
issued_fits (x ∷ xs) (suc m) (suc n) tick issued within same = issued_fits xs m n tick issued within (λ is. same (ap suc is))

-- a run issues each message within its window
issued_within : IssuedWithinItsWait → (scenario : Scenario) (schedule : Schedule) (m : ℕ) → IsAssignment scenario schedule
    → IsWithin (window_of (message_at scenario m)) (issue scenario schedule m)
issued_within in_wait scenario schedule m given = (omega arith, in_wait scenario schedule given m)

pub no_slower : RunsFitOtherWindows → IssuedWithinItsWait → NarrowerWindowsAreNoSlower
unfolding latency_of
no_slower fit in_wait scenario messages latency narrower upper schedule given =
    let narrow : Scenario = with_messages messages scenario in
    let there = fit narrow scenario.multicasts schedule (alike_back scenario.multicasts messages narrower) given
    (λ m.
    let within = issued_within in_wait narrow schedule m given in
    let low = within.0 in
    let high = within.1 in
    let is = narrower_in scenario.multicasts messages m narrower in
    let first = is.first in
    let last = is.last in
    (omega arith, omega arith)) in
    let late = there.2 scenario.target_message scenario.target_group in
    let most = upper there.0 there.1 in
    omega arith

pub times_no_slower : NarrowerWindowsAreNoSlower → TimesInWindowAreNoSlower
times_no_slower slower scenario m tick latency within upper =
    slower scenario (slice_set scenario.multicasts m (at_tick tick (message_at scenario m))) latency
    (issued_narrower scenario.multicasts m tick within) upper

pub some_time_as_late : RunsFitOtherWindows → IssuedWithinItsWait → SomeTimeInWindowIsAsLate
unfolding latency_of
some_time_as_late fit in_wait scenario m latency reached =
    let schedule : Schedule = reached.0 in
    let tick : ℕ = issue scenario schedule m in
    let at_issue = issued_within in_wait scenario schedule m reached.1 in
    let there = fit scenario (slice_set scenario.multicasts m (at_tick tick (message_at scenario m))) schedule
    (alike_of scenario.multicasts _ (issued_narrower scenario.multicasts m tick at_issue)) reached.1
    (λ n. issued_fits scenario.multicasts m n tick (issue scenario schedule n) (issued_within in_wait scenario schedule n reached.1)
    (λ is. ap (issue scenario schedule) is)) in
    (tick, at_issue, (there.0, there.1, there.2 scenario.target_message scenario.target_group ∙ reached.2))
