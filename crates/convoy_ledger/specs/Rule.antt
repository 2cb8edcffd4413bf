-- The rule of the ledger's word, which holds between any two steps, and what each step tells.
use Rattle.std.specs.Prelude.{◌≡◌, ℕ, ◌+◌, ◌-◌, ◌/◌, ◌<◌, ◌≤◌, List, [], ◌∷◌, ◌++◌, true, false, ◌||◌, length, if◌then◌else◌}
use Rattle.std.specs.List.{All, sum_by}
use Rattle.atomic_table.specs.Table.{State, Me, Step}
use Rattle.convoy_shares.specs.Shares.{once_below, whole}
use Rattle.convoy_ledger.specs.Tickets.{times}
use Rattle.convoy_ledger.specs.declared.rule.View.{View}

-- the view of the one clerk of a new ledger
abbrev pub first_view : ℕ → View
first_view most = record { most = most; tickets = []; misses = 0; share = whole; done = false }

-- what is left of the view of a clerk that was joined to another
abbrev pub spent : View
spent = record { most = 0; tickets = []; misses = 0; share = 0; done = false }

-- of a clerk that is split, what it keeps
abbrev pub kept_half : View → View
kept_half view = record view { share = view.share - view.share / 2 }

-- of a clerk that is split, what the new one is given
abbrev pub given_half : View → View
given_half view = record view { tickets = []; misses = 0; share = view.share / 2 }

-- two clerks joined
abbrev pub joined : View → View → View
joined view other = record {
  most = view.most;
  tickets = view.tickets ++ other.tickets;
  misses = view.misses + other.misses;
  share = view.share + other.share;
  done = view.done || other.done;
}

-- the view of a clerk that drew a ticket
abbrev pub with_ticket : View → ℕ → View
with_ticket view ticket = record view { tickets = view.tickets ++ ticket ∷ []; done = false }

-- the view of a clerk that found none left
abbrev pub with_miss : View → View
with_miss view = record view { misses = view.misses + 1; done = true }

-- the share of a clerk that may draw again
abbrev pub active_share : View → ℕ
active_share view = if view.done then 0 else view.share

-- of one view, where the tickets drawn are those below `drawn`: it names the ledger's number of tickets, has only tickets drawn, is done only where all are, and has nothing without a share
pub record IsRight (most drawn : ℕ) (view : View) : Type 0 where
  pub named : 0 < view.share → view.most ≡ most
  pub done : view.done ≡ true → drawn ≡ most
  pub below : All (λ ticket. ticket < drawn) view.tickets
  pub empty : view.share ≡ 0 → (view.tickets ≡ []) × (view.misses ≡ 0)

-- The tickets of all views are the numbers below `drawn`, each once, and `missed` counts the draws that found none left.
-- Such a draw comes only where all are drawn; for each there is a share that may not draw again, so that there are at most as many as the whole share.
pub record IsKept (most drawn missed : ℕ) (views : List View) : Type 0 where
  pub within : drawn ≤ most
  pub after : 0 < missed → drawn ≡ most
  pub count : sum_by (λ view. length view.tickets) views ≡ drawn
  pub misses : sum_by (λ view. view.misses) views ≡ missed
  pub once : (x : ℕ) → sum_by (λ view. times x view.tickets) views ≡ once_below x drawn
  pub shares : sum_by (λ view. view.share) views ≡ whole
  pub room : sum_by active_share views + missed ≤ whole
  pub each : All (IsRight most drawn) views

-- the word counts the draws: the tickets drawn, and the draws that found none left
abbrev pub Holds : ℕ → State (Unit {0}) View → Type 0
Holds most state = (drawn : ℕ) × (missed : ℕ) × (state.words ≡ (drawn + missed) ∷ []) × IsKept most drawn missed state.views

-- a draw that finds the number n: where it is a ticket, it is the clerk's, and greater than all of its own; else the clerk is done
abbrev pub Drew : Step (Unit {0}) → Me (Unit {0}) View → ℕ → Me (Unit {0}) View → Type 0
Drew step before n after =
    (after.1 ≡ before.1)
    × (n < before.0.most → (after.0 ≡ with_ticket before.0 n) × All (λ ticket. ticket < n) before.0.tickets × (length before.0.tickets ≤ n))
    × (before.0.most ≤ n → after.0 ≡ with_miss before.0)

-- the share of a clerk is within the whole, and its tickets are no more than there are
abbrev pub Weighed : Step (Unit {0}) → Me (Unit {0}) View → ℕ → Me (Unit {0}) View → Type 0
Weighed step before n after =
    (after ≡ before)
    × (before.0.share ≤ whole)
    × (0 < before.0.share → length before.0.tickets ≤ before.0.most)
