-- The rule of the board's word, which holds between any two steps, and what each step tells. A word is a latency times 2^32, and a place.
use Rattle.std.specs.Prelude.{◌≡◌, ℕ, ◌+◌, ◌-◌, ◌/◌, ◌%◌, ◌<◌, ◌≤◌, max, List, [], ◌∷◌, ◌++◌, None}
use Rattle.std.specs.List.{All, Any, Contains, sum_by}
use Rattle.atomic_table.specs.Table.{State, Me, Step}
use Rattle.convoy_draft.specs.declared.time.Time.TheVariants.{Ticks}
use Rattle.convoy_scenario.specs.Scenario.{Scenario}
use Rattle.convoy_sim.specs.Greatest.{IsReached}
use Rattle.convoy_shares.specs.Shares.{whole}
use Rattle.convoy_incumbent.specs.Boards.{places}
use Rattle.convoy_incumbent.specs.declared.rule.Pair.{Pair}
use Rattle.convoy_incumbent.specs.declared.rule.Store.{Store}
use Rattle.convoy_incumbent.specs.declared.rule.View.{View}

-- the latency of a word
abbrev pub latency_in : ℕ → ℕ
latency_in word = word / places

-- the pair that a word is
abbrev pub pair_in : ℕ → Pair
pair_in word = record { latency = word / places; place = word % places }

-- the view of the one hand of a new board, which has put the first pair
abbrev pub first_view : Store → View
first_view store = record { store = store; seen = store.first.latency; pairs = store.first ∷ []; share = whole }

-- a store of nothing
abbrev pub no_store : Store
no_store = record {
  records = record { tag = []; buckets = [] };
  scenario = record { marker = record {}; value = record { time = Ticks; tick = None; delay = 0; groups = []; places = []; links = []; multicasts = []; target_message = 0; target_group = 0 } };
  first = record { latency = 0; place = 0 };
}

-- what is left of the view of a hand that was joined to another
abbrev pub spent : View
spent = record { store = no_store; seen = 0; pairs = []; share = 0 }

-- of a hand that is split, what it keeps
abbrev pub kept_half : View → View
kept_half view = record view { share = view.share - view.share / 2 }

-- of a hand that is split, what the new one is given
abbrev pub given_half : View → View
given_half view = record view { pairs = []; share = view.share / 2 }

-- two hands joined
abbrev pub joined : View → View → View
joined view other = record { store = view.store; seen = max view.seen other.seen; pairs = view.pairs ++ other.pairs; share = view.share + other.share }

-- some assignment has the latency of each pair
abbrev pub AreReached : Scenario → List Pair → Type 0
AreReached scenario pairs = All (λ pair. IsReached scenario pair.latency) pairs

-- of one view, at a word: it names the board's store, has seen no latency above the word's, put pairs of latencies that some assignment has, and has put nothing without a share
pub record IsRight (store : Store) (word : ℕ) (view : View) : Type 0 where
  pub named : 0 < view.share → view.store ≡ store
  pub below : view.seen ≤ latency_in word
  pub reached : AreReached store.scenario.value view.pairs
  pub empty : view.share ≡ 0 → view.pairs ≡ []

-- some hand put the pair
abbrev pub WasPut : Pair → List View → Type 0
WasPut pair views = Any (λ view. Contains view.pairs pair) views

-- some hand put the word's pair, the shares of all hands are the whole, and each view is right
pub record IsKept (store : Store) (word : ℕ) (views : List View) : Type 0 where
  pub put : WasPut (pair_in word) views
  pub shares : sum_by (λ view. view.share) views ≡ whole
  pub each : All (IsRight store word) views

abbrev pub Holds : Store → State (Unit {0}) View → Type 0
Holds store state = (word : ℕ) × (state.words ≡ word ∷ []) × IsKept store word state.views

-- a look sees the word's latency, which some assignment has, and which is at least all seen before
abbrev pub Looked : Step (Unit {0}) → Me (Unit {0}) View → ℕ → Me (Unit {0}) View → Type 0
Looked step before word after =
    (after ≡ (record before.0 { seen = latency_in word }, before.1))
    × (before.0.seen ≤ latency_in word)
    × IsReached before.0.store.scenario.value (latency_in word)

-- the pair is put, and the greater of the two words is seen
abbrev pub Published : Step (Unit {0}) → Me (Unit {0}) View → ℕ → Me (Unit {0}) View → Type 0
Published step before word after =
    (after ≡ (record before.0 { seen = latency_in (max word step.first); pairs = before.0.pairs ++ pair_in step.first ∷ [] }, before.1))
    × (before.0.seen ≤ latency_in (max word step.first))
    × IsReached before.0.store.scenario.value (latency_in (max word step.first))

-- the share of a hand is within the whole; with the whole share it put the word's pair, and saw no greater latency
abbrev pub Weighed : Step (Unit {0}) → Me (Unit {0}) View → ℕ → Me (Unit {0}) View → Type 0
Weighed step before word after =
    (after ≡ before)
    × (before.0.share ≤ whole)
    × (before.0.share ≡ whole → (before.0.seen ≤ latency_in word) × Contains before.0.pairs (pair_in word))
