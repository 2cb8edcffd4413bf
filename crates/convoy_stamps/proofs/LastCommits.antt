-- The last commit of the target and of the rivals that may hold it back, and the stamp bound from it.
use Rattle.std.proofs.Common.{◌≡◌, ℕ, ◌-◌, max, Bool, ◌&&◌, not, nat_le, List, map, filter, fold, sym, ap, ◌∙◌, arith}
use Rattle.convoy_scenario.specs.Scenario.{Scenario, message_at, message_numbers, is_addressed}
use Rattle.convoy_sim.specs.declared.timestamp.Timestamp.{Timestamp}
use Rattle.convoy_sim.specs.Stamps.{is_less}
use Rattle.convoy_intervals.specs.Boxes.{Box}
use Rattle.convoy_stamps.specs.StampBounds.{lowest_stamp, highest_final, stamp_bound}
use Rattle.convoy_stamps.specs.Spans.{Boxed, tables_in, may_hold_back, last_commit_by}
use Rattle.convoy_stamps.proofs.Loops.{filter_filter}

abbrev pub target_settling : Boxed → ℕ → ℕ
target_settling boxed n = (tables_in boxed).greatest_settling n boxed.scenario.target_group

-- the greatest over those that pass three tests in turn
pub last_commit_is : (boxed : Boxed) (highest : Timestamp) (committed last : ℕ) → committed ≡ target_settling boxed boxed.scenario.target_message
    → last ≡ fold max committed (map (target_settling boxed) (filter (may_hold_back boxed committed highest) (message_numbers boxed.scenario)))
    → last ≡ last_commit_by boxed highest
last_commit_is boxed highest committed last is so_far =
    let group : ℕ = boxed.scenario.target_group in
    let own : ℕ = target_settling boxed boxed.scenario.target_message in
    let goes : ℕ → Bool = λ n. is_addressed (message_at boxed.scenario n) group in
    let soon : ℕ → Bool = λ n. nat_le ((tables_in boxed).least_arrival n group) own in
    let kept : ℕ → Bool = λ n. not (is_less highest (lowest_stamp boxed.scenario (tables_in boxed) n group)) in
    let numbers : List ℕ = message_numbers boxed.scenario in
    let tests : filter kept (filter soon (filter goes numbers)) ≡ filter (may_hold_back boxed own highest) numbers =
    ap (filter kept) (filter_filter goes soon numbers) ∙ filter_filter (λ n. goes n && soon n) kept numbers in
    let first : own ≡ max 0 own = omega arith in
    so_far
    ∙ ap (λ k. fold max k (map (target_settling boxed) (filter (may_hold_back boxed k highest) numbers))) is
    ∙ ap (λ ns. fold max own (map (target_settling boxed) ns)) (sym tests)
    ∙ ap (λ k. fold max k (map (target_settling boxed) (filter kept (filter soon (filter goes numbers))))) first

pub stamp_bound_is : (boxed : Boxed) (scenario : Scenario) (ranges : Box) (highest : Timestamp) (last issued : ℕ)
    → boxed ≡ record { scenario = scenario; ranges = ranges }
    → highest ≡ highest_final boxed.scenario (tables_in boxed)
    → last ≡ last_commit_by boxed highest
    → issued ≡ (message_at scenario scenario.target_message).at
    → last - issued ≡ stamp_bound scenario ranges
unfolding stamp_bound
stamp_bound_is boxed scenario ranges highest last issued same high is at =
    let bound : Boxed → ℕ = λ b. last_commit_by b (highest_final b.scenario (tables_in b)) in
    ap (λ k. k - issued) (is ∙ ap (last_commit_by boxed) high ∙ ap bound same) ∙ ap (λ k. bound (record { scenario = scenario; ranges = ranges }) - k) at
