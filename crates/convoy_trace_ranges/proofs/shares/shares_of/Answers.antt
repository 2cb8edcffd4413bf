use Rattle.std.proofs.Common.{◌≡◌, ℕ, ◌≤◌, List, All, refl, ◌∙◌, arith}
use Rattle.std.specs.Prelude.{IsPermutation}
use Rattle.std.proofs.lemmas.List.Sorted.{All-permutation}
use Rattle.convoy_trace_ranges.specs.Shares.{share_within}
use Rattle.convoy_trace_ranges.proofs.Moved.{moved_share}
use Rattle.convoy_trace_ranges.proofs.shares.shares_of.Goals as goal

pub returns-clause-value : goal.returns-clause-value
returns-clause-value c =
    let delays : List ℕ = c.args.delays.now in
    let sorted : List ℕ = c.sort_unstable.new.self.items in
    let moved : IsPermutation delays sorted = rw c.in_ok-sorted.ensures.items at c.sort_unstable.ensures.permutation in
    let half : c.share_within.result ≡ share_within delays 500 =
    rw c.deref.ensures.value at c.share_within.ensures.value ∙ moved_share delays sorted 500 moved c.sort_unstable.ensures.sorted (omega arith) (omega arith) c.requires in
    let most : c.share_within-2.result ≡ share_within delays 900 =
    rw c.deref-2.ensures.value at c.share_within-2.ensures.value ∙ moved_share delays sorted 900 moved c.sort_unstable.ensures.sorted (omega arith) (omega arith) c.requires in
    let nearly_all : c.share_within-3.result ≡ share_within delays 990 =
    rw c.deref-3.ensures.value at c.share_within-3.ensures.value ∙ moved_share delays sorted 990 moved c.sort_unstable.ensures.sorted (omega arith) (omega arith) c.requires in
    let all_but_few : c.share_within-4.result ≡ share_within delays 999 =
    rw c.deref-4.ensures.value at c.share_within-4.ensures.value ∙ moved_share delays sorted 999 moved c.sort_unstable.ensures.sorted (omega arith) (omega arith) c.requires in
    rw (half, most, nearly_all, all_but_few) refl

pub returns-clause-within : goal.returns-clause-within
returns-clause-within c = λ most each.
    let delays : List ℕ = c.args.delays.now in
    let sorted : List ℕ = c.sort_unstable.new.self.items in
    let moved : IsPermutation delays sorted = rw c.in_ok-sorted.ensures.items at c.sort_unstable.ensures.permutation in
    let sorted_each : All (λ delay. delay ≤ most) sorted = All-permutation (λ delay. delay ≤ most) delays sorted moved each in
    record {
      half = c.share_within.ensures.within most (rw c.deref.ensures.value sorted_each);
      most_of_them = c.share_within-2.ensures.within most (rw c.deref-2.ensures.value sorted_each);
      nearly_all = c.share_within-3.ensures.within most (rw c.deref-3.ensures.value sorted_each);
      all_but_few = c.share_within-4.ensures.within most (rw c.deref-4.ensures.value sorted_each);
    }
