-- Within which time a share of the packets of a link came.
use Rattle.std.specs.Prelude.{ℕ, ◌*◌, ◌≤◌, nat_le, min, Bool, List, [], ◌∷◌, length, count_by, filter}
use Rattle.convoy_trace_ranges.specs.declared.shares.Shares.{Shares}

-- how many of the delays are no greater
abbrev pub count_within : List ℕ → ℕ → ℕ
count_within delays time = count_by (λ delay. nat_le delay time) delays

-- at least so many of a thousand delays are no greater
abbrev pub has_share : List ℕ → ℕ → ℕ → Bool
has_share delays share time = nat_le (share * length delays) (1000 * count_within delays time)

-- the least of a number and those after it
abbrev pub least_from : ℕ → List ℕ → ℕ
least_from n [] = n
least_from n (m ∷ ms) = min n (least_from m ms)

-- the least of numbers, of which there is one
abbrev pub least_in : List ℕ → ℕ
least_in [] = 0
least_in (n ∷ ns) = least_from n ns

-- the least of the delays such that at least so many of a thousand delays are no greater
unfoldable pub share_within : List ℕ → ℕ → ℕ
share_within delays share = least_in (filter (has_share delays share) delays)

-- within which times half of the packets came, 90, 99 and 99.9 percent
abbrev pub shares_of : List ℕ → Shares
shares_of delays = record {
  half = share_within delays 500;
  most = share_within delays 900;
  nearly_all = share_within delays 990;
  all_but_few = share_within delays 999;
}

-- none of these times is greater
pub record AreWithin (shares : Shares) (most : ℕ) : Type 0 where
  pub half : shares.half ≤ most
  pub most_of_them : shares.most ≤ most
  pub nearly_all : shares.nearly_all ≤ most
  pub all_but_few : shares.all_but_few ≤ most
