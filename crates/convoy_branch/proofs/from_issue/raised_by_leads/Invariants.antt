use Rattle.std.proofs.Common.{◌≡◌, ◌-◌, ◌≤◌, nat_le, max, true, ◌||◌}
use Rattle.convoy_narrowing.specs.Narrowing.{closes_region}
use Rattle.convoy_branch.proofs.from_issue.raised_by_leads.Given as goal

abbrev pub invariant-loop-low : goal.invariant-loop-low
invariant-loop-low l = record {
  low : l.upper ≤ l.low;
  order : l.low ≤ l.high;
  closes : (nat_le l.bound l.high || closes_region l.instance l.branch.region l.high) ≡ true;
  within : l.high ≤ max l.upper l.bound;
}

abbrev pub decreases-loop-low : goal.decreases-loop-low
decreases-loop-low l = l.high - l.low
