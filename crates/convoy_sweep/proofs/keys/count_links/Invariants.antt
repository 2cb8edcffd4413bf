use Rattle.std.proofs.Common.{◌≡◌, ◌≤◌, take, count_by}
use Rattle.convoy_sweep.specs.Keys.{names_link}
use Rattle.convoy_sweep.proofs.keys.count_links.Given as goal

abbrev pub invariant-loop-link : goal.invariant-loop-link
invariant-loop-link l = record {
  value : l.count ≡ count_by (λ link. names_link l.name link.ends) (take l.link-index l.links);
  low : l.count ≤ l.link-index;
}
