use Rattle.std.proofs.Common.{◌≡◌, filter}
use Rattle.std.specs.List.{list_any, range_with_len}
use Rattle.convoy_plans.specs.Plans.{is_site}
use Rattle.convoy_plans.proofs.numbers.client_sites.Given as goal

abbrev pub invariant-loop-site : goal.invariant-loop-site
invariant-loop-site l = l.clients.items ≡ filter (λ s. list_any (is_site s) l.origins) (range_with_len 0 l.site)
