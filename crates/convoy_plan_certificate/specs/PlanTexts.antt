-- The text of a certificate of a plan: the one text of each.
use Rattle.std.specs.Prelude.{ℕ, List, [], ◌∷◌, ◌++◌, map, codes, decimal}
use Rattle.std.specs.List.{flat_map}
use Rattle.convoy_lines.specs.Texts.{ended, line_of}
use Rattle.convoy_certificate.specs.Text.{certificate_text}
use Rattle.convoy_plan_certificate.specs.declared.branch.Branch.{Branch}
use Rattle.convoy_plan_certificate.specs.declared.branch.Branch.TheVariants.{Split, Apart, Commit, NoScenario, Late}
use Rattle.convoy_plan_certificate.specs.declared.branch.Witness.{Witness}
use Rattle.convoy_plan_certificate.specs.declared.plan_certificate.PlanCertificate.{PlanCertificate}

-- a line of numbers after a label
abbrev pub numbers_text : List ℕ → List ℕ → List ℕ
numbers_text label numbers = ended (line_of label (map decimal numbers))

-- the site of each group, and the order in which the groups are listed
abbrev pub sites_text : List ℕ → List ℕ
sites_text placement = numbers_text (codes "sites") placement

abbrev pub order_text : List ℕ → List ℕ
order_text order = numbers_text (codes "order") order

-- the ranks of an order of ties, if there are any
abbrev pub ranks_text : List ℕ → List ℕ
ranks_text [] = []
ranks_text (rank ∷ ranks) = numbers_text (codes "order") (rank ∷ ranks)

-- a witness: its target, its delays, and its ranks
abbrev pub witness_text : Witness → List ℕ
witness_text witness =
    numbers_text (codes "t") (witness.target ∷ []) ++ (numbers_text (codes "schedule") witness.delays.items ++ ranks_text witness.ranks.items)

-- a node
abbrev pub branch_text : Branch → List ℕ
branch_text (Split group) = numbers_text (codes "s") (group ∷ [])
branch_text (Apart group other) = numbers_text (codes "a") (group ∷ other ∷ [])
branch_text (Commit target) = numbers_text (codes "c") (target ∷ [])
branch_text NoScenario = ended (codes "n")
branch_text (Late witnesses) = ended (codes "w") ++ flat_map witness_text witnesses.items

-- the text of a certificate
abbrev pub plan_certificate_text : PlanCertificate → List ℕ
plan_certificate_text certificate =
    ended (codes "convoy plan 1")
    ++ (sites_text certificate.placement.items
    ++ (order_text certificate.order.items
    ++ (flat_map certificate_text certificate.shown.items
    ++ (ended (codes "tree")
    ++ (flat_map branch_text certificate.nodes.items
    ++ ended (codes "end"))))))
