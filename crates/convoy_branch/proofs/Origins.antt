-- What is asked of the widened region, in which the target is issued at one tick, is asked of the region from the target's issue.
use Rattle.std.specs.Prelude.{◌≡◌, ℕ}
use Rattle.std.proofs.Common.{ap, sym, subst}
use Rattle.convoy_scenario.specs.Scenario.{Scenario}
use Rattle.convoy_regions.specs.Branches.{Branch, branch_of}
use Rattle.convoy_regions.specs.Regions.{Region}
use Rattle.convoy_origin.specs.FromOrigin.{closes_from_origin, plain_from_origin, stamp_from_origin}
use Rattle.convoy_scenario.specs.Widened.{widened}
use Rattle.convoy_origin.specs.WidenedRegions.{widened_region}
use Rattle.convoy_branch.specs.Asked.{IsAsked}
use Rattle.convoy_branch.specs.FromIssue.{IsAskedFromIssue, IsRaisedFromIssue}
use Rattle.convoy_branch.specs.Uppers.{IsRaised}
use Rattle.convoy_branch.specs.declared.asked.Asked.{Asked}
use Rattle.convoy_branch.specs.declared.bounds.Bounds.{Bounds}

-- ---- of the widened region
asked_of_widened : (bounds : Bounds) (plan : Scenario) (region : Region) (latency : ℕ) (asked : Asked) → IsAskedFromIssue bounds (widened plan) (widened_region plan region) latency asked → IsAsked bounds plan region latency asked
unfolding plain_from_origin stamp_from_origin closes_from_origin widened
asked_of_widened bounds plan region latency asked is = record { leaf = is.leaf; left = is.left }

raised_of_widened : (bounds : Bounds) (plan : Scenario) (region : Region) (upper raised : ℕ) → IsRaisedFromIssue bounds (widened plan) (widened_region plan region) upper raised → IsRaised bounds plan region upper raised
unfolding plain_from_origin stamp_from_origin closes_from_origin widened
raised_of_widened bounds plan region upper raised is = is

-- ---- of a scenario and a region that are the widened ones
of_widened : (P : Scenario → Region → Type 0) (plan scenario : Scenario) (region wide : Region) → widened plan ≡ scenario → widened_region plan region ≡ wide → P scenario wide → P (widened plan) (widened_region plan region)
of_widened P plan scenario region wide same same_region is =
    subst (λ (s : Scenario). P s (widened_region plan region)) (sym same) (subst (P scenario) (sym same_region) is)

pub asked_of : (bounds : Bounds) (plan scenario : Scenario) (region wide : Region) (latency : ℕ) (asked : Asked) → widened plan ≡ scenario → widened_region plan region ≡ wide → IsAskedFromIssue bounds scenario wide latency asked → IsAsked bounds plan region latency asked
asked_of bounds plan scenario region wide latency asked same same_region is =
    asked_of_widened bounds plan region latency asked (of_widened (λ s r. IsAskedFromIssue bounds s r latency asked) plan scenario region wide same same_region is)

pub raised_of : (bounds : Bounds) (plan scenario : Scenario) (region wide : Region) (upper raised : ℕ) → widened plan ≡ scenario → widened_region plan region ≡ wide → IsRaisedFromIssue bounds scenario wide upper raised → IsRaised bounds plan region upper raised
raised_of bounds plan scenario region wide upper raised same same_region is =
    raised_of_widened bounds plan region upper raised (of_widened (λ s r. IsRaisedFromIssue bounds s r upper raised) plan scenario region wide same same_region is)

-- the region of a branch that is the widened one
pub wide_of : (plan : Scenario) (region : Region) (branch : Branch) → branch ≡ branch_of (widened plan) (widened_region plan region) → widened_region plan region ≡ branch.region
wide_of plan region branch is = sym (ap (λ (b : Branch). b.region) is)
