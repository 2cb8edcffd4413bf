-- What a search with a limit answers, by how many tickets it may have spent.
use Rattle.std.specs.Prelude.{◌≡◌, ◌⊎◌, ℕ, ◌≤◌, true, false, Result, IfOk, List}
use Rattle.std.proofs.Common.{arith, ap, sym, subst, ◌∙◌, refl, inl, inr}
use Rattle.std.proofs.lemmas.Bool.{false≢true}
use Rattle.std.proofs.lemmas.Result.{IfOk-weaker}
use Rattle.convoy_scenario.specs.Scenario.{Scenario}
use Rattle.convoy_sim.specs.Record.{Record}
use Rattle.convoy_branch.specs.BothWays.{IsWithinBothWays, IsOutcomeBothWays, IsLast, IsLeftAt, lead_share, plain_share}
use Rattle.convoy_branch.specs.declared.bounds.Bounds.TheVariants.{Lead, Plain}
use Rattle.convoy_branch.specs.declared.limit.Limit.{Limit}
use Rattle.convoy_branch.specs.declared.outcome.Outcome.{Outcome}
use Rattle.convoy_branch.specs.declared.outcome.Outcome.TheVariants.{Proved, Open}
use Rattle.convoy_branch.specs.declared.splits.Splits.TheVariants.{Orders}
use Rattle.convoy_branch.specs.Limits.{IsWithin}
use Rattle.convoy_branch.specs.Outcomes.{IsOpen, IsOutcome, best_of}

-- so many were spent, which are all of them, or else the search may be stopped
pub IsWithin-spent : (limit : Limit) (IsAnswer : ℕ → Type 0) (spent : ℕ) → spent ≤ limit.tickets → (limit.tickets ≤ spent) ⊎ (limit.may_stop ≡ true) → IsAnswer spent → IsWithin limit IsAnswer
IsWithin-spent limit IsAnswer spent few over answer = record {
  spendable = spent;
  few = few;
  all = λ runs. elim over [ inl all ↦ omega (arith, few, all) | inr stops ↦ absurd (false≢true (sym runs ∙ stops)) ];
  answer = answer;
}

-- all of them may be
pub IsWithin-all : (limit : Limit) (IsAnswer : ℕ → Type 0) → IsAnswer limit.tickets → IsWithin limit IsAnswer
IsWithin-all limit IsAnswer answer =
    record { spendable = limit.tickets; few = omega arith; all = λ runs. refl; answer = answer }

-- the same of what a call returns
pub returns_spent : {E : Type 0} (result : Result Outcome E) (limit : Limit) (IsAnswer : ℕ → Outcome → Type 0) (spent : ℕ) → spent ≤ limit.tickets → (limit.tickets ≤ spent) ⊎ (limit.may_stop ≡ true) → IfOk result (λ outcome. IsAnswer spent outcome) → IfOk result (λ outcome. IsWithin limit (λ tickets. IsAnswer tickets outcome))
returns_spent result limit IsAnswer spent few over =
    IfOk-weaker result (λ outcome. IsAnswer spent outcome) (λ outcome. IsWithin limit (λ tickets. IsAnswer tickets outcome)) (λ outcome answer. IsWithin-spent limit (λ tickets. IsAnswer tickets outcome) spent few over answer)

pub returns_all : {E : Type 0} (result : Result Outcome E) (limit : Limit) (IsAnswer : ℕ → Outcome → Type 0) → IfOk result (λ outcome. IsAnswer limit.tickets outcome) → IfOk result (λ outcome. IsWithin limit (λ tickets. IsAnswer tickets outcome))
returns_all result limit IsAnswer =
    IfOk-weaker result (λ outcome. IsAnswer limit.tickets outcome) (λ outcome. IsWithin limit (λ tickets. IsAnswer tickets outcome)) (λ outcome answer. IsWithin-all limit (λ tickets. IsAnswer tickets outcome) answer)

-- nothing stops the search
pub returns_whole : {E : Type 0} (result : Result Outcome E) (limit : Limit) (tickets : ℕ) (IsAnswer : ℕ → Outcome → Type 0) → limit ≡ record { tickets = tickets; may_stop = false; splits = Orders } → IfOk result (λ outcome. IsWithin limit (λ spent. IsAnswer spent outcome)) → IfOk result (λ outcome. IsAnswer tickets outcome)
returns_whole result limit tickets IsAnswer is =
    IfOk-weaker result (λ outcome. IsWithin limit (λ spent. IsAnswer spent outcome)) (λ outcome. IsAnswer tickets outcome) (λ outcome within. subst (λ (spent : ℕ). IsAnswer spent outcome) (within.all (ap (λ (l : Limit). l.may_stop) is) ∙ ap (λ (l : Limit). l.tickets) is) within.answer)

-- by plain bounds as many were spent as the first search may spend, and by leads so many may be
IsWithinBothWays-by : (limit plain : Limit) (IsPlain : ℕ → Type 0) (IsAnswer : ℕ → ℕ → Type 0) (leads : ℕ) → plain ≡ record limit { tickets = plain_share limit.tickets } → leads ≤ lead_share limit.tickets → (limit.may_stop ≡ false → leads ≡ lead_share limit.tickets) → (by_plain : IsWithin plain IsPlain) → IsAnswer by_plain.spendable leads → IsWithinBothWays limit IsAnswer
IsWithinBothWays-by limit plain IsPlain IsAnswer leads plain_is few all by_plain answer = record {
  plain = by_plain.spendable;
  leads = leads;
  few_plain = omega (arith, by_plain.few, ap (λ (l : Limit). l.tickets) plain_is);
  few_leads = few;
  all_plain = λ runs. by_plain.all (ap (λ (l : Limit). l.may_stop) plain_is ∙ runs) ∙ ap (λ (l : Limit). l.tickets) plain_is;
  all_leads = all;
  answer = answer;
}

-- both searches were made
pub IsWithinBothWays-both : (limit plain lead : Limit) (IsPlain IsLead : ℕ → Type 0) (IsAnswer : ℕ → ℕ → Type 0) → plain ≡ record limit { tickets = plain_share limit.tickets } → lead ≡ record limit { tickets = lead_share limit.tickets } → (by_plain : IsWithin plain IsPlain) → (by_leads : IsWithin lead IsLead) → IsAnswer by_plain.spendable by_leads.spendable → IsWithinBothWays limit IsAnswer
IsWithinBothWays-both limit plain lead IsPlain IsLead IsAnswer plain_is lead_is by_plain by_leads answer =
    let tickets : lead.tickets ≡ lead_share limit.tickets = ap (λ (l : Limit). l.tickets) lead_is in
    IsWithinBothWays-by limit plain IsPlain IsAnswer by_leads.spendable plain_is (omega (arith, by_leads.few, tickets)) (λ runs. by_leads.all (ap (λ (l : Limit). l.may_stop) lead_is ∙ runs) ∙ tickets) by_plain answer

-- what the first answers is the answer
pub IsWithinBothWays-first : (limit plain : Limit) (scenario : Scenario) (workers : ℕ) (outcome : Outcome) → plain ≡ record limit { tickets = plain_share limit.tickets } → IsWithin plain (λ tickets. IsOutcome Plain scenario workers tickets outcome) → IsLast limit outcome → IsWithinBothWays limit (λ by_plain by_leads. IsOutcomeBothWays scenario workers by_plain by_leads outcome)
IsWithinBothWays-first limit plain scenario workers (Proved certificate tickets by_worker) plain_is within last =
    IsWithinBothWays-by limit plain (λ spent. IsOutcome Plain scenario workers spent (Proved certificate tickets by_worker)) (λ by_plain by_leads. IsOutcomeBothWays scenario workers by_plain by_leads (Proved certificate tickets by_worker)) (lead_share limit.tickets) plain_is (omega arith) (λ runs. refl) within (inl within.answer)
IsWithinBothWays-first limit plain scenario workers (Open best upper tickets by_worker) plain_is within last =
    IsWithinBothWays-by limit plain (λ spent. IsOutcome Plain scenario workers spent (Open best upper tickets by_worker)) (λ by_plain by_leads. IsOutcomeBothWays scenario workers by_plain by_leads (Open best upper tickets by_worker)) 0 plain_is (omega arith) (λ runs. elim last [ inl none ↦ sym none | inr stops ↦ absurd (false≢true (sym runs ∙ stops)) ]) within (inl (refl, within.answer))

-- the same outcome as another one that is the answer
pub IsWithinBothWays-ended : (limit plain : Limit) (scenario : Scenario) (workers : ℕ) (first outcome : Outcome) → plain ≡ record limit { tickets = plain_share limit.tickets } → IsWithin plain (λ tickets. IsOutcome Plain scenario workers tickets first) → (outcome ≡ first) × IsLast limit first → IsWithinBothWays limit (λ by_plain by_leads. IsOutcomeBothWays scenario workers by_plain by_leads outcome)
IsWithinBothWays-ended limit plain scenario workers first outcome plain_is within ended =
    let Answer : Outcome → Type 0 = λ answer. IsWithinBothWays limit (λ by_plain by_leads. IsOutcomeBothWays scenario workers by_plain by_leads answer) in
    subst Answer (sym ended.0) (IsWithinBothWays-first limit plain scenario workers first plain_is within ended.1)

-- the latency that a search has found that left regions is that of its best record
pub left_best : (best : Record) (upper : ℕ) (first : Outcome) → IsLeftAt best upper first → best_of first ≡ best.latency
left_best best upper (Proved certificate tickets by_worker) left = absurd left
left_best best upper (Open found above tickets by_worker) left = ap (λ (r : Record). r.latency) left.0

-- an open outcome by plain bounds with that best record and upper bound
pub record IsLeftByPlain (scenario : Scenario) (workers plain : ℕ) (best : Record) (upper : ℕ) : Type 0 where
  pub tickets : ℕ
  pub by_worker : List ℕ
  pub answer : IsOpen Plain scenario workers plain best upper tickets by_worker

pub left_open : (scenario : Scenario) (workers plain : ℕ) (best : Record) (upper : ℕ) (first : Outcome) → IsLeftAt best upper first → IsOutcome Plain scenario workers plain first → IsLeftByPlain scenario workers plain best upper
left_open scenario workers plain best upper (Proved certificate tickets by_worker) left outcome = absurd left
left_open scenario workers plain best upper (Open found above tickets by_worker) left outcome =
    let With : ℕ → Type 0 = λ most. IsOpen Plain scenario workers plain found most tickets by_worker.items in
    let Of : Record → Type 0 = λ record_of. IsOpen Plain scenario workers plain record_of upper tickets by_worker.items in
    record { tickets = tickets; by_worker = by_worker.items; answer = subst Of left.0 (subst With left.1 outcome) }

pub left_of_scenario : (limit : Limit) (scenario : Scenario) (workers : ℕ) (best : Record) (upper : ℕ) (first : Outcome) → IsLeftAt best upper first → IsWithin limit (λ tickets. IsOutcome Plain scenario workers tickets first) → best.scenario ≡ scenario
left_of_scenario limit scenario workers best upper first left within =
    (left_open scenario workers within.spendable best upper first left within.answer).answer.of_scenario

-- what `with_upper` says of an outcome by leads and of its own result
abbrev pub TakesUpper : ℕ → Outcome → Outcome → Type 0
TakesUpper upper second result =
    (scenario : Scenario) (workers plain leads : ℕ) (best : Record) (tickets : ℕ) (by_worker : List ℕ) → IsOpen Plain scenario workers plain best upper tickets by_worker → IsOutcome Lead scenario workers leads second → best.latency ≤ best_of second → IsOutcomeBothWays scenario workers plain leads result

-- what the second answers, with the upper bound of the first, is the answer
pub IsWithinBothWays-second : (limit plain lead : Limit) (scenario : Scenario) (workers : ℕ) (first second outcome : Outcome) (best : Record) (upper : ℕ) → plain ≡ record limit { tickets = plain_share limit.tickets } → lead ≡ record limit { tickets = lead_share limit.tickets } → IsWithin plain (λ tickets. IsOutcome Plain scenario workers tickets first) → IsLeftAt best upper first → IsWithin lead (λ tickets. IsOutcome Lead scenario workers tickets second) → best.latency ≤ best_of second → TakesUpper upper second outcome → IsWithinBothWays limit (λ by_plain by_leads. IsOutcomeBothWays scenario workers by_plain by_leads outcome)
IsWithinBothWays-second limit plain lead scenario workers first second outcome best upper plain_is lead_is by_plain left by_leads no_worse takes =
    let opened = left_open scenario workers by_plain.spendable best upper first left by_plain.answer in
    let both = takes scenario workers by_plain.spendable by_leads.spendable best opened.tickets opened.by_worker opened.answer by_leads.answer no_worse in
    IsWithinBothWays-both limit plain lead (λ tickets. IsOutcome Plain scenario workers tickets first) (λ tickets. IsOutcome Lead scenario workers tickets second) (λ spent leads. IsOutcomeBothWays scenario workers spent leads outcome) plain_is lead_is by_plain by_leads both
