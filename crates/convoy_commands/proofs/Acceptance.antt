-- What is written for a scenario of which a search has ended, and what `check` answers for it.
use Rattle.std.proofs.Common.{◌≡◌, ◌≢◌, ◌≤◌, ◌++◌, ◌∙◌, ℕ, List, Vec, length, None, Ok, false, inl, inr, refl, sym, ap, subst, arith}
use Rattle.std.specs.List.{list_any}
use Rattle.std.specs.declared.alloc.Global.{Global}
use Rattle.convoy_scenario.specs.Scenario.{Scenario}
use Rattle.convoy_toml.specs.declared.asked.Asked.{Asked}
use Rattle.convoy_sim.specs.Delivery.{latency_of}
use Rattle.convoy_sim.specs.Greatest.{IsGreatest, IsReached, IsUpper}
use Rattle.convoy_sim.specs.Record.{Record, IsAttained}
use Rattle.convoy_certificate.specs.Certificate.{Certificate, IsCertificate}
use Rattle.convoy_certificate.specs.CertificateLaws.{TextsAreRead, TextsAreShort}
use Rattle.convoy_certificate.specs.Reading.{AreReadable}
use Rattle.convoy_certificate.specs.Text.{certificate_text, is_lead, is_stamp}
use Rattle.convoy_checker.specs.TreeLaws.{CheckedIsValid, ValidIsGreatest}
use Rattle.convoy_checker.specs.Validity.{IsValid}
use Rattle.convoy_branch.specs.declared.bounds.Bounds.{Bounds}
use Rattle.convoy_branch.specs.declared.bounds.Bounds.TheVariants.{Plain, Lead}
use Rattle.convoy_branch.specs.declared.outcome.Outcome.TheVariants.{Proved, Open}
use Rattle.convoy_branch.specs.Options.{Settings, first_bounds, highest_limit, limit_of}
use Rattle.convoy_branch.specs.BothWays.{IsFrontBothWays, IsOutcomeBothWays, lead_share, plain_share}
use Rattle.convoy_branch.specs.Fronts.{IsFront}
use Rattle.convoy_branch.specs.Outcomes.{IsProved}
use Rattle.convoy_branch.specs.SearchBounds.{most_nodes}
use Rattle.convoy_branch.specs.declared.limit.Limit.{Limit}
use Rattle.convoy_branch.specs.declared.options.Ways.{Ways}
use Rattle.convoy_branch.specs.declared.options.Ways.TheVariants.{One, Both}
use Rattle.convoy_commands.specs.declared.done.Done.{Done}
use Rattle.convoy_commands.specs.declared.done.Done.TheVariants as ends
use Rattle.convoy_commands.specs.Checks.{check_reply}
use Rattle.convoy_commands.specs.Measured.{measure_of_text}
use Rattle.convoy_commands.specs.Outsides.{outside_of_text, outside_text}
use Rattle.convoy_commands.specs.ReplyLines.{accepted_line, greatest_line, open_line, schedule_text}
use Rattle.convoy_commands.specs.Searches.{IsFrontBy, IsFrontTold, IsGreatestTold, IsOpenBetween, IsOpenProof, IsOutcomeBy, IsProof, IsSearchOf}
use Rattle.convoy_commands.specs.Verdicts.{judged, target_deadline, verdict_text}

-- the text of a valid certificate gets a yes
pub accepts : TextsAreRead → CheckedIsValid → (certificate : Certificate) → IsCertificate certificate →
    AreReadable certificate.nodes → IsValid certificate →
    check_reply (certificate_text certificate) ≡ Ok (ends.Fine, accepted_line certificate.latency)
unfolding check_reply
accepts are_read is_valid certificate lawful readable valid =
    rw (are_read certificate lawful readable, (is_valid certificate).1 valid) refl

-- What a proved end says of its certificate.
record IsProvedEnd (ways : Ways) (scenario : Scenario) (limit : ℕ) (certificate : Certificate) : Type 0 where
  of_scenario : certificate.scenario ≡ scenario
  valid : IsValid certificate
  greatest : IsGreatest scenario certificate.latency
  few : length certificate.nodes ≤ limit
  plain : ways ≡ One Plain → list_any is_stamp certificate.nodes ≡ false
  no_leads : (bounds : Bounds) → ways ≡ One bounds → bounds ≢ Lead → list_any is_lead certificate.nodes ≡ false
  readable : AreReadable certificate.nodes

one_is : (bounds other : Bounds) → One bounds ≡ One other → bounds ≡ other
one_is bounds other is = ap first_bounds is

-- by one kind of bounds, or both ways, where so many tickets might be spent
proved_one : (bounds : Bounds) (scenario : Scenario) (workers spendable limit : ℕ) (certificate : Certificate) (tickets : ℕ) (by_worker : List ℕ) →
    IsProved bounds scenario workers spendable certificate tickets by_worker → spendable ≤ limit → limit ≤ most_nodes bounds →
    IsProvedEnd (One bounds) scenario limit certificate
proved_one bounds scenario workers spendable limit certificate tickets by_worker proved few within = record {
  of_scenario = proved.of_scenario;
  valid = proved.valid;
  greatest = proved.greatest;
  few = omega (arith, proved.nodes, proved.few, few);
  plain = λ is. proved.plain (one_is bounds Plain is);
  no_leads = λ other is not. proved.no_leads (λ lead. not (sym (one_is bounds other is) ∙ lead));
  readable = proved.readable (omega (arith, few, within));
}

proved_both : (scenario : Scenario) (workers plain leads limit : ℕ) (certificate : Certificate) (tickets : ℕ) (by_worker : Vec ℕ Global) →
    IsOutcomeBothWays scenario workers plain leads (Proved certificate tickets by_worker) → plain ≤ plain_share limit → leads ≤ lead_share limit →
    IsProvedEnd Both scenario limit certificate
proved_both scenario workers plain leads limit certificate tickets by_worker (inl proved) few_plain few_leads = record {
  of_scenario = proved.of_scenario;
  valid = proved.valid;
  greatest = proved.greatest;
  few = omega (arith, proved.nodes, proved.few, few_plain);
  plain = λ is. proved.plain refl;
  no_leads = λ other is not. absurd (cc);
  readable = proved.readable (omega (arith, few_plain));
}
proved_both scenario workers plain leads limit certificate tickets by_worker (inr proved) few_plain few_leads = record {
  of_scenario = proved.of_scenario;
  valid = proved.valid;
  greatest = proved.greatest;
  few = omega (arith, proved.nodes, proved.few, few_leads);
  plain = λ is. absurd (cc);
  no_leads = λ other is not. absurd (cc);
  readable = proved.readable (omega (arith, few_leads));
}

-- by whatever the search goes
proved_end : (ways : Ways) (scenario : Scenario) (workers : ℕ) (limit : Limit) (certificate : Certificate) (tickets : ℕ) (by_worker : Vec ℕ Global) →
    IsOutcomeBy ways scenario workers limit (Proved certificate tickets by_worker) → limit.tickets ≤ highest_limit ways →
    IsProvedEnd ways scenario limit.tickets certificate
proved_end (One bounds) scenario workers limit certificate tickets by_worker found within =
    proved_one bounds scenario workers found.spendable limit.tickets certificate tickets by_worker.items found.answer found.few within
proved_end Both scenario workers limit certificate tickets by_worker found within =
    proved_both scenario workers found.plain found.leads limit.tickets certificate tickets by_worker found.answer found.few_plain found.few_leads

-- What an open end says of the scenario.
pub record IsOpenEnd (ways : Ways) (scenario : Scenario) (limit : Limit) (best : Record) (upper : ℕ) : Type 0 where
  pub of_scenario : best.scenario ≡ scenario
  pub reached : IsReached scenario best.latency
  pub none_greater : IsUpper scenario upper
  pub front : IsFrontBy ways scenario best.latency upper limit

-- both ways, where so many tickets might be spent
record IsOpenInShares (scenario : Scenario) (plain leads : ℕ) (best : Record) (upper : ℕ) : Type 0 where
  of_scenario : best.scenario ≡ scenario
  reached : IsReached scenario best.latency
  none_greater : IsUpper scenario upper
  front : IsFrontBothWays scenario best.latency upper plain leads

open_both : (scenario : Scenario) (workers plain leads : ℕ) (best : Record) (upper tickets : ℕ) (by_worker : Vec ℕ Global) →
    IsOutcomeBothWays scenario workers plain leads (Open best upper tickets by_worker) → IsOpenInShares scenario plain leads best upper
open_both scenario workers plain leads best upper tickets by_worker (inl found) = record {
  of_scenario = found.1.of_scenario;
  reached = found.1.reached;
  none_greater = found.1.none_greater;
  front = inl (found.0, subst (λ (n : ℕ). IsFront Plain scenario best.latency upper n) found.1.all found.1.front);
}
open_both scenario workers plain leads best upper tickets by_worker (inr found) = record {
  of_scenario = found.of_scenario;
  reached = found.reached;
  none_greater = found.none_greater;
  front = inr found.fronts;
}

pub open_end : (ways : Ways) (scenario : Scenario) (workers : ℕ) (limit : Limit) (best : Record) (upper tickets : ℕ) (by_worker : Vec ℕ Global) →
    IsOutcomeBy ways scenario workers limit (Open best upper tickets by_worker) → IsOpenEnd ways scenario limit best upper
open_end (One bounds) scenario workers limit best upper tickets by_worker found = record {
  of_scenario = found.answer.of_scenario;
  reached = found.answer.reached;
  none_greater = found.answer.none_greater;
  front = record { spendable = found.spendable; few = found.few; all = found.all; answer = subst (λ (n : ℕ). IsFront bounds scenario best.latency upper n) found.answer.all found.answer.front };
}
open_end Both scenario workers limit best upper tickets by_worker found =
    let ended = open_both scenario workers found.plain found.leads best upper tickets by_worker found.answer in
    record {
      of_scenario = ended.of_scenario;
      reached = ended.reached;
      none_greater = ended.none_greater;
      front = record {
        plain = found.plain;
        leads = found.leads;
        few_plain = found.few_plain;
        few_leads = found.few_leads;
        all_plain = found.all_plain;
        all_leads = found.all_leads;
        answer = ended.front;
      };
    }

-- What is written where a search for the scenario of the text has ended, and how the command ends.
module _ (asked : Asked) (settings : Settings) (text : List ℕ) (end : Done) (out : List ℕ) (scenario : Scenario) where
  -- the text of a proved outcome's certificate
  pub proof_written : TextsAreRead → TextsAreShort → CheckedIsValid → ValidIsGreatest →
      (certificate : Certificate) (tickets : ℕ) (by_worker : Vec ℕ Global) → IsCertificate certificate →
      IsSearchOf asked settings text scenario (Proved certificate tickets by_worker) → settings.limit ≤ highest_limit settings.ways →
      out ≡ certificate_text certificate → end ≡ judged (target_deadline asked text scenario) certificate.latency certificate.latency ends.Fine →
      IsProof asked settings text end out
  proof_written are_read are_short is_valid is_greatest certificate tickets by_worker lawful search few written ended_so =
      let ended = proved_end settings.ways scenario search.ended.workers (limit_of settings) certificate tickets by_worker search.ended.found few in
      record {
        certificate = certificate;
        lawful = lawful;
        read = rw ended.of_scenario search.read;
        written = written;
        latency = ended.valid.latency;
        greatest = is_greatest certificate lawful ended.valid;
        valid = ended.valid;
        few = ended.few;
        plain = ended.plain;
        no_leads = ended.no_leads;
        fits = rw written (are_short certificate lawful ended.readable.few);
        accepted = rw written (accepts are_read is_valid certificate lawful ended.readable ended.valid);
        ends = rw ended.of_scenario ended_so;
      }

  -- the latency of a proved outcome
  pub greatest_written : (certificate : Certificate) (tickets : ℕ) (by_worker : Vec ℕ Global) →
      IsSearchOf asked settings text scenario (Proved certificate tickets by_worker) → settings.limit ≤ highest_limit settings.ways →
      out ≡ greatest_line (measure_of_text settings.unit text scenario) certificate.latency
      ++ (verdict_text (measure_of_text settings.unit text scenario) (target_deadline asked text scenario) certificate.latency certificate.latency
      ++ outside_text (outside_of_text text scenario)) →
      end ≡ judged (target_deadline asked text scenario) certificate.latency certificate.latency ends.Fine →
      IsGreatestTold asked settings text end out
  greatest_written certificate tickets by_worker search few written ended_so =
      let ended = proved_end settings.ways scenario search.ended.workers (limit_of settings) certificate tickets by_worker search.ended.found few in
      record {
        scenario = scenario;
        latency = certificate.latency;
        read = search.read;
        lawful = search.lawful;
        greatest = ended.greatest;
        written = written;
        ends = ended_so;
      }

  -- what an open outcome says of the scenario
  open_between : (best : Record) (upper tickets : ℕ) (by_worker : Vec ℕ Global) →
      (search : IsSearchOf asked settings text scenario (Open best upper tickets by_worker)) →
      IsOpenBetween asked settings text scenario best.latency upper
  open_between best upper tickets by_worker search =
      let ended = open_end settings.ways scenario search.ended.workers (limit_of settings) best upper tickets by_worker search.ended.found in
      record {
        read = search.read;
        lawful = search.lawful;
        reached = ended.reached;
        upper = ended.none_greater;
        front = ended.front;
      }

  -- the bounds of an open outcome
  pub bounds_written : (best : Record) (upper tickets : ℕ) (by_worker : Vec ℕ Global) →
      IsSearchOf asked settings text scenario (Open best upper tickets by_worker) →
      out ≡ open_line (measure_of_text settings.unit text scenario) best.latency upper
      ++ (verdict_text (measure_of_text settings.unit text scenario) (target_deadline asked text scenario) best.latency upper
      ++ outside_text (outside_of_text text scenario)) →
      end ≡ judged (target_deadline asked text scenario) best.latency upper ends.Open →
      IsFrontTold asked settings text end out
  bounds_written best upper tickets by_worker search written ended_so = record {
    scenario = scenario;
    least = best.latency;
    most = upper;
    between = open_between best upper tickets by_worker search;
    written = written;
    ends = ended_so;
  }

  -- the bounds of an open outcome, and the schedule of its record
  pub open_written : (best : Record) (upper tickets : ℕ) (by_worker : Vec ℕ Global) → IsAttained best →
      IsSearchOf asked settings text scenario (Open best upper tickets by_worker) →
      out ≡ open_line None best.latency upper ++ schedule_text scenario best.schedule →
      end ≡ judged (target_deadline asked text scenario) best.latency upper ends.Open →
      IsOpenProof asked settings text end out
  open_written best upper tickets by_worker attained search written ended_so =
      let ended = open_end settings.ways scenario search.ended.workers (limit_of settings) best upper tickets by_worker search.ended.found in
      let of_scenario = ended.of_scenario in
      let same : best.latency ≡ latency_of scenario best.schedule = rw of_scenario at attained.latency in
      record {
        scenario = scenario;
        schedule = best.schedule;
        most = upper;
        assigned = rw of_scenario at attained.assignment;
        between = rw same at (open_between best upper tickets by_worker search);
        written = rw same at written;
        ends = rw same at ended_so;
      }
