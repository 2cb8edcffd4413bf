-- The numbers of a row of ceilings.
use Rattle.std.proofs.Common.{All, ◌≡◌, ◌≤◌, ℕ, ◌*◌, ◌==◌, true, List, [], ◌∷◌, map, filter, get_or, Option, Some, None, IfSome, Result, Ok, Err, ap, refl, subst, sym, ◌∙◌, arith}
use Rattle.std.specs.List.{Contains}
use Rattle.std.proofs.Math.Nat.{mul-le-mul_left}
use Rattle.std.proofs.lemmas.Bool.Decides.{nat_tests}
use Rattle.std.proofs.lemmas.List.Elements.{All-contains, All-filter, All-map, All-weaker, filter_passes}
use Rattle.std.specs.declared.alloc.AllocError.{AllocError}
use Rattle.convoy_scenario.specs.Scenario.{Scenario, message_at}
use Rattle.convoy_scenario.specs.Targets.{targets_of, with_target}
use Rattle.convoy_ceiling.specs.Ceiling.{IsUpperInTraffic, ceiling_at}
use Rattle.convoy_outages.specs.OutageCeiling.{IsUpperThrough, outage_ceiling_at}
use Rattle.convoy_survey.specs.declared.ceiled.Ceiled.{Ceiled}
use Rattle.convoy_survey.specs.Ceilings.{IsAttainedInTraffic, IsCeiled, MaySeek, ceiled_target, told_latency}
use Rattle.convoy_survey.specs.CeilingTables.{ceiled_of, greatest_attained, greatest_ceiling, greatest_through}
use Rattle.convoy_survey.specs.SurveyLaws.{CeilingRowsAtAllEnclose, CeilingRowsAtAllHoldThrough, CeilingRowsEnclose, EnclosesInTraffic, EnclosesInTrafficAtAll, IsAtEach}
use Rattle.convoy_survey.proofs.AtAlls.{group_among}
use Rattle.convoy_survey.proofs.Greatest.{HasNumber, IsAtMost, none_above, none_above_max, one_is}
use Rattle.convoy_survey.proofs.OneMessage.{groups_of_rows}

-- what is told of an answer encloses it with the ceiling
told_encloses : (scenario : Scenario) (m g : ℕ) (answer : Result ℕ AllocError) → MaySeek scenario m g answer →
    IsUpperInTraffic scenario m g (ceiling_at scenario m g) → EnclosesInTraffic scenario m g (told_latency answer) (ceiling_at scenario m g)
told_encloses scenario m g (Ok latency) found safe = record { reached = found.0; upper = safe; within = found.1 }
told_encloses scenario m g (Err error) found safe = record { reached = tt; upper = safe; within = tt }

pub ceiling_rows_enclose : CeilingRowsEnclose
ceiling_rows_enclose span scenario row is =
    let m : ℕ = row.message in
    let g : ℕ = row.group in
    let safe : IsUpperInTraffic scenario m g (ceiling_at scenario m g) = subst (IsUpperInTraffic scenario m g) is.ceiling is.safe in
    let enclosed : EnclosesInTraffic scenario m g (told_latency is.answer) (ceiling_at scenario m g) =
    told_encloses scenario m g is.answer is.given safe in
    subst (λ (n : ℕ). EnclosesInTraffic scenario m g row.attained n) (sym is.ceiling)
    (subst (λ (least : Option ℕ). EnclosesInTraffic scenario m g least (ceiling_at scenario m g)) (sym is.told) enclosed)

-- AT ALL GROUPS
-- they are of that message
ceiled_same : (m : ℕ) (rows : List Ceiled) → All (λ (row : Ceiled). row.message ≡ m) (ceiled_of m rows)
ceiled_same m rows =
    All-weaker (λ (row : Ceiled). (row.message == m) ≡ true) (λ (row : Ceiled). row.message ≡ m) (λ row is. grind (arith, nat_tests, is))
    (ceiled_of m rows) (filter_passes (λ (row : Ceiled). row.message == m) rows)

-- where no group is named all are asked for
all_asked : (targets : List (ℕ × ℕ)) → filter (λ (target : ℕ × ℕ). true) targets ≡ targets
all_asked [] = refl
all_asked (target ∷ targets) = ap (λ ts. target ∷ ts) (all_asked targets)

-- what is no more than one ceiling is no more than a greater number
upper_up : (scenario : Scenario) (m g ceiling most : ℕ) → IsUpperInTraffic scenario m g ceiling → ceiling ≤ most → IsUpperInTraffic scenario m g most
upper_up scenario m g ceiling most upper below =
    λ traffic schedule is_traffic within k of_kind goes. let latency = upper traffic schedule is_traffic within k of_kind goes in omega (arith, latency, below)

pub ceiling_rows_at_all_enclose : CeilingRowsAtAllEnclose
ceiling_rows_at_all_enclose span scenario m rows are some = enclosed_by (greatest_attained kept) refl where
  kept : List Ceiled
  kept = ceiled_of m rows

  most : ℕ
  most = greatest_ceiling kept

  groups : map (λ (row : Ceiled). row.group) kept ≡ (message_at scenario m).destinations
  groups = groups_of_rows ceiled_target scenario m rows (are.targets ∙ all_asked (targets_of scenario)) some

  ceiled : All (IsCeiled span scenario) kept
  ceiled = All-filter (λ (row : Ceiled). row.message == m) (IsCeiled span scenario) rows are.told

  enclosed : (row : Ceiled) → IsCeiled span scenario row → row.message ≡ m → EnclosesInTraffic scenario m row.group row.attained row.ceiling
  enclosed row is same = subst (λ (k : ℕ). EnclosesInTraffic scenario k row.group row.attained row.ceiling) same (ceiling_rows_enclose span scenario row is)

  below : All (λ (row : Ceiled). row.ceiling ≤ most) kept
  below = none_above_max (λ (row : Ceiled). row.ceiling) kept

  upper : IsAtEach scenario m (λ (g : ℕ). IsUpperInTraffic scenario m g most)
  upper =
      subst (All (λ (g : ℕ). IsUpperInTraffic scenario m g most)) groups
      (All-map (λ (g : ℕ). IsUpperInTraffic scenario m g most) (λ (row : Ceiled). row.group) kept
      (λ i d within.
      let row : Ceiled = get_or kept i d in
      upper_up scenario m row.group row.ceiling most (enclosed row (ceiled i d within) (ceiled_same m rows i d within)).upper (below i d within)))

  of_row : (row : Ceiled) (n : ℕ) → EnclosesInTraffic scenario m row.group row.attained row.ceiling → row.attained ≡ Some n →
      IsAttainedInTraffic (with_target scenario m row.group) n × (n ≤ row.ceiling)
  of_row row n encloses is = (
    subst (λ (least : Option ℕ). IfSome least (IsAttainedInTraffic (with_target scenario m row.group))) is encloses.reached,
    subst (λ (least : Option ℕ). IfSome least (λ (k : ℕ). k ≤ row.ceiling)) is encloses.within,
  )

  attained_in : (n : ℕ) → HasNumber (λ (row : Ceiled). row.attained) kept n → EnclosesInTrafficAtAll scenario m (Some n) most
  attained_in n has =
      let row : Ceiled = has.one in
      let same : row.message ≡ m = All-contains (λ (r : Ceiled). r.message ≡ m) kept row (ceiled_same m rows) has.among in
      let both = of_row row n (enclosed row (All-contains (IsCeiled span scenario) kept row ceiled has.among) same) has.is in
      let under : row.ceiling ≤ most = All-contains (λ (r : Ceiled). r.ceiling ≤ most) kept row below has.among in
      record {
        reached = record {
          group = row.group;
          among = subst (λ (gs : List ℕ). Contains gs row.group) groups (group_among (λ (r : Ceiled). r.group) kept row has.among);
          holds = both.0;
        };
        upper = upper;
        within = omega (arith, both.1, under);
      }

  enclosed_by : (least : Option ℕ) → greatest_attained kept ≡ least → EnclosesInTrafficAtAll scenario m least most
  enclosed_by None is = record { reached = tt; upper = upper; within = tt }
  enclosed_by (Some n) is = attained_in n (one_is (λ (row : Ceiled). row.attained) kept n some is)

-- THROUGH OUTAGES
-- what is no more than one ceiling through outages is no more than a greater number
through_up : (span : ℕ) (scenario : Scenario) (m g ceiling most : ℕ) → IsUpperThrough span scenario m g ceiling → ceiling ≤ most → IsUpperThrough span scenario m g most
through_up span scenario m g ceiling most upper below = λ down times traffic schedule keeps k of_kind goes silent.
    let latency = upper down times traffic schedule keeps k of_kind goes silent in
    let more : times * ceiling ≤ times * most = mul-le-mul_left times below in
    omega (arith, latency, more)

pub hold_through : CeilingRowsAtAllHoldThrough
hold_through span scenario m rows are some = held_by (greatest_through kept) refl where
  kept : List Ceiled
  kept = ceiled_of m rows

  groups : map (λ (row : Ceiled). row.group) kept ≡ (message_at scenario m).destinations
  groups = groups_of_rows ceiled_target scenario m rows (are.targets ∙ all_asked (targets_of scenario)) some

  ceiled : All (IsCeiled (Some span) scenario) kept
  ceiled = All-filter (λ (row : Ceiled). row.message == m) (IsCeiled (Some span) scenario) rows are.told

  holds_at : (n : ℕ) (row : Ceiled) → IsCeiled (Some span) scenario row → row.message ≡ m → IsAtMost n row.through → IsUpperThrough span scenario m row.group n
  holds_at n row is same most =
      let below : outage_ceiling_at scenario span row.message row.group ≤ n = subst (IsAtMost n) is.through most in
      subst (λ (k : ℕ). IsUpperThrough span scenario k row.group n) same
      (through_up span scenario row.message row.group (outage_ceiling_at scenario span row.message row.group) n is.safe_through below)

  held : (n : ℕ) → greatest_through kept ≡ Some n → IsAtEach scenario m (λ (g : ℕ). IsUpperThrough span scenario m g n)
  held n is =
      subst (All (λ (g : ℕ). IsUpperThrough span scenario m g n)) groups
      (All-map (λ (g : ℕ). IsUpperThrough span scenario m g n) (λ (row : Ceiled). row.group) kept
      (λ i d within.
      holds_at n (get_or kept i d) (ceiled i d within) (ceiled_same m rows i d within) (none_above (λ (row : Ceiled). row.through) kept n is i d within)))

  held_by : (most : Option ℕ) → greatest_through kept ≡ most → IfSome most (λ (n : ℕ). IsAtEach scenario m (λ (g : ℕ). IsUpperThrough span scenario m g n))
  held_by None is = tt
  held_by (Some n) is = held n is
