-- A certificate that is read from a text: the text is its text.
use Rattle.std.proofs.Common.{◌≡◌, ℕ, ◌+◌, ◌≤◌, ◌==◌, nat_lt, if◌then◌else◌, Bool, true, false, cond, List, [], ◌∷◌, ◌++◌, length, map, Option, Some, None, option_map, ok_or, Result, Ok, Err, refl, ap, ap₂, sym, subst, ◌∙◌, arith, inl, inr, codes, decimal}
use Rattle.std.specs.List.{count_by}
use Rattle.std.specs.Prelude.{IfOk}
use Rattle.std.specs.Str.{bytes_eq}
use Rattle.convoy_scenario.specs.Memory.{IsUnlessMemory}
use Rattle.std.proofs.lemmas.Bool.{and_parts, cases_Bool, eqb-true, eqb-false, false≢true, ltb-false}
use Rattle.std.proofs.lemmas.List.{nil_from_length}
use Rattle.std.proofs.lemmas.Option.{cond_some, same_Some}
use Rattle.convoy_scenario_lines.specs.declared.line_fault.Expected.TheVariants as expected
use Rattle.convoy_scenario_lines.specs.declared.line_fault.LineFault.{LineFault}
use Rattle.convoy_lines.specs.Labels.{words_after, number_in}
use Rattle.convoy_lines.specs.Words.{number_of}
use Rattle.convoy_lines.specs.Places.{Lines, lines_in, Place, place_before, is_at_end}
use Rattle.convoy_scenario_lines.specs.LineReading.{form_at, scenario_at}
use Rattle.convoy_lines.specs.Texts.{line_of}
use Rattle.convoy_scenario_lines.specs.ScenarioLines.{scenario_lines}
use Rattle.convoy_scenario_lines.specs.declared.line_fault.Expected.{Expected}
use Rattle.convoy_packets.specs.Order.{Order, no_order}
use Rattle.convoy_packets.specs.OrderLists.{order_of}
use Rattle.convoy_draft.specs.declared.time.Time.{Time}
use Rattle.convoy_draft.specs.declared.time.Time.TheVariants.{Ticks, Real}
use Rattle.convoy_scenario.specs.Scenario.{Scenario, is_timed}
use Rattle.convoy_packets.specs.Assignment.{Schedule}
use Rattle.convoy_lines.proofs.LabelLemmas.{same_bytes, label_takes, number_line_takes}
use Rattle.convoy_lines.proofs.Spelling.{number_takes, text_takes}
use Rattle.convoy_scenario_lines.specs.ScenarioLineLaws.{ScenariosAreTheirLines}
use Rattle.convoy_certificate.proofs.Orders.{list_kept}
use Rattle.convoy_certificate.proofs.Steps.{after_version, after_scenario, after_latency, after_schedule, after_tree, after_delays, order_after, after_order, in_steps, bind_ok}
use Rattle.convoy_certificate.proofs.NodeLaws.{neither, leads_more, and_then_takes, map_takes, node_takes}
use Rattle.convoy_certificate.specs.declared.certificate.TheConstants.{MOST_LEADS, MOST_NODES}
use Rattle.convoy_certificate.specs.declared.node.Node.{Node}
use Rattle.convoy_certificate.specs.declared.text_fault.TextFault.{TextFault}
use Rattle.convoy_certificate.specs.declared.version.Version.{Version}
use Rattle.convoy_certificate.specs.declared.version.Version.TheVariants.{One, Two, Three, Four, Five}
use Rattle.convoy_certificate.specs.declared.text_fault.TextFault.TheVariants as faults
use Rattle.convoy_certificate.specs.Certificate.{Certificate}
use Rattle.convoy_certificate.specs.Forms.{version_in, numbers_in, list_in, schedule_in, order_in, node_in, node_or_end, greatest_listed}
use Rattle.convoy_certificate.specs.Reading.{in_text, is_same_version, is_assignment, is_order_list, order_in_time, order_at, leads_with, are_too_many, from_node, nodes_in, nodes_at, schedule_at, whole, tree_at, certificate_with, certificate_of, AreReadable, IsTextOf}
use Rattle.convoy_certificate.specs.CertificateLaws.{TextsAreKept}
use Rattle.convoy_certificate.specs.Text.{is_lead, lines_version, target_waits, version_for, version_line, latency_line, schedule_line, schedule_lines, order_line, order_lines, ranks_written, node_line, end_line, certificate_lines, certificate_text}

same_ok : {A : Type 0} (x y : A) → ◌≡◌ {A = Result A TextFault} (Ok x) (Ok y) → x ≡ y
same_ok x y e = cc

from_lines : {A : Type 0} (r : Result A LineFault) (x : A) → in_text r ≡ Ok x → r ≡ Ok x
from_lines (Ok y) x e = ap (λ z. Ok z) (same_ok y x e)
from_lines (Err fault) x e = absurd cc

ok_or_takes : {A : Type 0} (o : Option A) (fault : TextFault) (x : A) → ok_or o fault ≡ Ok x → o ≡ Some x
ok_or_takes None fault x e = absurd cc
ok_or_takes (Some y) fault x e = ap (λ z. Some z) (same_ok y x e)

-- the form that a line at a place had
record Took {A : Type 0} (form : List ℕ → Option A) (p : Place) (x : A × Place) : Type 0 where
  line : List ℕ
  ended : p.ended ≡ line ∷ x.1.ended
  rest : p.rest ≡ x.1.rest
  has : form line ≡ Some x.0

took_at : {A : Type 0} (expected : Expected) (form : List ℕ → Option A) (number : ℕ) (rest : List ℕ) (ended : List (List ℕ)) (x : A × Place)
    → in_text (form_at expected form (record { ended = ended; rest = rest; number = number })) ≡ Ok x → Took form (record { ended = ended; rest = rest; number = number }) x
took_at expected form number rest [] x e = absurd cc
took_at {A} expected form number rest (line ∷ lines) x e = by_value (form line) refl e where
  by_value : (o : Option A) → form line ≡ o → in_text (form_at expected (λ _. o) (record { ended = line ∷ lines; rest = rest; number = number })) ≡ Ok x
      → Took form (record { ended = line ∷ lines; rest = rest; number = number }) x
  by_value None is e = absurd cc
  by_value (Some value) is e =
      let same = same_ok (value, record { ended = lines; rest = rest; number = number + 1 }) x e in
      record {
        line = line;
        ended = ap (λ (y : A × Place). line ∷ y.1.ended) same;
        rest = ap (λ (y : A × Place). y.1.rest) same;
        has = is ∙ ap (λ (y : A × Place). Some y.0) same;
      }

took : {A : Type 0} (expected : Expected) (form : List ℕ → Option A) (p : Place) (x : A × Place) → in_text (form_at expected form p) ≡ Ok x → Took form p x
took expected form p x e = took_at expected form p.number p.rest p.ended x e

newer_takes : (line : List ℕ) (version : Version)
    → cond (bytes_eq line (version_line Three)) (Some Three) (cond (bytes_eq line (version_line Four)) (Some Four) (cond (bytes_eq line (version_line Five)) (Some Five) None)) ≡ Some version
    → line ≡ version_line version
newer_takes line version e =
    elim (cases_Bool (bytes_eq line (version_line Three))) [
      | inl three ↦
          let read : Some Three ≡ Some version = rw three at e in
          same_bytes line (version_line Three) three ∙ ap version_line (same_Some Three version read)
      | inr other ↦
          let read : cond (bytes_eq line (version_line Four)) (Some Four) (cond (bytes_eq line (version_line Five)) (Some Five) None) ≡ Some version = rw other at e in
          elim (cases_Bool (bytes_eq line (version_line Four))) [
            | inl four ↦
                let last : Some Four ≡ Some version = rw four at read in
                same_bytes line (version_line Four) four ∙ ap version_line (same_Some Four version last)
            | inr neither ↦
                let last : cond (bytes_eq line (version_line Five)) (Some Five) None ≡ Some version = rw neither at read in
                let five = cond_some (bytes_eq line (version_line Five)) Five version last in
                same_bytes line (version_line Five) five.0 ∙ ap version_line five.1
          ]
    ]

version_takes : (line : List ℕ) (version : Version) → version_in line ≡ Some version → line ≡ version_line version
version_takes line version e =
    elim (cases_Bool (bytes_eq line (version_line One))) [
      | inl one ↦
          let read : Some One ≡ Some version = rw one at e in
          same_bytes line (version_line One) one ∙ ap version_line (same_Some One version read)
      | inr other ↦
          let read : cond (bytes_eq line (version_line Two)) (Some Two) (cond (bytes_eq line (version_line Three)) (Some Three) (cond (bytes_eq line (version_line Four)) (Some Four) (cond (bytes_eq line (version_line Five)) (Some Five) None))) ≡ Some version = rw other at e in
          elim (cases_Bool (bytes_eq line (version_line Two))) [
            | inl two ↦
                let last : Some Two ≡ Some version = rw two at read in
                same_bytes line (version_line Two) two ∙ ap version_line (same_Some Two version last)
            | inr neither ↦
                let newer : cond (bytes_eq line (version_line Three)) (Some Three) (cond (bytes_eq line (version_line Four)) (Some Four) (cond (bytes_eq line (version_line Five)) (Some Five) None)) ≡ Some version = rw neither at read in
                newer_takes line version newer
          ]
    ]

pub one_version : (version other : Version) → is_same_version version other ≡ true → version ≡ other
one_version version One e = elim version as (λ v. is_same_version v One ≡ true → v ≡ One) [ One ↦ λ f. refl | Two ↦ λ f. absurd (false≢true f) | Three ↦ λ f. absurd (false≢true f) | Four ↦ λ f. absurd (false≢true f) | Five ↦ λ f. absurd (false≢true f) ] e
one_version version Two e = elim version as (λ v. is_same_version v Two ≡ true → v ≡ Two) [ One ↦ λ f. absurd (false≢true f) | Two ↦ λ f. refl | Three ↦ λ f. absurd (false≢true f) | Four ↦ λ f. absurd (false≢true f) | Five ↦ λ f. absurd (false≢true f) ] e
one_version version Three e = elim version as (λ v. is_same_version v Three ≡ true → v ≡ Three) [ One ↦ λ f. absurd (false≢true f) | Two ↦ λ f. absurd (false≢true f) | Three ↦ λ f. refl | Four ↦ λ f. absurd (false≢true f) | Five ↦ λ f. absurd (false≢true f) ] e
one_version version Four e = elim version as (λ v. is_same_version v Four ≡ true → v ≡ Four) [ One ↦ λ f. absurd (false≢true f) | Two ↦ λ f. absurd (false≢true f) | Three ↦ λ f. absurd (false≢true f) | Four ↦ λ f. refl | Five ↦ λ f. absurd (false≢true f) ] e
one_version version Five e = elim version as (λ v. is_same_version v Five ≡ true → v ≡ Five) [ One ↦ λ f. absurd (false≢true f) | Two ↦ λ f. absurd (false≢true f) | Three ↦ λ f. absurd (false≢true f) | Four ↦ λ f. absurd (false≢true f) | Five ↦ λ f. refl ] e

abbrev line_for : Option Node → List ℕ
line_for None = end_line
line_for (Some node) = node_line node

-- the node lines that stood before a place, up to the line `end`
record TookNodes (count leads : ℕ) (rest : List ℕ) (ended : List (List ℕ)) (x : List Node × Place) : Type 0 where
  before : ended ≡ map node_line x.0 ++ end_line ∷ x.1.ended
  after : rest ≡ x.1.rest
  few : count + length x.0 ≤ MOST_NODES
  few_leads : leads + count_by is_lead x.0 ≤ MOST_LEADS

unless : {A : Type 0} (b : Bool) (fault : TextFault) (r : Result A TextFault) (x : A) → cond b (Err fault) r ≡ Ok x → (b ≡ false) × (r ≡ Ok x)
unless true fault r x e = absurd cc
unless false fault r x e = (refl, e)

nil_ended : (p : Place) → is_at_end p ≡ true → (p.ended ≡ []) × (p.rest ≡ [])
nil_ended p e =
    let parts = and_parts (length p.ended == 0) (length p.rest == 0) e in
    (nil_from_length p.ended (eqb-true _ _ parts.0), nil_from_length p.rest (eqb-true _ _ parts.1))

if_true : {A : Type 0} (b : Bool) (fault : TextFault) (r : Result A TextFault) (x : A) → cond b r (Err fault) ≡ Ok x → (b ≡ true) × (r ≡ Ok x)
if_true true fault r x e = (refl, e)
if_true false fault r x e = absurd cc

both : (l : Lines) (lines : List (List ℕ)) → l.ended ≡ lines → l.rest ≡ [] → l ≡ record { ended = lines; rest = [] }
both l lines e f = ap₂ (λ ls r. record { ended = ls; rest = r }) e f

-- the lines that stood between two places
record TookLines (lines : List (List ℕ)) (place past : Place) : Type 0 where
  before : place.ended ≡ lines ++ past.ended
  after : place.rest ≡ past.rest

-- where no order is read, ties fall in the fixed order
fixed_takes : (place : Place) (x : Order × Place) → ◌≡◌ {A = Result (Order × Place) TextFault} (Ok (no_order, place)) (Ok x) → TookLines [] place x.1
fixed_takes place x e = subst (λ (y : Order × Place). TookLines [] place y.1) (same_ok (no_order, place) x e) (record { before = refl; after = refl })

-- ---- the lists of numbers

numbers_take : (words : List (List ℕ)) (numbers : List ℕ) → numbers_in words ≡ Some numbers → words ≡ map decimal numbers
numbers_take [] numbers e = ap (map decimal) (same_Some [] numbers e)
numbers_take (w ∷ ws) numbers e =
    let a = and_then_takes (λ number. option_map (λ more. number ∷ more) (numbers_in ws)) (number_of greatest_listed w) numbers e in
    let b = map_takes (λ more. a.0 ∷ more) (numbers_in ws) numbers a.2 in
    let number = number_takes greatest_listed w a.0 (omega arith) a.1 in
    ap (λ x. x ∷ ws) number.0 ∙ ap (λ xs. decimal a.0 ∷ xs) (numbers_take ws b.0 b.1) ∙ ap (map decimal) b.2

list_takes : (label line : List ℕ) (numbers : List ℕ) → list_in label line ≡ Some numbers → line ≡ line_of label (map decimal numbers)
list_takes label line numbers e =
    let a = and_then_takes numbers_in (words_after label line) numbers e in
    label_takes label line a.0 a.1 ∙ ap (line_of label) (numbers_take a.0 numbers a.2)

-- ---- the order of ties

order_takes : (time : Time) (plan : Scenario) (place : Place) (x : Order × Place) → order_in_time time plan place ≡ Ok x → TookLines (order_lines time (ranks_written plan x.0)) place x.1
order_takes Ticks plan place x e = fixed_takes place x e
order_takes Real plan place x e =
    let a = bind_ok (in_text (form_at expected.Order order_in place)) (λ ranks. if is_order_list plan ranks.0 then Ok (order_of plan ranks.0, ranks.1) else Err faults.Schedule) x e in
    let b = if_true (is_order_list plan a.0.0) faults.Schedule (Ok (order_of plan a.0.0, a.0.1)) x a.2 in
    let same : (order_of plan a.0.0, a.0.1) ≡ x = same_ok (order_of plan a.0.0, a.0.1) x b.1 in
    let line = took expected.Order order_in place a.0 a.1 in
    let ranks : ranks_written plan x.0 ≡ a.0.0 = ap (λ (y : Order × Place). ranks_written plan y.0) (sym same) ∙ list_kept plan a.0.0 b.0 in
    let taken : TookLines (order_line a.0.0 ∷ []) place a.0.1 = record { before = line.ended ∙ ap (λ l. l ∷ a.0.1.ended) (list_takes (codes "order") line.line a.0.0 line.has); after = line.rest } in
    let past = subst (λ (y : Order × Place). TookLines (order_line a.0.0 ∷ []) place y.1) same taken in
    subst (λ (rs : List ℕ). TookLines (order_line rs ∷ []) place x.1) (sym ranks) past

-- ---- nodes

next_node_takes : (version : Version) (time : Time) (line : List ℕ) (next : Option Node) → node_or_end version time line ≡ Some next → line ≡ line_for next
next_node_takes version time line next e =
    elim (cases_Bool (bytes_eq line end_line)) [
      | inl end ↦
          let read : Some None ≡ Some next = rw end at e in
          same_bytes line end_line end ∙ ap line_for (same_Some None next read)
      | inr other ↦
          let read : option_map (λ node. Some node) (node_in version time line) ≡ Some next = rw other at e in
          let a = map_takes (λ node. Some node) (node_in version time line) next read in
          node_takes version time line a.0 a.1 ∙ ap line_for a.2
    ]

nodes_take : (version : Version) (time : Time) (count leads number : ℕ) (rest : List ℕ) (ended : List (List ℕ)) (x : List Node × Place) → count ≤ MOST_NODES → leads ≤ MOST_LEADS → nodes_in version time count leads number rest ended ≡ Ok x → TookNodes count leads rest ended x
unfolding nodes_in
nodes_take version time count leads number rest [] x few few_leads e = absurd cc
nodes_take version time count leads number rest (line ∷ lines) x few few_leads e =
    let past : Place = record { ended = lines; rest = rest; number = number + 1 } in
    let more : Node → Result (List Node × Place) TextFault = λ node. if are_too_many count (leads_with leads node) then Err faults.TreeCount else nodes_in version time (count + 1) (leads_with leads node) (number + 1) rest lines in
    let a = bind_ok (ok_or (node_or_end version time line) (faults.Line number expected.Node)) (λ next. from_node next past more) x e in
    let text = next_node_takes version time line a.0 (ok_or_takes (node_or_end version time line) (faults.Line number expected.Node) a.0 a.1) in
    by_next a.0 text a.2 (λ leads y less less_leads within. nodes_take version time (count + 1) leads (number + 1) rest lines y less less_leads within) where
      by_next : (next : Option Node) → line ≡ line_for next
          → from_node next (record { ended = lines; rest = rest; number = number + 1 }) (λ node. if are_too_many count (leads_with leads node) then Err faults.TreeCount else nodes_in version time (count + 1) (leads_with leads node) (number + 1) rest lines) ≡ Ok x
          → ((leads : ℕ) (y : List Node × Place) → count + 1 ≤ MOST_NODES → leads ≤ MOST_LEADS → nodes_in version time (count + 1) leads (number + 1) rest lines ≡ Ok y → TookNodes (count + 1) leads rest lines y) → TookNodes count leads rest (line ∷ lines) x
      by_next None text e others =
          subst (TookNodes count leads rest (line ∷ lines)) (same_ok ([], record { ended = lines; rest = rest; number = number + 1 }) x e) (record { before = ap (λ l. l ∷ lines) text; after = refl; few = omega arith; few_leads = omega arith })
      by_next (Some node) text e others =
          let now = leads_with leads node in
          let b = bind_ok (if are_too_many count now then Err faults.TreeCount else nodes_in version time (count + 1) now (number + 1) rest lines) (λ others. Ok (node ∷ others.0, others.1)) x e in
          let within = unless (are_too_many count now) faults.TreeCount (nodes_in version time (count + 1) now (number + 1) rest lines) b.0 b.1 in
          let low = neither (count == MOST_NODES) (nat_lt MOST_LEADS now) within.0 in
          let less : count + 1 ≤ MOST_NODES = omega (arith, eqb-false count MOST_NODES low.0) in
          let tail = others now b.0 less (ltb-false MOST_LEADS now low.1) within.1 in
          let sum = leads_more leads node b.0.0 in
          subst (TookNodes count leads rest (line ∷ lines)) (same_ok (node ∷ b.0.0, b.0.1) x b.2)
          (record { before = ap (λ l. l ∷ lines) text ∙ ap (λ ls. node_line node ∷ ls) tail.before; after = tail.after; few = omega (arith, tail.few); few_leads = omega (arith, sum, tail.few_leads) })

-- ---- the schedule and the tree

-- the lines of a schedule that was read
schedule_takes : (plan : Scenario) (place : Place) (x : Schedule × Place) → schedule_at plan place ≡ Ok x → TookLines (schedule_lines plan x.0) place x.1
schedule_takes plan place x e =
    let a = bind_ok (in_text (form_at expected.Schedule schedule_in place)) (after_delays plan) x e in
    let b = bind_ok (order_after plan a.0) (after_order a.0.0) x a.2 in
    let delays = took expected.Schedule schedule_in place a.0 a.1 in
    let order = order_takes plan.time plan a.0.1 b.0 (if_true (is_assignment plan a.0.0) faults.Schedule (order_at plan a.0.1) b.0 b.1).1 in
    let made : Schedule = record { delays = a.0.0; order = b.0.0 } in
    let taken : TookLines (schedule_lines plan made) place b.0.1 = record {
      before = delays.ended ∙ ap (λ l. l ∷ a.0.1.ended) (list_takes (codes "schedule") delays.line a.0.0 delays.has) ∙ ap (λ ls. schedule_line a.0.0 ∷ ls) order.before;
      after = delays.rest ∙ order.after;
    } in
    subst (λ (y : Schedule × Place). TookLines (schedule_lines plan y.0) place y.1) (same_ok (made, b.0.1) x b.2) taken

-- the lines of the nodes that were read, the last of the text
record TookTree (version : Version) (plan : Scenario) (place : Place) (nodes : List Node) : Type 0 where
  before : place.ended ≡ map node_line nodes ++ end_line ∷ []
  after : place.rest ≡ []
  readable : AreReadable nodes
  due : version ≡ version_for plan.time (is_timed plan) (target_waits plan) (length plan.links) nodes

tree_takes : (version : Version) (plan : Scenario) (place : Place) (nodes : List Node) → tree_at version plan place ≡ Ok nodes → TookTree version plan place nodes
tree_takes version plan place nodes e =
    let a = bind_ok (nodes_at version plan.time 0 0 place) (whole version plan) nodes e in
    let due = version_for plan.time (is_timed plan) (target_waits plan) (length plan.links) a.0.0 in
    let b = if_true (is_same_version version due) (faults.Line 1 expected.Convoy) (cond (is_at_end a.0.1) (Ok a.0.0) (Err faults.AfterEnd)) nodes a.2 in
    let last = if_true (is_at_end a.0.1) faults.AfterEnd (Ok a.0.0) nodes b.1 in
    let over = nil_ended a.0.1 last.0 in
    let tree = nodes_take version plan.time 0 0 place.number place.rest place.ended a.0 (omega arith) (omega arith) a.1 in
    subst (TookTree version plan place) (same_ok a.0.0 nodes last.1) (record {
      before = tree.before ∙ ap (λ ls. map node_line a.0.0 ++ end_line ∷ ls) over.0;
      after = tree.after ∙ over.1;
      readable = record { few = omega (arith, tree.few); few_leads = omega (arith, tree.few_leads) };
      due = one_version version due b.0;
    })

-- ---- the certificate

pub certificate_takes : ScenariosAreTheirLines → (text : List ℕ) (c : Certificate) → certificate_of text ≡ Ok c → IsTextOf c text
certificate_takes scenarios text c e =
    let start = place_before text 1 in
    let a = bind_ok (in_text (form_at expected.Convoy version_in start)) after_version c (sym (in_steps text) ∙ e) in
    let v = a.0.0 in
    let b = bind_ok (in_text (scenario_at (lines_version v) a.0.1)) (after_scenario v) c a.2 in
    let plan = b.0.0 in
    let d = bind_ok (in_text (form_at expected.Latency (number_in (codes "latency")) b.0.1)) (after_latency v plan) c b.2 in
    let f = bind_ok (schedule_at plan d.0.1) (after_schedule v plan d.0.0) c d.2 in
    let g = bind_ok (tree_at v plan f.0.1) (after_tree plan d.0.0 f.0.0) c f.2 in
    let made : Certificate = certificate_with plan d.0.0 f.0.0 g.0 in
    let t-version = took expected.Convoy version_in start a.0 a.1 in
    let scenario = (scenarios (lines_version v) plan a.0.1 b.0.1).0 (from_lines (scenario_at (lines_version v) a.0.1) b.0 b.1) in
    let t-scenario = scenario.2 in
    let t-latency = took expected.Latency (number_in (codes "latency")) b.0.1 d.0 d.1 in
    let t-schedule = schedule_takes plan d.0.1 f.0 f.1 in
    let t-tree = tree_takes v plan f.0.1 g.0 g.1 in
    let tail : List (List ℕ) = schedule_lines plan f.0.0 ++ (map node_line g.0 ++ end_line ∷ []) in
    let schedule : d.0.1.ended ≡ tail = t-schedule.before ∙ ap (λ ls. schedule_lines plan f.0.0 ++ ls) t-tree.before in
    let latency : b.0.1.ended ≡ latency_line d.0.0 ∷ tail =
    t-latency.ended ∙ ap (λ l. l ∷ d.0.1.ended) (number_line_takes (codes "latency") t-latency.line d.0.0 t-latency.has).0 ∙ ap (λ ls. latency_line d.0.0 ∷ ls) schedule in
    let all : start.ended ≡ certificate_lines made =
    t-version.ended ∙ ap (λ l. l ∷ a.0.1.ended) (version_takes t-version.line v t-version.has) ∙ ap (λ ls. version_line v ∷ ls) (t-scenario.ended ∙ ap (λ ls. scenario_lines (lines_version v) plan ++ ls) latency)
    ∙ ap (λ (w : Version). version_line w ∷ (scenario_lines (lines_version w) plan ++ (latency_line d.0.0 ∷ tail))) t-tree.due in
    let nothing : start.rest ≡ [] = t-version.rest ∙ t-scenario.rest ∙ t-latency.rest ∙ t-schedule.after ∙ t-tree.after in
    let read : text ≡ certificate_text made = text_takes text (certificate_lines made) (both (lines_in text) (certificate_lines made) all nothing) in
    subst (λ (x : Certificate). IsTextOf x text) (same_ok made c g.2) (read, t-tree.readable)

-- what was read has this text
pub is_found : TextsAreKept → (text : List ℕ) (result : Result Certificate TextFault) → IsUnlessMemory faults.Memory (certificate_of text) result → IfOk result (λ certificate. IsTextOf certificate text)
is_found kept text (Ok c) (inl e) = kept text c (sym e)
is_found kept text (Ok c) (inr e) = absurd cc
is_found kept text (Err fault) given = tt
