-- The text of a certificate is read again.
use Rattle.std.proofs.Common.{◌≡◌, ℕ, suc, ◌+◌, ◌<◌, ◌≤◌, ◌==◌, Bool, true, false, ◌&&◌, ◌||◌, not, cond, List, [], ◌∷◌, ◌++◌, length, map, All, Option, Some, None, option_map, option_and_then, Result, Ok, Err, refl, ap, sym, subst, ◌∙◌, arith, inl, inr, codes, decimal}
use Rattle.std.specs.List.{AllByRecursion, count_by, list_any}
use Rattle.std.proofs.lemmas.Bool.{and_parts, cases_Bool, eqb-true, ne_eqb, cond-true, le-ltb}
use Rattle.std.proofs.lemmas.List.{nil_from_length}
use Rattle.std.proofs.lemmas.List.Elements.{All-head, All-tail, recursion_from_All}
use Rattle.convoy_scenario_lines.specs.declared.line_fault.Expected.{Expected}
use Rattle.convoy_scenario_lines.specs.declared.line_fault.Expected.TheVariants as expected
use Rattle.convoy_scenario_lines.specs.declared.version.Version.{Version as LinesVersion}
use Rattle.convoy_scenario_lines.specs.ScenarioLineLaws.{CanSay, CanSayTime, CanSayLinks, ScenarioLinesAreLines, ScenariosAreTheirLines}
use Rattle.convoy_draft.specs.declared.time.Time.{Time}
use Rattle.convoy_draft.specs.declared.time.Time.TheVariants.{Ticks, Real}
use Rattle.convoy_scenario.specs.Scenario.{Scenario, is_timed}
use Rattle.convoy_scenario.specs.WellFormed.{IsScenario}
use Rattle.convoy_lines.specs.Labels.{number_in}
use Rattle.convoy_lines.specs.LineLaws.{IsWord, IsLine}
use Rattle.convoy_lines.specs.Places.{Lines, Place, place_before, is_at_end, lines_in}
use Rattle.convoy_scenario_lines.specs.LineReading.{form_at, scenario_at}
use Rattle.convoy_scenario_lines.specs.ScenarioLines.{scenario_lines}
use Rattle.convoy_packets.specs.Assignment.{AreWithin, IsAssignment, Schedule, ranges_of, range_of}
use Rattle.convoy_packets.specs.Order.{IsOrder, Order, no_order}
use Rattle.convoy_packets.specs.OrderLists.{order_of}
use Rattle.convoy_lines.specs.Texts.{line_of}
use Rattle.convoy_packets.proofs.Ranges.{range_lawful}
use Rattle.convoy_packets.specs.Packets.{packets_of}
use Rattle.convoy_packets.specs.declared.packet.Packet.{Packet}
use Rattle.convoy_certificate.specs.declared.certificate.TheConstants.{MOST_LEADS, MOST_NODES}
use Rattle.convoy_certificate.specs.declared.node.Node.{Node}
use Rattle.convoy_certificate.specs.declared.node.Node.TheVariants.{Split, Bound, Point, Stamp, Lead, Order as OrderSplit}
use Rattle.convoy_certificate.specs.declared.version.Version.{Version}
use Rattle.convoy_certificate.specs.declared.version.Version.TheVariants.{One, Two, Three, Four, Five}
use Rattle.convoy_certificate.specs.declared.text_fault.TextFault.{TextFault}
use Rattle.convoy_certificate.specs.declared.text_fault.TextFault.TheVariants as faults
use Rattle.convoy_certificate.specs.Certificate.{Certificate, IsNode, IsNodeWhere, IsCertificate}
use Rattle.convoy_certificate.specs.Forms.{version_in, numbers_in, list_in, schedule_in, order_in, node_or_end, greatest_listed}
use Rattle.convoy_certificate.specs.Reading.{in_text, is_same_version, whole, is_assignment, is_order_list, order_in_time, order_at, leads_with, are_too_many, nodes_in, nodes_at, schedule_at, tree_at, certificate_of, AreReadable, IsTextOf}
use Rattle.convoy_certificate.specs.CertificateLaws.{TextsAreRead}
use Rattle.convoy_scenario.specs.Memory.{IsUnlessMemory}
use Rattle.convoy_certificate.specs.Text.{is_stamp, is_lead, decides_ties, says_time, lines_version, target_waits, version_for, version_of, version_line, latency_line, schedule_line, order_line, order_lines, ranks_written, schedule_lines, node_line, end_line, certificate_lines, certificate_text}
use Rattle.convoy_certificate.proofs.Assigned.{passes}
use Rattle.convoy_certificate.proofs.Orders.{IsWritten, written}
use Rattle.convoy_certificate.proofs.Parts.{says_again}
use Rattle.convoy_certificate.proofs.Taken.{one_version}
use Rattle.convoy_certificate.proofs.Steps.{after_version, after_scenario, after_latency, after_schedule, after_tree, after_delays, order_after, after_order, read_from, in_steps, then_ok}
use Rattle.convoy_lines.proofs.LabelLemmas.{label_again, number_line_again}
use Rattle.convoy_lines.proofs.Spelling.{AreWords, AreLines, known_word, lines_append, decimal_word, number_again, line_lacks, lines_again}
use Rattle.convoy_certificate.proofs.NodeLaws.{packet_fits, place_fits, neither, leads_more, split_again, order_split_again, lead_again}

-- ---- the schedule

schedule_word : IsWord (codes "schedule")
schedule_word = known_word (codes "schedule") refl

order_word : IsWord (codes "order")
order_word = known_word (codes "order") refl

-- numbers that fit the form
abbrev pub Small : List ℕ → Type 0
Small numbers = AllByRecursion (λ n. n ≤ greatest_listed) numbers

small_within : (plan : Scenario) (packets : List Packet) (delays : List ℕ) → IsScenario plan → AreWithin (map (range_of plan) packets) delays → Small delays
small_within plan [] [] low within = tt
small_within plan [] (d ∷ ds) low within = absurd within
small_within plan (p ∷ ps) [] low within = absurd within
small_within plan (p ∷ ps) (d ∷ ds) low within = (omega (arith, within.0.1, (range_lawful plan p low).high), small_within plan ps ds low within.1)

pub small_assigned : (plan : Scenario) (schedule : Schedule) → IsScenario plan → IsAssignment plan schedule → Small schedule.delays
unfolding ranges_of
small_assigned plan schedule low is = small_within plan (packets_of plan) schedule.delays low is.delays

form_again : {A : Type 0} (expected : Expected) (form : List ℕ → Option A) (number : ℕ) (rest line : List ℕ) (lines : List (List ℕ)) (x : A) → form line ≡ Some x
    → in_text (form_at expected form (record { ended = line ∷ lines; rest = rest; number = number })) ≡ Ok (x, record { ended = lines; rest = rest; number = number + 1 })
form_again expected form number rest line lines x e = rw e refl

assigned : (plan : Scenario) (schedule : Schedule) → IsAssignment plan schedule → is_assignment plan schedule.delays ≡ true
assigned plan schedule is = passes (ranges_of plan) schedule.delays is.delays

parts : {A : Type 0} (x y : A) (xs ys : List A) → x ∷ xs ≡ y ∷ ys → (x ≡ y) × (xs ≡ ys)
parts x y xs ys e = (cc, cc)

same_ok : {A : Type 0} {E : Type 0} (x y : A) → ◌≡◌ {A = Result A E} (Ok x) (Ok y) → x ≡ y
same_ok x y e = cc

same_some : {A : Type 0} (x y : A) → Some x ≡ Some y → x ≡ y
same_some x y e = cc

abbrev after_at : List (List ℕ) → ℕ → Place
after_at ls n = record { ended = ls; rest = []; number = n }

abbrev tail_of : Certificate → List (List ℕ)
tail_of c = latency_line c.latency ∷ (schedule_lines c.scenario c.schedule ++ (map node_line c.nodes ++ end_line ∷ []))

-- ---- versions

-- the version has lines for nodes that decide ties, where time goes so
abbrev ties_listed : Version → Time → Bool
ties_listed version Ticks = true
ties_listed version Real = is_same_version version Five

abbrev leads_listed : Version → Bool
leads_listed version = is_same_version version Three || is_same_version version Four || is_same_version version Five

-- the version has a line for such a node, where time goes so
abbrev is_listed : Version → Time → Node → Bool
is_listed version time (OrderSplit first second) = ties_listed version time
is_listed version time Point = ties_listed version time
is_listed version time Stamp = not (is_same_version version One)
is_listed version time (Lead latency) = leads_listed version
is_listed version time node = true

abbrev Lists : Version → Time → List Node → Type 0
Lists version time nodes = AllByRecursion (λ node. is_listed version time node ≡ true) nodes

not_true : (b : Bool) → not b ≡ true → b ≡ false
not_true false e = refl
not_true true e = absurd cc

-- a version that has all kinds of nodes has a line for each of them
lists_each : (version : Version) (time : Time) → is_same_version version One ≡ false → leads_listed version ≡ true → ties_listed version time ≡ true → (nodes : List Node) → Lists version time nodes
lists_each version time later leads ties [] = tt
lists_each version time later leads ties (node ∷ nodes) = (one node, lists_each version time later leads ties nodes) where
  one : (node : Node) → is_listed version time node ≡ true
  one (Split packet at) = refl
  one (OrderSplit first second) = ties
  one Bound = refl
  one Point = ties
  one Stamp = rw later refl
  one (Lead latency) = leads

lists_four : (nodes : List Node) → list_any decides_ties nodes ≡ false → Lists Four Real nodes
lists_four [] none = tt
lists_four (node ∷ nodes) none =
    let parts = neither (decides_ties node) (list_any decides_ties nodes) none in
    (one node parts.0, lists_four nodes parts.1) where
      one : (node : Node) → decides_ties node ≡ false → is_listed Four Real node ≡ true
      one (Split packet at) other = refl
      one (OrderSplit first second) other = absurd cc
      one Bound other = refl
      one Point other = absurd cc
      one Stamp other = refl
      one (Lead latency) other = refl

lists_two : (nodes : List Node) → list_any is_lead nodes ≡ false → Lists Two Ticks nodes
lists_two [] none = tt
lists_two (node ∷ nodes) none =
    let parts = neither (is_lead node) (list_any is_lead nodes) none in
    (one node parts.0, lists_two nodes parts.1) where
      one : (node : Node) → is_lead node ≡ false → is_listed Two Ticks node ≡ true
      one (Split packet at) other = refl
      one (OrderSplit first second) other = refl
      one Bound other = refl
      one Point other = refl
      one Stamp other = refl
      one (Lead latency) other = absurd cc

lists_one : (nodes : List Node) → list_any is_lead nodes ≡ false → list_any is_stamp nodes ≡ false → Lists One Ticks nodes
lists_one [] none unstamped = tt
lists_one (node ∷ nodes) none unstamped =
    let leads = neither (is_lead node) (list_any is_lead nodes) none in
    let stamps = neither (is_stamp node) (list_any is_stamp nodes) unstamped in
    (one node leads.0 stamps.0, lists_one nodes leads.1 stamps.1) where
      one : (node : Node) → is_lead node ≡ false → is_stamp node ≡ false → is_listed One Ticks node ≡ true
      one (Split packet at) other unstamped = refl
      one (OrderSplit first second) other unstamped = refl
      one Bound other unstamped = refl
      one Point other unstamped = refl
      one Stamp other unstamped = absurd cc
      one (Lead latency) other unstamped = absurd cc

-- the version can say how time goes and the links, and has a line for each of the nodes where time goes so
record IsOwn (plan : Scenario) (time : Time) (nodes : List Node) (version : Version) : Type 0 where
  timed : CanSayTime (lines_version version) plan
  linked : CanSayLinks (lines_version version) plan.links
  lists : Lists version time nodes

own_for : (plan : Scenario) (time : Time) (timed waits : Bool) (nodes : List Node) → plan.time ≡ time → is_timed plan ≡ timed → IsOwn plan time nodes (version_for time timed waits (length plan.links) nodes)
own_for plan Real true true nodes goes is = record { timed = tt; linked = tt; lists = lists_each Five Real refl refl refl nodes }
own_for plan Ticks true true nodes goes is = record { timed = tt; linked = tt; lists = lists_each Five Ticks refl refl refl nodes }
own_for plan Real true false nodes goes is =
    elim (cases_Bool (list_any decides_ties nodes)) [
      | inl tied ↦ rw tied (record { timed = tt; linked = tt; lists = lists_each Five Real refl refl refl nodes })
      | inr none ↦ rw none (record { timed = tt; linked = tt; lists = lists_four nodes none })
    ]
own_for plan Real false waits nodes goes is = let timed : true ≡ false = rw goes at is in absurd cc
own_for plan Ticks true false nodes goes is = record { timed = tt; linked = tt; lists = lists_each Four Ticks refl refl refl nodes }
own_for plan Ticks false waits nodes goes is =
    elim (cases_Bool (list_any is_lead nodes)) [
      | inl led ↦ rw led (record { timed = is; linked = tt; lists = lists_each Three Ticks refl refl refl nodes })
      | inr none ↦
          elim (cases_Bool (length plan.links == 0 && not (list_any is_stamp nodes))) [
            | inl one ↦
                let both = and_parts (length plan.links == 0) (not (list_any is_stamp nodes)) one in
                rw (none, one) (record { timed = is; linked = nil_from_length plan.links (eqb-true _ _ both.0); lists = lists_one nodes none (not_true (list_any is_stamp nodes) both.1) })
            | inr two ↦ rw (none, two) (record { timed = is; linked = tt; lists = lists_two nodes none })
          ]
    ]

-- the version in which a certificate is written is its own
own : (c : Certificate) → IsOwn c.scenario c.scenario.time c.nodes (version_of c)
own c = own_for c.scenario c.scenario.time (is_timed c.scenario) (target_waits c.scenario) c.nodes refl refl

said : (c : Certificate) → CanSay (lines_version (version_of c)) c.scenario
said c = let mine = own c in record { time = mine.timed; links = mine.linked }

-- the nodes of a certificate are nodes where the lines of its version say what they say of time
abbrev NodesOf : Version → Time → List Node → Type 0
NodesOf version time nodes = All (IsNodeWhere (says_time version) time) nodes

nodes_of : (c : Certificate) → IsCertificate c → NodesOf (version_of c) c.scenario.time c.nodes
nodes_of c is = subst (λ (timed : Bool). All (IsNodeWhere timed c.scenario.time) c.nodes) (sym (says_again c.scenario.time (is_timed c.scenario) (target_waits c.scenario) (length c.scenario.links) c.nodes)) is.nodes

version_again : (version : Version) → version_in (version_line version) ≡ Some version
version_again One = refl
version_again Two = refl
version_again Three = refl
version_again Four = refl
version_again Five = refl

version_line_is : (version : Version) → IsLine (version_line version)
version_line_is One = refl
version_line_is Two = refl
version_line_is Three = refl
version_line_is Four = refl
version_line_is Five = refl

same_version : (version : Version) → is_same_version version version ≡ true
same_version One = refl
same_version Two = refl
same_version Three = refl
same_version Four = refl
same_version Five = refl

whole_again : (c : Certificate) (past : Place) → is_at_end past ≡ true → whole (version_of c) c.scenario (c.nodes, past) ≡ Ok c.nodes
whole_again c past end = rw (same_version (version_of c), end) refl

-- ---- how many nodes there are

not_too_many : (count leads : ℕ) → count < MOST_NODES → leads ≤ MOST_LEADS → are_too_many count leads ≡ false
not_too_many count leads few few_leads = rw (ne_eqb count MOST_NODES (λ e. omega arith), le-ltb MOST_LEADS leads few_leads) refl

-- ---- the lines of an order

-- the order is read where time goes so and its lines stand, and what follows them is left
abbrev OrderReads : Time → Scenario → Order → ℕ → List (List ℕ) → List (List ℕ) → Type 0
OrderReads time plan order number more lines =
    order_in_time time plan (after_at (lines ++ more) number) ≡ Ok (order, after_at more (number + length lines))

fixed_read : (order : Order) (number : ℕ) (more : List (List ℕ)) → order ≡ no_order → ◌≡◌ {A = Result (Order × Place) TextFault} (Ok (no_order, after_at more number)) (Ok (order, after_at more (number + 0)))
fixed_read order number more e =
    let here : number + 0 ≡ number = omega arith in
    rw (e, here) refl

small_words : (numbers : List ℕ) → Small numbers → AreWords (map decimal numbers)
small_words [] small = tt
small_words (n ∷ ns) small = (decimal_word n (omega (arith, small.0)), small_words ns small.1)

numbers_again : (numbers : List ℕ) → Small numbers → numbers_in (map decimal numbers) ≡ Some numbers
numbers_again [] small = refl
numbers_again (n ∷ ns) small = rw (number_again greatest_listed n (omega arith) small.0, numbers_again ns small.1) refl

list_again : (label numbers : List ℕ) → IsWord label → Small numbers → list_in label (line_of label (map decimal numbers)) ≡ Some numbers
list_again label numbers is small =
    ap (option_and_then numbers_in) (label_again label (map decimal numbers) is (small_words numbers small)) ∙ numbers_again numbers small

list_line : (label numbers : List ℕ) → IsWord label → Small numbers → IsLine (line_of label (map decimal numbers))
list_line label numbers is small = line_lacks label (map decimal numbers) is.endless (small_words numbers small)

-- ---- the order of ties

order_lines_are : (time : Time) (ranks : List ℕ) → Small ranks → AreLines (order_lines time ranks)
order_lines_are Ticks ranks small = tt
order_lines_are Real ranks small = (list_line (codes "order") ranks order_word small, tt)

order_read : (plan : Scenario) (order : Order) (ranks : List ℕ) (number : ℕ) (more : List (List ℕ)) → IsWritten plan order ranks → OrderReads Real plan order number more (order_line ranks ∷ [])
order_read plan order ranks number more is =
    let past = after_at more (number + 1) in
    then_ok (in_text (form_at expected.Order order_in (after_at (order_line ranks ∷ more) number)))
    (λ read. cond (is_order_list plan read.0) (Ok (order_of plan read.0, read.1)) (Err faults.Schedule)) (ranks, past) (Ok (order, past))
    (form_again expected.Order order_in number [] (order_line ranks) more ranks (list_again (codes "order") ranks order_word is.small))
    (cond-true (is_order_list plan ranks) (Ok (order_of plan ranks, past)) (Err faults.Schedule) is.is_list ∙ ap (λ (o : Order). Ok (o, past)) is.gives)

order_again : (time : Time) (plan : Scenario) (order : Order) (number : ℕ) (more : List (List ℕ)) → plan.time ≡ time → IsOrder plan order
    → OrderReads time plan order number more (order_lines time (ranks_written plan order))
order_again Ticks plan order number more ticks is = fixed_read order number more (is.fixed ticks)
order_again Real plan order number more real is = order_read plan order (ranks_written plan order) number more (written plan order is)

-- ---- nodes

-- a leaf of whole ticks is read where time goes so
in_ticks_again : (version : Version) (time : Time) (node : Node) (line : List ℕ) → time ≡ Ticks → node_or_end version Ticks line ≡ Some (Some node) → node_or_end version time line ≡ Some (Some node)
in_ticks_again version time node line ticks e = ap (λ (t : Time). node_or_end version t line) ticks ∙ e

-- a node that decides ties is read in real time in the version that has such nodes
ties_again : (version : Version) (time : Time) (node : Node) (line : List ℕ) → time ≡ Real → ties_listed version time ≡ true → node_or_end Five Real line ≡ Some (Some node) → node_or_end version time line ≡ Some (Some node)
ties_again version time node line real listed e =
    let five : version ≡ Five = one_version version Five (rw real at listed) in
    ap (λ (t : Time). node_or_end version t line) real ∙ ap (λ (v : Version). node_or_end v Real line) five ∙ e

node_again : (version : Version) (time : Time) (node : Node) → IsNodeWhere (says_time version) time node → is_listed version time node ≡ true → node_or_end version time (node_line node) ≡ Some (Some node)
node_again version time (Split packet at) is listed = ap (option_map (λ node. Some node)) (split_again version time packet at is.0 is.1 is.2)
node_again version time (OrderSplit first second) is listed =
    ties_again version time (OrderSplit first second) (node_line (OrderSplit first second)) is.0 listed (ap (option_map (λ node. Some node)) (order_split_again first second is.1 is.2))
node_again version time Bound is listed = refl
node_again version Ticks Point is listed = refl
node_again version Real Point is listed = ties_again version Real Point (codes "p") refl listed refl
node_again One time Stamp is listed = absurd cc
node_again Two time Stamp is listed = in_ticks_again Two time Stamp (codes "t") is refl
node_again Three time Stamp is listed = in_ticks_again Three time Stamp (codes "t") is refl
node_again Four time Stamp is listed = in_ticks_again Four time Stamp (codes "t") is refl
node_again Five time Stamp is listed = in_ticks_again Five time Stamp (codes "t") is refl
node_again One time (Lead latency) is listed = absurd cc
node_again Two time (Lead latency) is listed = absurd cc
node_again Three time (Lead latency) is listed = ap (option_map (λ node. Some node)) (lead_again Three time latency (λ words. refl) (omega (arith, is)))
node_again Four time (Lead latency) is listed = ap (option_map (λ node. Some node)) (lead_again Four time latency (λ words. refl) (omega (arith, is)))
node_again Five time (Lead latency) is listed = ap (option_map (λ node. Some node)) (lead_again Five time latency (λ words. refl) (omega (arith, is)))

nodes_again : (version : Version) (time : Time) (nodes : List Node) (count leads number : ℕ) (rest : List ℕ) (more : List (List ℕ)) → NodesOf version time nodes → Lists version time nodes → count + length nodes ≤ MOST_NODES → leads + count_by is_lead nodes ≤ MOST_LEADS
    → nodes_in version time count leads number rest (map node_line nodes ++ end_line ∷ more) ≡ Ok (nodes, record { ended = more; rest = rest; number = number + length nodes + 1 })
unfolding nodes_in
nodes_again version time [] count leads number rest more are listed few few_leads = let e : number + 0 + 1 ≡ number + 1 = omega arith in rw e refl
nodes_again version time (node ∷ nodes) count leads number rest more are listed few few_leads =
    let sum = leads_more leads node nodes in
    let below : are_too_many count (leads_with leads node) ≡ false = not_too_many count (leads_with leads node) (omega arith) (omega (arith, sum)) in
    let e : number + suc (length nodes) + 1 ≡ (number + 1) + length nodes + 1 = omega arith in
    let is = All-head (IsNodeWhere (says_time version) time) node nodes are in
    let others = All-tail (IsNodeWhere (says_time version) time) node nodes are in
    rw (node_again version time node is listed.0, below, nodes_again version time nodes (count + 1) (leads_with leads node) (number + 1) rest more others listed.1 (omega arith) (omega (arith, sum)), e) refl

-- ---- no line has a byte 10 in it

node_lines : (plan : Scenario) (nodes : List Node) → All (IsNode plan) nodes → AreLines (map node_line nodes)
node_lines plan [] are = tt
node_lines plan (node ∷ nodes) are = (one node (All-head (IsNode plan) node nodes are), node_lines plan nodes (All-tail (IsNode plan) node nodes are)) where
  timed : Bool
  timed = is_timed plan

  one : (node : Node) → IsNode plan node → IsLine (node_line node)
  one (Split packet at) is = line_lacks (codes "s") (decimal packet ∷ decimal at ∷ []) refl (decimal_word packet (omega (arith, is.0, packet_fits timed)), (decimal_word at (omega (arith, is.2, place_fits timed)), tt))
  one (OrderSplit first second) is = line_lacks (codes "o") (decimal first ∷ decimal second ∷ []) refl (decimal_word first (omega (arith, is.1, is.2)), (decimal_word second (omega (arith, is.2)), tt))
  one Bound is = refl
  one Point is = refl
  one Stamp is = refl
  one (Lead latency) is = line_lacks (codes "c") (decimal latency ∷ []) refl (decimal_word latency (omega (arith, is)), tt)

lines_are : ScenarioLinesAreLines → (c : Certificate) → IsCertificate c → AreLines (certificate_lines c)
lines_are lines c is =
    let small = small_assigned c.scenario c.schedule is.scenario is.assigned in
    let ranks = ranks_written c.scenario c.schedule.order in
    let ties = order_lines c.scenario.time ranks in
    let nodes : List (List ℕ) = map node_line c.nodes ++ end_line ∷ [] in (
      version_line_is (version_of c),
      lines_append (scenario_lines (lines_version (version_of c)) c.scenario) (tail_of c) (recursion_from_All IsLine (scenario_lines (lines_version (version_of c)) c.scenario) (lines (lines_version (version_of c)) c.scenario is.scenario)) (
        line_lacks (codes "latency") (decimal c.latency ∷ []) refl (decimal_word c.latency (omega (arith, is.latency)), tt),
        (
          list_line (codes "schedule") c.schedule.delays schedule_word small,
          lines_append ties nodes (order_lines_are c.scenario.time ranks (written c.scenario c.schedule.order is.assigned.order).small)
              (lines_append (map node_line c.nodes) (end_line ∷ []) (node_lines c.scenario c.nodes is.nodes) (refl, tt)),
        ),
      ),
    )

-- ---- the certificate

scenario_again : ScenariosAreTheirLines → (version : LinesVersion) (plan : Scenario) (more : List (List ℕ)) → IsScenario plan → CanSay version plan
    → scenario_at version (record { ended = scenario_lines version plan ++ more; rest = []; number = 2 }) ≡ Ok (plan, record { ended = more; rest = []; number = 2 + length (scenario_lines version plan) })
scenario_again scenarios version plan more is said =
    (scenarios version plan (record { ended = scenario_lines version plan ++ more; rest = []; number = 2 }) (record { ended = more; rest = []; number = 2 + length (scenario_lines version plan) })).1
    (is, said, record { ended = refl; rest = refl; number = refl })

schedule_again : (plan : Scenario) (schedule : Schedule) (number : ℕ) (more : List (List ℕ)) → IsScenario plan → IsAssignment plan schedule
    → schedule_at plan (after_at (schedule_lines plan schedule ++ more) number) ≡ Ok (schedule, after_at more (number + 1 + length (order_lines plan.time (ranks_written plan schedule.order))))
schedule_again plan schedule number more low is =
    let delays = schedule.delays in
    let ties : List (List ℕ) = order_lines plan.time (ranks_written plan schedule.order) in
    let place = after_at (ties ++ more) (number + 1) in
    let past = after_at more (number + 1 + length ties) in
    then_ok (in_text (form_at expected.Schedule schedule_in (after_at (schedule_line delays ∷ (ties ++ more)) number))) (after_delays plan) (delays, place) (Ok (schedule, past))
    (form_again expected.Schedule schedule_in number [] (schedule_line delays) (ties ++ more) delays (list_again (codes "schedule") delays schedule_word (small_assigned plan schedule low is)))
    (then_ok (order_after plan (delays, place)) (after_order delays) (schedule.order, past) (Ok (schedule, past))
    (cond-true (is_assignment plan delays) (order_at plan place) (Err faults.Schedule) (assigned plan schedule is) ∙ order_again plan.time plan schedule.order (number + 1) more refl is.order) refl)

tree_again : (c : Certificate) (number : ℕ) → IsCertificate c → AreReadable c.nodes → tree_at (version_of c) c.scenario (after_at (map node_line c.nodes ++ end_line ∷ []) number) ≡ Ok c.nodes
tree_again c number is readable =
    let past = after_at [] (number + length c.nodes + 1) in
    then_ok (nodes_at (version_of c) c.scenario.time 0 0 (after_at (map node_line c.nodes ++ end_line ∷ []) number)) (whole (version_of c) c.scenario) (c.nodes, past) (Ok c.nodes)
    (nodes_again (version_of c) c.scenario.time c.nodes 0 0 number [] [] (nodes_of c is) (own c).lists (omega (arith, readable.few)) (omega (arith, readable.few_leads))) (whole_again c past refl)

pub certificate_again : ScenarioLinesAreLines → ScenariosAreTheirLines → (c : Certificate) → IsCertificate c → AreReadable c.nodes → certificate_of (certificate_text c) ≡ Ok c
certificate_again lines scenarios c is readable =
    let plan = c.scenario in
    let v = version_of c in
    let nodes : List (List ℕ) = map node_line c.nodes ++ end_line ∷ [] in
    let ties : List (List ℕ) = schedule_lines plan c.schedule in
    let n : ℕ = 2 + length (scenario_lines (lines_version v) plan) in
    let m : ℕ = n + 1 + 1 + length (order_lines plan.time (ranks_written plan c.schedule.order)) in
    let p0 = after_at (certificate_lines c) 1 in
    let p1 = after_at (scenario_lines (lines_version v) plan ++ tail_of c) 2 in
    let p2 = after_at (tail_of c) n in
    let p3 = after_at (ties ++ nodes) (n + 1) in
    let p4 = after_at nodes m in
    let start : place_before (certificate_text c) 1 ≡ p0 =
    ap (λ (l : Lines). record { ended = l.ended; rest = l.rest; number = 1 }) (lines_again (certificate_lines c) (lines_are lines c is)) in
    let by_schedule : after_schedule v plan c.latency (c.schedule, p4) ≡ Ok c =
    then_ok (tree_at v plan p4) (after_tree plan c.latency c.schedule) c.nodes (Ok c) (tree_again c m is readable) refl in
    let by_latency : after_latency v plan (c.latency, p3) ≡ Ok c =
    then_ok (schedule_at plan p3) (after_schedule v plan c.latency) (c.schedule, p4) (Ok c) (schedule_again plan c.schedule (n + 1) nodes is.scenario is.assigned) by_schedule in
    let by_scenario : after_scenario v (plan, p2) ≡ Ok c =
    then_ok (in_text (form_at expected.Latency (number_in (codes "latency")) p2)) (after_latency v plan) (c.latency, p3) (Ok c)
    (form_again expected.Latency (number_in (codes "latency")) n [] (latency_line c.latency) (ties ++ nodes) c.latency (number_line_again (codes "latency") c.latency (known_word (codes "latency") refl) (omega (arith, is.latency)))) by_latency in
    let by_version : after_version (v, p1) ≡ Ok c =
    then_ok (in_text (scenario_at (lines_version v) p1)) (after_scenario v) (plan, p2) (Ok c)
    (ap in_text (scenario_again scenarios (lines_version v) plan (tail_of c) is.scenario (said c))) by_scenario in
    let read : read_from p0 ≡ Ok c =
    then_ok (in_text (form_at expected.Convoy version_in p0)) after_version (v, p1) (Ok c)
    (form_again expected.Convoy version_in 1 [] (version_line v) (scenario_lines (lines_version v) plan ++ tail_of c) v (version_again v)) by_version in
    in_steps (certificate_text c) ∙ ap read_from start ∙ read

-- ---- two certificates with one text

nodes_unique : (version : Version) (time : Time) (xs ys : List Node) → NodesOf version time xs → NodesOf version time ys → Lists version time xs → Lists version time ys → map node_line xs ++ end_line ∷ [] ≡ map node_line ys ++ end_line ∷ [] → xs ≡ ys
nodes_unique version time [] [] p q l m e = refl
nodes_unique version time [] (y ∷ ys) p q l m e =
    let h = parts end_line (node_line y) [] (map node_line ys ++ end_line ∷ []) e in
    let f : Some None ≡ Some (Some y) = ap (node_or_end version time) h.0 ∙ node_again version time y (All-head (IsNodeWhere (says_time version) time) y ys q) m.0 in
    let g : None ≡ Some y = same_some None (Some y) f in absurd cc
nodes_unique version time (x ∷ xs) [] p q l m e =
    let h = parts (node_line x) end_line (map node_line xs ++ end_line ∷ []) [] e in
    let f : Some (Some x) ≡ Some None = sym (node_again version time x (All-head (IsNodeWhere (says_time version) time) x xs p) l.0) ∙ ap (node_or_end version time) h.0 in
    let g : Some x ≡ None = same_some (Some x) None f in absurd cc
nodes_unique version time (x ∷ xs) (y ∷ ys) p q l m e =
    let h = parts (node_line x) (node_line y) (map node_line xs ++ end_line ∷ []) (map node_line ys ++ end_line ∷ []) e in
    let f : Some (Some x) ≡ Some (Some y) = sym (node_again version time x (All-head (IsNodeWhere (says_time version) time) x xs p) l.0) ∙ ap (node_or_end version time) h.0 ∙ node_again version time y (All-head (IsNodeWhere (says_time version) time) y ys q) m.0 in
    let one : x ≡ y = same_some x y (same_some (Some x) (Some y) f) in
    ap (λ n. n ∷ xs) one ∙ ap (λ ns. y ∷ ns) (nodes_unique version time xs ys (All-tail (IsNodeWhere (says_time version) time) x xs p) (All-tail (IsNodeWhere (says_time version) time) y ys q) l.1 m.1 h.1)

-- two certificates with one text are equal
pub is_unique : ScenarioLinesAreLines → ScenariosAreTheirLines → (b c : Certificate) → IsCertificate b → IsCertificate c → certificate_text b ≡ certificate_text c → b ≡ c
is_unique lines scenarios b c p q e =
    let same : certificate_lines b ≡ certificate_lines c =
    ap (λ (l : Lines). l.ended) (sym (lines_again (certificate_lines b) (lines_are lines b p)) ∙ ap lines_in e ∙ lines_again (certificate_lines c) (lines_are lines c q)) in
    let top = parts (version_line (version_of b)) (version_line (version_of c)) (scenario_lines (lines_version (version_of b)) b.scenario ++ tail_of b) (scenario_lines (lines_version (version_of c)) c.scenario ++ tail_of c) same in
    let version : version_of b ≡ version_of c = same_some (version_of b) (version_of c) (sym (version_again (version_of b)) ∙ ap version_in top.0 ∙ version_again (version_of c)) in
    let one = scenario_again scenarios (lines_version (version_of b)) b.scenario (tail_of b) p.scenario (said b) in
    let two = scenario_again scenarios (lines_version (version_of c)) c.scenario (tail_of c) q.scenario (said c) in
    let read = same_ok (b.scenario, after_at (tail_of b) (2 + length (scenario_lines (lines_version (version_of b)) b.scenario))) (c.scenario, after_at (tail_of c) (2 + length (scenario_lines (lines_version (version_of c)) c.scenario)))
    (sym one ∙ ap (λ ls. scenario_at (lines_version (version_of b)) (after_at ls 2)) top.1 ∙ ap (λ v. scenario_at (lines_version v) (after_at (scenario_lines (lines_version (version_of c)) c.scenario ++ tail_of c) 2)) version ∙ two) in
    let scenario : b.scenario ≡ c.scenario = ap (λ (x : Scenario × Place). x.0) read in
    let tails : tail_of b ≡ tail_of c = ap (λ (x : Scenario × Place). x.1.ended) read in
    let first = parts (latency_line b.latency) (latency_line c.latency) _ _ tails in
    let second = parts (schedule_line b.schedule.delays) (schedule_line c.schedule.delays) _ _ first.1 in
    let latency : b.latency ≡ c.latency = same_some b.latency c.latency
    (sym (number_line_again (codes "latency") b.latency (known_word (codes "latency") refl) (omega (arith, p.latency))) ∙ ap (number_in (codes "latency")) first.0 ∙ number_line_again (codes "latency") c.latency (known_word (codes "latency") refl) (omega (arith, q.latency))) in
    let small = small_assigned b.scenario b.schedule p.scenario p.assigned in
    let others = small_assigned c.scenario c.schedule q.scenario q.assigned in
    let delays : b.schedule.delays ≡ c.schedule.delays = same_some b.schedule.delays c.schedule.delays
    (sym (list_again (codes "schedule") b.schedule.delays schedule_word small) ∙ ap schedule_in second.0 ∙ list_again (codes "schedule") c.schedule.delays schedule_word others) in
    let ends : Certificate → List (List ℕ) = λ x. map node_line x.nodes ++ end_line ∷ [] in
    let ties : List (List ℕ) = order_lines c.scenario.time (ranks_written c.scenario c.schedule.order) in
    let three = order_again b.scenario.time b.scenario b.schedule.order 0 (ends b) refl p.assigned.order in
    let four = order_again c.scenario.time c.scenario c.schedule.order 0 (ends c) refl q.assigned.order in
    let tied = same_ok (b.schedule.order, after_at (ends b) (0 + length (order_lines b.scenario.time (ranks_written b.scenario b.schedule.order)))) (c.schedule.order, after_at (ends c) (0 + length ties))
    (sym three ∙ ap (λ ls. order_at b.scenario (after_at ls 0)) second.1 ∙ ap (λ (plan : Scenario). order_at plan (after_at (ties ++ ends c) 0)) scenario ∙ four) in
    let order : b.schedule.order ≡ c.schedule.order = ap (λ (x : Order × Place). x.0) tied in
    let ended : map node_line b.nodes ++ end_line ∷ [] ≡ map node_line c.nodes ++ end_line ∷ [] = ap (λ (x : Order × Place). x.1.ended) tied in
    let time : b.scenario.time ≡ c.scenario.time = ap (λ (x : Scenario). x.time) scenario in
    let theirs : NodesOf (version_of b) b.scenario.time c.nodes =
    subst (λ (v : Version). NodesOf v b.scenario.time c.nodes) (sym version) (subst (λ (t : Time). NodesOf (version_of c) t c.nodes) (sym time) (nodes_of c q)) in
    let listed : Lists (version_of b) b.scenario.time c.nodes =
    subst (λ (v : Version). Lists v b.scenario.time c.nodes) (sym version) (subst (λ (t : Time). Lists (version_of c) t c.nodes) (sym time) (own c).lists) in
    let nodes : b.nodes ≡ c.nodes = nodes_unique (version_of b) b.scenario.time b.nodes c.nodes (nodes_of b p) theirs (own b).lists listed ended in
    made scenario latency delays order nodes where
      made : b.scenario ≡ c.scenario → b.latency ≡ c.latency → b.schedule.delays ≡ c.schedule.delays → b.schedule.order ≡ c.schedule.order → b.nodes ≡ c.nodes → b ≡ c
      made s l d o n =
          ap (λ (x : Scenario). record { scenario = x; latency = b.latency; schedule = b.schedule; nodes = b.nodes }) s
          ∙ ap (λ (x : ℕ). record { scenario = c.scenario; latency = x; schedule = b.schedule; nodes = b.nodes }) l
          ∙ ap (λ (x : List ℕ). record { scenario = c.scenario; latency = c.latency; schedule = record { delays = x; order = b.schedule.order }; nodes = b.nodes }) d
          ∙ ap (λ (x : Order). record { scenario = c.scenario; latency = c.latency; schedule = record { delays = c.schedule.delays; order = x }; nodes = b.nodes }) o
          ∙ ap (λ (x : List Node). record { scenario = c.scenario; latency = c.latency; schedule = c.schedule; nodes = x }) n

-- what spells a certificate is read
pub is_read : TextsAreRead → (text : List ℕ) (c : Certificate) (result : Result Certificate TextFault) → IsCertificate c → IsTextOf c text → IsUnlessMemory faults.Memory (certificate_of text) result → IsUnlessMemory faults.Memory (Ok c) result
is_read again text c result is spelled (inl e) = inl (e ∙ ap certificate_of spelled.0 ∙ again c is spelled.1)
is_read again text c result is spelled (inr e) = inr e
