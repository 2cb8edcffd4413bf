-- How many bytes the lines of a certificate have at most, and its text.
use Rattle.std.proofs.Common.{◌≡◌, ℕ, zero, suc, ◌+◌, ◌-◌, ◌*◌, ◌<◌, ◌≤◌, ◌^◌, nat_le, ◌==◌, Bool, true, false, cond, ◌&&◌, not, Option, Some, None, List, [], ◌∷◌, ◌++◌, length, length-append, map, get_or, ap, ◌∙◌, arith, refl, codes, decimal}
use Rattle.std.specs.List.{AllByRecursion, flat_map, list_all}
use Rattle.std.specs.Str.{bytes_eq}
use Rattle.std.proofs.lemmas.Bool.{and_parts, false≢true, leb-true}
use Rattle.std.proofs.lemmas.Fmt.{length-decimal-le}
use Rattle.std.proofs.lemmas.List.{length-map}
use Rattle.std.proofs.lemmas.List.Concat.{flat_map-append}
use Rattle.std.proofs.lemmas.List.Elements.{recursion_from_All}
use Rattle.convoy_draft.specs.declared.limits.TheConstants.{GREATEST_AT, LONGEST_NAME, LONGEST_WAIT, MOST_GROUPS}
use Rattle.convoy_scenario.specs.declared.sender.Sender.{Sender}
use Rattle.convoy_draft.specs.declared.time.Time.{Time}
use Rattle.convoy_draft.specs.declared.time.Time.TheVariants.{Ticks, Real}
use Rattle.convoy_scenario.specs.declared.sender.Sender.TheVariants.{Client, Group}
use Rattle.convoy_lines.specs.Texts.{spaced, line_of, ended, text_of}
use Rattle.convoy_draft.specs.declared.duration.TimeUnit.{TimeUnit}
use Rattle.convoy_draft.specs.declared.duration.TimeUnit.TheVariants.{Seconds, Milliseconds, Microseconds, Nanoseconds}
use Rattle.convoy_draft.specs.declared.duration.TheConstants.{LONGEST_DURATION, MOST_UNITS}
use Rattle.convoy_draft.specs.Durations.{count_of, unit_of, unit_word}
use Rattle.convoy_scenario.specs.Naming.{sender_word}
use Rattle.convoy_scenario_lines.specs.declared.version.Version.{Version as LinesVersion}
use Rattle.convoy_scenario_lines.specs.declared.version.Version.TheVariants as lines
use Rattle.convoy_scenario_lines.specs.ScenarioLines.{time_lines, issue_word, tick_line, tick_lines, delay_line, groups_line, places_line, places_lines, link_line, stamps_words, multicast_line, target_line, lines_from_delay, scenario_lines}
use Rattle.convoy_scenario.specs.Scenario.{Link, Message, Scenario, is_timed, message_at, group_name_at, place_name_at, no_message}
use Rattle.convoy_scenario.specs.WellFormed.{IsLink, IsMulticast, IsScenario}
use Rattle.convoy_draft.specs.Names.{is_letter, is_name_byte, is_name, client_word, is_group_name}
use Rattle.convoy_draft.specs.Limits.{is_tick}
use Rattle.convoy_packets.proofs.Listed.{length-packets_of-le}
use Rattle.convoy_packets.proofs.Lists.{length-increasing-le}
use Rattle.convoy_packets.proofs.OrderLists.{list_few}
use Rattle.convoy_packets.proofs.Ranges.{length-assignment}
use Rattle.convoy_scenario.proofs.FewLinks.{few_links}
use Rattle.convoy_certificate.specs.declared.certificate.TheConstants.{LONGEST_TEXT, MOST_NODES}
use Rattle.convoy_certificate.specs.declared.node.Node.{Node}
use Rattle.convoy_certificate.specs.declared.node.Node.TheVariants.{Split, Order, Bound, Point, Stamp, Lead}
use Rattle.convoy_certificate.specs.declared.version.Version.{Version}
use Rattle.convoy_certificate.specs.declared.version.Version.TheVariants.{One, Two, Three, Four, Five}
use Rattle.convoy_certificate.specs.Certificate.{Certificate, IsNode, IsCertificate}
use Rattle.convoy_certificate.specs.Text.{lines_version, version_of, version_line, latency_line, schedule_line, order_line, order_lines, ranks_written, schedule_lines, node_line, end_line, certificate_text}
use Rattle.convoy_certificate.proofs.Again.{Small, small_assigned}
use Rattle.convoy_certificate.proofs.NodeLaws.{packet_fits, place_fits}
use Rattle.convoy_certificate.proofs.Orders.{written}

-- ---- words, lines and texts

-- words of at most 16 bytes, as names are, and numbers of 32 bits
abbrev AreShort : List (List ℕ) → Type 0
AreShort words = AllByRecursion (λ word. length word ≤ 16) words

-- lines of at most 300 bytes, as those of a scenario are
abbrev AreShortLines : List (List ℕ) → Type 0
AreShortLines lines = AllByRecursion (λ line. length line ≤ 300) lines

number_length : (n : ℕ) → n < 2 ^ 32 → length (decimal n) ≤ 16
number_length n fits = length-decimal-le 16 n (omega arith) (omega (arith, fits)) (omega (arith, fits))

words_length : (words : List (List ℕ)) → AreShort words → length (flat_map spaced words) ≤ length words * 17
words_length [] short = omega arith
words_length (word ∷ words) short =
    let sum = length-append (spaced word) (flat_map spaced words) in
    let rest = words_length words short.1 in
    let first = short.0 in
    omega arith

line_length : (label : List ℕ) (words : List (List ℕ)) → AreShort words → length (line_of label words) ≤ length label + length words * 17
line_length label words short =
    let sum = length-append label (flat_map spaced words) in
    let rest = words_length words short in
    omega arith

ended_length : (line : List ℕ) → length (ended line) ≡ length line + 1
ended_length line = length-append line (10 ∷ [])

text_length : (lines : List (List ℕ)) → AreShortLines lines → length (text_of lines) ≤ length lines * 301
text_length [] short = omega arith
text_length (line ∷ lines) short =
    let sum = length-append (ended line) (text_of lines) in
    let here = ended_length line in
    let rest = text_length lines short.1 in
    let first = short.0 in
    omega arith

texts_append : (xs ys : List (List ℕ)) → length (text_of (xs ++ ys)) ≡ length (text_of xs) + length (text_of ys)
texts_append xs ys = ap length (flat_map-append ended xs ys) ∙ length-append (text_of xs) (text_of ys)

-- ---- the nodes

node_length : (plan : Scenario) (node : Node) → IsNode plan node → length (node_line node) ≤ 12
node_length plan (Split packet at) is =
    let packet_within = is.0 in
    let at_within = is.2 in
    let most = packet_fits (is_timed plan) in
    let four : length (decimal packet) ≤ 4 = length-decimal-le 4 packet (omega arith) (omega (arith, packet_within, most)) (omega (arith, packet_within, most)) in
    let within = place_fits (is_timed plan) in
    let five : length (decimal at) ≤ 5 = length-decimal-le 5 at (omega arith) (omega (arith, at_within, within)) (omega (arith, at_within, within)) in
    let both = length-append (spaced (decimal packet)) (spaced (decimal at) ++ []) in
    let last = length-append (spaced (decimal at)) [] in
    omega arith
node_length plan (Order first second) is =
    let ascending = is.1 in
    let high = is.2 in
    let three : length (decimal first) ≤ 3 = length-decimal-le 3 first (omega arith) (omega (arith, ascending, high)) (omega (arith, ascending, high)) in
    let others : length (decimal second) ≤ 3 = length-decimal-le 3 second (omega arith) (omega (arith, high)) (omega (arith, high)) in
    let both = length-append (spaced (decimal first)) (spaced (decimal second) ++ []) in
    let last = length-append (spaced (decimal second)) [] in
    omega arith
node_length plan Bound is = omega arith
node_length plan Point is = omega arith
node_length plan Stamp is = omega arith
node_length plan (Lead latency) is =
    let ten : length (decimal latency) ≤ 10 = length-decimal-le 10 latency (omega arith) (omega (arith, is)) (omega (arith, is)) in
    let last = length-append (spaced (decimal latency)) [] in
    omega arith

nodes_length : (plan : Scenario) (nodes : List Node) → AllByRecursion (IsNode plan) nodes → length (text_of (map node_line nodes)) ≤ length nodes * 13
nodes_length plan [] are = omega arith
nodes_length plan (node ∷ nodes) are =
    let sum = length-append (ended (node_line node)) (text_of (map node_line nodes)) in
    let here = ended_length (node_line node) in
    let rest = nodes_length plan nodes are.1 in
    let first = node_length plan node are.0 in
    omega arith

-- ---- the scenario

name_length : (name : List ℕ) → is_name name ≡ true → length name ≤ 16
name_length [] good = omega arith
name_length (c ∷ cs) good =
    let long = and_parts (is_letter c && list_all is_name_byte cs) (nat_le (length (c ∷ cs)) LONGEST_NAME) good in
    leb-true (length (c ∷ cs)) LONGEST_NAME long.1

names_short : (names : List (List ℕ)) → AllByRecursion (λ name. is_group_name name ≡ true) names → AreShort names
names_short [] good = tt
names_short (name ∷ names) good =
    let parts = and_parts (is_name name) (not (bytes_eq name client_word)) good.0 in
    (name_length name parts.0, names_short names good.1)

word_at : (words : List (List ℕ)) (i : ℕ) → AreShort words → length (get_or words i []) ≤ 16
word_at [] i short = omega arith
word_at (word ∷ words) zero short = short.0
word_at (word ∷ words) (suc i) short = word_at words i short.1

names_at : (words : List (List ℕ)) (numbers : List ℕ) → AreShort words → AreShort (map (λ i. get_or words i []) numbers)
names_at words [] short = tt
names_at words (i ∷ numbers) short = (word_at words i short, names_at words numbers short)

message_name_at : (groups places : ℕ) (messages : List Message) (i : ℕ) → AllByRecursion (IsMulticast groups places) messages → length (get_or messages i no_message).name ≤ 16
message_name_at groups places [] i are = omega arith
message_name_at groups places (message ∷ messages) zero are = name_length message.name are.0.name
message_name_at groups places (message ∷ messages) (suc i) are = message_name_at groups places messages i are.1

-- the names of groups and of places
record HasShortNames (plan : Scenario) : Type 0 where
  groups : AreShort plan.groups
  places : AreShort plan.places

short_names : (plan : Scenario) → IsScenario plan → HasShortNames plan
short_names plan is = record {
  groups = names_short plan.groups (recursion_from_All (λ name. is_group_name name ≡ true) plan.groups is.group_names);
  places = names_short plan.places (recursion_from_All (λ name. is_group_name name ≡ true) plan.places is.place_names);
}

sender_length : (plan : Scenario) (sender : Sender) → HasShortNames plan → length (sender_word plan sender) ≤ 16
sender_length plan (Client p) short =
    elim (p == 0) as (λ b. length (cond b client_word (place_name_at plan p)) ≤ 16) [
      | true ↦ omega arith
      | false ↦ word_at plan.places (p - 1) short.places
    ]
sender_length plan (Group g) short = word_at plan.groups g short.groups

-- two ticks of at most seven digits each, and two dots
issue_length : (at wait : ℕ) → at ≤ GREATEST_AT → wait ≤ LONGEST_WAIT → length (issue_word at wait) ≤ 16
issue_length at wait low short =
    let first : length (decimal at) ≤ 7 = length-decimal-le 7 at (omega arith) (omega (arith, low)) (omega (arith, low)) in
    let last : length (decimal (at + wait)) ≤ 7 = length-decimal-le 7 (at + wait) (omega arith) (omega (arith, low, short)) (omega (arith, low, short)) in
    let both = length-append (decimal at) (codes ".." ++ decimal (at + wait)) in
    elim (wait == 0) as (λ b. length (cond b (decimal at) (decimal at ++ (codes ".." ++ decimal (at + wait)))) ≤ 16) [
      | true ↦ omega arith
      | false ↦ omega arith
    ]

multicast_length : (plan : Scenario) (message : Message) → length plan.groups ≤ MOST_GROUPS → HasShortNames plan → IsMulticast (length plan.groups) (length plan.places) message → length (multicast_line plan message) ≤ 300
multicast_length plan message few short is =
    let names : List (List ℕ) = map (group_name_at plan) message.destinations in
    let issue = issue_length message.at message.longest_wait is.at is.wait in
    let words : List (List ℕ) = message.name ∷ sender_word plan message.sender ∷ issue_word message.at message.longest_wait ∷ names in
    let line = line_length (codes "multicast") words (name_length message.name is.name, (sender_length plan message.sender short, (issue, names_at plan.groups message.destinations short.groups))) in
    let count = length-map message.destinations (group_name_at plan) in
    let known = length-increasing-le message.destinations (length plan.groups) is.ascending is.known in
    omega arith

multicasts_short : (plan : Scenario) (messages : List Message) → length plan.groups ≤ MOST_GROUPS → HasShortNames plan → AllByRecursion (IsMulticast (length plan.groups) (length plan.places)) messages
    → AreShortLines (map (multicast_line plan) messages)
multicasts_short plan [] few short are = tt
multicasts_short plan (message ∷ messages) few short are =
    (multicast_length plan message few short are.0, multicasts_short plan messages few short are.1)

-- ---- links

stamps_short : (stamps : Bool) → AreShort (stamps_words stamps)
stamps_short true = (omega arith, tt)
stamps_short false = tt

stamps_few : (stamps : Bool) → length (stamps_words stamps) ≤ 1
stamps_few true = omega arith
stamps_few false = omega arith

link_length : (plan : Scenario) (link : Link) → IsScenario plan → HasShortNames plan → IsLink (length plan.groups) (length plan.places) plan.delay link → length (link_line plan link) ≤ 300
link_length plan link is short known =
    let low = number_length link.least (omega (arith, known.ordered, known.high, is.delay_high)) in
    let high = number_length link.most (omega (arith, known.high, is.delay_high)) in
    let words : List (List ℕ) = sender_word plan link.sender ∷ group_name_at plan link.to ∷ decimal link.least ∷ decimal link.most ∷ stamps_words link.stamps in
    let last = stamps_few link.stamps in
    let line = line_length (codes "link") words (sender_length plan link.sender short, (word_at plan.groups link.to short.groups, (low, (high, stamps_short link.stamps)))) in
    omega arith

links_short : (plan : Scenario) (links : List Link) → IsScenario plan → HasShortNames plan → AllByRecursion (IsLink (length plan.groups) (length plan.places) plan.delay) links → AreShortLines (map (link_line plan) links)
links_short plan [] is short are = tt
links_short plan (link ∷ links) is short are = (link_length plan link is short are.0, links_short plan links is short are.1)

lines_append : (xs ys : List (List ℕ)) → AreShortLines xs → AreShortLines ys → AreShortLines (xs ++ ys)
lines_append [] ys a b = b
lines_append (x ∷ xs) ys a b = (a.0, lines_append xs ys a.1 b)

-- there is one line of places at most
places_short : (plan : Scenario) → IsScenario plan → AreShort plan.places → AreShortLines (places_lines plan.places)
places_short plan is short =
    let few = is.places_high in
    let line = line_length (codes "places") plan.places short in
    elim (length plan.places == 0) as (λ b. AreShortLines (cond b [] (places_line plan.places ∷ []))) [
      | true ↦ tt
      | false ↦ (omega arith, tt)
    ]

places_few : (places : List (List ℕ)) → length (places_lines places) ≤ 1
places_few places =
    elim (length places == 0) as (λ b. length (cond b [] (places_line places ∷ [])) ≤ 1) [
      | true ↦ omega arith
      | false ↦ omega arith
    ]

-- from the line `delay` on the text of a scenario has at most 156 lines of at most 301 bytes, their ends among them
length_from_delay : (plan : Scenario) → IsScenario plan → length (text_of (lines_from_delay plan)) ≤ 46_956
length_from_delay plan is =
    let delay_within = is.delay_high in
    let groups_within = is.groups_high in
    let multicasts_within = is.multicasts_high in
    let short = short_names plan is in
    let messages = recursion_from_All (IsMulticast (length plan.groups) (length plan.places)) plan.multicasts is.messages in
    let number = number_length plan.delay (omega arith) in
    let delay = line_length (codes "delay") (decimal plan.delay ∷ []) (number, tt) in
    let groups = line_length (codes "groups") plan.groups short.groups in
    let name = message_name_at (length plan.groups) (length plan.places) plan.multicasts plan.target_message messages in
    let target = line_length (codes "target") ((message_at plan plan.target_message).name ∷ group_name_at plan plan.target_group ∷ []) (name, (word_at plan.groups plan.target_group short.groups, tt)) in
    let multicasts = multicasts_short plan plan.multicasts groups_within short messages in
    let delay_short : length (delay_line plan) ≤ 300 = omega arith in
    let groups_short : length (groups_line plan) ≤ 300 = omega arith in
    let target_short : length (target_line plan) ≤ 300 = omega arith in
    let messages_and_target = lines_append (map (multicast_line plan) plan.multicasts) (target_line plan ∷ []) multicasts (target_short, tt) in
    let are_links = recursion_from_All (IsLink (length plan.groups) (length plan.places) plan.delay) plan.links is.links in
    let links = links_short plan plan.links is short are_links in
    let links_on = lines_append (map (link_line plan) plan.links) (map (multicast_line plan) plan.multicasts ++ target_line plan ∷ []) links messages_and_target in
    let lines = lines_append (places_lines plan.places) (map (link_line plan) plan.links ++ (map (multicast_line plan) plan.multicasts ++ target_line plan ∷ [])) (places_short plan is short.places) links_on in
    let few = few_links plan is in
    let lone = places_few plan.places in
    let placed = length-append (places_lines plan.places) (map (link_line plan) plan.links ++ (map (multicast_line plan) plan.multicasts ++ target_line plan ∷ [])) in
    let all = length-append (map (link_line plan) plan.links) (map (multicast_line plan) plan.multicasts ++ target_line plan ∷ []) in
    let linked = length-map plan.links (link_line plan) in
    let text = text_length (lines_from_delay plan) (delay_short, (groups_short, lines)) in
    let count = length-append (map (multicast_line plan) plan.multicasts) (target_line plan ∷ []) in
    let many = length-map plan.multicasts (multicast_line plan) in
    omega arith

time_length : (version : LinesVersion) (time : Time) → length (text_of (time_lines version time)) ≤ 11
time_length lines.One time = omega arith
time_length lines.Two time = omega arith
time_length lines.Three Ticks = omega arith
time_length lines.Three Real = omega arith

unit_length : (unit : TimeUnit) → length (unit_word unit) ≤ 16
unit_length Seconds = omega arith
unit_length Milliseconds = omega arith
unit_length Microseconds = omega arith
unit_length Nanoseconds = omega arith

tick_few : (time : Time) (tick : ℕ) → is_tick time (Some tick) ≡ true → count_of tick ≤ MOST_UNITS
tick_few Ticks tick e = absurd (false≢true e)
tick_few Real tick e = leb-true (count_of tick) MOST_UNITS (and_parts (nat_le 1 tick && nat_le tick LONGEST_DURATION) (nat_le (count_of tick) MOST_UNITS) e).1

tick_length : (time : Time) (tick : Option ℕ) → is_tick time tick ≡ true → length (text_of (tick_lines tick)) ≤ 39
tick_length time None is = omega arith
tick_length time (Some tick) is =
    let few = tick_few time tick is in
    let line = line_length (codes "tick") (decimal (count_of tick) ∷ unit_word (unit_of tick) ∷ []) (number_length (count_of tick) (omega (arith, few)), (unit_length (unit_of tick), tt)) in
    let here = ended_length (tick_line tick) in
    let sum = length-append (ended (tick_line tick)) [] in
    omega arith

scenario_length : (version : LinesVersion) (plan : Scenario) → IsScenario plan → length (text_of (scenario_lines version plan)) ≤ 47_006
scenario_length version plan is =
    let sum = texts_append (time_lines version plan.time) (tick_lines plan.tick ++ lines_from_delay plan) in
    let more = texts_append (tick_lines plan.tick) (lines_from_delay plan) in
    let time = time_length version plan.time in
    let tick = tick_length plan.time plan.tick is.tick in
    let rest = length_from_delay plan is in
    omega arith

-- ---- the certificate

numbers_short : (numbers : List ℕ) → Small numbers → AreShort (map decimal numbers)
numbers_short [] small = tt
numbers_short (n ∷ ns) small =
    let within = small.0 in
    (number_length n (omega arith), numbers_short ns small.1)

list_length : (label numbers : List ℕ) → Small numbers → length (line_of label (map decimal numbers)) ≤ length label + length numbers * 17
list_length label numbers small =
    let line = line_length label (map decimal numbers) (numbers_short numbers small) in
    let count = length-map numbers decimal in
    omega arith

-- the lines of an order of at most 256 ranks
order_length : (time : Time) (ranks : List ℕ) → Small ranks → length ranks ≤ 256 → length (text_of (order_lines time ranks)) ≤ 4_358
order_length Ticks ranks small few = omega arith
order_length Real ranks small few =
    let line = list_length (codes "order") ranks small in
    let here = ended_length (order_line ranks) in
    let sum = length-append (ended (order_line ranks)) [] in
    omega arith

schedule_length : (c : Certificate) → IsCertificate c → length (text_of (schedule_lines c.scenario c.schedule)) ≤ 24_223
schedule_length c is =
    let packets = length-packets_of-le c.scenario is.scenario in
    let each = length-assignment c.scenario c.schedule is.assigned in
    let few = list_few c.scenario in
    let order = written c.scenario c.schedule.order is.assigned.order in
    let count = order.few in
    let line = list_length (codes "schedule") c.schedule.delays (small_assigned c.scenario c.schedule is.scenario is.assigned) in
    let here = ended_length (schedule_line c.schedule.delays) in
    let ranks = ranks_written c.scenario c.schedule.order in
    let ties = order_length c.scenario.time ranks order.small (omega arith) in
    let sum = length-append (ended (schedule_line c.schedule.delays)) (text_of (order_lines c.scenario.time ranks)) in
    omega arith

version_length : (version : Version) → length (ended (version_line version)) ≡ 9
version_length One = refl
version_length Two = refl
version_length Three = refl
version_length Four = refl
version_length Five = refl

-- the text of a certificate is within the limit
pub certificate_length : (c : Certificate) → IsCertificate c → length c.nodes ≤ MOST_NODES → length (certificate_text c) ≤ LONGEST_TEXT
certificate_length c is nodes_within =
    let version = lines_version (version_of c) in
    let nodes : List (List ℕ) = map node_line c.nodes in
    let foot : List (List ℕ) = end_line ∷ [] in
    let ties : List (List ℕ) = schedule_lines c.scenario c.schedule in
    let tail : List (List ℕ) = latency_line c.latency ∷ (ties ++ (nodes ++ foot)) in
    let latency = line_length (codes "latency") (decimal c.latency ∷ []) (number_length c.latency is.latency, tt) in
    let schedule = schedule_length c is in
    let scenario = scenario_length version c.scenario is.scenario in
    let all_nodes = nodes_length c.scenario c.nodes (recursion_from_All (IsNode c.scenario) c.nodes is.nodes) in
    let s0 : length (certificate_text c) ≡ length (ended (version_line (version_of c))) + length (text_of (scenario_lines version c.scenario ++ tail)) = length-append (ended (version_line (version_of c))) (text_of (scenario_lines version c.scenario ++ tail)) in
    let s : length (ended (version_line (version_of c))) ≡ 9 = version_length (version_of c) in
    let s1 : length (text_of (scenario_lines version c.scenario ++ tail)) ≡ length (text_of (scenario_lines version c.scenario)) + length (text_of tail) = texts_append (scenario_lines version c.scenario) tail in
    let s2 : length (text_of tail) ≡ length (ended (latency_line c.latency)) + length (text_of (ties ++ (nodes ++ foot))) = length-append (ended (latency_line c.latency)) (text_of (ties ++ (nodes ++ foot))) in
    let s3 : length (text_of (ties ++ (nodes ++ foot))) ≡ length (text_of ties) + length (text_of (nodes ++ foot)) = texts_append ties (nodes ++ foot) in
    let s4 : length (text_of (nodes ++ foot)) ≡ length (text_of nodes) + 4 = texts_append nodes foot in
    let e0 = ended_length (latency_line c.latency) in
    omega arith
