-- Worked rows, computed from the definitions alone.
use Rattle.std.proofs.Common.{◌≡◌, ℕ, true, false, List, [], ◌∷◌, ◌++◌, replicate, slice_set, Option, Some, None, Result, Ok, Err, refl, codes}
use Rattle.std.specs.Fmt.{digits}
use Rattle.std.specs.List.{AllByRecursion}
use Rattle.std.specs.Str.{chars, is_utf8}
use Rattle.convoy_scenario_lines.specs.declared.line_fault.Expected.{Expected}
use Rattle.convoy_scenario_lines.specs.declared.line_fault.Expected.TheVariants as expected
use Rattle.convoy_scenario.specs.declared.sender.Sender.{Sender}
use Rattle.convoy_scenario.specs.declared.sender.Sender.TheVariants.{Client, Group}
use Rattle.convoy_draft.specs.declared.time.Time.{Time}
use Rattle.convoy_draft.specs.declared.time.Time.TheVariants.{Ticks, Real}
use Rattle.convoy_scenario_lines.specs.LineReading.{links_in, messages_in, scenario_at}
use Rattle.convoy_scenario.specs.Scenario.{Message}
use Rattle.convoy_packets.specs.Assignment.{in_fixed_order, ranges_of}
use Rattle.convoy_packets.specs.Order.{no_order, place}
use Rattle.convoy_packets.specs.OrderLists.{marks_of}
use Rattle.convoy_packets.specs.Packets.{packets_of}
use Rattle.convoy_certificate.specs.declared.node.Node.{Node}
use Rattle.convoy_certificate.specs.declared.node.Node.TheVariants.{Split, Order, Bound, Point, Stamp, Lead}
use Rattle.convoy_certificate.specs.declared.text_fault.TextFault.{TextFault}
use Rattle.convoy_certificate.specs.declared.text_fault.TextFault.TheVariants as faults
use Rattle.convoy_certificate.specs.declared.version.Version.{Version}
use Rattle.convoy_certificate.specs.declared.version.Version.TheVariants.{One, Two, Three, Four, Five}
use Rattle.convoy_certificate.specs.Certificate.{Certificate}
use Rattle.convoy_certificate.specs.Forms.{node_or_end}
use Rattle.convoy_certificate.specs.Reading.{is_order_list, nodes_in, certificate_of, whole}
use Rattle.convoy_certificate.specs.Text.{certificate_text}

abbrev message : List ℕ → Sender → List ℕ → ℕ → Message
message name sender destinations at = record { name = name; sender = sender; destinations = destinations; at = at; longest_wait = 0 }

-- the certificate of the base: one leaf
abbrev base : Certificate
base = record {
  scenario = record {
    time = Ticks;
    tick = None;
    delay = 3;
    groups = codes "a" ∷ codes "b" ∷ [];
    places = [];
    links = [];
    multicasts = message (codes "x") (Client 0) (1 ∷ []) 0 ∷ message (codes "t") (Client 0) (0 ∷ 1 ∷ []) 0 ∷ message (codes "y") (Group 0) (0 ∷ 1 ∷ []) 6 ∷ [];
    target_message = 1;
    target_group = 0;
  };
  latency = 12;
  schedule = in_fixed_order (3 ∷ 3 ∷ 3 ∷ 3 ∷ 3 ∷ 3 ∷ 3 ∷ 3 ∷ []);
  nodes = Bound ∷ [];
}

-- the certificate of a lone message that a group sends itself: no packets
abbrev lone : Certificate
lone = record {
  scenario = record {
    time = Ticks;
    tick = None;
    delay = 5;
    groups = codes "a" ∷ [];
    places = [];
    links = [];
    multicasts = message (codes "m") (Group 0) (0 ∷ []) 0 ∷ [];
    target_message = 0;
    target_group = 0;
  };
  latency = 0;
  schedule = in_fixed_order [];
  nodes = Bound ∷ [];
}

-- the messages of the base, the base up to them, and after them
abbrev issued : List ℕ
issued = codes "multicast x client 0 b\nmulticast t client 0 a b\nmulticast y a 6 a b\n"

abbrev head : List ℕ
head = codes "convoy 1\ndelay 3\ngroups a b\n" ++ issued

abbrev foot : List ℕ
foot = codes "target t a\nlatency 12\nschedule 3 3 3 3 3 3 3 3\n"

-- the base with links from clients to b and from b to a
abbrev linked : Certificate
linked = record base {
  scenario = record base.scenario { links = record { sender = Client 0; to = 1; least = 2; most = 3; stamps = false } ∷ record { sender = Group 1; to = 0; least = 1; most = 1; stamps = false } ∷ [] };
}

-- the base in real time, with a lead leaf
abbrev in_real_time : Certificate
in_real_time = record base { scenario = record base.scenario { time = Real }; nodes = Lead 12 ∷ [] }

-- the same with a split by order, and two point leaves
abbrev with_ties_split : Certificate
with_ties_split = record in_real_time { nodes = Order 2 6 ∷ Point ∷ Point ∷ [] }

-- the same with the arrival of t at b of a later rank
abbrev tied : Certificate
tied = record in_real_time { schedule = record in_real_time.schedule { order = record no_order { arrivals = slice_set (replicate 128 0) (place 1 1) 1 } } }

-- the base, in which y may be issued from 6 to 8 on; its wait comes first among the delays of y
abbrev waiting : Certificate
waiting = record base {
  scenario = record base.scenario {
    multicasts = message (codes "x") (Client 0) (1 ∷ []) 0 ∷ message (codes "t") (Client 0) (0 ∷ 1 ∷ []) 0 ∷ record { name = codes "y"; sender = Group 0; destinations = 0 ∷ 1 ∷ []; at = 6; longest_wait = 2 } ∷ [];
  };
  schedule = in_fixed_order (3 ∷ 3 ∷ 3 ∷ 3 ∷ 3 ∷ 0 ∷ 3 ∷ 3 ∷ 3 ∷ []);
  nodes = Split 5 0 ∷ Point ∷ Stamp ∷ [];
}

-- the base, in which t, the target, may be issued from 0 to 2 on, where time goes so; its wait comes first among the delays of t
abbrev target_waiting : Time → Certificate
target_waiting time = record base {
  scenario = record base.scenario {
    time = time;
    multicasts = message (codes "x") (Client 0) (1 ∷ []) 0 ∷ record { name = codes "t"; sender = Client 0; destinations = 0 ∷ 1 ∷ []; at = 0; longest_wait = 2 } ∷ message (codes "y") (Group 0) (0 ∷ 1 ∷ []) 6 ∷ [];
  };
  schedule = in_fixed_order (3 ∷ 0 ∷ 3 ∷ 3 ∷ 3 ∷ 3 ∷ 3 ∷ 3 ∷ 3 ∷ []);
}

-- the base, in which b's own stamps take time, by its link to itself; they come last among the delays of each message
abbrev agreeing_twice : Certificate
agreeing_twice = record base {
  scenario = record base.scenario { links = record { sender = Group 1; to = 1; least = 1; most = 2; stamps = true } ∷ [] };
  schedule = in_fixed_order (3 ∷ 2 ∷ 3 ∷ 3 ∷ 3 ∷ 3 ∷ 2 ∷ 3 ∷ 3 ∷ 3 ∷ 2 ∷ []);
}

-- the base with two places of clients, one of which issues x; what goes from the other to a takes 1 to 2
abbrev placed : Certificate
placed = record base {
  scenario = record base.scenario {
    places = codes "eu" ∷ codes "us" ∷ [];
    links = record { sender = Client 2; to = 0; least = 1; most = 2; stamps = false } ∷ [];
    multicasts = message (codes "x") (Client 1) (1 ∷ []) 0 ∷ message (codes "t") (Client 0) (0 ∷ 1 ∷ []) 0 ∷ message (codes "y") (Group 0) (0 ∷ 1 ∷ []) 6 ∷ [];
  };
}

-- its text
abbrev placed_text : List ℕ
placed_text = codes "convoy 4\ntime ticks\ndelay 3\ngroups a b\nplaces eu us\nlink us a 1 2\nmulticast x eu 0 b\nmulticast t client 0 a b\nmulticast y a 6 a b\n" ++ foot ++ codes "b\nend\n"

-- the text of the base whose target waits, from the line `delay` to the line `schedule`
abbrev target_issued : List ℕ
target_issued = codes "delay 3\ngroups a b\nmulticast x client 0 b\nmulticast t client 0..2 a b\nmulticast y a 6 a b\ntarget t a\nlatency 12\nschedule 3 0 3 3 3 3 3 3 3\n"

-- ---- what is written

-- each certificate has this text
abbrev HaveTexts : List (Certificate × List ℕ) → Type 0
HaveTexts rows = AllByRecursion (λ (row : Certificate × List ℕ). certificate_text row.0 ≡ row.1) rows

-- in whole ticks in which no message may wait: leaves and links decide on the version
texts_in_ticks : HaveTexts (
    (base, head ++ foot ++ codes "b\nend\n")
    ∷ (lone, codes "convoy 1\ndelay 5\ngroups a\nmulticast m a 0 a\ntarget m a\nlatency 0\nschedule\nb\nend\n")
    ∷ (linked, codes "convoy 2\ndelay 3\ngroups a b\nlink client b 2 3\nlink b a 1 1\n" ++ issued ++ foot ++ codes "b\nend\n")
    ∷ (record base { nodes = Stamp ∷ [] }, codes "convoy 2\ndelay 3\ngroups a b\n" ++ issued ++ foot ++ codes "t\nend\n")
    ∷ (record base { nodes = Lead 12 ∷ [] }, codes "convoy 3\ndelay 3\ngroups a b\n" ++ issued ++ foot ++ codes "c 12\nend\n")
    ∷ [])
unfolding digits no_order
texts_in_ticks = (refl, (refl, (refl, (refl, (refl, tt)))))

-- in version 4: in real time a line `order` stands there, which is the word alone where ties fall in the fixed order, and a line `tick`, where a tick has a length; where a message may wait, its line has two ticks; the line of a link for stamps, too, has a word for it; where clients are at named places, a line `places` stands there
texts_with_time : HaveTexts (
    (in_real_time, codes "convoy 4\ntime real\ndelay 3\ngroups a b\n" ++ issued ++ foot ++ codes "order\nc 12\nend\n")
    ∷ (tied, codes "convoy 4\ntime real\ndelay 3\ngroups a b\n" ++ issued ++ foot ++ codes "order 0 0 0 0 1 0 0 0 0 0\nc 12\nend\n")
    ∷ (record in_real_time { scenario = record in_real_time.scenario { tick = Some 50_000 } }, codes "convoy 4\ntime real\ntick 50 us\ndelay 3\ngroups a b\n" ++ issued ++ foot ++ codes "order\nc 12\nend\n")
    ∷ (waiting, codes "convoy 4\ntime ticks\ndelay 3\ngroups a b\nmulticast x client 0 b\nmulticast t client 0 a b\nmulticast y a 6..8 a b\ntarget t a\nlatency 12\nschedule 3 3 3 3 3 0 3 3 3\ns 5 0\np\nt\nend\n")
    ∷ (agreeing_twice, codes "convoy 4\ntime ticks\ndelay 3\ngroups a b\nlink b b 1 2 stamps\n" ++ issued ++ codes "target t a\nlatency 12\nschedule 3 2 3 3 3 3 2 3 3 3 2\nb\nend\n")
    ∷ (placed, placed_text)
    ∷ [])
unfolding digits no_order marks_of
texts_with_time = (refl, (refl, (refl, (refl, (refl, (refl, tt))))))

-- in version 5: what else has a target that may wait
texts_of_waiting_targets : HaveTexts (
    (target_waiting Ticks, codes "convoy 5\ntime ticks\n" ++ target_issued ++ codes "b\nend\n")
    ∷ (target_waiting Real, codes "convoy 5\ntime real\n" ++ target_issued ++ codes "order\nb\nend\n")
    ∷ [])
unfolding digits no_order
texts_of_waiting_targets = (refl, (refl, tt))

-- in version 5: real time where the tree has a split by order, or a point leaf
texts_with_ties : HaveTexts (
    (with_ties_split, codes "convoy 5\ntime real\ndelay 3\ngroups a b\n" ++ issued ++ foot ++ codes "order\no 2 6\np\np\nend\n")
    ∷ (record in_real_time { nodes = Point ∷ [] }, codes "convoy 5\ntime real\ndelay 3\ngroups a b\n" ++ issued ++ foot ++ codes "order\np\nend\n")
    ∷ [])
unfolding digits no_order
texts_with_ties = (refl, (refl, tt))

-- ---- what is read

-- each line is read as that node in that version, where time goes so
abbrev AreNodes : List (Version × Time × List ℕ × Option (Option Node)) → Type 0
AreNodes rows = AllByRecursion (λ (row : Version × Time × List ℕ × Option (Option Node)). node_or_end row.0 row.1 row.2 ≡ row.3) rows

-- version 1 has no lines `t`, versions 1 and 2 have no lines `c`, and real time has no lines `t`, and lines `p` in version 5 alone; a lead has 32 bits
leaves : AreNodes (
    (One, Ticks, codes "t", None) ∷ (Two, Ticks, codes "t", Some (Some Stamp)) ∷ (Five, Real, codes "t", None) ∷ (Four, Real, codes "p", None) ∷ (Five, Real, codes "p", Some (Some Point))
    ∷ (One, Ticks, codes "c 12", None) ∷ (Two, Ticks, codes "c 12", None) ∷ (Three, Ticks, codes "c 12", Some (Some (Lead 12))) ∷ (Four, Real, codes "c 12", Some (Some (Lead 12)))
    ∷ (Three, Ticks, codes "c 4294967295", Some (Some (Lead 4_294_967_295))) ∷ (Three, Ticks, codes "c 4294967296", None) ∷ [])
leaves = (refl, (refl, (refl, (refl, (refl, (refl, (refl, (refl, (refl, (refl, (refl, tt)))))))))))

-- a split by order is of version 5 and of real time; its two numbers ascend, and go up to 255
order_splits : AreNodes (
    (Five, Real, codes "o 0 255", Some (Some (Order 0 255))) ∷ (Five, Real, codes "o 0 256", None) ∷ (Five, Real, codes "o 1 1", None) ∷ (Five, Real, codes "o 2 1", None)
    ∷ (Five, Real, codes "o 1", None) ∷ (Five, Real, codes "o 1 2 3", None) ∷ (Five, Real, codes "o", None) ∷ (Four, Real, codes "o 1 2", None) ∷ (Five, Ticks, codes "o 1 2", None) ∷ [])
order_splits = (refl, (refl, (refl, (refl, (refl, (refl, (refl, (refl, (refl, tt)))))))))

-- a split is after 1 to 16 in versions 1 to 3, of a packet up to 1,023, and after 0 to 65,535 in version 4, of a packet up to 1,167
splits : AreNodes (
    (Three, Ticks, codes "s 0 17", None) ∷ (Three, Ticks, codes "s 0 0", None) ∷ (Three, Ticks, codes "s 1024 1", None)
    ∷ (Four, Real, codes "s 0 65535", Some (Some (Split 0 65_535))) ∷ (Four, Ticks, codes "s 1167 0", Some (Some (Split 1_167 0))) ∷ (Four, Ticks, codes "s 1168 1", None) ∷ [])
splits = (refl, (refl, (refl, (refl, (refl, (refl, tt))))))

-- no order has these lists of ranks: one with a rank too few, one with a rank that is too great, and one of ranks that are all 0 and written out
no_orders : AllByRecursion (λ (ranks : List ℕ). is_order_list in_real_time.scenario ranks ≡ false) (
    (0 ∷ 0 ∷ 0 ∷ 0 ∷ 1 ∷ 0 ∷ 0 ∷ 0 ∷ 0 ∷ []) ∷ (0 ∷ 0 ∷ 0 ∷ 0 ∷ 256 ∷ 0 ∷ 0 ∷ 0 ∷ 0 ∷ 0 ∷ []) ∷ (0 ∷ 0 ∷ 0 ∷ 0 ∷ 0 ∷ 0 ∷ 0 ∷ 0 ∷ 0 ∷ 0 ∷ []) ∷ [])
unfolding marks_of
no_orders = (refl, (refl, (refl, tt)))

-- where there are as many lead leaves as may be read, the next one is told, and other nodes are read
past_leads : AllByRecursion (λ (row : List ℕ × TextFault). nodes_in Three Ticks 100_000 100_000 9 [] (row.0 ∷ []) ≡ Err row.1) ((codes "c 9", faults.TreeCount) ∷ (codes "t", faults.Line 10 expected.Node) ∷ [])
unfolding nodes_in
past_leads = (refl, (refl, tt))

-- the first line of each text that has not its form, and what it had to be
abbrev HaveFaults : List (List ℕ × ℕ × Expected) → Type 0
HaveFaults rows = AllByRecursion (λ (row : List ℕ × ℕ × Expected). certificate_of row.0 ≡ Err (faults.Line row.1 row.2)) rows

-- in version 4 the line `time` stands second, and that of a tick's length third, where it is known: its count is 1 or more, of the greatest unit that divides it; no tick has a length in the versions of whole ticks
times : HaveFaults (
    (codes "convoy 4\ndelay 3\n", 2, expected.Time) ∷ (codes "convoy 4\ntime whole\n", 2, expected.Time)
    ∷ (codes "convoy 4\ntime real\ntick 1000 us\n", 3, expected.Tick) ∷ (codes "convoy 4\ntime real\ntick 0 s\n", 3, expected.Tick) ∷ (codes "convoy 1\ntick 1 ms\n", 2, expected.Delay) ∷ [])
unfolding certificate_of scenario_at links_in messages_in nodes_in ranges_of packets_of
times = (refl, (refl, (refl, (refl, (refl, tt)))))

-- where the target may wait version 5 is that of the text, and version 4 is not
abbrev read_whole : Version → Result (List Node) TextFault
read_whole version = whole version (target_waiting Ticks).scenario (Bound ∷ [], record { ended = []; rest = []; number = 14 })

versions_of_waiting_targets : (read_whole Four ≡ Err (faults.Line 1 expected.Convoy)) × (read_whole Five ≡ Ok (Bound ∷ []))
versions_of_waiting_targets = (refl, refl)

-- a text of no bytes; a delay that begins with 0, and one after two spaces; a line `multicast` that is cut off, and one of a message that may wait; a line `link` in version 1, and one that has not its form; one for stamps, too, in version 2, and one of them from clients in version 4
others : HaveFaults (
    ([], 1, expected.Convoy) ∷ (codes "convoy 1\ndelay 03\n", 2, expected.Delay) ∷ (codes "convoy 1\ndelay  3\n", 2, expected.Delay)
    ∷ (head ++ codes "multicast", 7, expected.Multicast) ∷ (codes "convoy 3\ndelay 3\ngroups a b\nmulticast y a 6..8 a b\n", 4, expected.Multicast)
    ∷ (codes "convoy 1\ndelay 3\ngroups a b\nlink b a 1 1\n", 4, expected.Multicast) ∷ (codes "convoy 2\ndelay 3\ngroups a b\nlink b a 1\n", 4, expected.Link)
    ∷ (codes "convoy 2\ndelay 3\ngroups a b\nlink b b 1 2 stamps\n", 4, expected.Link) ∷ (codes "convoy 4\ntime ticks\ndelay 3\ngroups a b\nlink client a 1 2 stamps\n", 5, expected.Link) ∷ [])
unfolding certificate_of scenario_at links_in messages_in nodes_in ranges_of packets_of
others = (refl, (refl, (refl, (refl, (refl, (refl, (refl, (refl, (refl, tt)))))))))

-- the line `places` stands right after the line `groups`, with one name at least, and in versions 4 and 5 alone
places : HaveFaults (
    (codes "convoy 4\ntime ticks\ndelay 3\ngroups a b\nplaces\n", 5, expected.Places) ∷ (codes "convoy 4\ntime ticks\ndelay 3\nplaces eu\ngroups a b\n", 4, expected.Groups)
    ∷ (codes "convoy 4\ntime ticks\ndelay 3\ngroups a b\nlink a b 1 1\nplaces eu\n", 6, expected.Multicast) ∷ (codes "convoy 2\ndelay 3\ngroups a b\nplaces eu\n", 4, expected.Multicast) ∷ [])
unfolding certificate_of scenario_at links_in messages_in nodes_in ranges_of packets_of
places = (refl, (refl, (refl, (refl, tt))))

places_read : certificate_of placed_text ≡ Ok placed
unfolding certificate_of scenario_at links_in messages_in nodes_in ranges_of packets_of is_utf8 chars lib.Utf8.encode no_order
places_read = refl
