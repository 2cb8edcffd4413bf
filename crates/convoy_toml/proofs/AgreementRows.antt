-- Worked rows: what drafts become where replicas agree, and which tables of groups are read.
use Rattle.std.proofs.Common.{◌≡◌, refl, true, false, pos, [], ◌∷◌, ℕ, List, Result, Ok, Err, codes}
use Rattle.toml.specs.Data.{Data, Items, no_items, item, Members, no_members, member, string, integer, boolean, array, table}
use Rattle.convoy_lines.specs.Results.{◌>>=◌}
use Rattle.convoy_draft.specs.declared.fault.Key.TheVariants as key
use Rattle.convoy_draft.specs.declared.fault.Limit.TheVariants as limit
use Rattle.convoy_draft.specs.declared.fault.ScenarioFault.{ScenarioFault}
use Rattle.convoy_draft.specs.declared.fault.ScenarioFault.TheVariants.{DoubleName, OverLimit, Shape, UnknownGroup}
use Rattle.convoy_scenario.specs.declared.sender.Sender.TheVariants.{Client, Group}
use Rattle.convoy_scenario.specs.Scenario.{Link}
use Rattle.convoy_toml.specs.Reading.{as_written, input_of_table, scenario_of_input}
use Rattle.convoy_toml.specs.Shape.{agreement_of_table, link_of_table}

-- the times that an array tells
abbrev times : Data → Data → Data
times least most = array (item least (item most no_items))

-- a table of the group of that name with these times, and with further members
abbrev group_table : List ℕ → ℕ → ℕ → Members → Members
group_table name least most more = member (codes "agree") (times (integer (pos least)) (integer (pos most))) (member (codes "name") (string name) more)

abbrev twice : Members
twice = member (codes "steps") (string (codes "twice")) no_members

-- a message of a client to both of two groups, a greatest delay of 3 ticks, these tables of groups, and further members
abbrev of_both : Items → Members → Members
of_both groups more =
    member (codes "delay") (integer (pos 3)) (member (codes "group") (array groups) (member (codes "groups") (array (item (string (codes "a")) (item (string (codes "b")) no_items)))
    (member (codes "multicast")
    (array (item (table (member (codes "at") (integer (pos 0)) (member (codes "name") (string (codes "t")) (member (codes "to") (array (item (string (codes "a")) (item (string (codes "b")) no_items))) no_members)))) no_items))
    (member (codes "target") (table (member (codes "group") (string (codes "a")) (member (codes "message") (string (codes "t")) no_members))) more))))

-- the links of a table's scenario, and D
abbrev links_read : Members → Result (List Link × ℕ) ScenarioFault
links_read members = scenario_of_input (input_of_table as_written members) >>= λ scenario. Ok (scenario.links, scenario.delay)

abbrev one : Members → Items
one members = item (table members) no_items

-- what goes by no link takes 1 to 3 ticks, and the replicas of a need 2 to 4
filled_in : links_read (of_both (one (group_table (codes "a") 2 4 no_members)) no_members) ≡ Ok (
  record { sender = Client 0; to = 0; least = 3; most = 7; stamps = false } ∷ record { sender = Client 0; to = 1; least = 1; most = 3; stamps = false }
      ∷ record { sender = Group 0; to = 0; least = 2; most = 4; stamps = false } ∷ record { sender = Group 0; to = 1; least = 1; most = 3; stamps = false }
      ∷ record { sender = Group 1; to = 0; least = 3; most = 7; stamps = false } ∷ [],
  7,
)
unfolding agreement_of_table
filled_in = refl

-- where they agree twice, the stamps of a group to itself take that long, too
agreeing_twice : links_read (of_both (one (group_table (codes "a") 2 4 twice)) no_members) ≡ Ok (
  record { sender = Client 0; to = 0; least = 3; most = 7; stamps = false } ∷ record { sender = Client 0; to = 1; least = 1; most = 3; stamps = false }
      ∷ record { sender = Group 0; to = 0; least = 2; most = 4; stamps = true } ∷ record { sender = Group 0; to = 1; least = 1; most = 3; stamps = false }
      ∷ record { sender = Group 1; to = 0; least = 3; most = 7; stamps = false } ∷ [],
  7,
)
unfolding agreement_of_table
agreeing_twice = refl

-- a table of a link to the group a, from this sender, with this range
abbrev link_table : Members → ℕ → ℕ → Members
link_table from least most = member (codes "link") (array (one (member (codes "least") (integer (pos least)) (member (codes "most") (integer (pos most)) (member (codes "to") (string (codes "a")) from))))) no_members

-- a link that is written takes what it says and the agreement
over_link : links_read (of_both (one (group_table (codes "a") 2 4 no_members)) (link_table no_members 2 2)) ≡ Ok (
  record { sender = Client 0; to = 0; least = 4; most = 6; stamps = false } ∷ record { sender = Client 0; to = 1; least = 1; most = 3; stamps = false }
      ∷ record { sender = Group 0; to = 0; least = 2; most = 4; stamps = false } ∷ record { sender = Group 0; to = 1; least = 1; most = 3; stamps = false }
      ∷ record { sender = Group 1; to = 0; least = 3; most = 7; stamps = false } ∷ [],
  7,
)
unfolding link_of_table agreement_of_table
over_link = refl

no_such_group : links_read (of_both (one (group_table (codes "c") 2 4 no_members)) no_members) ≡ Err UnknownGroup
unfolding agreement_of_table
no_such_group = refl

two_agreements : links_read (of_both (item (table (group_table (codes "a") 2 4 no_members)) (one (group_table (codes "a") 1 1 no_members))) no_members) ≡ Err DoubleName
unfolding agreement_of_table
two_agreements = refl

beside_own_link : links_read (of_both (one (group_table (codes "a") 2 4 no_members)) (link_table (member (codes "from") (string (codes "a")) no_members) 1 1)) ≡ Err DoubleName
unfolding link_of_table agreement_of_table
beside_own_link = refl

in_no_time : links_read (of_both (one (group_table (codes "a") 0 4 no_members)) no_members) ≡ Err (OverLimit limit.Agree)
unfolding agreement_of_table
in_no_time = refl

least_above_most : links_read (of_both (one (group_table (codes "a") 4 2 no_members)) no_members) ≡ Err (OverLimit limit.Agree)
unfolding agreement_of_table
least_above_most = refl

too_long : links_read (of_both (one (group_table (codes "a") 2 17 no_members)) no_members) ≡ Err (OverLimit limit.Delay)
unfolding agreement_of_table
too_long = refl

too_long_together : links_read (of_both (one (group_table (codes "a") 2 14 no_members)) no_members) ≡ Err (OverLimit limit.Delay)
unfolding agreement_of_table
too_long_together = refl

link_beyond_delay : links_read (of_both (one (group_table (codes "a") 2 4 no_members)) (link_table no_members 2 4)) ≡ Err (OverLimit limit.Link)
unfolding link_of_table agreement_of_table
link_beyond_delay = refl

-- ---- shapes

-- a table of a group with these times and further members
abbrev agreeing : Data → Members → Members
agreeing value more = member (codes "agree") value (member (codes "name") (string (codes "a")) more)

of_one_time : links_read (of_both (one (agreeing (array (item (integer (pos 2)) no_items)) no_members)) no_members) ≡ Err (Shape key.Agree)
unfolding agreement_of_table
of_one_time = refl

of_three_times : links_read (of_both (one (agreeing (array (item (integer (pos 2)) (item (integer (pos 3)) (item (integer (pos 4)) no_items)))) no_members)) no_members) ≡ Err (Shape key.Agree)
unfolding agreement_of_table
of_three_times = refl

of_one_number : links_read (of_both (one (agreeing (integer (pos 2)) no_members)) no_members) ≡ Err (Shape key.Agree)
unfolding agreement_of_table
of_one_number = refl

steps_of_no_kind : links_read (of_both (one (group_table (codes "a") 2 4 (member (codes "steps") (string (codes "thrice")) no_members))) no_members) ≡ Err (Shape key.Steps)
unfolding agreement_of_table
steps_of_no_kind = refl

without_name : links_read (of_both (one (member (codes "agree") (boolean true) no_members)) no_members) ≡ Err (Shape key.Name)
unfolding agreement_of_table
without_name = refl

odd_in_group : links_read (of_both (one (group_table (codes "a") 2 4 (member (codes "zone") (boolean true) no_members))) no_members) ≡ Err (Shape key.Unknown)
unfolding agreement_of_table
odd_in_group = refl

group_no_table : links_read (of_both (item (boolean true) no_items) no_members) ≡ Err (Shape key.Group)
unfolding agreement_of_table
group_no_table = refl
