-- What is found in the document's table.
use Rattle.std.proofs.Common.{◌≡◌, ℕ, true, List, [], ◌∷◌, codes, Option, Some, None, refl, ◌∙◌}
use Rattle.std.specs.List.{list_any}
use Rattle.std.specs.Str.{bytes_eq}
use Rattle.toml.specs.Data.{Data, table, Members, no_members, member, get_member}
use Rattle.convoy_draft.specs.declared.fault.Key.{Key}
use Rattle.convoy_draft.specs.declared.fault.Key.TheVariants.{Time, Tick, Delay, Least, Groups, Places, Multicast, Target, Link, Group, Outage, Schedule, Order}
use Rattle.convoy_draft.specs.Keys.{key_word}
use Rattle.convoy_toml.specs.Shape.{has_only}
use Rattle.convoy_toml_writer.proofs.Document.{with_member, some_tables, Head, whole_table}

-- a key that is not that of a member
past : (j k : List ℕ) (o : Option Data) (rest : Members) → ((d : Data) → get_member j (member k d rest) ≡ get_member j rest) → get_member j (with_member k o rest) ≡ get_member j rest
past j k None rest other = refl
past j k (Some d) rest other = other d

-- the key of a member that may be missing
found : (k : List ℕ) (o : Option Data) (rest : Members) → ((d : Data) → get_member k (member k d rest) ≡ Some d) → get_member k rest ≡ None → get_member k (with_member k o rest) ≡ o
found k None rest here none = none
found k (Some d) rest here none = here d

-- the key of each member is one of these
only : (keys : List Key) (k : List ℕ) (o : Option Data) (rest : Members) → list_any (λ key. bytes_eq (key_word key) k) keys ≡ true → has_only keys (with_member k o rest) ≡ has_only keys rest
only keys k None rest known = refl
only keys k (Some d) rest known = rw known refl

module _ (head : Head) (links messages : List Members) (target : Members) where
  abbrev last_table : Members
  last_table = with_member (codes "time") head.time no_members

  abbrev ticked : Members
  ticked = with_member (codes "tick") head.tick last_table

  abbrev scheduled : Members
  scheduled = member (codes "schedule") head.schedule (member (codes "target") (table target) ticked)

  abbrev placed : Members
  placed = with_member (codes "places") head.places scheduled

  abbrev ordered : Members
  ordered = with_member (codes "order") head.order placed

  abbrev with_messages : Members
  with_messages = with_member (codes "multicast") (some_tables messages) ordered

  abbrev with_links : Members
  with_links = with_member (codes "link") (some_tables links) with_messages

  abbrev whole : Members
  whole = whole_table head links messages target

  pub delay_found : get_member (codes "delay") whole ≡ Some head.delay
  delay_found = refl

  pub least_found : get_member (codes "least") whole ≡ head.least
  least_found =
      found (codes "least") head.least with_links (λ d. refl)
      (past (codes "least") (codes "link") (some_tables links) with_messages (λ d. refl) ∙ past (codes "least") (codes "multicast") (some_tables messages) ordered (λ d. refl)
      ∙ past (codes "least") (codes "order") head.order placed (λ d. refl) ∙ past (codes "least") (codes "places") head.places scheduled (λ d. refl) ∙ past (codes "least") (codes "tick") head.tick last_table (λ d. refl)
      ∙ past (codes "least") (codes "time") head.time no_members (λ d. refl))

  pub groups_found : get_member (codes "groups") whole ≡ Some head.groups
  groups_found = refl

  pub time_found : get_member (codes "time") whole ≡ head.time
  time_found =
      past (codes "time") (codes "least") head.least with_links (λ d. refl) ∙ past (codes "time") (codes "link") (some_tables links) with_messages (λ d. refl) ∙ past (codes "time") (codes "multicast") (some_tables messages) ordered (λ d. refl)
      ∙ past (codes "time") (codes "order") head.order placed (λ d. refl) ∙ past (codes "time") (codes "places") head.places scheduled (λ d. refl) ∙ past (codes "time") (codes "tick") head.tick last_table (λ d. refl)
      ∙ found (codes "time") head.time no_members (λ d. refl) refl

  pub tick_found : get_member (codes "tick") whole ≡ head.tick
  tick_found =
      past (codes "tick") (codes "least") head.least with_links (λ d. refl) ∙ past (codes "tick") (codes "link") (some_tables links) with_messages (λ d. refl) ∙ past (codes "tick") (codes "multicast") (some_tables messages) ordered (λ d. refl)
      ∙ past (codes "tick") (codes "order") head.order placed (λ d. refl) ∙ past (codes "tick") (codes "places") head.places scheduled (λ d. refl)
      ∙ found (codes "tick") head.tick last_table (λ d. refl) (past (codes "tick") (codes "time") head.time no_members (λ d. refl))

  pub order_found : get_member (codes "order") whole ≡ head.order
  order_found =
      past (codes "order") (codes "least") head.least with_links (λ d. refl) ∙ past (codes "order") (codes "link") (some_tables links) with_messages (λ d. refl) ∙ past (codes "order") (codes "multicast") (some_tables messages) ordered (λ d. refl)
      ∙ found (codes "order") head.order placed (λ d. refl) (past (codes "order") (codes "places") head.places scheduled (λ d. refl) ∙ past (codes "order") (codes "tick") head.tick last_table (λ d. refl) ∙ past (codes "order") (codes "time") head.time no_members (λ d. refl))

  pub places_found : get_member (codes "places") whole ≡ head.places
  places_found =
      past (codes "places") (codes "least") head.least with_links (λ d. refl) ∙ past (codes "places") (codes "link") (some_tables links) with_messages (λ d. refl) ∙ past (codes "places") (codes "multicast") (some_tables messages) ordered (λ d. refl)
      ∙ past (codes "places") (codes "order") head.order placed (λ d. refl)
      ∙ found (codes "places") head.places scheduled (λ d. refl) (past (codes "places") (codes "tick") head.tick last_table (λ d. refl) ∙ past (codes "places") (codes "time") head.time no_members (λ d. refl))

  pub schedule_found : get_member (codes "schedule") whole ≡ Some head.schedule
  schedule_found =
      past (codes "schedule") (codes "least") head.least with_links (λ d. refl) ∙ past (codes "schedule") (codes "link") (some_tables links) with_messages (λ d. refl) ∙ past (codes "schedule") (codes "multicast") (some_tables messages) ordered (λ d. refl)
      ∙ past (codes "schedule") (codes "order") head.order placed (λ d. refl) ∙ past (codes "schedule") (codes "places") head.places scheduled (λ d. refl)

  pub target_found : get_member (codes "target") whole ≡ Some (table target)
  target_found =
      past (codes "target") (codes "least") head.least with_links (λ d. refl) ∙ past (codes "target") (codes "link") (some_tables links) with_messages (λ d. refl) ∙ past (codes "target") (codes "multicast") (some_tables messages) ordered (λ d. refl)
      ∙ past (codes "target") (codes "order") head.order placed (λ d. refl) ∙ past (codes "target") (codes "places") head.places scheduled (λ d. refl)

  pub messages_found : get_member (codes "multicast") whole ≡ some_tables messages
  messages_found =
      past (codes "multicast") (codes "least") head.least with_links (λ d. refl) ∙ past (codes "multicast") (codes "link") (some_tables links) with_messages (λ d. refl)
      ∙ found (codes "multicast") (some_tables messages) ordered (λ d. refl)
      (past (codes "multicast") (codes "order") head.order placed (λ d. refl) ∙ past (codes "multicast") (codes "places") head.places scheduled (λ d. refl) ∙ past (codes "multicast") (codes "tick") head.tick last_table (λ d. refl) ∙ past (codes "multicast") (codes "time") head.time no_members (λ d. refl))

  pub links_found : get_member (codes "link") whole ≡ some_tables links
  links_found =
      past (codes "link") (codes "least") head.least with_links (λ d. refl)
      ∙ found (codes "link") (some_tables links) with_messages (λ d. refl)
      (past (codes "link") (codes "multicast") (some_tables messages) ordered (λ d. refl) ∙ past (codes "link") (codes "order") head.order placed (λ d. refl) ∙ past (codes "link") (codes "places") head.places scheduled (λ d. refl)
      ∙ past (codes "link") (codes "tick") head.tick last_table (λ d. refl) ∙ past (codes "link") (codes "time") head.time no_members (λ d. refl))

  pub group_found : get_member (codes "group") whole ≡ None
  group_found =
      past (codes "group") (codes "least") head.least with_links (λ d. refl) ∙ past (codes "group") (codes "link") (some_tables links) with_messages (λ d. refl) ∙ past (codes "group") (codes "multicast") (some_tables messages) ordered (λ d. refl)
      ∙ past (codes "group") (codes "order") head.order placed (λ d. refl) ∙ past (codes "group") (codes "places") head.places scheduled (λ d. refl) ∙ past (codes "group") (codes "tick") head.tick last_table (λ d. refl) ∙ past (codes "group") (codes "time") head.time no_members (λ d. refl)

  pub outage_found : get_member (codes "outage") whole ≡ None
  outage_found =
      past (codes "outage") (codes "least") head.least with_links (λ d. refl) ∙ past (codes "outage") (codes "link") (some_tables links) with_messages (λ d. refl) ∙ past (codes "outage") (codes "multicast") (some_tables messages) ordered (λ d. refl)
      ∙ past (codes "outage") (codes "order") head.order placed (λ d. refl) ∙ past (codes "outage") (codes "places") head.places scheduled (λ d. refl) ∙ past (codes "outage") (codes "tick") head.tick last_table (λ d. refl) ∙ past (codes "outage") (codes "time") head.time no_members (λ d. refl)

  abbrev known : List Key
  known = Time ∷ Tick ∷ Delay ∷ Least ∷ Groups ∷ Places ∷ Multicast ∷ Target ∷ Link ∷ Group ∷ Outage ∷ Schedule ∷ Order ∷ []

  pub only_known : has_only known whole ≡ true
  only_known =
      only known (codes "least") head.least with_links refl ∙ only known (codes "link") (some_tables links) with_messages refl ∙ only known (codes "multicast") (some_tables messages) ordered refl
      ∙ only known (codes "order") head.order placed refl ∙ only known (codes "places") head.places scheduled refl ∙ only known (codes "tick") head.tick last_table refl ∙ only known (codes "time") head.time no_members refl
