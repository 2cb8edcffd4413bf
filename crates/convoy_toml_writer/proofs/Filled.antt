-- What the lines of the document leave: its table.
use Rattle.std.proofs.Common.{◌≡◌, ℕ, List, [], ◌∷◌, ◌++◌, map, codes, Option, Some, None, option_map, option_and_then, refl, sym, ap, ◌∙◌, append_assoc}
use Rattle.std.specs.List.{flat_map}
use Rattle.std.proofs.lemmas.List.{append-nil}
use Rattle.std.proofs.lemmas.Option.{none-some, same_Some}
use Rattle.toml.specs.Data.{Data, string, array, table, Items, no_items, item, push_item, Members}
use Rattle.toml.specs.Tables.{header, Node, Nodes, no_nodes, node, value, open_table, open_array, get_node, insert, replace, Edit, header_node, along_header, along_dots, at_key, put, define, close, close_node, Document, Expression, std_table}
use Rattle.toml.specs.View.{items_of}
use Rattle.toml.proofs.NodeLaws.{seq, keep, get_node-replace, replace-replace, replace-self, get_node-insert, replace-insert, along_found}
use Rattle.toml.proofs.ReadLines.{run}
use Rattle.toml.proofs.ReadValues.{item_join, item_join-none, item_join-push}
use Rattle.convoy_scenario.specs.Scenario.{Link, Message, Scenario, group_name_at, message_at}
use Rattle.convoy_packets.specs.Assignment.{Schedule}
use Rattle.convoy_toml_writer.proofs.Items.{map_same}
use Rattle.convoy_toml_writer.proofs.Document.{number, with_member, some_tables, pair, Pairs, pair_lines, array_lines, Head, head_of, head_pairs, sender_data, stamps_data, until_data, names_data, link_pairs, message_pairs, target_pairs, document_lines, link_row, message_row, link_table, message_table, whole_table, document_table}

-- ---- pairs

-- the pairs, put into a table
abbrev pub puts : Pairs → Edit
puts [] = keep
puts ((key, None) ∷ ps) = puts ps
puts ((key, Some d) ∷ ps) = seq (put ([], key) d) (puts ps)

bind_some : (o : Option Nodes) (b : Edit) (r : Nodes) → option_and_then b o ≡ Some r → (mid : Nodes) × (o ≡ Some mid) × (b mid ≡ Some r)
bind_some None b r e = absurd (none-some r e)
bind_some (Some mid) b r e = (mid, refl, e)

-- a header leads into this node
abbrev Wraps : (Nodes → Node) → Type 0
Wraps wrap = (edit : Edit) (ns : Nodes) → header_node edit (wrap ns) ≡ option_map wrap (edit ns)

pair_run : (k key : List ℕ) (d : Data) (wrap : Nodes → Node) (root inner mid : Nodes) (es : List Expression) → Wraps wrap → get_node k root ≡ Some (wrap inner) → put ([], key) d inner ≡ Some mid
    → run (root, k ∷ []) (pair key d ∷ es) ≡ run (replace k (wrap mid) root, k ∷ []) es
unfolding define along_header
pair_run k key d wrap root inner mid es wraps there made =
    let step = along_found k [] (put ([], key) d) root (wrap inner) there in
    rw (there, wraps (put ([], key) d) inner, made) refl

-- pairs below a header go into its table
pairs_run : (k : List ℕ) (wrap : Nodes → Node) (ps : Pairs) (root inner made : Nodes) (es : List Expression) → Wraps wrap → get_node k root ≡ Some (wrap inner) → puts ps inner ≡ Some made
    → run (root, k ∷ []) (pair_lines ps ++ es) ≡ run (replace k (wrap made) root, k ∷ []) es
pairs_run k wrap [] root inner made es wraps there all =
    let same : inner ≡ made = same_Some inner made all in
    ap (λ ns. run (ns, k ∷ []) es) (sym (replace-self k (wrap made) root (there ∙ ap (λ ns. Some (wrap ns)) same)))
pairs_run k wrap ((key, None) ∷ ps) root inner made es wraps there all = pairs_run k wrap ps root inner made es wraps there all
pairs_run k wrap ((key, Some d) ∷ ps) root inner made es wraps there all =
    let (mid, first_put, others) = bind_some (put ([], key) d inner) (puts ps) made all in
    let now = get_node-replace k (wrap mid) root (wrap inner) there in
    pair_run k key d wrap root inner mid (pair_lines ps ++ es) wraps there first_put
    ∙ pairs_run k wrap ps (replace k (wrap mid) root) mid made es wraps now others
    ∙ ap (λ ns. run (ns, k ∷ []) es) (replace-replace k (wrap mid) (wrap made) root)

-- ---- tables under one key

-- a node that may be missing, put at a key
abbrev insert_some : List ℕ → Option Node → Nodes → Nodes
insert_some k None root = root
insert_some k (Some x) root = insert k x root

module _ {A : Type 0} (k : List ℕ) (pairs_of : A → Pairs) (nodes_of : A → Nodes) (made : (x : A) → puts (pairs_of x) no_nodes ≡ Some (nodes_of x)) where
  abbrev lines_of : A → List Expression
  lines_of x = array_lines k (pairs_of x)

  abbrev tables_of : List A → Items
  tables_of xs = items_of (map (λ x. table (close (nodes_of x))) xs)

  -- the first table
  first_run : (x : A) (root : Nodes) (path : List (List ℕ)) (es : List Expression) → get_node k root ≡ None
      → run (root, path) (lines_of x ++ es) ≡ run (insert k (open_array no_items (nodes_of x)) root, k ∷ []) es
  unfolding define along_header at_key
  first_run x root path es none =
      let opened = insert k (open_array no_items no_nodes) root in
      rw none (pairs_run k (open_array no_items) (pairs_of x) opened no_nodes (nodes_of x) es (λ edit ns. refl) (get_node-insert k _ root) (made x)
      ∙ ap (λ ns. run (ns, k ∷ []) es) (replace-insert k _ _ root))

  -- one table more
  next_run : (x : A) (root : Nodes) (path : List (List ℕ)) (done : Items) (last : Nodes) (es : List Expression) → get_node k root ≡ Some (open_array done last)
      → run (root, path) (lines_of x ++ es) ≡ run (replace k (open_array (push_item done (table (close last))) (nodes_of x)) root, k ∷ []) es
  unfolding define along_header at_key
  next_run x root path done last es there =
      let pushed = push_item done (table (close last)) in
      let opened = replace k (open_array pushed no_nodes) root in
      rw there (pairs_run k (open_array pushed) (pairs_of x) opened no_nodes (nodes_of x) es (λ edit ns. refl) (get_node-replace k _ root _ there) (made x)
      ∙ ap (λ ns. run (ns, k ∷ []) es) (replace-replace k _ _ root))

  -- what the tables after one leave
  pub record AreAdded (xs : List A) (root : Nodes) (path : List (List ℕ)) (done : Items) (last : Nodes) : Type 0 where
    pub array_now : Node
    pub path_now : List (List ℕ)
    pub ran : (es : List Expression) → run (root, path) (flat_map lines_of xs ++ es) ≡ run (replace k array_now root, path_now) es
    pub holds : close_node array_now ≡ array (item_join (push_item done (table (close last))) (tables_of xs))

  others_run : (xs : List A) (root : Nodes) (path : List (List ℕ)) (done : Items) (last : Nodes) → get_node k root ≡ Some (open_array done last) → AreAdded xs root path done last
  others_run [] root path done last there = record {
    array_now = open_array done last;
    path_now = path;
    ran = λ es. ap (λ ns. run (ns, path) es) (sym (replace-self k _ root there));
    holds = ap array (sym (item_join-none _));
  }
  others_run (x ∷ xs) root path done last there =
      let pushed = push_item done (table (close last)) in
      let next = replace k (open_array pushed (nodes_of x)) root in
      let rest = others_run xs next (k ∷ []) pushed (nodes_of x) (get_node-replace k _ root _ there) in
      record {
        array_now = rest.array_now;
        path_now = rest.path_now;
        ran = λ es. ap (run (root, path)) (append_assoc (lines_of x) (flat_map lines_of xs) es) ∙ next_run x root path done last (flat_map lines_of xs ++ es) there ∙ rest.ran es
            ∙ ap (λ ns. run (ns, rest.path_now) es) (replace-replace k _ _ root);
        holds = rest.holds ∙ ap array (item_join-push pushed (table (close (nodes_of x))) (tables_of xs));
      }

  -- what all tables leave
  pub record AreMade (xs : List A) (root : Nodes) (path : List (List ℕ)) : Type 0 where
    pub array_now : Option Node
    pub path_now : List (List ℕ)
    pub ran : (es : List Expression) → run (root, path) (flat_map lines_of xs ++ es) ≡ run (insert_some k array_now root, path_now) es
    pub holds : option_map close_node array_now ≡ some_tables (map (λ x. close (nodes_of x)) xs)

  as_tables : (xs : List A) → tables_of xs ≡ items_of (map table (map (λ x. close (nodes_of x)) xs))
  as_tables [] = refl
  as_tables (x ∷ xs) = ap (item (table (close (nodes_of x)))) (as_tables xs)

  pub tables_run : (xs : List A) (root : Nodes) (path : List (List ℕ)) → get_node k root ≡ None → AreMade xs root path
  tables_run [] root path none = record { array_now = None; path_now = path; ran = λ es. refl; holds = refl }
  tables_run (x ∷ xs) root path none =
      let opened = insert k (open_array no_items (nodes_of x)) root in
      let rest = others_run xs opened (k ∷ []) no_items (nodes_of x) (get_node-insert k _ root) in
      record {
        array_now = Some rest.array_now;
        path_now = rest.path_now;
        ran = λ es. ap (run (root, path)) (append_assoc (lines_of x) (flat_map lines_of xs) es) ∙ first_run x root path (flat_map lines_of xs ++ es) none ∙ rest.ran es
            ∙ ap (λ ns. run (ns, rest.path_now) es) (replace-insert k _ _ root);
        holds = ap Some (rest.holds ∙ ap (λ ds. array (item (table (close (nodes_of x))) ds)) (as_tables xs));
      }

-- a table of its own
table_run : (k : List ℕ) (ps : Pairs) (made root : Nodes) (path : List (List ℕ)) → puts ps no_nodes ≡ Some made → get_node k root ≡ None
    → run (root, path) ((([], k), std_table) ∷ pair_lines ps) ≡ Some (insert k (open_table header made) root, k ∷ [])
unfolding define along_header at_key
table_run k ps made root path all none =
    let opened = insert k (open_table header no_nodes) root in
    rw none (ap (run (opened, k ∷ [])) (sym (append-nil (pair_lines ps))) ∙ pairs_run k (open_table header) ps opened no_nodes made [] (λ edit ns. refl) (get_node-insert k _ root) all
    ∙ ap (λ ns. Some (ns, k ∷ [])) (replace-insert k _ _ root))

-- ---- the tables of a scenario

abbrev with_node : List ℕ → Option Node → Nodes → Nodes
with_node key None rest = rest
with_node key (Some x) rest = node key x rest

close_with : (key : List ℕ) (o : Option Node) (rest : Nodes) → close (with_node key o rest) ≡ with_member key (option_map close_node o) (close rest)
close_with key None rest = refl
close_with key (Some x) rest = refl

close_value : (o : Option Data) → option_map close_node (option_map value o) ≡ o
close_value None = refl
close_value (Some d) = refl

-- what the table of a link holds: the values of its keys
abbrev link_values : Option Data → Data → Data → Option Data → Data → Nodes
link_values sender least most stamps to =
    with_node (codes "from") (option_map value sender)
    (node (codes "least") (value least) (node (codes "most") (value most) (with_node (codes "stamps") (option_map value stamps) (node (codes "to") (value to) no_nodes))))

link_values_made : (sender : Option Data) (least most : Data) (stamps : Option Data) (to : Data)
    → puts ((codes "from", sender) ∷ (codes "to", Some to) ∷ (codes "least", Some least) ∷ (codes "most", Some most) ∷ (codes "stamps", stamps) ∷ []) no_nodes ≡ Some (link_values sender least most stamps to)
unfolding along_dots at_key
link_values_made None least most None to = refl
link_values_made None least most (Some b) to = refl
link_values_made (Some s) least most None to = refl
link_values_made (Some s) least most (Some b) to = refl

link_values_closed : (sender : Option Data) (least most : Data) (stamps : Option Data) (to : Data) → close (link_values sender least most stamps to) ≡ link_row sender least most stamps to
link_values_closed None least most None to = refl
link_values_closed None least most (Some b) to = refl
link_values_closed (Some s) least most None to = refl
link_values_closed (Some s) least most (Some b) to = refl

abbrev link_nodes : Scenario → Link → Nodes
link_nodes scenario link =
    link_values (sender_data scenario link.sender) (number link.least) (number link.most) (stamps_data link.stamps) (string (group_name_at scenario link.to))

link_made : (scenario : Scenario) (link : Link) → puts (link_pairs scenario link) no_nodes ≡ Some (link_nodes scenario link)
link_made scenario link =
    link_values_made (sender_data scenario link.sender) (number link.least) (number link.most) (stamps_data link.stamps) (string (group_name_at scenario link.to))

link_closed : (scenario : Scenario) (link : Link) → close (link_nodes scenario link) ≡ link_table scenario link
link_closed scenario link =
    link_values_closed (sender_data scenario link.sender) (number link.least) (number link.most) (stamps_data link.stamps) (string (group_name_at scenario link.to))

-- what the table of a message holds: the values of its keys
abbrev message_values : Data → Option Data → Data → Data → Option Data → Nodes
message_values at sender name to until =
    node (codes "at") (value at)
    (with_node (codes "from") (option_map value sender)
    (node (codes "name") (value name) (node (codes "to") (value to) (with_node (codes "until") (option_map value until) no_nodes))))

message_values_made : (at : Data) (sender : Option Data) (name to : Data) (until : Option Data)
    → puts ((codes "name", Some name) ∷ (codes "from", sender) ∷ (codes "to", Some to) ∷ (codes "at", Some at) ∷ (codes "until", until) ∷ []) no_nodes ≡ Some (message_values at sender name to until)
unfolding along_dots at_key
message_values_made at None name to None = refl
message_values_made at None name to (Some u) = refl
message_values_made at (Some s) name to None = refl
message_values_made at (Some s) name to (Some u) = refl

message_values_closed : (at : Data) (sender : Option Data) (name to : Data) (until : Option Data) → close (message_values at sender name to until) ≡ message_row at sender name to until
message_values_closed at None name to None = refl
message_values_closed at None name to (Some u) = refl
message_values_closed at (Some s) name to None = refl
message_values_closed at (Some s) name to (Some u) = refl

abbrev message_nodes : Scenario → Message → Nodes
message_nodes scenario message =
    message_values (number message.at) (sender_data scenario message.sender) (string message.name) (names_data scenario message.destinations) (until_data message)

message_made : (scenario : Scenario) (message : Message) → puts (message_pairs scenario message) no_nodes ≡ Some (message_nodes scenario message)
message_made scenario message =
    message_values_made (number message.at) (sender_data scenario message.sender) (string message.name) (names_data scenario message.destinations) (until_data message)

message_closed : (scenario : Scenario) (message : Message) → close (message_nodes scenario message) ≡ message_table scenario message
message_closed scenario message =
    message_values_closed (number message.at) (sender_data scenario message.sender) (string message.name) (names_data scenario message.destinations) (until_data message)

abbrev target_nodes : Scenario → Nodes
target_nodes scenario =
    node (codes "group") (value (string (group_name_at scenario scenario.target_group)))
    (node (codes "message") (value (string (message_at scenario scenario.target_message).name)) no_nodes)

target_made : (scenario : Scenario) → puts (target_pairs scenario) no_nodes ≡ Some (target_nodes scenario)
unfolding along_dots at_key
target_made scenario = refl

-- ---- the whole document

-- the root, with the nodes of its tables of links, of messages and of the target
abbrev root_of : Head → Option Node → Option Node → Option Node → Nodes
root_of head links messages target =
    node (codes "delay") (value head.delay) (node (codes "groups") (value head.groups) (with_node (codes "least") (option_map value head.least) (with_node (codes "link") links (with_node (codes "multicast") messages
    (with_node (codes "order") (option_map value head.order) (with_node (codes "places") (option_map value head.places) (node (codes "schedule") (value head.schedule) (with_node (codes "target") target
    (with_node (codes "tick") (option_map value head.tick) (with_node (codes "time") (option_map value head.time) no_nodes))))))))))

head_run : (time tick least places order : Option Data) (delay groups schedule : Data) (es : List Expression) → let head : Head = record { time = time; tick = tick; delay = delay; least = least; groups = groups; places = places; schedule = schedule; order = order } in
    run (no_nodes, []) (pair_lines (head_pairs head) ++ es) ≡ run (root_of head None None None, []) es
unfolding define along_header along_dots at_key
head_run None None None None None delay groups schedule es = refl
head_run None None None None (Some o) delay groups schedule es = refl
head_run None None None (Some p) None delay groups schedule es = refl
head_run None None None (Some p) (Some o) delay groups schedule es = refl
head_run None None (Some l) None None delay groups schedule es = refl
head_run None None (Some l) None (Some o) delay groups schedule es = refl
head_run None None (Some l) (Some p) None delay groups schedule es = refl
head_run None None (Some l) (Some p) (Some o) delay groups schedule es = refl
head_run None (Some k) None None None delay groups schedule es = refl
head_run None (Some k) None None (Some o) delay groups schedule es = refl
head_run None (Some k) None (Some p) None delay groups schedule es = refl
head_run None (Some k) None (Some p) (Some o) delay groups schedule es = refl
head_run None (Some k) (Some l) None None delay groups schedule es = refl
head_run None (Some k) (Some l) None (Some o) delay groups schedule es = refl
head_run None (Some k) (Some l) (Some p) None delay groups schedule es = refl
head_run None (Some k) (Some l) (Some p) (Some o) delay groups schedule es = refl
head_run (Some t) None None None None delay groups schedule es = refl
head_run (Some t) None None None (Some o) delay groups schedule es = refl
head_run (Some t) None None (Some p) None delay groups schedule es = refl
head_run (Some t) None None (Some p) (Some o) delay groups schedule es = refl
head_run (Some t) None (Some l) None None delay groups schedule es = refl
head_run (Some t) None (Some l) None (Some o) delay groups schedule es = refl
head_run (Some t) None (Some l) (Some p) None delay groups schedule es = refl
head_run (Some t) None (Some l) (Some p) (Some o) delay groups schedule es = refl
head_run (Some t) (Some k) None None None delay groups schedule es = refl
head_run (Some t) (Some k) None None (Some o) delay groups schedule es = refl
head_run (Some t) (Some k) None (Some p) None delay groups schedule es = refl
head_run (Some t) (Some k) None (Some p) (Some o) delay groups schedule es = refl
head_run (Some t) (Some k) (Some l) None None delay groups schedule es = refl
head_run (Some t) (Some k) (Some l) None (Some o) delay groups schedule es = refl
head_run (Some t) (Some k) (Some l) (Some p) None delay groups schedule es = refl
head_run (Some t) (Some k) (Some l) (Some p) (Some o) delay groups schedule es = refl

-- a key that is not that of a first node
get_past : (j k : List ℕ) (o : Option Node) (ns : Nodes) → ((x : Node) → get_node j (node k x ns) ≡ get_node j ns) → get_node j (with_node k o ns) ≡ get_node j ns
get_past j k None ns other = refl
get_past j k (Some x) ns other = other x

-- a key that comes after, and one that comes before
insert_past : (j k : List ℕ) (y : Node) (o : Option Node) (ns : Nodes) → ((x : Node) → insert j y (node k x ns) ≡ node k x (insert j y ns)) → insert j y (with_node k o ns) ≡ with_node k o (insert j y ns)
insert_past j k y None ns after = refl
insert_past j k y (Some x) ns after = after x

insert_before : (j k : List ℕ) (y : Node) (o : Option Node) (ns : Nodes) → ((x : Node) → insert j y (node k x ns) ≡ node j y (node k x ns)) → insert j y ns ≡ node j y ns → insert j y (with_node k o ns) ≡ node j y (with_node k o ns)
insert_before j k y None ns before others = others
insert_before j k y (Some x) ns before others = before x

-- what stands after the tables of messages
abbrev after_messages : Head → Option Node → Nodes
after_messages head target =
    with_node (codes "order") (option_map value head.order) (with_node (codes "places") (option_map value head.places) (node (codes "schedule") (value head.schedule) (with_node (codes "target") target
    (with_node (codes "tick") (option_map value head.tick) (with_node (codes "time") (option_map value head.time) no_nodes)))))

-- a key that the head has not
none_after : (j : List ℕ) (head : Head)
    → ((x : Node) (ns : Nodes) → get_node j (node (codes "order") x ns) ≡ get_node j ns)
    → ((x : Node) (ns : Nodes) → get_node j (node (codes "places") x ns) ≡ get_node j ns)
    → ((x : Node) (ns : Nodes) → get_node j (node (codes "schedule") x ns) ≡ get_node j ns)
    → ((x : Node) (ns : Nodes) → get_node j (node (codes "tick") x ns) ≡ get_node j ns)
    → ((x : Node) (ns : Nodes) → get_node j (node (codes "time") x ns) ≡ get_node j ns)
    → get_node j (after_messages head None) ≡ None
none_after j head order places schedule tick time =
    let timed = with_node (codes "time") (option_map value head.time) no_nodes in
    let ticked = with_node (codes "tick") (option_map value head.tick) timed in
    let scheduled = node (codes "schedule") (value head.schedule) ticked in
    let placed = with_node (codes "places") (option_map value head.places) scheduled in
    get_past j (codes "order") (option_map value head.order) placed (λ x. order x placed)
    ∙ get_past j (codes "places") (option_map value head.places) scheduled (λ x. places x scheduled)
    ∙ schedule (value head.schedule) ticked ∙ get_past j (codes "tick") (option_map value head.tick) timed (λ x. tick x timed)
    ∙ get_past j (codes "time") (option_map value head.time) no_nodes (λ x. time x no_nodes)

no_link : (head : Head) → get_node (codes "link") (root_of head None None None) ≡ None
no_link head =
    get_past (codes "link") (codes "least") (option_map value head.least) _ (λ x. refl) ∙ none_after (codes "link") head (λ x ns. refl) (λ x ns. refl) (λ x ns. refl) (λ x ns. refl) (λ x ns. refl)

no_message : (head : Head) (links : Option Node) → get_node (codes "multicast") (root_of head links None None) ≡ None
no_message head links =
    get_past (codes "multicast") (codes "least") (option_map value head.least) _ (λ x. refl) ∙ get_past (codes "multicast") (codes "link") links _ (λ x. refl)
    ∙ none_after (codes "multicast") head (λ x ns. refl) (λ x ns. refl) (λ x ns. refl) (λ x ns. refl) (λ x ns. refl)

no_target : (head : Head) (links messages : Option Node) → get_node (codes "target") (root_of head links messages None) ≡ None
no_target head links messages =
    get_past (codes "target") (codes "least") (option_map value head.least) _ (λ x. refl) ∙ get_past (codes "target") (codes "link") links _ (λ x. refl) ∙ get_past (codes "target") (codes "multicast") messages _ (λ x. refl)
    ∙ none_after (codes "target") head (λ x ns. refl) (λ x ns. refl) (λ x ns. refl) (λ x ns. refl) (λ x ns. refl)

link_put : (head : Head) (links : Option Node) → insert_some (codes "link") links (root_of head None None None) ≡ root_of head links None None
link_put head None = refl
link_put head (Some x) =
    ap (λ rest. node (codes "delay") (value head.delay) (node (codes "groups") (value head.groups) rest))
    (insert_past (codes "link") (codes "least") x (option_map value head.least) _ (λ y. refl)
    ∙ ap (with_node (codes "least") (option_map value head.least)) (insert_before (codes "link") (codes "order") x (option_map value head.order) _ (λ y. refl) (insert_before (codes "link") (codes "places") x (option_map value head.places) _ (λ y. refl) refl)))

message_put : (head : Head) (links messages : Option Node) → insert_some (codes "multicast") messages (root_of head links None None) ≡ root_of head links messages None
message_put head links None = refl
message_put head links (Some x) =
    ap (λ rest. node (codes "delay") (value head.delay) (node (codes "groups") (value head.groups) rest))
    (insert_past (codes "multicast") (codes "least") x (option_map value head.least) _ (λ y. refl)
    ∙ ap (with_node (codes "least") (option_map value head.least)) (insert_past (codes "multicast") (codes "link") x links _ (λ y. refl)
    ∙ ap (with_node (codes "link") links) (insert_before (codes "multicast") (codes "order") x (option_map value head.order) _ (λ y. refl) (insert_before (codes "multicast") (codes "places") x (option_map value head.places) _ (λ y. refl) refl))))

target_put : (head : Head) (links messages : Option Node) (x : Node) → insert (codes "target") x (root_of head links messages None) ≡ root_of head links messages (Some x)
target_put head links messages x =
    let at_time = insert_before (codes "target") (codes "time") x (option_map value head.time) no_nodes (λ y. refl) refl in
    let at_tick = insert_before (codes "target") (codes "tick") x (option_map value head.tick) (with_node (codes "time") (option_map value head.time) no_nodes) (λ y. refl) at_time in
    ap (λ rest. node (codes "delay") (value head.delay) (node (codes "groups") (value head.groups) rest))
    (insert_past (codes "target") (codes "least") x (option_map value head.least) _ (λ y. refl)
    ∙ ap (with_node (codes "least") (option_map value head.least)) (insert_past (codes "target") (codes "link") x links _ (λ y. refl)
    ∙ ap (with_node (codes "link") links) (insert_past (codes "target") (codes "multicast") x messages _ (λ y. refl)
    ∙ ap (with_node (codes "multicast") messages) (insert_past (codes "target") (codes "order") x (option_map value head.order) _ (λ y. refl)
    ∙ ap (with_node (codes "order") (option_map value head.order)) (insert_past (codes "target") (codes "places") x (option_map value head.places) _ (λ y. refl)
    ∙ ap (λ rest. with_node (codes "places") (option_map value head.places) (node (codes "schedule") (value head.schedule) rest)) at_tick)))))

-- the table of the root
root_closed : (head : Head) (links messages : Option Node) (target : Nodes) (link_rows message_rows : List Members)
    → option_map close_node links ≡ some_tables link_rows → option_map close_node messages ≡ some_tables message_rows
    → close (root_of head links messages (Some (open_table header target))) ≡ whole_table head link_rows message_rows (close target)
root_closed head links messages target link_rows message_rows same_links same_messages =
    rw (
      close_with (codes "least") (option_map value head.least) _,
      close_with (codes "link") links _,
      close_with (codes "multicast") messages _,
      close_with (codes "order") (option_map value head.order) _,
      close_with (codes "places") (option_map value head.places) _,
      close_with (codes "tick") (option_map value head.tick) _,
      close_with (codes "time") (option_map value head.time) _,
      close_value head.least,
      close_value head.order,
      close_value head.places,
      close_value head.tick,
      close_value head.time,
      same_links,
      same_messages,
    ) refl

-- the lines of the document leave its table
pub document_filled : (scenario : Scenario) (schedule : Schedule) → (doc : Document) × (run (no_nodes, []) (document_lines scenario schedule) ≡ Some doc) × (close doc.0 ≡ document_table scenario schedule)
document_filled scenario schedule =
    let head = head_of scenario schedule in
    let target_lines : List Expression = (([], codes "target"), std_table) ∷ pair_lines (target_pairs scenario) in
    let message_lines : List Expression = flat_map (λ message. array_lines (codes "multicast") (message_pairs scenario message)) scenario.multicasts in
    let links = tables_run (codes "link") (link_pairs scenario) (link_nodes scenario) (link_made scenario) scenario.links (root_of head None None None) [] (no_link head) in
    let messages = tables_run (codes "multicast") (message_pairs scenario) (message_nodes scenario) (message_made scenario) scenario.multicasts (root_of head links.array_now None None) links.path_now (no_message head links.array_now) in
    let root = root_of head links.array_now messages.array_now None in
    let target_ran = table_run (codes "target") (target_pairs scenario) (target_nodes scenario) root messages.path_now (target_made scenario) (no_target head links.array_now messages.array_now) in
    let full = root_of head links.array_now messages.array_now (Some (open_table header (target_nodes scenario))) in
    let link_rows = map_same (λ link. close (link_nodes scenario link)) (link_table scenario) scenario.links (link_closed scenario) in
    let message_rows = map_same (λ message. close (message_nodes scenario message)) (message_table scenario) scenario.multicasts (message_closed scenario) in (
      (full, codes "target" ∷ []),
      head_run head.time head.tick head.least head.places head.order head.delay head.groups head.schedule _
          ∙ links.ran (message_lines ++ target_lines) ∙ ap (λ ns. run (ns, links.path_now) (message_lines ++ target_lines)) (link_put head links.array_now)
          ∙ messages.ran target_lines ∙ ap (λ ns. run (ns, messages.path_now) target_lines) (message_put head links.array_now messages.array_now)
          ∙ target_ran ∙ ap (λ ns. Some (ns, codes "target" ∷ [])) (target_put head links.array_now messages.array_now (open_table header (target_nodes scenario))),
      root_closed head links.array_now messages.array_now (target_nodes scenario) _ _ (links.holds ∙ ap some_tables link_rows) (messages.holds ∙ ap some_tables message_rows),
    )
