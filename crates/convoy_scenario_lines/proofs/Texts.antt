-- The text of a scenario, piece by piece.
use Rattle.std.proofs.Common.{◌≡◌, ℕ, Bool, List, [], ◌∷◌, ◌++◌, length, map, take, ◌≤◌, refl, ap, sym, ◌∙◌, append_assoc, codes, decimal}
use Rattle.std.specs.List.{flat_map}
use Rattle.std.proofs.lemmas.List.{append-nil, take_all}
use Rattle.std.proofs.lemmas.List.Concat.{flat_map-append}
use Rattle.convoy_scenario.specs.Naming.{sender_word}
use Rattle.convoy_scenario.specs.Scenario.{Scenario, Link, group_name_at}
use Rattle.convoy_scenario.specs.declared.sender.Sender.{Sender}
use Rattle.convoy_scenario_lines.specs.declared.version.Version.{Version}
use Rattle.convoy_lines.specs.Texts.{ended, line_of, spaced, text_of}
use Rattle.convoy_scenario_lines.specs.ScenarioLines.{time_lines, tick_lines, lines_from_delay, delay_line, groups_line, places_lines, link_line, stamps_words, multicast_line, target_line, scenario_text}

pub flat_map_map : {A B C : Type 0} (f : B → List C) (g : A → B) (xs : List A) → flat_map f (map g xs) ≡ flat_map (λ x. f (g x)) xs
flat_map_map f g [] = refl
flat_map_map f g (x ∷ xs) = ap (λ rest. f (g x) ++ rest) (flat_map_map f g xs)

-- the text of a scenario, line by line
pub pieces : (version : Version) (plan : Scenario)
    → scenario_text version plan ≡ text_of (time_lines version plan.time) ++ (text_of (tick_lines plan.tick) ++ (ended (delay_line plan) ++ (ended (groups_line plan) ++ (text_of (places_lines plan.places) ++ (text_of (map (link_line plan) plan.links) ++ (text_of (map (multicast_line plan) plan.multicasts) ++ ended (target_line plan)))))))
pieces version plan =
    let end : text_of (target_line plan ∷ []) ≡ ended (target_line plan) = append-nil (ended (target_line plan)) in
    let rest : text_of (map (multicast_line plan) plan.multicasts ++ target_line plan ∷ []) ≡ text_of (map (multicast_line plan) plan.multicasts) ++ ended (target_line plan) =
    flat_map-append ended (map (multicast_line plan) plan.multicasts) (target_line plan ∷ []) ∙ ap (λ t. text_of (map (multicast_line plan) plan.multicasts) ++ t) end in
    let links : text_of (map (link_line plan) plan.links ++ (map (multicast_line plan) plan.multicasts ++ target_line plan ∷ [])) ≡ text_of (map (link_line plan) plan.links) ++ (text_of (map (multicast_line plan) plan.multicasts) ++ ended (target_line plan)) =
    flat_map-append ended (map (link_line plan) plan.links) (map (multicast_line plan) plan.multicasts ++ target_line plan ∷ []) ∙ ap (λ t. text_of (map (link_line plan) plan.links) ++ t) rest in
    let places : text_of (places_lines plan.places ++ (map (link_line plan) plan.links ++ (map (multicast_line plan) plan.multicasts ++ target_line plan ∷ []))) ≡ text_of (places_lines plan.places) ++ (text_of (map (link_line plan) plan.links) ++ (text_of (map (multicast_line plan) plan.multicasts) ++ ended (target_line plan))) =
    flat_map-append ended (places_lines plan.places) (map (link_line plan) plan.links ++ (map (multicast_line plan) plan.multicasts ++ target_line plan ∷ [])) ∙ ap (λ t. text_of (places_lines plan.places) ++ t) links in
    flat_map-append ended (time_lines version plan.time) (tick_lines plan.tick ++ lines_from_delay plan)
    ∙ ap (λ t. text_of (time_lines version plan.time) ++ t) (flat_map-append ended (tick_lines plan.tick) (lines_from_delay plan) ∙ ap (λ t. text_of (tick_lines plan.tick) ++ (ended (delay_line plan) ++ (ended (groups_line plan) ++ t))) places)

regroup : (t k a b p l m e : List ℕ) → ((((((t ++ k) ++ a) ++ b) ++ p) ++ l) ++ m) ++ e ≡ t ++ (k ++ (a ++ (b ++ (p ++ (l ++ (m ++ e))))))
regroup t k a b p l m e = simp append_assoc

-- the text of a scenario that is appended line by line
pub in_pieces : (version : Version) (plan : Scenario) (none t0 k0 t1 t2 p2 t3 t4 t5 : List ℕ) → none ≡ [] → t0 ≡ none ++ text_of (time_lines version plan.time) → k0 ≡ t0 ++ text_of (tick_lines plan.tick) → t1 ≡ k0 ++ ended (delay_line plan) → t2 ≡ t1 ++ ended (groups_line plan) → p2 ≡ t2 ++ text_of (places_lines plan.places) → t3 ≡ p2 ++ text_of (map (link_line plan) plan.links)
    → t4 ≡ t3 ++ text_of (map (multicast_line plan) plan.multicasts) → t5 ≡ t4 ++ ended (target_line plan) → t5 ≡ scenario_text version plan
in_pieces version plan none t0 k0 t1 t2 p2 t3 t4 t5 e e0 k1 e1 e2 pe e3 e4 e5 =
    let all : t5 ≡ ((((((text_of (time_lines version plan.time) ++ text_of (tick_lines plan.tick)) ++ ended (delay_line plan)) ++ ended (groups_line plan)) ++ text_of (places_lines plan.places)) ++ text_of (map (link_line plan) plan.links)) ++ text_of (map (multicast_line plan) plan.multicasts)) ++ ended (target_line plan) = rw (e5, e4, e3, pe, e2, e1, k1, e0, e) refl in
    all ∙ regroup (text_of (time_lines version plan.time)) (text_of (tick_lines plan.tick)) (ended (delay_line plan)) (ended (groups_line plan)) (text_of (places_lines plan.places)) (text_of (map (link_line plan) plan.links)) (text_of (map (multicast_line plan) plan.multicasts)) (ended (target_line plan)) ∙ sym (pieces version plan)

-- pieces that are appended one by one
pub in_map : {A B C : Type 0} (f : B → List C) (g : A → B) (xs : List A) (i : ℕ) (old new : List C) → length xs ≤ i → new ≡ old ++ flat_map (λ x. f (g x)) (take i xs) → new ≡ old ++ flat_map f (map g xs)
in_map f g xs i old new le e = e ∙ ap (λ t. old ++ t) (ap (flat_map (λ x. f (g x))) (take_all i xs le) ∙ sym (flat_map_map f g xs))

link_pieces : (t s g a b : List ℕ) (ws : List (List ℕ))
    → (((((((((t ++ codes "link") ++ spaced s) ++ spaced g) ++ 32 ∷ []) ++ a) ++ 32 ∷ []) ++ b) ++ flat_map spaced ws) ++ 10 ∷ []) ≡ t ++ ended (line_of (codes "link") (s ∷ g ∷ a ∷ b ∷ ws))
link_pieces t s g a b ws =
    let x = t ++ codes "link" in
    let w = flat_map spaced ws in
    let end = 10 ∷ [] in
    let after-b = w ++ end in
    let after-a = 32 ∷ (b ++ after-b) in
    let after-g = 32 ∷ (a ++ after-a) in
    let after-s = 32 ∷ (g ++ after-g) in
    let front : (((((((x ++ spaced s) ++ spaced g) ++ 32 ∷ []) ++ a) ++ 32 ∷ []) ++ b) ++ w) ++ end ≡ t ++ (codes "link" ++ 32 ∷ (s ++ after-s)) =
    append_assoc ((((((x ++ spaced s) ++ spaced g) ++ 32 ∷ []) ++ a) ++ 32 ∷ []) ++ b) w end
    ∙ append_assoc (((((x ++ spaced s) ++ spaced g) ++ 32 ∷ []) ++ a) ++ 32 ∷ []) b after-b
    ∙ append_assoc ((((x ++ spaced s) ++ spaced g) ++ 32 ∷ []) ++ a) (32 ∷ []) (b ++ after-b)
    ∙ append_assoc (((x ++ spaced s) ++ spaced g) ++ 32 ∷ []) a after-a
    ∙ append_assoc ((x ++ spaced s) ++ spaced g) (32 ∷ []) (a ++ after-a)
    ∙ append_assoc (x ++ spaced s) (spaced g) after-g
    ∙ append_assoc x (spaced s) after-s
    ∙ append_assoc t (codes "link") (32 ∷ (s ++ after-s)) in
    let back : (s ++ 32 ∷ (g ++ 32 ∷ (a ++ 32 ∷ (b ++ w)))) ++ end ≡ s ++ after-s =
    append_assoc s (32 ∷ (g ++ 32 ∷ (a ++ 32 ∷ (b ++ w)))) end
    ∙ ap (λ y. s ++ 32 ∷ y) (append_assoc g (32 ∷ (a ++ 32 ∷ (b ++ w))) end ∙ ap (λ y. g ++ 32 ∷ y) (append_assoc a (32 ∷ (b ++ w)) end ∙ ap (λ y. a ++ 32 ∷ y) (append_assoc b w end))) in
    front ∙ ap (λ y. t ++ (codes "link" ++ 32 ∷ y)) (sym back)

-- the line of a link that is appended word by word
pub link_in_pieces : (plan : Scenario) (l : Link) (sender : Sender) (name : List ℕ) (least most : ℕ) (stamps : Bool) (t t1 t2 t3 t4 t5 t6 t7 t8 t9 : List ℕ)
    → sender ≡ l.sender → name ≡ group_name_at plan l.to → least ≡ l.least → most ≡ l.most → stamps ≡ l.stamps
    → t1 ≡ t ++ codes "link" → t2 ≡ t1 ++ spaced (sender_word plan sender) → t3 ≡ t2 ++ spaced name → t4 ≡ t3 ++ 32 ∷ [] → t5 ≡ t4 ++ decimal least → t6 ≡ t5 ++ 32 ∷ [] → t7 ≡ t6 ++ decimal most → t8 ≡ t7 ++ flat_map spaced (stamps_words stamps) → t9 ≡ t8 ++ 10 ∷ []
    → t9 ≡ t ++ ended (link_line plan l)
link_in_pieces plan l sender name least most stamps t t1 t2 t3 t4 t5 t6 t7 t8 t9 same-sender same-name same-least same-most same-stamps e1 e2 e3 e4 e5 e6 e7 e8 e9 =
    let all : t9 ≡ ((((((((t ++ codes "link") ++ spaced (sender_word plan l.sender)) ++ spaced (group_name_at plan l.to)) ++ 32 ∷ []) ++ decimal l.least) ++ 32 ∷ []) ++ decimal l.most) ++ flat_map spaced (stamps_words l.stamps)) ++ 10 ∷ [] =
    rw (e9, e8, e7, e6, e5, e4, e3, e2, e1, same-sender, same-name, same-least, same-most, same-stamps) refl in
    all ∙ link_pieces t (sender_word plan l.sender) (group_name_at plan l.to) (decimal l.least) (decimal l.most) (stamps_words l.stamps)
