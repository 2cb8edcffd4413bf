-- The text of a certificate, piece by piece.
use Rattle.std.proofs.Common.{◌≡◌, ℕ, ◌≤◌, List, [], ◌∷◌, ◌++◌, length, map, take, refl, ap, sym, ◌∙◌, append_assoc}
use Rattle.std.specs.List.{flat_map}
use Rattle.std.proofs.lemmas.List.{append-nil, take_all}
use Rattle.std.proofs.lemmas.List.Concat.{flat_map-append}
use Rattle.std.proofs.lemmas.List.Folds.{flat_map-map}
use Rattle.convoy_lines.specs.Texts.{ended, text_of}
use Rattle.convoy_scenario_lines.specs.ScenarioLines.{scenario_lines, scenario_text}
use Rattle.convoy_scenario.specs.Scenario.{Scenario}
use Rattle.convoy_packets.specs.Assignment.{Schedule}
use Rattle.convoy_certificate.specs.declared.node.Node.{Node}
use Rattle.convoy_certificate.specs.Certificate.{Certificate}
use Rattle.convoy_certificate.specs.Text.{lines_version, version_of, version_line, latency_line, schedule_lines, node_line, end_line, certificate_text}

-- lines, one after another
two_parts : (xs ys : List (List ℕ)) → text_of (xs ++ ys) ≡ text_of xs ++ text_of ys
two_parts xs ys = flat_map-append ended xs ys

-- the text of a certificate, part by part
pub pieces : (c : Certificate) → certificate_text c
    ≡ ended (version_line (version_of c)) ++ (scenario_text (lines_version (version_of c)) c.scenario ++ (ended (latency_line c.latency) ++ (text_of (schedule_lines c.scenario c.schedule) ++ (text_of (map node_line c.nodes) ++ ended end_line))))
pieces c =
    let nodes : List (List ℕ) = map node_line c.nodes ++ end_line ∷ [] in
    let last : text_of nodes ≡ text_of (map node_line c.nodes) ++ ended end_line =
    two_parts (map node_line c.nodes) (end_line ∷ []) ∙ ap (λ t. text_of (map node_line c.nodes) ++ t) (append-nil (ended end_line)) in
    let tail : text_of (schedule_lines c.scenario c.schedule ++ nodes) ≡ text_of (schedule_lines c.scenario c.schedule) ++ (text_of (map node_line c.nodes) ++ ended end_line) =
    two_parts (schedule_lines c.scenario c.schedule) nodes ∙ ap (λ t. text_of (schedule_lines c.scenario c.schedule) ++ t) last in
    let rest : List ℕ → List ℕ = λ t. ended (version_line (version_of c)) ++ (scenario_text (lines_version (version_of c)) c.scenario ++ (ended (latency_line c.latency) ++ t)) in
    ap (λ t. ended (version_line (version_of c)) ++ t) (two_parts (scenario_lines (lines_version (version_of c)) c.scenario) (latency_line c.latency ∷ (schedule_lines c.scenario c.schedule ++ nodes)))
    ∙ ap rest tail

regroup : (a b c d e f : List ℕ) → ((((a ++ b) ++ c) ++ d) ++ e) ++ f ≡ a ++ (b ++ (c ++ (d ++ (e ++ f))))
regroup a b c d e f = simp append_assoc

-- the text of a certificate that is appended part by part
pub in_pieces : (c : Certificate) (plan : Scenario) (latency : ℕ) (schedule : Schedule) (nodes : List Node) → plan ≡ c.scenario → latency ≡ c.latency → schedule ≡ c.schedule → nodes ≡ c.nodes
    → (t1 t2 t3 t4 t5 t6 : List ℕ) → t1 ≡ ended (version_line (version_of c)) → t2 ≡ t1 ++ scenario_text (lines_version (version_of c)) plan → t3 ≡ t2 ++ ended (latency_line latency)
    → t4 ≡ t3 ++ text_of (schedule_lines plan schedule) → t5 ≡ t4 ++ text_of (map node_line nodes) → t6 ≡ t5 ++ ended end_line → t6 ≡ certificate_text c
in_pieces c plan latency schedule nodes p l d n t1 t2 t3 t4 t5 t6 e1 e2 e3 e4 e5 e6 =
    let parts : Certificate = record { scenario = plan; latency = latency; schedule = schedule; nodes = nodes } in
    let first = ended (version_line (version_of c)) in
    let all : t6 ≡ ((((first ++ scenario_text (lines_version (version_of c)) plan) ++ ended (latency_line latency)) ++ text_of (schedule_lines plan schedule)) ++ text_of (map node_line nodes)) ++ ended end_line = rw (e6, e5, e4, e3, e2, e1) refl in
    let same : parts ≡ c = rw (p, l, d, n) refl in
    all ∙ regroup first (scenario_text (lines_version (version_of c)) plan) (ended (latency_line latency)) (text_of (schedule_lines plan schedule)) (text_of (map node_line nodes)) (ended end_line)
    ∙ ap (λ (x : Certificate). ended (version_line (version_of x)) ++ (scenario_text (lines_version (version_of x)) plan ++ (ended (latency_line latency) ++ (text_of (schedule_lines plan schedule) ++ (text_of (map node_line nodes) ++ ended end_line))))) (sym same)
    ∙ sym (pieces parts) ∙ ap certificate_text same

-- a line and its end, after a text
pub in_line : (t s w u v : List ℕ) → u ≡ (t ++ s) ++ w → v ≡ u ++ 10 ∷ [] → v ≡ t ++ ((s ++ w) ++ 10 ∷ [])
in_line t s w u v e f = f ∙ ap (λ x. x ++ 10 ∷ []) (e ∙ append_assoc t s w) ∙ append_assoc t (s ++ w) (10 ∷ [])

-- pieces that are appended one by one
pub in_map : {A B C : Type 0} (f : B → List C) (g : A → B) (xs : List A) (i : ℕ) (old new : List C) → length xs ≤ i
    → new ≡ old ++ flat_map (λ x. f (g x)) (take i xs) → new ≡ old ++ flat_map f (map g xs)
in_map f g xs i old new le e =
    e ∙ ap (λ t. old ++ t) (ap (flat_map (λ x. f (g x))) (take_all i xs le) ∙ sym (flat_map-map f g xs))
