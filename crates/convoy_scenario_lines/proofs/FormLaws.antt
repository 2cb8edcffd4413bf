-- The forms of lines: what is read was written so, and what is written is read again.
use Rattle.std.proofs.Common.{◌≡◌, ℕ, pos, ◌+◌, ◌<◌, ◌≤◌, ◌==◌, ◌&&◌, Bool, false, cond, leb, List, [], ◌∷◌, length, map, Option, Some, None, refl, ap, sym, subst, ◌∙◌, arith, inl, inr, codes, decimal}
use Rattle.std.specs.List.{AllByRecursion}
use Rattle.std.specs.Str.{is_utf8}
use Rattle.std.proofs.lemmas.Bool.{cases_Bool, eqb-true, leb-true}
use Rattle.std.proofs.lemmas.List.{nil_from_length}
use Rattle.std.proofs.lemmas.Option.{cond_some, same_Some}
use Rattle.convoy_draft.specs.Checks.{leads_elsewhere}
use Rattle.convoy_draft.specs.Draft.{DraftLink, DraftMessage}
use Rattle.convoy_lines.specs.Words.{next_word, number_of}
use Rattle.convoy_lines.specs.Chains.{◌>>=◌}
use Rattle.convoy_lines.specs.Labels.{words_after}
use Rattle.convoy_scenario_lines.specs.declared.version.Version.{Version}
use Rattle.convoy_scenario_lines.specs.LineForms.{name_of, named_sender, greatest_delay_number, names_in, stamps_in, where_stamps_stay, link_in, issue_in, multicast_in, target_in}
use Rattle.convoy_scenario_lines.specs.ScenarioLines.{issue_word, stamps_words}
use Rattle.convoy_scenario_lines.proofs.Issues.{CanWait, issue_takes}
use Rattle.convoy_scenario_lines.proofs.OwnStamps.{CanHaveStamps, stamps_take, stays}
use Rattle.convoy_lines.specs.Texts.{line_of}
use Rattle.convoy_lines.proofs.LabelLemmas.{bind_some, label_takes}
use Rattle.convoy_lines.proofs.Spelling.{number_takes}

-- ---- names

pub name_takes : (word : List ℕ) → 0 < length (name_of word) → word ≡ name_of word
name_takes word some =
    elim (cases_Bool (is_utf8 word)) [
      | inl utf8 ↦ rw utf8 refl
      | inr other ↦ let none : name_of word ≡ [] = rw other refl in absurd (omega (arith, ap length none))
    ]

pub names_take : (words : List (List ℕ)) → AllByRecursion (λ name. 0 < length name) (map name_of words) → words ≡ map name_of words
names_take [] some = refl
names_take (w ∷ ws) some = rw (← name_takes w some.0, ← names_take ws some.1) refl

-- ---- the lines of a scenario

-- what a line `multicast` says
pub record Says (version : Version) (line : List ℕ) (message : DraftMessage) : Type 0 where
  pub name : List ℕ
  pub from : List ℕ
  pub tick : ℕ
  pub wait : ℕ
  pub to : List (List ℕ)
  pub written : line ≡ line_of (codes "multicast") (name ∷ from ∷ issue_word tick wait ∷ to)
  pub said : message ≡ record { name = name_of name; sender = named_sender from; to = map name_of to; at = pos tick; until = pos (tick + wait) }
  pub can : CanWait version wait

-- the link from one place to another, by their words
abbrev link_from_to : List ℕ → List ℕ → ℕ → ℕ → Bool → DraftLink
link_from_to from to low high stamps = record { sender = named_sender from; to = name_of to; least = pos low; most = pos high; stamps = stamps }

-- what a line `link` says
pub record SaysLink (version : Version) (line : List ℕ) (link : DraftLink) : Type 0 where
  pub from : List ℕ
  pub to : List ℕ
  pub low : ℕ
  pub high : ℕ
  pub stamps : Bool
  pub written : line ≡ line_of (codes "link") (from ∷ to ∷ decimal low ∷ decimal high ∷ stamps_words stamps)
  pub said : link ≡ link_from_to from to low high stamps
  pub can : CanHaveStamps version stamps
  pub home : (link.stamps && leads_elsewhere link) ≡ false

-- a line of names has one at least
pub names_line_takes : (label line : List ℕ) (names : List (List ℕ)) → names_in label line ≡ Some names → AllByRecursion (λ name. 0 < length name) names → (line ≡ line_of label names) × (1 ≤ length names)
names_line_takes label line names e some =
    let a = bind_some (words_after label line) (λ words. cond (leb 1 (length words)) (Some (map name_of words)) None) names e in
    let g = cond_some (leb 1 (length a.0)) (map name_of a.0) names a.2 in
    let same : a.0 ≡ names = names_take a.0 (subst (AllByRecursion (λ name. 0 < length name)) (sym g.1) some) ∙ g.1 in
    (label_takes label line a.0 a.1 ∙ ap (line_of label) same, subst (λ (words : List (List ℕ)). 1 ≤ length words) same (leb-true 1 (length a.0) g.0))

-- the link of these words, by those that are left
abbrev link_at_end : Version → List ℕ → List ℕ → ℕ → List (List ℕ) → ℕ → Option DraftLink
link_at_end version from to low left high = stamps_in version left >>= λ stamps. where_stamps_stay (link_from_to from to low high stamps)

abbrev words_link : Version → List (List ℕ) → Option DraftLink
words_link version words = next_word words >>= λ from. next_word from.1 >>= λ to. next_word to.1 >>= λ least. next_word least.1 >>= λ most.
    number_of greatest_delay_number least.0 >>= λ low. number_of greatest_delay_number most.0 >>= λ high. link_at_end version from.0 to.0 low most.1 high

link_said : (version : Version) (words : List (List ℕ)) (link : DraftLink) → words_link version words ≡ Some link → SaysLink version (line_of (codes "link") words) link
link_said version [] link e = absurd cc
link_said version (from ∷ []) link e = absurd cc
link_said version (from ∷ to ∷ []) link e = absurd cc
link_said version (from ∷ to ∷ least ∷ []) link e = absurd cc
link_said version (from ∷ to ∷ least ∷ most ∷ left) link e =
    let a = bind_some (number_of greatest_delay_number least) (λ low. number_of greatest_delay_number most >>= link_at_end version from to low left) link e in
    let b = bind_some (number_of greatest_delay_number most) (link_at_end version from to a.0 left) link a.2 in
    let c = bind_some (stamps_in version left) (λ stamps. where_stamps_stay (link_from_to from to a.0 b.0 stamps)) link b.2 in
    let last = stamps_take version left c.0 c.1 in
    let home = stays (link_from_to from to a.0 b.0 c.0) link c.2 in
    let low = number_takes greatest_delay_number least a.0 (omega arith) a.1 in
    let high = number_takes greatest_delay_number most b.0 (omega arith) b.1 in
    record {
      from = from;
      to = to;
      low = a.0;
      high = b.0;
      stamps = c.0;
      written = ap (λ w. line_of (codes "link") (from ∷ to ∷ w ∷ most ∷ left)) low.0 ∙ ap (λ w. line_of (codes "link") (from ∷ to ∷ decimal a.0 ∷ w ∷ left)) high.0
          ∙ ap (λ ws. line_of (codes "link") (from ∷ to ∷ decimal a.0 ∷ decimal b.0 ∷ ws)) last.0;
      said = sym home.1;
      can = last.1;
      home = home.0;
    }

pub link_takes : (version : Version) (line : List ℕ) (link : DraftLink) → link_in version line ≡ Some link → SaysLink version line link
link_takes version line link e =
    let a = bind_some (words_after (codes "link") line) (words_link version) link e in
    subst (λ l. SaysLink version l link) (sym (label_takes (codes "link") line a.0 a.1)) (link_said version a.0 link a.2)

-- the message of these words, from one tick to another
abbrev message_from_to : List ℕ → List ℕ → List (List ℕ) → ℕ × ℕ → DraftMessage
message_from_to name from to issue = record { name = name_of name; sender = named_sender from; to = map name_of to; at = pos issue.0; until = pos issue.1 }

abbrev words_message : Version → List (List ℕ) → Option DraftMessage
words_message version words = next_word words >>= λ name. next_word name.1 >>= λ from. next_word from.1 >>= λ word. issue_in version word.0 >>= λ issue. Some (message_from_to name.0 from.0 word.1 issue)

message_said : (version : Version) (words : List (List ℕ)) (message : DraftMessage) → words_message version words ≡ Some message → Says version (line_of (codes "multicast") words) message
message_said version [] message e = absurd cc
message_said version (name ∷ []) message e = absurd cc
message_said version (name ∷ from ∷ []) message e = absurd cc
message_said version (name ∷ from ∷ word ∷ to) message e =
    let a = bind_some (issue_in version word) (λ issue. Some (message_from_to name from to issue)) message e in
    let issue = issue_takes version word a.0 a.1 in
    record {
      name = name;
      from = from;
      tick = a.0.0;
      wait = issue.wait;
      to = to;
      written = ap (λ w. line_of (codes "multicast") (name ∷ from ∷ w ∷ to)) issue.written;
      said = sym (same_Some _ message a.2) ∙ ap (λ last. message_from_to name from to (a.0.0, last)) issue.last;
      can = issue.can;
    }

pub message_takes : (version : Version) (line : List ℕ) (message : DraftMessage) → multicast_in version line ≡ Some message → Says version line message
message_takes version line message e =
    let a = bind_some (words_after (codes "multicast") line) (words_message version) message e in
    subst (λ l. Says version l message) (sym (label_takes (codes "multicast") line a.0 a.1)) (message_said version a.0 message a.2)

abbrev words_target : List (List ℕ) → Option (List ℕ × List ℕ)
words_target words = next_word words >>= λ message. next_word message.1 >>= λ group. cond (length group.1 == 0) (Some (name_of message.0, name_of group.0)) None

target_said : (words : List (List ℕ)) (target : List ℕ × List ℕ) → words_target words ≡ Some target → 0 < length target.0 → 0 < length target.1 → words ≡ target.0 ∷ target.1 ∷ []
target_said [] target e some-message some-group = absurd cc
target_said (message ∷ []) target e some-message some-group = absurd cc
target_said (message ∷ group ∷ left) target e some-message some-group =
    let a = cond_some (length left == 0) (name_of message, name_of group) target e in
    let last : left ≡ [] = nil_from_length left (eqb-true _ _ a.0) in
    let first : message ≡ target.0 = name_takes message (subst (λ (t : List ℕ × List ℕ). 0 < length t.0) (sym a.1) some-message) ∙ ap (λ (t : List ℕ × List ℕ). t.0) a.1 in
    let second : group ≡ target.1 = name_takes group (subst (λ (t : List ℕ × List ℕ). 0 < length t.1) (sym a.1) some-group) ∙ ap (λ (t : List ℕ × List ℕ). t.1) a.1 in
    ap (λ w. w ∷ group ∷ left) first ∙ ap (λ w. target.0 ∷ w ∷ left) second ∙ ap (λ ws. target.0 ∷ target.1 ∷ ws) last

pub target_takes : (line : List ℕ) (target : List ℕ × List ℕ) → target_in line ≡ Some target → 0 < length target.0 → 0 < length target.1 → line ≡ line_of (codes "target") (target.0 ∷ target.1 ∷ [])
target_takes line target e some-message some-group =
    let a = bind_some (words_after (codes "target") line) words_target target e in
    label_takes (codes "target") line a.0 a.1 ∙ ap (line_of (codes "target")) (target_said a.0 target a.2 some-message some-group)
