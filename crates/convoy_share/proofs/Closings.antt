-- The end of a search: what the owner has once all trees are one, and once board and ledger are closed.
use Rattle.std.specs.Prelude.{◌≡◌, ℕ, ◌+◌, ◌-◌, ◌≤◌, List, [], length}
use Rattle.std.specs.List.{sum}
use Rattle.std.proofs.Common.{arith, ap, sym, subst, ◌∙◌, inl, inr}
use Rattle.convoy_sim.specs.Record.{IsAttained}
use Rattle.convoy_regions.specs.Regions.{Region}
use Rattle.convoy_incumbent.specs.Boards.{Holding}
use Rattle.convoy_shares.specs.Shares.{whole}
use Rattle.convoy_ledger.specs.Tickets.{LedgerId, Account, HasAll}
use Rattle.convoy_branch.specs.declared.limit.Limit.{Limit}
use Rattle.convoy_branch.specs.Fronts.{left_in}
use Rattle.convoy_branch.specs.FrontLaws.{FrontsBetter}
use Rattle.convoy_share_deque.specs.Tasks.{AreAllTaken}
use Rattle.convoy_share.specs.declared.ending.Ended.{Ended}
use Rattle.convoy_share.specs.declared.means.Means.{Means}
use Rattle.convoy_share.specs.declared.workers.OwnerWorker.{OwnerWorker}
use Rattle.convoy_share.specs.declared.piece.Piece.{Piece}
use Rattle.convoy_share.specs.declared.searching.Closed.{Closed}
use Rattle.convoy_share.specs.declared.workers.ThiefWorker.{ThiefWorker}
use Rattle.convoy_share.specs.Common.{Common}
use Rattle.convoy_share.specs.Ended.{IsClosed, IsEnded, IsTreeAtEnd}
use Rattle.convoy_share.specs.Filling.{CanBeFilled, IsFilling}
use Rattle.convoy_share.specs.Finishing.{IsFinishing}
use Rattle.convoy_share.specs.Means.{IsLater, drawn}
use Rattle.convoy_share.specs.Opening.{AreOpened}
use Rattle.convoy_share.specs.Pieces.{front}
use Rattle.convoy_share.specs.Workers.{HasJoined, StaysOwner}
use Rattle.convoy_share.proofs.Fillings.{IsFilling-better}
use Rattle.convoy_share.proofs.Outcomes.{left_regions_in}

-- each branch was taken: all trees can be put together
pub can_fill : (shared : Common) (before worker : OwnerWorker) (count : ℕ) → StaysOwner shared before worker → AreAllTaken worker.end.put worker.end.taken → count ≡ length worker.end.put → CanBeFilled shared.bounds shared.scenario worker.means.hand.seen (drawn worker.means) count worker.end.put worker.end.taken worker.trees.items
can_fill shared before worker count is all count_is =
    record { result = is.result; all = all; count_is = count_is; some_put = is.some_put; root = is.root }

pub IsFinishing-start : (shared : Common) (put : List Region) (means : Means) (done rest : List Piece) (slots : List (List Piece)) → done ≡ [] → IsFilling shared.bounds shared.scenario means.hand.seen (drawn means) put done rest slots → IsFinishing shared put means done rest slots
IsFinishing-start shared put means done rest slots none filling =
    record { filling = filling; left = inl (ap (λ (ps : List Piece). left_in (front put ps)) none) }

-- all places are filled, and what was left is searched as far as there are tickets
pub IsEnded-finished : (shared : Common) (before worker : OwnerWorker) (after : Means) (done : List Piece) (slots : List (List Piece)) (ended : Ended) → StaysOwner shared before worker → IsLater worker.means after → drawn worker.means ≤ drawn after → IsFinishing shared worker.end.put after done [] slots → ended.hand ≡ after.hand → ended.clerk ≡ after.clerk → ended.pieces.items ≡ done → ended.drawn_by_thieves.items ≡ worker.drawn_by_thieves.items → IsEnded shared before.means.hand.share before.means.clerk.share (length before.drawn_by_thieves.items) before.means.hand.seen ended
IsEnded-finished shared before worker after done slots ended is later more finished hand clerk pieces thieves =
    let seen : after.hand.seen ≡ ended.hand.seen = sym (ap (λ (h : Holding). h.seen) hand) in
    let tickets : drawn after ≡ length ended.clerk.tickets = sym (ap (λ (a : Account). length a.tickets) clerk) in
    let at_seen = subst (λ (n : ℕ). IsFilling shared.bounds shared.scenario n (drawn after) worker.end.put done [] slots) seen finished.filling in
    let at_tickets = subst (λ (n : ℕ). IsFilling shared.bounds shared.scenario ended.hand.seen n worker.end.put done [] slots) tickets at_seen in
    record {
      board_is = ap (λ (h : Holding). h.board) hand ∙ later.board ∙ is.board_is;
      ledger_is = ap (λ (a : Account). a.ledger) clerk ∙ later.ledger ∙ is.ledger_is;
      hand_is = ap (λ (h : Holding). h.share) hand ∙ later.hand ∙ is.hand_is;
      clerk_is = ap (λ (a : Account). a.share) clerk ∙ later.clerk ∙ is.clerk_is;
      no_less = omega (arith, is.no_less, later.seen, seen);
      joined_is = ap length thieves ∙ is.joined_is;
      theirs = omega (arith, is.theirs, more, tickets, ap sum thieves);
      whole = record {
        put = worker.end.put;
        slots = slots;
        filling = subst (λ (ps : List Piece). IsFilling shared.bounds shared.scenario ended.hand.seen (length ended.clerk.tickets) worker.end.put ps [] slots) (sym pieces) at_tickets;
      };
      left = elim finished.left [
        | inl none ↦ inl (ap (λ (ps : List Piece). left_in (front worker.end.put ps)) pieces ∙ none)
        | inr over ↦ inr (elim over [ inl done ↦ inl (ap (λ (a : Account). a.done) clerk ∙ done) | inr stops ↦ inr stops ])
      ];
    }

-- all thieves that were opened are joined: the owner had the whole of board and ledger
pub IsEnded-opened : (shared : Common) (workers least : ℕ) (owner joined : OwnerWorker) (thieves : List ThiefWorker) (ended : Ended) → AreOpened shared workers least workers owner thieves → HasJoined shared owner thieves joined → IsEnded shared joined.means.hand.share joined.means.clerk.share (length joined.drawn_by_thieves.items) joined.means.hand.seen ended → IsEnded shared whole whole (workers - 1) least ended
IsEnded-opened shared workers least owner joined thieves ended opened has is =
    record {
      board_is = is.board_is;
      ledger_is = is.ledger_is;
      hand_is = is.hand_is ∙ has.hand_is ∙ opened.hands;
      clerk_is = is.clerk_is ∙ has.clerk_is ∙ opened.clerks;
      no_less = omega (arith, opened.no_less, has.no_less, is.no_less);
      joined_is = omega (arith, is.joined_is, has.joined_is, opened.none_joined, opened.count);
      theirs = is.theirs;
      whole = is.whole;
      left = is.left;
    }

-- board and ledger are closed: what the workers have brought is whole for the best latency
pub IsTreeAtEnd-ended : (better : FrontsBetter) (shared : Common) (joined least : ℕ) (ended : Ended) (best tickets : ℕ) (limit : Limit) (ledger : LedgerId) → shared.ledger ≡ ledger → shared.may_stop ≡ limit.may_stop → limit.tickets ≡ ledger.most → IsEnded shared whole whole joined least ended → ended.hand.seen ≤ best → HasAll ended.clerk tickets → IsTreeAtEnd shared.bounds shared.scenario best tickets limit ended.pieces.items
IsTreeAtEnd-ended better shared joined least ended best tickets limit ledger ledger_is stops_is limit_is is above all =
    let plan = shared.scenario in
    let put = is.whole.put in
    let slots = is.whole.slots in
    let pieces = ended.pieces.items in
    let most : ended.clerk.ledger.most ≡ limit.tickets = ap (λ (id : LedgerId). id.most) (is.ledger_is ∙ ledger_is) ∙ sym limit_is in
    let now = IsFilling-better better shared.bounds plan ended.hand.seen best (length ended.clerk.tickets) put pieces [] slots above is.whole.filling in
    record {
      whole = record {
        put = put;
        slots = slots;
        filling = subst (λ (n : ℕ). IsFilling shared.bounds plan best n put pieces [] slots) all.count now;
      };
      few = omega (arith, all.within, most);
      left = elim is.left [
        | inl none ↦ inl (sym (left_regions_in put pieces is.whole.filling.settled) ∙ none)
        | inr over ↦ inr (elim over [ inl done ↦ inl (all.done done ∙ most) | inr stops ↦ inr (sym stops_is ∙ stops) ])
      ];
    }

-- so the search has come to this
pub IsClosed-ended : (shared : Common) (joined least : ℕ) (limit : Limit) (ended : Ended) (closed : Closed) → IsEnded shared whole whole joined least ended → closed.best.scenario ≡ shared.scenario → IsAttained closed.best → length closed.by_worker.items ≡ length ended.drawn_by_thieves.items + 1 → sum closed.by_worker.items ≡ closed.tickets → IsTreeAtEnd shared.bounds shared.scenario closed.best.latency closed.tickets limit closed.pieces.items → IsClosed shared.bounds shared.scenario (joined + 1) limit closed
IsClosed-ended shared joined least limit ended closed is scenario attained count sum_is tree = record {
  of_scenario = scenario;
  attained = attained;
  tickets_by_worker = record { each = omega (arith, count, is.joined_is); all = sum_is };
  tree = tree;
}
