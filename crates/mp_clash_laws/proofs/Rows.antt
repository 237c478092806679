-- Worked rows of clashes.
use Rattle.std.proofs.Common.{ℕ, zero, suc, inl, inr, [], ◌∷◌, false, None, refl, arith}
use Rattle.mp_types.specs.declared.requests.Request.{Request}
use Rattle.mp_types.specs.declared.requests.Request.TheVariants as request
use Rattle.mp_hub.specs.Hub.{HubView, hub_after}
use Rattle.mp_alike_laws.proofs.Rows.{worked_hubs}
use Rattle.mp_alike_laws.specs.Renaming.{Renaming}
use Rattle.mp_alike_laws.specs.Alike.{AlikeHubs as SameHubs}
use Rattle.mp_source_laws.specs.Alike.{AlikeHubs, IsOver}
use Rattle.mp_source_laws.proofs.Over.{free_is_live, same_or_over}
use Rattle.mp_wait_laws.proofs.Waits.{laid_after}
use Rattle.mp_clash_laws.specs.Rows.{AnySource, NamedSources, PostedFirst, WorkedClashes, everybody, nobody}
use Rattle.mp_clash_laws.proofs.Calls.{exchange_apart}
use Rattle.mp_clash_laws.proofs.Later.{collects_later}

first : Request
first = request.Send false 0 2 7 (97 ∷ [])

second : Request
second = request.Send false 0 2 7 (98 ∷ [])

named_sources : NamedSources
unfolding first second
named_sources =
    let x = exchange_apart nobody (hub_after [] []) 1 0 second first tt tt (laid_after [] []) (omega arith)
    (λ e. absurd (omega (arith, e))) (λ a b any. absurd (cc)) (λ i e f. absurd (cc))
    (record { one = λ a b. refl; other = λ a b. refl }) in
    (x.names, x.hubs)

-- where everybody may ask for any source, and no post is over, likeness keeps the order of all messages
all_kept : (names : Renaming) (a b : HubView) → ((place : ℕ) → IsOver a.board place → ⊥) → AlikeHubs everybody names a b
    → SameHubs names a b
all_kept names a b live f = record {
  links = f.links;
  board = record {
    many = (f.board).many;
    next = (f.board).next;
    lines = λ place. same_or_over names a.board b.board place ((f.board).lines place) (live place);
    bodies = (f.board).bodies;
    claims = (f.board).claims;
    ranks = λ i j m n below here there same. (f.board).ranks i j m n below here there same (live i) (live j);
    sends = λ i j s t below here there dest comm. (f.board).sends i j s t below here there dest comm refl;
  };
  claims = f.claims;
  sides = f.sides;
  reserved = f.reserved;
  senders = f.senders;
}

-- two messages that nobody received aren't over
both_wait : HubView
both_wait = hub_after [] ((0, first) ∷ (1, second) ∷ [])

none_over : (place : ℕ) → IsOver both_wait.board place → ⊥
unfolding both_wait first second
none_over zero over = free_is_live both_wait.board zero _ refl refl over
none_over (suc zero) over = free_is_live both_wait.board (suc zero) _ refl refl over
none_over (suc (suc place)) (inl over) = (let e = over.there in absurd (cc))
none_over (suc (suc place)) (inr over) = (let e = over.there in absurd (cc))

any_source : AnySource
unfolding both_wait first second
any_source alike = worked_hubs.one_rank (alike.0, all_kept alike.0 _ _ none_over alike.1)

posted_first : PostedFirst
posted_first =
    collects_later nobody (hub_after [] []) 1 0 0 None None 0 1 7 (97 ∷ []) (laid_after [] []) (omega arith)
    (λ e. absurd (omega (arith, e)))
    (record { none = refl; neither = refl; one = refl; other = refl })

pub worked_clashes : WorkedClashes
worked_clashes = record {
  named = named_sources;
  any = any_source;
  posted = posted_first;
  synchronous = (refl, refl);
  polled = (refl, refl, refl);
}
