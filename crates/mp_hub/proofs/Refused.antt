-- Which calls the hub answers whatever memory there is, and to which it answers FULL.
use Rattle.std.proofs.Common.{◌≡◌, ◌↔◌, ℕ, true, false, List, [], ◌∷◌, Option, Some, None, Result, Ok, Err, IfOk, IsOk, refl, sym, ap, ◌∙◌}
use Rattle.std.proofs.lemmas.Bool.{le-ltb}
use Rattle.rv_image_types.specs.declared.images.Link.{Link}
use Rattle.mp_types.specs.declared.messages.Message.{Message}
use Rattle.mp_types.specs.declared.codes.Code.TheVariants.{Full}
use Rattle.mp_types.specs.declared.replies.Reply.{Reply}
use Rattle.mp_types.specs.declared.replies.Reply.TheVariants as reply
use Rattle.mp_types.specs.declared.requests.Request.{Request}
use Rattle.mp_types.specs.declared.requests.Request.TheVariants.{Send}
use Rattle.mp_match.specs.Board.{Board, collect, held_count}
use Rattle.mp_hub.specs.declared.state.CallFault.{CallFault}
use Rattle.mp_hub.specs.Hub.{HubView, Call, outcome, reply_of, message_or, all_got}
use Rattle.mp_hub.specs.Outcomes.{StandsFor}
use Rattle.mp_hub.specs.InnerOutcomes.{IsOutcome}
use Rattle.mp_hub.specs.Made.{brings, makes, IsFullFor}
use Rattle.mp_hub.proofs.Outcomes.{is_plain, Comes, is_nothing, is_full, is_sent, is_posted, is_got, is_gathered, comes}

-- what holds for the meaning's reply holds for the reply to the calls that the state stands for
pub spared : (old : HubView) (rank : ℕ) (q : Request) (r : Result Reply CallFault)
    → (makes q (outcome old rank q).0 ≡ false → IsOk r)
    → (links : List Link) (calls : List Call) → StandsFor old links calls
    → makes q (reply_of links calls rank q) ≡ false → IsOk r
spared old rank q r free links calls s made = free (ap (λ (h : HubView). makes q (outcome h rank q).0) s ∙ made)

pub got_none : (rank : ℕ) (b : Board) (ns : List ℕ) → brings (reply.AllGot (all_got rank b ns).0) ≡ false → ns ≡ []
got_none rank b [] h = refl
got_none rank b (n ∷ ns) h = absurd (cc)

plain_full : (r : Reply) → is_plain r ≡ true → r ≡ reply.Code Full → ⊥
plain_full r p e = (let q : false ≡ true = sym (ap is_plain e) ∙ p in cc)

message_full : (other : Reply) (o : Option Message) → is_plain other ≡ true → message_or other o ≡ reply.Code Full → ⊥
message_full other None p e = plain_full other p e
message_full other (Some m) p e = cc

full_only : (h : HubView) (rank : ℕ) (q : Request) (r : Reply) (b : Board) → Comes h rank q r b → r ≡ reply.Code Full
    → IsFullFor h q
full_only h rank q r b (is_nothing p e) f = absurd (plain_full r p f)
full_only h rank q r b (is_full g there e) f = there
full_only h rank q r b (is_sent sync comm dest tag bytes done asked g e) f = absurd (cc)
full_only h rank q r b (is_posted p none g e) f = absurd (plain_full r g f)
full_only h rank q r b (is_got c number other ready asked one p g e) f =
    absurd (message_full other (collect c number).0 p (sym g ∙ f))
full_only h rank q r b (is_gathered numbers asked g e) f = absurd (cc)

full_for : (h : HubView) (rank : ℕ) (q : Request) → IsFullFor h q → (outcome h rank q).0 ≡ reply.Code Full
full_for h rank (Send sync comm dest tag bytes) full = rw (le-ltb (held_count h.board.bodies) 65536 full) refl
full_for h rank _ full = absurd full

spared_full : (q : Request) (h : HubView) → IsFullFor h q → makes q (reply.Code Full) ≡ false
spared_full (Send sync comm dest tag bytes) h full = refl
spared_full _ h full = absurd full

pub full : (old new : HubView) (rank : ℕ) (q : Request) (r : Result Reply CallFault)
    → IfOk r (λ x. IsOutcome (outcome old rank q) x new)
    → (makes q (outcome old rank q).0 ≡ false → IsOk r) → (r ≡ Ok (reply.Code Full)) ↔ IsFullFor old q
full old new rank q (Ok x) gives free = (
  λ e. full_only old rank q _ _ (comes old rank q) (sym gives.0 ∙ (cc)),
  λ h. ap (λ (y : Reply). Ok y) (gives.0 ∙ full_for old rank q h),
)
full old new rank q (Err f) gives free = (
  λ e. absurd (cc),
  λ h. (let no = free (ap (makes q) (full_for old rank q h) ∙ spared_full q old h) in absurd (cc)),
)
