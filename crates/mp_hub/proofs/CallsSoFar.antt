-- A state that stands for some calls, after one more.
use Rattle.std.proofs.Common.{◌≡◌, ℕ, List, [], ◌∷◌, ◌++◌, refl, sym, ap, ◌∙◌, IfOk, OnOk, Result, Ok, Err, IsOk, subst}
use Rattle.rv_image_types.specs.declared.images.Link.{Link}
use Rattle.mp_types.specs.declared.requests.Request.{Request}
use Rattle.mp_types.specs.declared.replies.Reply.{Reply}
use Rattle.mp_hub.specs.declared.state.CallFault.{CallFault}
use Rattle.mp_hub.specs.Made.{TakesNothing}
use Rattle.mp_types.specs.declared.requests.Request.TheVariants.{Recv}
use Rattle.mp_match.specs.declared.posts.Selection.{Selection}
use Rattle.std.proofs.Common.{Bool, true, Option}
use Rattle.mp_hub.specs.Hub.{HubView, Call, outcome, recv_outcome, selecting, hub_on, hub_at_start, reply_of}
use Rattle.mp_hub.specs.Outcomes.{StandsFor}
use Rattle.mp_hub.specs.InnerOutcomes.{IsOutcome}

pub hub_on-snoc : (cs : List Call) (h : HubView) (c : Call)
    → hub_on h (cs ++ c ∷ []) ≡ (outcome (hub_on h cs) c.0 c.1).1
hub_on-snoc [] h c = refl
hub_on-snoc (x ∷ cs) h c = hub_on-snoc cs (outcome h x.0 x.1).1 c

pub replied : (old new : HubView) (rank : ℕ) (q : Request) (r : Result Reply CallFault)
    → IfOk r (λ x. IsOutcome (outcome old rank q) x new)
    → (links : List Link) (calls : List Call) → StandsFor old links calls
    → IfOk r (λ x. x ≡ reply_of links calls rank q)
replied old new rank q (Err f) g links calls s = tt
replied old new rank q (Ok x) g links calls s = g.0 ∙ ap (λ (k : HubView). (outcome k rank q).0) s

pub stands : (old new : HubView) (rank : ℕ) (q : Request) (r : Result Reply CallFault)
    → IfOk r (λ x. IsOutcome (outcome old rank q) x new)
    → (links : List Link) (calls : List Call) → StandsFor old links calls
    → OnOk r (StandsFor new links (calls ++ (rank, q) ∷ []))
stands old new rank q (Err f) g links calls s = tt
stands old new rank q (Ok x) g links calls s =
    g.1 ∙ ap (λ (k : HubView). (outcome k rank q).1) s ∙ sym (hub_on-snoc calls (hub_at_start links) (rank, q))

pub spared_with : (old : HubView) (rank : ℕ) (q : Request) (r : Result Reply CallFault)
    → (TakesNothing q (outcome old rank q).0 → IsOk r)
    → (links : List Link) (calls : List Call) → StandsFor old links calls → TakesNothing q (reply_of links calls rank q)
    → IsOk r
spared_with old rank q r free links calls s nothing =
    free (subst (λ (h : HubView). TakesNothing q (outcome h rank q).0) (sym s) nothing)

-- a receive that asks for its message at once
pub received : (old new : HubView) (rank : ℕ) (q : Request) (now : Bool)
    (comm : ℕ) (source tag : Option ℕ) (a : Selection) (r : Result Reply CallFault)
    → q ≡ Recv now comm source tag → now ≡ true → a ≡ selecting rank comm source tag
    → IfOk r (λ x. IsOutcome (recv_outcome old true a) x new) → IfOk r (λ x. IsOutcome (outcome old rank q) x new)
received old new rank q now comm source tag a r asked is_now is g =
    subst (λ (p : Request). IfOk r (λ x. IsOutcome (outcome old rank p) x new))
    (sym (asked ∙ ap (λ b. Recv b comm source tag) is_now))
    (subst (λ (b : Selection). IfOk r (λ x. IsOutcome (recv_outcome old true b) x new)) is g)
