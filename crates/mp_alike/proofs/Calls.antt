-- A hub that stands for some calls, after one more.
use Rattle.std.proofs.Common.{◌≡◌, ℕ, List, [], ◌∷◌, ◌++◌, Result, Ok, Err, IfOk, OnOk, sym, ap, ◌∙◌}
use Rattle.rv_image_types.specs.declared.images.Link.{Link}
use Rattle.mp_types.specs.declared.requests.Request.{Request}
use Rattle.mp_types.specs.declared.replies.Reply.{Reply}
use Rattle.mp_hub.specs.Hub.{Call, HubView, hub_at_start, outcome, reply_of}
use Rattle.mp_hub.specs.Outcomes.{StandsFor}
use Rattle.mp_hub.specs.InnerOutcomes.{IsOutcome}
use Rattle.mp_hub.proofs.CallsSoFar.{hub_on-snoc}

module _ {E : Type 0} (old new : HubView) (rank : ℕ) (q : Request) where
  pub replies : (r : Result Reply E) → IfOk r (λ x. IsOutcome (outcome old rank q) x new)
      → (links : List Link) (calls : List Call) → StandsFor old links calls
      → IfOk r (λ x. x ≡ reply_of links calls rank q)
  replies (Err f) told links calls is = tt
  replies (Ok x) told links calls is = told.0 ∙ ap (λ (h : HubView). (outcome h rank q).0) is

  pub stands : (r : Result Reply E) → IfOk r (λ x. IsOutcome (outcome old rank q) x new)
      → (links : List Link) (calls : List Call) → StandsFor old links calls
      → OnOk r (StandsFor new links (calls ++ (rank, q) ∷ []))
  stands (Err f) told links calls is = tt
  stands (Ok x) told links calls is =
      let after = sym (hub_on-snoc calls (hub_at_start links) (rank, q)) in
      told.1 ∙ ap (λ (h : HubView). (outcome h rank q).1) is ∙ after
