-- The cut of a link that its sender hasn't told.
use Rattle.std.proofs.Common.{◌≡◌, ℕ, List, [], ◌∷◌, ◌++◌, Bool, true, false, Option, Some, None, refl, sym, ap, ◌∙◌, subst, inl, inr}
use Rattle.std.specs.Prelude.{◌==◌, find}
use Rattle.std.specs.List.{slice_get}
use Rattle.std.proofs.lemmas.Bool.{and_parts, cases_Bool, cond-true, cond-false, eq-eqb, eqb-true, false_from_ne_true}
use Rattle.std.specs.Option.{option_or}
use Rattle.std.proofs.lemmas.List.Folds.{find-append}
use Rattle.rv_image_types.specs.declared.images.Link.{Link}
use Rattle.mp_types.specs.declared.codes.Code.TheVariants.{BadRequest}
use Rattle.mp_types.specs.declared.replies.Reply.{Reply}
use Rattle.mp_types.specs.declared.replies.Reply.TheVariants as reply
use Rattle.mp_types.specs.declared.requests.Request.{Request}
use Rattle.mp_types.specs.declared.requests.Request.TheVariants.{Init, Cut}
use Rattle.mp_transfers.specs.declared.sides.Side.{Side}
use Rattle.mp_transfers.specs.Inits.{is_receiver, is_sender_over, sender_over}
use Rattle.mp_hub.specs.Hub.{Call, HubView, cut_of, hub_after, outcome, reply_of, setup_of, hub_at_start}
use Rattle.mp_hub.specs.Transfers.{begun}
use Rattle.mp_hub.proofs.Links.{links_law}
use Rattle.mp_hub.proofs.Transfers.{Steps, is_none, is_one, links_on, numbered, steps}
use Rattle.mp_wait_laws.specs.Waits.{OnlyOf, is_from, sends_over}

-- the link is the rank's to receive over, and its sender isn't known and is one of these ranks
pub record NoCut (among : ℕ → Bool) (h : HubView) (r link : ℕ) : Type 0 where
  pub receives : is_receiver h.links r link ≡ true
  pub none : sender_over h.sides link ≡ None
  pub only : OnlyOf among (sends_over h.links link)

-- a sender's side that a call began goes over a link of the rank that made the call
began : (links : List Link) (calls : List Call) (other : ℕ) (call : Request) (n : Side) (link : ℕ)
    → begun other call (reply_of links calls other call) ≡ n ∷ [] → n.link ≡ link → n.setup.sending ≡ true
    → sends_over links link other ≡ true
began links calls other call n link b linked sending = go call (reply_of links calls other call) refl b
  where
    own : (o : Option Link) (l : Link) → o ≡ Some l → l.from ≡ other → is_from other o ≡ true
    own o l there from = ap (is_from other) there ∙ eq-eqb l.from other from

    go : (q : Request) (a : Reply) → reply_of links calls other q ≡ a → begun other q a ≡ n ∷ []
        → sends_over links link other ≡ true
    go (Init true comm peer tag parts size) (reply.Link k) answer b =
        let same : numbered (setup_of other true comm peer tag parts size) k ≡ n = (cc) in
        let number : k ≡ link = ap (λ (t : Side). t.link) same ∙ linked in
        let goes = (links_law.sending) links calls other comm peer tag parts size link
        (answer ∙ ap (λ i. reply.Link i) number) in
        own (slice_get links link) goes.0 goes.1 goes.2
    go (Init false comm peer tag parts size) (reply.Link k) answer b =
        let same : numbered (setup_of other false comm peer tag parts size) k ≡ n = (cc) in
        let direction : false ≡ true = ap (λ (t : Side). t.setup.sending) same ∙ sending in
        absurd (cc)
    go q a answer b = absurd (cc)

-- a side more that doesn't send over the link
none_more : (sides : List Side) (n : Side) (link : ℕ) → is_sender_over link n ≡ false → sender_over sides link ≡ None
    → sender_over (sides ++ n ∷ []) link ≡ None
none_more sides n link other none =
    find-append (is_sender_over link) sides (n ∷ [])
    ∙ ap (λ (o : Option Side). option_or o (find (is_sender_over link) (n ∷ []))) none
    ∙ cond-false (is_sender_over link n) (Some n) None other

module _ (among : ℕ → Bool) (links : List Link) (calls : List Call) where
  pub no_cut_stays : (r link other : ℕ) (call : Request) → among other ≡ false
      → NoCut among (hub_after links calls) r link → NoCut among (outcome (hub_after links calls) other call).1 r link
  no_cut_stays r link other call out w = go (steps (hub_after links calls) other call)
    where
      h : HubView
      h = hub_after links calls

      k : HubView
      k = (outcome (hub_after links calls) other call).1

      with_sides : k.links ≡ h.links → sender_over k.sides link ≡ None → NoCut among k r link
      with_sides l none = record {
        receives = ap (λ ls. is_receiver ls r link) l ∙ w.receives;
        none = none;
        only = subst (λ ls. OnlyOf among (sends_over ls link)) (sym l) w.only;
      }

      apart : (n : Side) → begun other call (reply_of links calls other call) ≡ n ∷ []
          → is_sender_over link n ≡ true → ⊥
      apart n b its =
          let parts = and_parts (n.link == link) n.setup.sending its in
          let over = began links calls other call n link b (eqb-true n.link link parts.0) parts.1 in
          let inside = w.only other (ap (λ ls. sends_over ls link other) (links_on calls (hub_at_start links)) ∙ over) in
          absurd (cc)

      go : Steps h other call (reply_of links calls other call) k → NoCut among k r link
      go (is_none b e l) = with_sides l (ap (λ ts. sender_over ts link) e ∙ w.none)
      go (is_one n b e l join) =
          with_sides l
          (ap (λ ts. sender_over ts link) e
          ∙ none_more h.sides n link (false_from_ne_true (is_sender_over link n) (apart n b)) w.none)

module _ (among : ℕ → Bool) where
  pub no_cut_waits : (h : HubView) (r link : ℕ) → NoCut among h r link → outcome h r (Cut link) ≡ (reply.NotYet, h)
  no_cut_waits h r link w =
      cond-true (is_receiver h.links r link) (cut_of (sender_over h.sides link), h) (reply.Code BadRequest, h)
      w.receives
      ∙ ap (λ (o : Option Side). (let x : Reply × HubView = (cut_of o, h) in x)) w.none

  pub no_cut_from : (h : HubView) (r link : ℕ) → (outcome h r (Cut link)).0 ≡ reply.NotYet
      → OnlyOf among (sends_over h.links link) → NoCut among h r link
  no_cut_from h r link answer only = elim (cases_Bool (is_receiver h.links r link)) [
    | inl its ↦ record { receives = its; none = untold (sender_over h.sides link) (told its); only = only }
    | inr refused ↦
        let code : reply.Code BadRequest ≡ reply.NotYet =
        ap (λ (o : Reply × HubView). o.0) (sym (cond-false (is_receiver h.links r link)
        (cut_of (sender_over h.sides link), h) (reply.Code BadRequest, h) refused)) ∙ answer in absurd (cc)
  ]
    where
      told : is_receiver h.links r link ≡ true → cut_of (sender_over h.sides link) ≡ reply.NotYet
      told its =
          ap (λ (o : Reply × HubView). o.0) (sym (cond-true (is_receiver h.links r link)
          (cut_of (sender_over h.sides link), h) (reply.Code BadRequest, h) its)) ∙ answer

      untold : (o : Option Side) → cut_of o ≡ reply.NotYet → o ≡ None
      untold None e = refl
      untold (Some t) e = absurd (cc)
