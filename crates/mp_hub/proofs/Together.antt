-- Posts that are all ready complete together.
use Rattle.std.proofs.Common.{◌≡◌, ℕ, suc, inl, inr, List, [], ◌∷◌, Bool, true, false, cond, not, Option, refl, ap, ◌∙◌, subst}
use Rattle.std.specs.Prelude.{◌==◌, ◌&&◌, ◌||◌}
use Rattle.std.specs.List.{list_any, list_all, Contains}
use Rattle.std.specs.Option.{is_some}
use Rattle.std.proofs.lemmas.Bool.{eqb-true, eq-eqb}
use Rattle.std.proofs.lemmas.List.Elements.{Contains-append_left, Contains-append_right, Contains-push}
use Rattle.rv_image_types.specs.declared.images.Link.{Link}
use Rattle.mp_types.specs.declared.messages.Message.{Message}
use Rattle.mp_types.specs.declared.codes.Code.TheVariants.{BadRequest}
use Rattle.mp_types.specs.declared.replies.Reply.{Reply}
use Rattle.mp_types.specs.declared.replies.Reply.TheVariants as reply
use Rattle.mp_types.specs.declared.requests.Request.TheVariants.{All}
use Rattle.mp_match.specs.declared.posts.Sent.{Sent}
use Rattle.mp_match.specs.declared.posts.Selection.{Selection}
use Rattle.mp_match.specs.declared.posts.Post.TheVariants as post
use Rattle.mp_match.specs.Order.{SendsAt, TakesAt}
use Rattle.mp_match.specs.Board.{line_of, partner_of, is_send_of, is_gone, is_held, is_collected}
use Rattle.mp_hub.specs.Hub.{HubView, Call, may_collect, is_complete, is_known, is_ready, are_distinct, all_got, all_collected, hub_after, reply_of}
use Rattle.mp_hub.specs.Histories.{posts_after}
use Rattle.mp_hub.specs.Losses.{NoneTwice}
use Rattle.mp_hub.specs.Finished.{IsReadyFor, TogetherLaw}
use Rattle.mp_hub.proofs.Handles.{not_true}
use Rattle.mp_hub.proofs.Losses.{partner_is, takes_of, may, paired_message}
use Rattle.mp_hub.proofs.Finished.{complete_from, line_tells}

or_left : (a b : Bool) → a ≡ true → (a || b) ≡ true
or_left a b e = ap (λ c. c || b) e

or_right : (a b : Bool) → b ≡ true → (a || b) ≡ true
or_right true b e = refl
or_right false b e = e

head_there : (x : ℕ) (ns : List ℕ) → Contains (x ∷ ns) x
head_there x ns = Contains-append_left (x ∷ []) ns x (Contains-push [] x)

tail_there : (x n : ℕ) (ns : List ℕ) → Contains ns n → Contains (x ∷ ns) n
tail_there x n ns c = Contains-append_right (x ∷ []) ns n c

-- what passes a test is no element where none passes
any_there : (x : ℕ) (ns : List ℕ) → list_any (λ m. m == x) ns ≡ true → Contains ns x
any_there x [] e = absurd (cc)
any_there x (n ∷ ns) e = go (n == x) refl (λ g. any_there x ns g) e
  where
    go : (b : Bool) → (n == x) ≡ b → (list_any (λ m. m == x) ns ≡ true → Contains ns x)
        → (b || list_any (λ m. m == x) ns) ≡ true → Contains (n ∷ ns) x
    go true f rest g = subst (λ y. Contains (n ∷ ns) y) (eqb-true n x f) (head_there n ns)
    go false f rest g = tail_there n x ns (rest g)

distinct : (ns : List ℕ) → NoneTwice ns → are_distinct ns ≡ true
distinct [] once = refl
distinct (n ∷ ns) once =
    let apart : list_any (λ m. m == n) ns ≡ false =
    not_true (list_any (λ m. m == n) ns) (λ e. once.0 (any_there n ns e)) in
    let rest = distinct ns once.1 in
    (λ i. not (apart i) && rest i)

all_true : (p : ℕ → Bool) (ns : List ℕ) → ((n : ℕ) → Contains ns n → p n ≡ true) → list_all p ns ≡ true
all_true p [] each = refl
all_true p (n ∷ ns) each =
    let here = each n (head_there n ns) in
    let rest = all_true p ns (λ m c. each m (tail_there n m ns c)) in
    (λ i. here i && rest i)

module _ (links : List Link) (calls : List Call) where
  abbrev now : HubView
  now = hub_after links calls

  no_send : (rank place : ℕ) (a : Selection) → TakesAt (posts_after links calls) place a
      → is_send_of rank (line_of (now).board (suc place)) ≡ false
  no_send rank place a (inl e) = (line_tells links calls (is_send_of rank) place (post.Receive a) e).1
  no_send rank place a (inr e) = (line_tells links calls (is_send_of rank) place (post.Claim a) e).1

  send_is : (rank place : ℕ) (s : Sent) → SendsAt (posts_after links calls) place s → s.envelope.source ≡ rank
      → is_send_of rank (line_of (now).board (suc place)) ≡ true
  send_is rank place s sends own =
      (line_tells links calls (is_send_of rank) place (post.Send s) sends).1 ∙ eq-eqb s.envelope.source rank own

  known : (rank place : ℕ) → IsReadyFor links calls rank place → is_known (now) rank (suc place) ≡ true
  known rank place (inl r) =
      let t = takes_of links calls rank place r.0 in
      let m = paired_message links calls place (r.1).0 t.0 t.1 (r.1).1 r.2 in
      let gone : is_collected (now).board (suc place) ≡ false =
      ap (is_gone (now).board) (partner_is links calls place ∙ (r.1).1) ∙ ap (λ o. not (is_held o)) m.2 in
      or_left (may_collect (now) rank (suc place)) (is_send_of rank (line_of (now).board (suc place)))
      (may links calls rank place r.0 gone)
  known rank place (inr s) =
      or_right (may_collect (now) rank (suc place)) (is_send_of rank (line_of (now).board (suc place)))
      (send_is rank place s.0 s.1 s.2)

  ready : (rank place : ℕ) → IsReadyFor links calls rank place → is_ready (now) rank (suc place) ≡ true
  ready rank place (inl r) =
      let t = takes_of links calls rank place r.0 in
      ap (λ b. cond b (is_complete (now) (suc place)) (is_some (partner_of (now).board (suc place))))
      (no_send rank place t.0 t.1)
      ∙ ap is_some (partner_is links calls place ∙ (r.1).1)
  ready rank place (inr s) =
      ap (λ b. cond b (is_complete (now) (suc place)) (is_some (partner_of (now).board (suc place))))
      (send_is rank place s.0 s.1 s.2)
      ∙ complete_from links calls place s.0 s.1 s.3

  together : (rank : ℕ) (ns : List ℕ) → NoneTwice ns
      → ((n : ℕ) → Contains ns n → (place : ℕ) × (n ≡ suc place) × IsReadyFor links calls rank place)
      → (gots : List (Option Message)) × (reply_of links calls rank (All ns) ≡ reply.AllGot gots)
  together rank ns once each =
      let apart = distinct ns once in
      let all_known = all_true (λ n. is_known (now) rank n) ns
      (λ n c. (let r = each n c in ap (is_known (now) rank) r.1 ∙ known rank r.0 r.2)) in
      let all_ready = all_true (λ n. is_ready (now) rank n) ns
      (λ n c. (let r = each n c in ap (is_ready (now) rank) r.1 ∙ ready rank r.0 r.2)) in (
        (all_got rank (now).board ns).0,
        (λ i. (let o : Reply × HubView =
            cond (apart i && all_known i)
            (cond (all_ready i) (all_collected (now) (all_got rank (now).board ns)) (reply.NotYet, now))
            (reply.Code BadRequest, now) in o.0)),
      )

pub together_law : TogetherLaw
together_law = together
