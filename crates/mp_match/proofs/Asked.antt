-- What the board answers, by the table and the owners that stand for it.
use Rattle.std.specs.Prelude.{cond, ℕ, zero, suc, ◌-◌, ◌<◌, ◌≤◌, ◌≡◌, Bool, true, false, List, [], ◌∷◌}
use Rattle.std.specs.Prelude.{length, Option, Some, None}
use Rattle.std.specs.List.{slice_get, slice_set}
use Rattle.std.specs.Option.{is_some, option_map}
use Rattle.std.proofs.Common.{refl, sym, ap, ◌∙◌, subst, arith}
use Rattle.std.proofs.lemmas.List.{length-map}
use Rattle.std.proofs.lemmas.Option.{slice_get-map}
use Rattle.mp_types.specs.declared.messages.Envelope.{Envelope}
use Rattle.mp_match.specs.declared.posts.Post.{Post}
use Rattle.mp_match.specs.declared.posts.Post.TheVariants.{Send, Receive, Claim}
use Rattle.mp_match.specs.declared.posts.Line.{Line}
use Rattle.mp_match.specs.declared.live.Live.{Live}
use Rattle.mp_match.specs.declared.live.Owner.{Owner}
use Rattle.mp_match.specs.Free.{free_in}
use Rattle.mp_match.specs.FreePosts.{free_post}
use Rattle.mp_match.specs.Pairs.{is_free, partner_for, partner_of_line}
use Rattle.mp_match.specs.Board.{Board, collect, collect_from, envelope_at, envelope_in, is_collected, is_gone, is_held}
use Rattle.mp_match.specs.Bodies.{bytes_in}
use Rattle.mp_match.specs.Board.{is_receive, line_of, message_at, message_in, partner_of}
use Rattle.mp_match.specs.Board.{claim_at, claim_of}
use Rattle.mp_match.specs.Claimed.{holds, open_claim}
use Rattle.mp_match.specs.Live.{IsOver, StandFor, owner_by, owner_of}
use Rattle.mp_match.specs.InnerLive.{IsPast, awaits, body_in, kept_post, line_in, message_of, owner_in, receives}
use Rattle.mp_match.specs.Live.{post_in}
use Rattle.mp_match.specs.InnerLive.{post_at}
use Rattle.mp_match.proofs.OrderKept.{chosen}
use Rattle.mp_match.proofs.Places.{get_within}

-- ---- of lists

within_get : {A : Type 0} (xs : List A) (i : ℕ) → i < length xs → (x : A) × (slice_get xs i ≡ Some x)
within_get [] i h = absurd (omega arith)
within_get (x ∷ xs) zero h = (x, refl)
within_get (x ∷ xs) (suc i) h = within_get xs i (omega arith)

set_none : (bs : List (Option (List ℕ))) (i : ℕ) → slice_get bs i ≡ Some None → slice_set bs i None ≡ bs
set_none [] i h = absurd (cc)
set_none (x ∷ bs) zero h = (let e : x ≡ None = (cc) in ap (λ (y : Option (List ℕ)). y ∷ bs) (sym e))
set_none (x ∷ bs) (suc i) h = ap (λ (l : List (Option (List ℕ))). x ∷ l) (set_none bs i h)

no_message : (e : Option Envelope) (o : Option (Option (List ℕ))) → bytes_in o ≡ None → message_in e o ≡ None
no_message None o h = refl
no_message (Some e) None h = refl
no_message (Some e) (Some None) h = refl
no_message (Some e) (Some (Some x)) h = absurd (cc)

held_some : (o : Option (Option (List ℕ))) → is_some (bytes_in o) ≡ is_held o
held_some None = refl
held_some (Some None) = refl
held_some (Some (Some x)) = refl

-- ---- of a post

owner_line : (o : Option Line) → option_map owner_of o ≡ owner_in o
owner_line None = refl
owner_line (Some line) = refl

receives_post : (p : Post) (o : Option ℕ) → receives (Some (owner_by p o)) ≡ is_receive (Some (record { post = p; partner = o }))
receives_post (Send s) o = refl
receives_post (Receive a) None = refl
receives_post (Receive a) (Some q) = refl
receives_post (Claim a) o = refl

-- the owner of a line tells whether it is a receive
pub receives_line : (o : Option Line) → receives (owner_in o) ≡ is_receive o
receives_line None = refl
receives_line (Some line) = receives_post line.post line.partner

pub partner_line : (b : Board) (number : ℕ) (line : Line) → line_of b number ≡ Some line
    → partner_of b number ≡ line.partner
partner_line b zero line h = absurd (cc)
partner_line b (suc place) line h = ap partner_of_line h

-- a receive that waits has no partner
unpaired : (p : Post) (o : Option ℕ) → awaits (Some (owner_by p o)) ≡ true → o ≡ None
unpaired (Send s) o h = absurd (cc)
unpaired (Receive a) None h = refl
unpaired (Receive a) (Some q) h = absurd (cc)
unpaired (Claim a) o h = absurd (cc)

-- so it wasn't collected
pub not_collected : (b : Board) (number : ℕ) → awaits (owner_in (line_of b number)) ≡ true → false ≡ is_collected b number
not_collected b zero h = absurd (cc)
not_collected b (suc place) h = go (slice_get b.lines place) h
  where
    go : (o : Option Line) → awaits (owner_in o) ≡ true → false ≡ is_gone b (partner_of_line o)
    go None h = absurd (cc)
    go (Some line) h = sym (ap (is_gone b) (unpaired line.post line.partner h))

-- no claim has the message of a post that is over
pub past_claim : (b : Board) (number : ℕ) → IsPast b number → None ≡ open_claim b number
past_claim b zero past = refl
past_claim b (suc place) past = go (slice_get b.lines place) refl
  where
    none : (x : Bool) → (let o : Option ℕ = None in o) ≡ cond x None None
    none true = refl
    none false = refl

    go : (o : Option Line) → slice_get b.lines place ≡ o → None ≡ open_claim b (suc place)
    go None e =
        none (is_held (slice_get b.bodies place))
        ∙ (λ i. cond (is_held (slice_get b.bodies place)) (claim_at b (partner_of_line (sym e i))) None)
    go (Some line) e =
        let p = past line e in
        let same : p.0 ≡ place = (let q : suc place ≡ suc p.0 = p.1 in omega (arith, q)) in
        let o = subst (λ z. IsOver b z line) same p.2 in
        (λ i. cond (is_held (sym o.empty i)) (claim_of b (suc place)) None)

-- what is over is collected in vain
pub past_collected : (b : Board) (number : ℕ) → IsPast b number → (None, b) ≡ collect b number
past_collected b zero past = refl
past_collected b (suc place) past = go (slice_get b.lines place) refl
  where
    over : (line : Line) → IsOver b place line → (None, b) ≡ collect_from b line.partner
    over line o =
        let bodies = set_none b.bodies o.partner o.gone in
        let message = no_message (envelope_at b (Some o.partner)) (slice_get b.bodies o.partner) (ap bytes_in o.gone) in
        (
        λ i. (
          sym message i,
          (let c : Board = record { lines = b.lines; bodies = sym bodies i; compared = b.compared } in c),
        )
        )
        ∙ ap (collect_from b) (sym o.paired)

    go : (o : Option Line) → slice_get b.lines place ≡ o → (None, b) ≡ collect b (suc place)
    go None e = ap (λ (x : Option Line). collect_from b (partner_of_line x)) (sym e)
    go (Some line) e =
        let p = past line e in
        let same : p.0 ≡ place = (let q : suc place ≡ suc p.0 = p.1 in omega (arith, q)) in
        over line (subst (λ z. IsOver b z line) same p.2)
        ∙ ap (λ (x : Option Line). collect_from b (partner_of_line x)) (sym e)

free_line : (line : Line) (partner : ℕ) → line.partner ≡ Some partner → None ≡ free_in (Some line)
free_line line partner h = ap (λ (o : Option ℕ). cond (is_free o) (Some line.post) None) (sym h)

-- what is over has a partner
pub past_free : (b : Board) (number : ℕ) → IsPast b number → None ≡ free_post b number
past_free b number past = go (line_of b number) refl
  where
    go : (o : Option Line) → line_of b number ≡ o → None ≡ free_post b number
    go None e = ap free_in (sym e)
    go (Some line) e =
        let p = past line e in free_line line p.2.partner p.2.paired ∙ ap free_in (sym e)

module _ (os : List Owner) (f : ℕ → Option Live) (b : Board) (s : StandFor os f b) where
  pub owner_at : (place : ℕ) → slice_get os place ≡ owner_in (slice_get b.lines place)
  owner_at place =
      ap (λ (l : List Owner). slice_get l place) s.owners
      ∙ slice_get-map owner_of b.lines place ∙ owner_line (slice_get b.lines place)

  none_body : (place : ℕ) → f place ≡ None → bytes_in (slice_get b.bodies place) ≡ None
  none_body place h = go (slice_get b.bodies place) refl
    where
      go : (o : Option (Option (List ℕ))) → slice_get b.bodies place ≡ o → bytes_in o ≡ None
      go None e = refl
      go (Some body) e =
          let w = get_within b.bodies place body e in
          let l = within_get b.lines place (omega (arith, w, s.bodies)) in
          ap bytes_in (sym e ∙ (s.over place l.0 h l.1).empty)

  pub body_is : (place : ℕ) → body_in (f place) ≡ bytes_in (slice_get b.bodies place)
  body_is place = go (f place) refl
    where
      go : (o : Option Live) → f place ≡ o → body_in o ≡ bytes_in (slice_get b.bodies place)
      go None e = sym (none_body place e)
      go (Some live) e = ap bytes_in (sym (s.live place live e).body)

  pub held_is : (place : ℕ) → is_some (body_in (f place)) ≡ is_held (slice_get b.bodies place)
  held_is place = ap is_some (body_is place) ∙ held_some (slice_get b.bodies place)

  pub message_is : (place : ℕ) → message_of (f place) ≡ message_at b place
  message_is place = go (f place) refl
    where
      go : (o : Option Live) → f place ≡ o → message_of o ≡ message_at b place
      go None e = sym (no_message (envelope_at b (Some place)) (slice_get b.bodies place) (none_body place e))
      go (Some live) e =
          let l = s.live place live e in (λ i. message_in (envelope_in (sym l.line i)) (sym l.body i))

  pub holds_is : (number : ℕ) → (number ≡ 0 → ⊥) → is_some (body_in (f (number - 1))) ≡ holds b number
  holds_is zero h = absurd (h refl)
  holds_is (suc place) h =
      let e : suc place - 1 ≡ place = omega arith in
      ap (λ (p : ℕ). is_some (body_in (f p))) e ∙ held_is place

  -- the place of the next post has none
  pub next_none : (place : ℕ) → length b.lines ≤ place → f place ≡ None
  next_none place past = go (f place) refl
    where
      go : (o : Option Live) → f place ≡ o → o ≡ None
      go None e = refl
      go (Some live) e =
          let w = get_within b.lines place live.line (s.live place live e).line in absurd (omega (arith, w, past))

  -- what waits isn't over
  waits : (p : Post) (q : ℕ) → partner_for b.lines p ≡ Some q → line_in (f q) ≡ slice_get b.lines q
  waits p q h = go (f q) refl
    where
      go : (o : Option Live) → f q ≡ o → line_in o ≡ slice_get b.lines q
      go None e =
          let c = chosen b.lines p q h in
          let o = s.over q c.line e c.here in
          let bad : None ≡ Some o.partner = sym c.free ∙ o.paired in absurd (cc)
      go (Some live) e = sym (s.live q live e).line

  pub envelope_waits : (p : Post) (q : ℕ) → partner_for b.lines p ≡ Some q
      → envelope_in (line_in (f q)) ≡ envelope_at b (Some q)
  envelope_waits p q h = ap envelope_in (waits p q h)

  pub post_waits : (p : Post) (o : Option ℕ) → o ≡ partner_for b.lines p → kept_post f o ≡ post_at b.lines o
  post_waits p None h = refl
  post_waits p (Some q) h = ap post_in (waits p q (sym h))

  pub owners_length : length os ≡ length b.lines
  owners_length = ap length s.owners ∙ length-map b.lines owner_of

  pub owner_numbered : (number : ℕ) → (number ≡ 0 → ⊥)
      → slice_get os (number - 1) ≡ owner_in (line_of b number)
  owner_numbered zero h = absurd (h refl)
  owner_numbered (suc place) h =
      let e : suc place - 1 ≡ place = omega arith in ap (slice_get os) e ∙ owner_at place
