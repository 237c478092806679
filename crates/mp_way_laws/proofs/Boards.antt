-- Two boards of the same posts and the same messages, where a post that has a partner at the first has the same one at
-- the second.
use Rattle.std.specs.Prelude.{ℕ, zero, suc, ◌≡◌, ◌⊎◌, ◌||◌, not, Bool, true, false, cond, List, [], ◌∷◌, Option, Some, None}
use Rattle.std.specs.List.{list_all, slice_get, slice_set}
use Rattle.std.specs.Option.{is_some, option_map}
use Rattle.std.proofs.Common.{refl, sym, ap, ◌∙◌, subst}
use Rattle.std.proofs.lemmas.Bool.{and_from, and_parts}
use mathlib.Core.Logic.{inl, inr}
use Rattle.mp_types.specs.declared.messages.Message.{Message}
use Rattle.mp_types.specs.declared.messages.Envelope.{Envelope}
use Rattle.mp_match.specs.declared.posts.Sent.{Sent}
use Rattle.mp_match.specs.declared.posts.Post.{Post}
use Rattle.mp_match.specs.declared.posts.Line.{Line}
use Rattle.mp_match.specs.Pairs.{partner_at}
use Rattle.mp_match.specs.PostPairs.{posts_of}
use Rattle.mp_match.specs.Order.{SendsAt}
use Rattle.mp_match.specs.Board.{Board, claim_at, claim_in, collect, collect_from, envelope_at, envelope_in, is_held, is_receive, is_receive_at, is_receive_of, is_send_of, is_standard, line_of, message_at, message_in, partner_of}
use Rattle.mp_probe.specs.Claims.{is_waiting}
use Rattle.mp_hub.specs.Hub.{HubView, all_got, is_complete, is_ready, one_got, was_received}
use Rattle.mp_hub.proofs.BoardKept.{one_lines}

-- the first board has a part of the partners of the second
pub record IsPartOf (b c : Board) : Type 0 where
  pub posts : posts_of c.lines ≡ posts_of b.lines
  pub bodies : c.bodies ≡ b.bodies
  pub part : (i j : ℕ) → partner_at b.lines i ≡ Some j → partner_at c.lines i ≡ Some j

-- ---- what only the posts tell

abbrev line_alone : Post → Line
line_alone p = record { post = p; partner = None }

abbrev alone : Option Line → Option Line
alone None = None
alone (Some line) = Some (line_alone line.post)

alone_at : (ms : List Line) (i : ℕ) → alone (slice_get ms i) ≡ option_map line_alone (slice_get (posts_of ms) i)
alone_at [] i = refl
alone_at (m ∷ ms) zero = refl
alone_at (m ∷ ms) (suc i) = alone_at ms i

envelope_says : (o : Option Line) → envelope_in (alone o) ≡ envelope_in o
envelope_says None = refl
envelope_says (Some line) = refl

module _ (b c : Board) (same : posts_of c.lines ≡ posts_of b.lines) where
  by_post : {X : Type 0} (f : Option Line → X) → ((o : Option Line) → f (alone o) ≡ f o) → (i : ℕ)
      → f (slice_get c.lines i) ≡ f (slice_get b.lines i)
  by_post f says i =
      sym (says (slice_get c.lines i))
      ∙ ap f (alone_at c.lines i ∙ ap (λ ps. option_map line_alone (slice_get ps i)) same ∙ sym (alone_at b.lines i))
      ∙ says (slice_get b.lines i)

  by_number : {X : Type 0} (f : Option Line → X) → ((o : Option Line) → f (alone o) ≡ f o) → (n : ℕ)
      → f (line_of c n) ≡ f (line_of b n)
  by_number f says zero = refl
  by_number f says (suc i) = by_post f says i

  pub send_same : (rank n : ℕ) → is_send_of rank (line_of c n) ≡ is_send_of rank (line_of b n)
  send_same rank n = by_number (is_send_of rank) says n
    where
      says : (o : Option Line) → is_send_of rank (alone o) ≡ is_send_of rank o
      says None = refl
      says (Some line) = refl

  pub receive_same : (rank n : ℕ) → is_receive_of rank (line_of c n) ≡ is_receive_of rank (line_of b n)
  receive_same rank n = by_number (is_receive_of rank) says n
    where
      says : (o : Option Line) → is_receive_of rank (alone o) ≡ is_receive_of rank o
      says None = refl
      says (Some line) = refl

  pub standard_same : (n : ℕ) → is_standard (line_of c n) ≡ is_standard (line_of b n)
  standard_same n = by_number is_standard says n
    where
      says : (o : Option Line) → is_standard (alone o) ≡ is_standard o
      says None = refl
      says (Some line) = refl

  pub receive_at_same : (o : Option ℕ) → is_receive_at c o ≡ is_receive_at b o
  receive_at_same None = refl
  receive_at_same (Some i) = by_post is_receive says i
    where
      says : (o : Option Line) → is_receive (alone o) ≡ is_receive o
      says None = refl
      says (Some line) = refl

  pub claim_at_same : (o : Option ℕ) → claim_at c o ≡ claim_at b o
  claim_at_same None = refl
  claim_at_same (Some i) = by_post (claim_in i) says i
    where
      says : (o : Option Line) → claim_in i (alone o) ≡ claim_in i o
      says None = refl
      says (Some line) = refl

  pub envelope_same : (o : Option ℕ) → envelope_at c o ≡ envelope_at b o
  envelope_same None = refl
  envelope_same (Some i) = by_post envelope_in envelope_says i

  pub message_same : c.bodies ≡ b.bodies → (place : ℕ) → message_at c place ≡ message_at b place
  message_same bodies place =
      ap (λ (o : Option Envelope). message_in o (slice_get c.bodies place)) (envelope_same (Some place))
      ∙ ap (λ (bs : List (Option (List ℕ))). message_in (envelope_at b (Some place)) (slice_get bs place)) bodies

-- ---- the message of a send

envelope_sent : (b : Board) (place : ℕ) (s : Sent) → SendsAt (posts_of b.lines) place s
    → envelope_at b (Some place) ≡ Some s.envelope
envelope_sent b place s sends =
    sym (envelope_says (slice_get b.lines place)) ∙ ap envelope_in (alone_at b.lines place)
    ∙ ap (λ o. envelope_in (option_map line_alone o)) sends

pub message_held : (b : Board) (place : ℕ) (s : Sent) → SendsAt (posts_of b.lines) place s
    → is_held (slice_get b.bodies place) ≡ true → (m : Message) × (message_at b place ≡ Some m)
message_held b place s sends held =
    let m = go (slice_get b.bodies place) held in
    (m.0, ap (λ (o : Option Envelope). message_in o (slice_get b.bodies place)) (envelope_sent b place s sends) ∙ m.1)
  where
    go : (o : Option (Option (List ℕ))) → is_held o ≡ true → (m : Message) × (message_in (Some s.envelope) o ≡ Some m)
    go None e = absurd (cc)
    go (Some None) e = absurd (cc)
    go (Some (Some bytes)) e = (record { envelope = s.envelope; bytes = bytes }, refl)

-- ---- collecting

-- two boards after the same, which gave the same
pub record SameGot {G : Type 0} (x y : G × Board) : Type 0 where
  pub got : y.0 ≡ x.0
  pub boards : IsPartOf x.1 y.1

-- all of these posts are sends of the rank, or have partners
abbrev pub AreMet : ℕ → Board → List ℕ → Type 0
AreMet rank b [] = Unit {0}
AreMet rank b (n ∷ ns) = ((is_send_of rank (line_of b n) ≡ true) ⊎ ((j : ℕ) × (partner_of b n ≡ Some j)))
    × AreMet rank b ns

line_kept : (b c : Board) → c.lines ≡ b.lines → (n : ℕ) → line_of c n ≡ line_of b n
line_kept b c same zero = refl
line_kept b c same (suc i) = ap (λ ls. slice_get ls i) same

partner_kept : (b c : Board) → c.lines ≡ b.lines → (n : ℕ) → partner_of c n ≡ partner_of b n
partner_kept b c same zero = refl
partner_kept b c same (suc i) = ap (λ ls. partner_at ls i) same

met_kept : (rank : ℕ) (b c : Board) → c.lines ≡ b.lines → (ns : List ℕ) → AreMet rank b ns → AreMet rank c ns
met_kept rank b c same [] met = tt
met_kept rank b c same (n ∷ ns) met = (
  elim met.0 [
    | inl sends ↦ inl (ap (is_send_of rank) (line_kept b c same n) ∙ sends)
    | inr has ↦ inr (has.0, partner_kept b c same n ∙ has.1)
  ],
  met_kept rank b c same ns met.1,
)

module _ (b c : Board) (part : IsPartOf b c) where
  pub partner_same : (n j : ℕ) → partner_of b n ≡ Some j → partner_of c n ≡ Some j
  partner_same zero j h = absurd (cc)
  partner_same (suc i) j h = part.part i j h

  got_same : (place : ℕ) → SameGot (collect_from b (Some place)) (collect_from c (Some place))
  got_same place = record {
    got = message_same b c part.posts part.bodies place;
    boards = record {
      posts = part.posts;
      bodies = ap (λ (bs : List (Option (List ℕ))). slice_set bs place None) part.bodies;
      part = part.part;
    };
  }

  pub collect_same : (n j : ℕ) → partner_of b n ≡ Some j → SameGot (collect b n) (collect c n)
  collect_same n j h =
      subst (λ o. SameGot (collect_from b o) (collect c n)) (sym h)
      (subst (λ o. SameGot (collect_from b (Some j)) (collect_from c o)) (sym (partner_same n j h)) (got_same j))

  one_same : (rank n : ℕ) → (is_send_of rank (line_of b n) ≡ true) ⊎ ((j : ℕ) × (partner_of b n ≡ Some j))
      → SameGot (one_got rank b n) (one_got rank c n)
  one_same rank n met =
      go (is_send_of rank (line_of b n)) (is_send_of rank (line_of c n)) (send_same b c part.posts rank n) met
    where
      go : (x y : Bool) → y ≡ x → (x ≡ true) ⊎ ((j : ℕ) × (partner_of b n ≡ Some j))
          → SameGot (cond x (None, b) (collect b n)) (cond y (None, c) (collect c n))
      go true true e met = record { got = refl; boards = part }
      go false false e (inl sends) = absurd (cc)
      go false false e (inr has) = collect_same n has.0 has.1
      go true false e met = absurd (cc)
      go false true e met = absurd (cc)

pub all_same : (rank : ℕ) (ns : List ℕ) (b c : Board) → IsPartOf b c → AreMet rank b ns
    → SameGot (all_got rank b ns) (all_got rank c ns)
all_same rank [] b c part met = record { got = refl; boards = part }
all_same rank (n ∷ ns) b c part met =
    let one = one_same b c part rank n met.0 in
    let rest = all_same rank ns (one_got rank b n).1 (one_got rank c n).1 one.boards
    (met_kept rank b (one_got rank b n).1 (one_lines rank b n) ns met.1) in
    record {
      got = ap (λ x. x ∷ (all_got rank (one_got rank c n).1 ns).0) one.got
          ∙ ap (λ xs. (one_got rank b n).0 ∷ xs) rest.got;
      boards = rest.boards;
    }

-- ---- what is complete, and what is ready

-- of a post that is standard or not, and has this partner, if any
abbrev complete_of : HubView → Bool → Option ℕ → Bool
complete_of h standard o = (standard || is_receive_at h.board o) || was_received h (claim_at h.board o)

module _ (h k : HubView) (part : IsPartOf h.board k.board) (claims : k.claims ≡ h.claims) where
  received_same : (o : Option ℕ) → was_received k o ≡ was_received h o
  received_same None = refl
  received_same (Some claim) = ap (λ ws. not (is_waiting ws claim)) claims

  pub complete_too : (n : ℕ) → is_complete h n ≡ true → is_complete k n ≡ true
  complete_too n = go (partner_of h.board n) refl
    where
      standard : is_standard (line_of k.board n) ≡ is_standard (line_of h.board n)
      standard = standard_same h.board k.board part.posts n

      none : (x : Bool) → x ≡ is_standard (line_of k.board n) → complete_of h x None ≡ true → is_complete k n ≡ true
      none true e its = ap (λ y. complete_of k y (partner_of k.board n)) (sym e)
      none false e its = absurd (cc)

      go : (o : Option ℕ) → partner_of h.board n ≡ o → is_complete h n ≡ true → is_complete k n ≡ true
      go None e its =
          none (is_standard (line_of h.board n)) (sym standard)
          (ap (λ o. complete_of h (is_standard (line_of h.board n)) o) (sym e) ∙ its)
      go (Some j) e its =
          ap (λ o. complete_of k (is_standard (line_of k.board n)) o) (partner_same h.board k.board part n j e)
          ∙ ap (λ x. complete_of k x (Some j)) standard
          ∙ ap (λ x. (is_standard (line_of h.board n) || x) || was_received k (claim_at k.board (Some j)))
          (receive_at_same h.board k.board part.posts (Some j))
          ∙ ap (λ x. (is_standard (line_of h.board n) || is_receive_at h.board (Some j)) || was_received k x)
          (claim_at_same h.board k.board part.posts (Some j))
          ∙ ap (λ x. (is_standard (line_of h.board n) || is_receive_at h.board (Some j)) || x)
          (received_same (claim_at h.board (Some j)))
          ∙ ap (λ o. complete_of h (is_standard (line_of h.board n)) o) (sym e) ∙ its

  some_too : (n : ℕ) → is_some (partner_of h.board n) ≡ true → is_some (partner_of k.board n) ≡ true
  some_too n = go (partner_of h.board n) refl
    where
      go : (o : Option ℕ) → partner_of h.board n ≡ o → is_some o ≡ true → is_some (partner_of k.board n) ≡ true
      go None e its = absurd (cc)
      go (Some j) e its = ap is_some (partner_same h.board k.board part n j e)

  ready_too : (rank n : ℕ) → is_ready h rank n ≡ true → is_ready k rank n ≡ true
  ready_too rank n =
      go (is_send_of rank (line_of h.board n)) (is_send_of rank (line_of k.board n))
      (send_same h.board k.board part.posts rank n)
    where
      go : (x y : Bool) → y ≡ x → cond x (is_complete h n) (is_some (partner_of h.board n)) ≡ true
          → cond y (is_complete k n) (is_some (partner_of k.board n)) ≡ true
      go true true e its = complete_too n its
      go false false e its = some_too n its
      go true false e its = absurd (cc)
      go false true e its = absurd (cc)

  pub all_ready_too : (rank : ℕ) (ns : List ℕ) → list_all (λ n. is_ready h rank n) ns ≡ true
      → list_all (λ n. is_ready k rank n) ns ≡ true
  all_ready_too rank [] its = refl
  all_ready_too rank (n ∷ ns) its =
      let p = and_parts (is_ready h rank n) (list_all (λ n. is_ready h rank n) ns) its in
      and_from (is_ready k rank n) (list_all (λ n. is_ready k rank n) ns) (ready_too rank n p.0)
      (all_ready_too rank ns p.1)

-- what is ready is a send or has a partner
pub ready_met : (h : HubView) (rank : ℕ) (ns : List ℕ) → list_all (λ n. is_ready h rank n) ns ≡ true
    → AreMet rank h.board ns
ready_met h rank [] its = tt
ready_met h rank (n ∷ ns) its =
    let p = and_parts (is_ready h rank n) (list_all (λ n. is_ready h rank n) ns) its in
    (one (is_send_of rank (line_of h.board n)) refl (partner_of h.board n) refl p.0, ready_met h rank ns p.1)
  where
    one : (x : Bool) → is_send_of rank (line_of h.board n) ≡ x → (o : Option ℕ) → partner_of h.board n ≡ o
        → cond x (is_complete h n) (is_some o) ≡ true
        → (is_send_of rank (line_of h.board n) ≡ true) ⊎ ((j : ℕ) × (partner_of h.board n ≡ Some j))
    one true e o f its = inl e
    one false e None f its = absurd (cc)
    one false e (Some j) f its = inr (j, f)
