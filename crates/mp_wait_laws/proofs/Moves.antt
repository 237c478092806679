-- What one call of a rank does to the hub's posts and to the claimed messages.
use Rattle.std.proofs.Common.{◌≡◌, ℕ, ◌⊎◌, inl, inr, List, [], ◌∷◌, ◌++◌, Bool, true, false, cond, Option, Some, None, refl, sym, subst}
use Rattle.std.specs.Prelude.{nat_lt, ◌&&◌}
use Rattle.std.specs.List.{list_all}
use Rattle.mp_types.specs.declared.messages.Envelope.{Envelope}
use Rattle.mp_types.specs.declared.messages.Message.{Message}
use Rattle.mp_types.specs.declared.codes.Code.TheVariants.{BadRequest, BadMessage, Full, Shape}
use Rattle.mp_types.specs.declared.replies.Reply.{Reply}
use Rattle.mp_types.specs.declared.replies.Reply.TheVariants as reply
use Rattle.mp_types.specs.declared.requests.Request.{Request}
use Rattle.mp_types.specs.declared.requests.Request.TheVariants.{Send, Recv, Collect, Finished, Probe, Claim, Claimed, All, Init, Cut}
use Rattle.mp_match.specs.declared.posts.Post.{Post}
use Rattle.mp_match.specs.declared.posts.Selection.{Selection}
use Rattle.mp_match.specs.declared.posts.Post.TheVariants as post
use Rattle.mp_match.specs.declared.posts.Line.{Line}
use Rattle.mp_match.specs.Pairs.{add}
use Rattle.mp_match.specs.Board.{Board, collect, receive_posted, send_posted, held_count, probed, is_send_of, line_of}
use Rattle.mp_probe.specs.Claims.{next_number, may_receive, without_claim}
use Rattle.mp_transfers.specs.declared.sides.Setup.{Setup}
use Rattle.mp_transfers.specs.declared.sides.Side.{Side}
use Rattle.mp_transfers.specs.Inits.{is_receiver, lowest_link, peer_of, same_total, sender_over}
use Rattle.mp_hub.specs.Hub.{HubView, outcome, got_or, cut_of, claim_found, claimed_now, is_complete, may_collect, init_with, init_first, setup_of, side_added, all_got, all_collected, are_distinct, is_known, is_ready, sending, selecting, with_board, with_claims, is_done}
use Rattle.mp_hub.proofs.BoardKept.{all_lines, collect_lines}
use Rattle.mp_wait_laws.specs.Laws.{SendsAsMember}

-- the post is one that this rank makes, and sends where it is a member
abbrev pub IsBy : (ℕ → ℕ → Bool) → ℕ → Post → Type 0
IsBy member r (post.Send s) = (s.envelope.source ≡ r) × (member s.envelope.comm r ≡ true)
IsBy member r (post.Receive a) = a.rank ≡ r
IsBy member r (post.Claim a) = a.rank ≡ r

-- no post more, or one of this rank
abbrev pub GrowsBy : (ℕ → ℕ → Bool) → ℕ → List Line → List Line → Type 0
GrowsBy member r old new = (new ≡ old) ⊎ ((p : Post) × IsBy member r p × (new ≡ add old p))

-- the claimed messages stay, or one that this rank claimed was received, or this rank claimed one more
pub data ClaimsBy (r : ℕ) (h new : HubView) : Type 0 where
  stay : new.claims ≡ h.claims → ClaimsBy r h new
  less : (n : ℕ) → new.claims ≡ without_claim h.claims r n → ClaimsBy r h new
  more : (a : Selection) → a.rank ≡ r → new.board.lines ≡ add h.board.lines (post.Claim a)
      → new.claims ≡ h.claims ++ record { message = next_number h.board; rank = r } ∷ [] → ClaimsBy r h new

pub record Moves (member : ℕ → ℕ → Bool) (r : ℕ) (old new : HubView) : Type 0 where
  pub lines : GrowsBy member r old.board.lines new.board.lines
  pub claims : ClaimsBy r old new

abbrev after : Reply × HubView → HubView
after o = o.1

pub got_hub : (h : HubView) (r : Reply) (g : Option Message × Board) → after (got_or h r g) ≡ with_board h g.1
got_hub h r g = go g.0 g.1
  where
    go : (o : Option Message) (b : Board) → after (got_or h r (o, b)) ≡ with_board h b
    go None b = refl
    go (Some m) b = refl

-- where all ranks are members of all communicators each send is a member's
abbrev pub all : ℕ → ℕ → Bool
all comm k = true

pub fits_all : (r : ℕ) (q : Request) → SendsAsMember all r q
fits_all r (Send sync comm dest tag bytes) = refl
fits_all r _ = tt

module _ (member : ℕ → ℕ → Bool) where
  still : (r : ℕ) (h k : HubView) → k.board.lines ≡ h.board.lines → k.claims ≡ h.claims → Moves member r h k
  still r h k same claims = record { lines = inl same; claims = stay claims }

  got_moves : (r : ℕ) (h k : HubView) (q : Reply) (g : Option Message × Board) → Moves member r h (with_board k g.1)
      → Moves member r h (after (got_or k q g))
  got_moves r h k q g m = subst (λ (x : HubView). Moves member r h x) (sym (got_hub k q g)) m

  either : (r : ℕ) (h : HubView) (b : Bool) (x y : Reply × HubView) → Moves member r h (after x)
      → Moves member r h (after y) → Moves member r h (after (cond b x y))
  either r h true x y p q = p
  either r h false x y p q = q

  init_still : (r : ℕ) (h : HubView) (s : Setup) (o : Option Side) → Moves member r h (after (init_with h s o))
  init_still r h s None = free (lowest_link h.links h.sides s)
    where
      free : (o : Option ℕ) → Moves member r h (after (init_first h s o))
      free None = still r h h refl refl
      free (Some k) = still r h _ refl refl
  init_still r h s (Some t) =
      either r h (same_total s t.setup) (side_added h s t.link) (reply.Code Shape, h) (still r h _ refl refl)
      (still r h h refl refl)

  pub moves : (h : HubView) (r : ℕ) (q : Request) → SendsAsMember member r q → Moves member r h (after (outcome h r q))
  moves h r (Send sync comm dest tag bytes) fits =
      let s = sending r sync comm dest tag bytes in
      either r h (nat_lt (held_count h.board.bodies) 65536)
      (reply.Posted (next_number h.board) (is_done h.board s), with_board h (send_posted h.board s bytes))
      (reply.Code Full, h)
      (record { lines = inr (post.Send s, (refl, fits), refl); claims = stay refl })
      (still r h h refl refl)
  moves h r (Recv true comm source tag) fits =
      let b = receive_posted h.board (selecting r comm source tag) in
      got_moves r h h (reply.Posted (next_number h.board) false) (collect b (next_number h.board))
      (record {
        lines = inr (post.Receive (selecting r comm source tag), refl, collect_lines b (next_number h.board));
        claims = stay refl;
      })
  moves h r (Recv false comm source tag) fits =
      record { lines = inr (post.Receive (selecting r comm source tag), refl, refl); claims = stay refl }
  moves h r (Collect n) fits =
      either r h (may_collect h r n) (got_or h reply.NotYet (collect h.board n)) (reply.Code BadRequest, h)
      (got_moves r h h reply.NotYet (collect h.board n) (still r h _ (collect_lines h.board n) refl))
      (still r h h refl refl)
  moves h r (Finished n) fits =
      either r h (is_send_of r (line_of h.board n)) (cond (is_complete h n) reply.Done reply.NotYet, h)
      (reply.Code BadRequest, h)
      (still r h h refl refl) (still r h h refl refl)
  moves h r (Probe comm source tag) fits = still r h h refl refl
  moves h r (Claim comm source tag) fits = go (probed h.board (post.Claim (selecting r comm source tag)))
    where
      go : (o : Option Envelope) → Moves member r h (after (claim_found h (selecting r comm source tag) o))
      go None = still r h _ refl refl
      go (Some e) =
          record {
            lines = inr (post.Claim (selecting r comm source tag), refl, refl);
            claims = more
                (selecting r comm source tag) refl refl refl;
          }
  moves h r (Claimed now n) fits =
      let k = with_claims h (without_claim h.claims r n) in
      either r h (may_receive h.claims r n) (claimed_now k now n) (reply.Code BadMessage, h) (go now)
      (still r h h refl refl)
    where
      go : (now : Bool) → Moves member r h (after (claimed_now (with_claims h (without_claim h.claims r n)) now n))
      go true =
          got_moves r h (with_claims h (without_claim h.claims r n)) reply.NotYet (collect h.board n)
          (record { lines = inl (collect_lines h.board n); claims = less n refl })
      go false = record { lines = inl refl; claims = less n refl }
  moves h r (All ns) fits =
      either r h (are_distinct ns && list_all (λ n. is_known h r n) ns)
      (cond (list_all (λ n. is_ready h r n) ns) (all_collected h (all_got r h.board ns)) (reply.NotYet, h))
      (reply.Code BadRequest, h)
      (either r h (list_all (λ n. is_ready h r n) ns) (all_collected h (all_got r h.board ns)) (reply.NotYet, h)
      (still r h _ (all_lines r ns h.board) refl) (still r h h refl refl))
      (still r h h refl refl)
  moves h r (Init sends comm peer tag parts size) fits =
      let s = setup_of r sends comm peer tag parts size in init_still r h s (peer_of h.sides s)
  moves h r (Cut link) fits =
      either r h (is_receiver h.links r link) (cut_of (sender_over h.sides link), h) (reply.Code BadRequest, h)
      (still r h h refl refl) (still r h h refl refl)
