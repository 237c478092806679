-- A message that nobody has is held, and nothing is claimed.
use Rattle.std.specs.Prelude.{ℕ, zero, suc, ◌≡◌, ◌&&◌, not, nat_lt, Bool, true, false, cond, List, [], ◌∷◌, ◌++◌, length, Option, Some, None}
use Rattle.std.specs.List.{list_all, slice_get, slice_set}
use Rattle.std.proofs.Common.{refl, sym, ap, ◌∙◌, subst, arith, length-append}
use mathlib.Core.Logic.{inl, inr}
use Rattle.rv_image_types.specs.declared.images.Link.{Link}
use Rattle.mp_types.specs.declared.messages.Message.{Message}
use Rattle.mp_types.specs.declared.requests.Request.{Request}
use Rattle.mp_types.specs.declared.requests.Request.TheVariants as request
use Rattle.mp_types.specs.declared.replies.Reply.{Reply}
use Rattle.mp_types.specs.declared.replies.Reply.TheVariants.{Code, Done, NotYet, Posted}
use Rattle.mp_types.specs.declared.codes.Code.TheVariants.{BadRequest, Full, Shape}
use Rattle.mp_match.specs.declared.posts.Sent.{Sent}
use Rattle.mp_match.specs.declared.posts.Selection.{Selection}
use Rattle.mp_match.specs.declared.posts.Post.{Post}
use Rattle.mp_match.specs.declared.posts.Post.TheVariants.{Receive, Send}
use Rattle.mp_match.specs.declared.posts.Line.{Line}
use Rattle.mp_match.specs.Board.{Board, collect, collect_from, held_count, is_held, is_send_of, line_of, partner_of}
use Rattle.mp_match.specs.Pairs.{partner_at, partner_for, partners_told}
use Rattle.mp_match.specs.PostPairs.{posts_of}
use Rattle.mp_match.specs.Order.{SendsAt}
use Rattle.mp_match.proofs.Lines.{set_length, told_length}
use Rattle.mp_match.proofs.Places.{get_front, get_last, get_snoc}
use Rattle.mp_match.proofs.Rows.{slice_set_length}
use Rattle.mp_probe.specs.Claims.{next_number}
use Rattle.mp_transfers.specs.declared.sides.Setup.{Setup}
use Rattle.mp_transfers.specs.declared.sides.Side.{Side}
use Rattle.mp_transfers.specs.Inits.{is_receiver, lowest_link, peer_of, same_total, sender_over}
use Rattle.mp_hub.specs.Hub.{HubView, all_collected, all_got, all_outcome, are_distinct, collect_outcome, cut_of, cut_outcome, finished_outcome, got_or, init_first, init_outcome, init_with, is_complete, is_known, is_ready, may_collect, one_got, selecting, sending, setup_of, side_added, with_board}
use Rattle.mp_hub.proofs.BoardKept.{one_lines}
use Rattle.mp_hub.proofs.HeldKept.{set_other}
use Rattle.mp_way_laws.specs.Way.{WayView, add_with, arrival, found, joined, lines_of, outcome, posted, received, way_at_start, with_hub}
use Rattle.mp_way_laws.specs.Runs.{Event, HappenOn, NameSources, NamesSource, arrives, call}
use Rattle.mp_way_laws.specs.Laws.{IsCameTo}
use Rattle.mp_way_laws.proofs.Joined.{none_before, none_joined, posts_joined, posts_length, posts_with}
use Rattle.mp_way_laws.proofs.Came.{IsWell, called, came, received_well, well_start}

-- ---- bodies

-- there is a body for each post, and what a send without a partner sent is held
pub record Stocked (b : Board) : Type 0 where
  pub many : length b.bodies ≡ length b.lines
  pub held : (i : ℕ) (s : Sent) → SendsAt (posts_of b.lines) i s → partner_at b.lines i ≡ None
      → is_held (slice_get b.bodies i) ≡ true

-- partners have one another
abbrev pub AreMutual : List Line → Type 0
AreMutual ms = (i j : ℕ) → partner_at ms i ≡ Some j → partner_at ms j ≡ Some i

held_there : (o : Option (Option (List ℕ))) → is_held o ≡ true → (x : List ℕ) × (o ≡ Some (Some x))
held_there None e = absurd (cc)
held_there (Some None) e = absurd (cc)
held_there (Some (Some x)) e = (x, refl)

pub front_held : (bodies : List (Option (List ℕ))) (body : Option (List ℕ)) (i : ℕ)
    → is_held (slice_get bodies i) ≡ true
    → is_held (slice_get (bodies ++ body ∷ []) i) ≡ true
front_held bodies body i h =
    let x = held_there (slice_get bodies i) h in ap is_held (get_front bodies (body ∷ []) i (Some x.0) x.1)

other_held : (bodies : List (Option (List ℕ))) (i j : ℕ) → (i ≡ j → ⊥) → is_held (slice_get bodies j) ≡ true
    → is_held (slice_get (slice_set bodies i None) j) ≡ true
other_held bodies i j other h =
    let x = held_there (slice_get bodies j) h in ap is_held (set_other bodies i j x.0 other x.1)

-- ---- a post more

module _ (b : Board) (p : Post) (o : Option ℕ) (body : Option (List ℕ)) (stocked : Stocked b)
    (brings : (s : Sent) → p ≡ Send s → is_held (Some body) ≡ true) where
  many_more : length (b.bodies ++ body ∷ []) ≡ length (add_with b.lines p o)
  many_more =
      let e = stocked.many in
      let t = told_length b.lines o in
      let l = length-append (partners_told b.lines o) (record { post = p; partner = o } ∷ []) in
      let m = length-append b.bodies (body ∷ []) in
      omega (arith, e, t, l, m)

  held_more : (i : ℕ) (s : Sent) → SendsAt (posts_of (add_with b.lines p o)) i s
      → partner_at (add_with b.lines p o) i ≡ None
      → is_held (slice_get (b.bodies ++ body ∷ []) i) ≡ true
  held_more i s sends none =
      elim (get_snoc (posts_of b.lines) p i (Send s)
      (subst (λ qs. SendsAt qs i s) (posts_with b.lines p o) sends)) [
        | inl c ↦
            let end : length b.bodies ≡ i = stocked.many ∙ sym (posts_length b.lines) ∙ sym c.0 in
            ap is_held (subst (λ n. slice_get (b.bodies ++ body ∷ []) n ≡ Some body) end (get_last b.bodies body))
            ∙ brings s (sym c.1)
        | inr c ↦ front_held b.bodies body i (stocked.held i s c (none_before b.lines p o i none))
      ]

  stocked_more : Stocked (posted b p o body)
  stocked_more = record { many = many_more; held = held_more }

pub stocked_sent : (b : Board) (s : Sent) (bytes : List ℕ) → Stocked b → Stocked (posted b (Send s) None (Some bytes))
stocked_sent b s bytes stocked = stocked_more b (Send s) None (Some bytes) stocked (λ t e. refl)

pub stocked_received : (b : Board) (a : Selection) (o : Option ℕ) → Stocked b → Stocked (posted b (Receive a) o None)
stocked_received b a o stocked = stocked_more b (Receive a) o None stocked (λ t e. absurd (cc))

-- ---- messages that are collected

partner_of_some : (b : Board) (n place : ℕ) → partner_of b n ≡ Some place
    → (i : ℕ) × (partner_at b.lines i ≡ Some place)
partner_of_some b zero place h = absurd (cc)
partner_of_some b (suc i) place h = (i, h)

pub stocked_collected : (b : Board) (n : ℕ) → AreMutual b.lines → Stocked b → Stocked (collect b n).1
stocked_collected b n both stocked = from (partner_of b n) refl
  where
    -- a post without a partner isn't the partner of another
    still : (place i : ℕ) (s : Sent) → partner_of b n ≡ Some place → SendsAt (posts_of b.lines) i s
        → partner_at b.lines i ≡ None → is_held (slice_get (slice_set b.bodies place None) i) ≡ true
    still place i s has sends none =
        let x = partner_of_some b n place has in
        let back = both x.0 place x.1 in
        other_held b.bodies place i
        (λ same. let f = subst (λ k. partner_at b.lines k ≡ Some x.0) same back in absurd (cc))
        (stocked.held i s sends none)

    from : (o : Option ℕ) → partner_of b n ≡ o → Stocked (collect_from b o).1
    from None has = stocked
    from (Some place) has = record {
      many = slice_set_length b.bodies place None ∙ stocked.many;
      held = λ i s sends none. still place i s has sends none;
    }

stocked_one : (rank : ℕ) (b : Board) (n : ℕ) → AreMutual b.lines → Stocked b → Stocked (one_got rank b n).1
stocked_one rank b n both stocked = go (is_send_of rank (line_of b n))
  where
    go : (x : Bool) → (let g : Option Message × Board = cond x (None, b) (collect b n) in Stocked g.1)
    go true = stocked
    go false = stocked_collected b n both stocked

stocked_all : (rank : ℕ) (ns : List ℕ) (b : Board) → AreMutual b.lines → Stocked b → Stocked (all_got rank b ns).1
stocked_all rank [] b both stocked = stocked
stocked_all rank (n ∷ ns) b both stocked =
    stocked_all rank ns (one_got rank b n).1 (subst AreMutual (sym (one_lines rank b n)) both)
    (stocked_one rank b n both stocked)

-- ---- hubs

pub record IsStocked (h : HubView) : Type 0 where
  pub board : Stocked h.board
  pub claims : h.claims ≡ []

module _ (h : HubView) (both : AreMutual h.board.lines) (stocked : IsStocked h) where
  after_collect : (rank post : ℕ) → IsStocked (collect_outcome h rank post).1
  after_collect rank post = go (may_collect h rank post)
    where
      go : (b : Bool)
          → (let r : Reply × HubView = cond b (got_or h NotYet (collect h.board post))
          (Code BadRequest, h) in IsStocked r.1)
      go true = record { board = stocked_collected h.board post both stocked.board; claims = stocked.claims }
      go false = stocked

  after_finished : (rank post : ℕ) → IsStocked (finished_outcome h rank post).1
  after_finished rank post = go (is_send_of rank (line_of h.board post))
    where
      go : (b : Bool)
          → (let r : Reply × HubView = cond b (cond (is_complete h post) Done NotYet, h) (Code BadRequest, h) in
          IsStocked r.1)
      go true = stocked
      go false = stocked

  after_all : (rank : ℕ) (posts : List ℕ) → IsStocked (all_outcome h rank posts).1
  after_all rank posts =
      go (are_distinct posts && list_all (λ n. is_known h rank n) posts) (list_all (λ n. is_ready h rank n) posts)
    where
      go : (b c : Bool)
          → (let r : Reply × HubView = cond b (cond c (all_collected h (all_got rank h.board posts)) (NotYet, h))
          (Code BadRequest, h) in
          IsStocked r.1)
      go true true = record { board = stocked_all rank posts h.board both stocked.board; claims = stocked.claims }
      go true false = stocked
      go false c = stocked

  after_init : (s : Setup) → IsStocked (init_outcome h s).1
  after_init s = go (peer_of h.sides s)
    where
      joins : (link : ℕ) → IsStocked (side_added h s link).1
      joins link = record { board = stocked.board; claims = stocked.claims }

      first : (o : Option ℕ) → IsStocked (init_first h s o).1
      first None = stocked
      first (Some link) = joins link

      second : (peer : Side) (b : Bool)
          → (let r : Reply × HubView = cond b (side_added h s peer.link) (Code Shape, h) in IsStocked r.1)
      second peer true = joins peer.link
      second peer false = stocked

      go : (o : Option Side) → IsStocked (init_with h s o).1
      go None = first (lowest_link h.links h.sides s)
      go (Some peer) = second peer (same_total s peer.setup)

  after_cut : (rank link : ℕ) → IsStocked (cut_outcome h rank link).1
  after_cut rank link = go (is_receiver h.links rank link)
    where
      go : (b : Bool)
          → (let r : Reply × HubView = cond b (cut_of (sender_over h.sides link), h)
          (Code BadRequest, h) in IsStocked r.1)
      go true = stocked
      go false = stocked

-- ---- behind a call, and behind an arrival

pub stocked_called : (w : WayView) (rank : ℕ) (q : Request) → NamesSource q → IsWell w → IsStocked w.hub
    → IsStocked (outcome w rank q).1.hub
stocked_called w rank (request.Send sync comm dest tag bytes) named well stocked =
    go (nat_lt (held_count w.hub.board.bodies) 65536)
  where
    s : Sent
    s = sending rank sync comm dest tag bytes

    go : (b : Bool)
        → (let r : Reply × WayView = cond b (
          Posted (next_number w.hub.board) (not s.sync),
          with_hub w (with_board w.hub (posted w.hub.board (Send s) None (Some bytes))),
        )
        (Code Full, w) in
        IsStocked r.1.hub)
    go true = record { board = stocked_sent w.hub.board s bytes stocked.board; claims = stocked.claims }
    go false = stocked
stocked_called w rank (request.Recv true comm source tag) named well stocked =
    let a = selecting rank comm source tag in
    let x = received_well w a named well in
    record {
      board = stocked_collected (received w a) (next_number w.hub.board) x.1.both
          (stocked_received w.hub.board a (found w (Receive a)) stocked.board);
      claims = stocked.claims;
    }
stocked_called w rank (request.Recv false comm source tag) named well stocked =
    let a = selecting rank comm source tag in
    record { board = stocked_received w.hub.board a (found w (Receive a)) stocked.board; claims = stocked.claims }
stocked_called w rank (request.Collect post) named well stocked = after_collect w.hub well.1.both stocked rank post
stocked_called w rank (request.Finished post) named well stocked = after_finished w.hub well.1.both stocked rank post
stocked_called w rank (request.Probe comm source tag) named well stocked = stocked
stocked_called w rank (request.Claim comm source tag) named well stocked = absurd named
stocked_called w rank (request.Claimed now message) named well stocked = absurd named
stocked_called w rank (request.All posts) named well stocked = after_all w.hub well.1.both stocked rank posts
stocked_called w rank (request.Init sends comm peer tag parts size) named well stocked =
    after_init w.hub well.1.both stocked (setup_of rank sends comm peer tag parts size)
stocked_called w rank (request.Cut link) named well stocked = after_cut w.hub well.1.both stocked rank link

stocked_came : (w : WayView) (place : ℕ) (sent : Sent) → IsStocked w.hub → IsStocked (arrival w place sent).hub
stocked_came w place sent stocked = record {
  board = record {
    many = stocked.board.many ∙ sym (joined_length o);
    held = λ i s sends none.
        stocked.board.held i s (subst (λ qs. SendsAt qs i s) (posts_joined (lines_of w) place o) sends)
        (none_joined (lines_of w) place o i none);
  };
  claims = stocked.claims;
}
  where
    o : Option ℕ
    o = partner_for (lines_of w) (Send sent)

    joined_length : (o : Option ℕ) → length (joined (lines_of w) place o) ≡ length (lines_of w)
    joined_length None = refl
    joined_length (Some q) = set_length _ place q ∙ set_length (lines_of w) q place

-- ---- behind any events

stocked_on : (es : List Event) (old new : WayView) → NameSources es → HappenOn old es new → IsWell old
    → IsStocked old.hub
    → IsStocked new.hub
stocked_on [] old new named on well stocked = subst (λ (w : WayView). IsStocked w.hub) (sym on) stocked
stocked_on (call rank q ∷ es) old new named on well stocked =
    stocked_on es on.0 new named.1 on.2 (subst IsWell (sym on.1) (called old rank q named.0 well))
    (subst (λ (w : WayView). IsStocked w.hub) (sym on.1) (stocked_called old rank q named.0 well stocked))
stocked_on (arrives place sent ∷ es) old new named on well stocked =
    stocked_on es on.0 new named on.2 (subst IsWell (sym on.1.1) (came old place sent on.1.0 well))
    (subst (λ (w : WayView). IsStocked w.hub) (sym on.1.1) (stocked_came old place sent stocked))

pub is_stocked : (links : List Link) (w : WayView) → IsCameTo links w → IsStocked w.hub
is_stocked links w c =
    stocked_on c.events (way_at_start links) w c.named c.on (well_start links)
    (record { board = record { many = refl; held = λ i s h. absurd (cc) }; claims = refl })
