-- Whatever events lead to keeps what is known of lines on the way.
use Rattle.std.specs.Prelude.{ℕ, ◌≡◌, ◌&&◌, not, nat_lt, Bool, true, false, cond, List, [], ◌∷◌, ◌++◌, Option, Some, None}
use Rattle.std.specs.List.{list_all}
use Rattle.std.proofs.Common.{refl, sym, ap, subst}
use Rattle.rv_image_types.specs.declared.images.Link.{Link}
use Rattle.mp_types.specs.declared.requests.Request.{Request}
use Rattle.mp_types.specs.declared.requests.Request.TheVariants as request
use Rattle.mp_types.specs.declared.replies.Reply.{Reply}
use Rattle.mp_types.specs.declared.replies.Reply.TheVariants.{Code, Done, NotYet, Posted}
use Rattle.mp_types.specs.declared.codes.Code.TheVariants.{BadRequest, Full, Shape}
use Rattle.mp_match.specs.declared.posts.Post.{Post}
use Rattle.mp_match.specs.declared.posts.Post.TheVariants.{Receive, Send}
use Rattle.mp_match.specs.declared.posts.Selection.{Selection}
use Rattle.mp_match.specs.declared.posts.Sent.{Sent}
use Rattle.mp_match.specs.declared.posts.Line.{Line}
use Rattle.mp_match.specs.Board.{collect, held_count, is_send_of, line_of}
use Rattle.mp_match.specs.Pairs.{partner_at, partner_for}
use Rattle.mp_match.specs.PostPairs.{pairs}
use Rattle.mp_match.specs.Order.{SendsAt}
use Rattle.mp_transfers.specs.declared.sides.Setup.{Setup}
use Rattle.mp_transfers.specs.declared.sides.Side.{Side}
use Rattle.mp_transfers.specs.Inits.{is_receiver, lowest_link, peer_of, same_total, sender_over}
use Rattle.mp_probe.specs.Claims.{next_number}
use Rattle.mp_hub.specs.Hub.{HubView, all_collected, all_got, all_outcome, are_distinct, collect_outcome, cut_of, cut_outcome, finished_outcome, got_or, init_first, init_outcome, init_with, is_complete, is_known, is_ready, may_collect, selecting, sending, setup_of, side_added, with_board}
use Rattle.mp_hub.proofs.BoardKept.{all_lines, collect_lines}
use Rattle.mp_way_laws.specs.Way.{IsNext, WayView, arrival, lines_of, outcome, posted, received, way_at_start, with_hub}
use Rattle.mp_way_laws.specs.Runs.{Event, HappenOn, IsNamed, NameSources, NamesSource, arrives, call}
use Rattle.mp_way_laws.specs.Laws.{IsCameTo, WayLaw}
use Rattle.mp_way_laws.proofs.Joined.{posts_joined}
use Rattle.mp_way_laws.proofs.Parts.{Well, finds, well_arrived, well_received, well_sent}

-- it keeps what is known of such lines, with these posts
abbrev pub IsWell : WayView → Type 0
IsWell w = (ps : List Post) × Well ps (lines_of w) w.arrived

-- ---- the lines behind a call that makes no post

abbrev Same : HubView → HubView → Type 0
Same h k = k.board.lines ≡ h.board.lines

collected : (h : HubView) (rank post : ℕ) → Same h (collect_outcome h rank post).1
collected h rank post = go (may_collect h rank post)
  where
    go : (b : Bool) → (let r : Reply × HubView = cond b (got_or h NotYet (collect h.board post)) (Code BadRequest, h) in
        Same h r.1)
    go true = collect_lines h.board post
    go false = refl

finished : (h : HubView) (rank post : ℕ) → Same h (finished_outcome h rank post).1
finished h rank post = go (is_send_of rank (line_of h.board post))
  where
    go : (b : Bool)
        → (let r : Reply × HubView = cond b (cond (is_complete h post) Done NotYet, h) (Code BadRequest, h) in
        Same h r.1)
    go true = refl
    go false = refl

gathered : (h : HubView) (rank : ℕ) (posts : List ℕ) → Same h (all_outcome h rank posts).1
gathered h rank posts =
    go (are_distinct posts && list_all (λ n. is_known h rank n) posts) (list_all (λ n. is_ready h rank n) posts)
  where
    go : (b c : Bool)
        → (let r : Reply × HubView = cond b (cond c (all_collected h (all_got rank h.board posts)) (NotYet, h))
        (Code BadRequest, h) in
        Same h r.1)
    go true true = all_lines rank posts h.board
    go true false = refl
    go false c = refl

begun : (h : HubView) (s : Setup) → Same h (init_outcome h s).1
begun h s = go (peer_of h.sides s)
  where
    first : (o : Option ℕ) → Same h (init_first h s o).1
    first None = refl
    first (Some link) = refl

    joins : (peer : Side) (b : Bool)
        → (let r : Reply × HubView = cond b (side_added h s peer.link) (Code Shape, h) in Same h r.1)
    joins peer true = refl
    joins peer false = refl

    go : (o : Option Side) → Same h (init_with h s o).1
    go None = first (lowest_link h.links h.sides s)
    go (Some peer) = joins peer (same_total s peer.setup)

cuts : (h : HubView) (rank link : ℕ) → Same h (cut_outcome h rank link).1
cuts h rank link = go (is_receiver h.links rank link)
  where
    go : (b : Bool)
        → (let r : Reply × HubView = cond b (cut_of (sender_over h.sides link), h) (Code BadRequest, h) in Same h r.1)
    go true = refl
    go false = refl

-- ---- behind a call

kept : (w : WayView) (lines : List Line) → lines ≡ lines_of w → IsWell w → (ps : List Post) × Well ps lines w.arrived
kept w lines same well = (well.0, subst (λ ls. Well well.0 ls w.arrived) (sym same) well.1)

pub received_well : (w : WayView) (a : Selection) → IsNamed a.source → IsWell w
    → (ps : List Post) × Well ps (received w a).lines w.arrived
received_well w a named well = (well.0 ++ Receive a ∷ [], well_received well.0 (lines_of w) w.arrived well.1 a named)

pub called : (w : WayView) (rank : ℕ) (q : Request) → NamesSource q → IsWell w → IsWell (outcome w rank q).1
called w rank (request.Send sync comm dest tag bytes) named well = go (nat_lt (held_count w.hub.board.bodies) 65536)
  where
    s : Sent
    s = sending rank sync comm dest tag bytes

    go : (b : Bool)
        → (let r : Reply × WayView = cond b (
          Posted (next_number w.hub.board) (not s.sync),
          with_hub w (with_board w.hub (posted w.hub.board (Send s) None (Some bytes))),
        )
        (Code Full, w) in IsWell r.1)
    go true = (well.0 ++ Send s ∷ [], well_sent well.0 (lines_of w) w.arrived well.1 s)
    go false = well
called w rank (request.Recv true comm source tag) named well =
    let a = selecting rank comm source tag in
    let x = received_well w a named well in
    (x.0, subst (λ ls. Well x.0 ls w.arrived) (sym (collect_lines (received w a) (next_number w.hub.board))) x.1)
called w rank (request.Recv false comm source tag) named well =
    received_well w (selecting rank comm source tag) named well
called w rank (request.Collect post) named well =
    kept w (collect_outcome w.hub rank post).1.board.lines (collected w.hub rank post) well
called w rank (request.Finished post) named well =
    kept w (finished_outcome w.hub rank post).1.board.lines (finished w.hub rank post) well
called w rank (request.Probe comm source tag) named well = well
called w rank (request.Claim comm source tag) named well = absurd named
called w rank (request.Claimed now message) named well = absurd named
called w rank (request.All posts) named well =
    kept w (all_outcome w.hub rank posts).1.board.lines (gathered w.hub rank posts) well
called w rank (request.Init sends comm peer tag parts size) named well =
    let s = setup_of rank sends comm peer tag parts size in
    kept w (init_outcome w.hub s).1.board.lines (begun w.hub s) well
called w rank (request.Cut link) named well =
    kept w (cut_outcome w.hub rank link).1.board.lines (cuts w.hub rank link) well

-- ---- behind an arrival

pub came : (w : WayView) (place : ℕ) (sent : Sent) → IsNext w place sent → IsWell w → IsWell (arrival w place sent)
came w place sent next well = (
  well.0,
  well_arrived well.0 (lines_of w) w.arrived well.1 place sent
      (subst (λ qs. SendsAt qs place sent) well.1.posts next.is)
      next.on_its_way
      (λ i other below sends. next.first i other below (subst (λ qs. SendsAt qs i other) (sym well.1.posts) sends)),
)

-- ---- behind any events

pub well_start : (links : List Link) → IsWell (way_at_start links)
well_start links = (
  [],
  record {
    posts = refl;
    part = λ i j h. absurd (cc);
    both = λ i j h. absurd (cc);
    idle = λ i j a s h. absurd (cc);
    order = λ i j n s t below h. absurd (cc);
    sends = λ n i h. absurd (cc);
    away = λ i s h. absurd (cc);
    named = λ i a h. absurd (cc);
    claims = λ i a h. absurd (cc);
  },
)

well_on : (es : List Event) (old new : WayView) → NameSources es → HappenOn old es new → IsWell old → IsWell new
well_on [] old new named on well = subst IsWell (sym on) well
well_on (call rank q ∷ es) old new named on well =
    well_on es on.0 new named.1 on.2 (subst IsWell (sym on.1) (called old rank q named.0 well))
well_on (arrives place sent ∷ es) old new named on well =
    well_on es on.0 new named on.2 (subst IsWell (sym on.1.1) (came old place sent on.1.0 well))

pub is_well : (links : List Link) (w : WayView) → IsCameTo links w → IsWell w
is_well links w c = well_on c.events (way_at_start links) w c.named c.on (well_start links)

pub way_law : WayLaw
way_law = record {
  partners = λ links w c i j h.
      let well = is_well links w c in
      subst (λ qs. partner_at (pairs qs) i ≡ Some j) (sym well.1.posts) (well.1.part i j h);
  arrivals = λ w place sent.
      ap (λ qs. all_with w qs) (posts_joined (lines_of w) place (partner_for (lines_of w) (Send sent)));
  finds = λ links w c a place named h.
      let well = is_well links w c in
      subst (λ qs. partner_for (pairs qs) (Receive a) ≡ Some place) (sym well.1.posts)
      (finds well.0 (lines_of w) w.arrived well.1 a named place h);
}
  where
    all_with : WayView → List Post → HubView
    all_with w qs = with_board w.hub
        (record { lines = pairs qs; bodies = w.hub.board.bodies; compared = w.hub.board.compared })
