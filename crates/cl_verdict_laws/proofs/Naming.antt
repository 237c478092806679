-- Which posts a rank may have to name after any call.
use Rattle.std.proofs.Common.{◌≡◌, ℕ, inl, inr, subst, sym, Bool, true, false, cond, List, Option, Some, None}
use Rattle.mp_types.specs.declared.codes.Code.TheVariants as code
use Rattle.mp_types.specs.declared.replies.Reply.{Reply}
use Rattle.mp_types.specs.declared.replies.Reply.TheVariants as reply
use Rattle.mp_types.specs.declared.requests.Request.{Request}
use Rattle.mp_types.specs.declared.requests.Request.TheVariants as request
use Rattle.mp_match.specs.declared.posts.Line.{Line}
use Rattle.mp_transfers.specs.declared.sides.Setup.{Setup}
use Rattle.mp_transfers.specs.declared.sides.Side.{Side}
use Rattle.mp_transfers.specs.Inits.{is_receiver, lowest_link, peer_of, same_total, sender_over}
use Rattle.mp_hub.specs.Hub.{HubView, cut_of, init_first, init_with, outcome, setup_of, side_added}
use Rattle.mp_wait_laws.proofs.Fresh.{Laid}
use Rattle.mp_wait_laws.proofs.Moves.{GrowsBy, all, fits_all, moves}
use Rattle.cl_state.specs.declared.asking.Answer.TheVariants as answer
use Rattle.cl_state.specs.declared.asking.Ask.{Ask}
use Rattle.cl_state.specs.Asked.{asked}
use Rattle.cl_state.specs.Rank.{Rank}
use Rattle.cl_state.specs.Told.{told}
use Rattle.cl_post_laws.specs.Laws.{TellsOnly}
use Rattle.cl_reduction_laws.specs.Clusters.{NamesRightly, may_be_awaited}
use Rattle.cl_reduction_laws.proofs.Good.{names_told}
use Rattle.cl_reduction_laws.proofs.Naming.{Grows, grows_added, grows_same, rightly_told}

-- ---- what was named stays so

grown : (r : ℕ) (old new : List Line) → GrowsBy all r old new → Grows old new
grown r old new (inl same) = grows_same old new same
grown r old new (inr g) = subst (Grows old) (sym g.2) (grows_added old g.0)

-- whatever the call
pub grown_by : (h : HubView) (r : ℕ) (q : Request) → Grows h.board.lines (outcome h r q).1.board.lines
grown_by h r q = grown r h.board.lines (outcome h r q).1.board.lines (moves all h r q (fits_all r q)).lines

-- ---- what a reply tells

-- a reply that tells of no post
abbrev IsMute : Reply → Type 0
IsMute (reply.Posted n done) = ⊥
IsMute _ = Unit {0}

mute : (named : ℕ → Bool) (x : Reply) → IsMute x → TellsOnly named (answer.Reply x)
mute named (reply.Posted n done) is = absurd is
mute named (reply.Code c) is = tt
mute named (reply.Got m) is = tt
mute named reply.NotYet is = tt
mute named reply.Done is = tt
mute named (reply.Seen e) is = tt
mute named (reply.Held n e) is = tt
mute named (reply.AllGot gots) is = tt
mute named (reply.Link link) is = tt
mute named (reply.Cut parts size) is = tt

either : (b : Bool) (x y : Reply × HubView) → IsMute x.0 → IsMute y.0 → IsMute (cond b x y).0
either true x y p q = p
either false x y p q = q

init_mute : (h : HubView) (s : Setup) (o : Option Side) → IsMute (init_with h s o).0
init_mute h s None = free (lowest_link h.links h.sides s)
  where
    free : (o : Option ℕ) → IsMute (init_first h s o).0
    free None = tt
    free (Some link) = tt
init_mute h s (Some t) = either (same_total s t.setup) (side_added h s t.link) (reply.Code code.Shape, h) tt tt

cut_mute : (o : Option Side) → IsMute (cut_of o)
cut_mute None = tt
cut_mute (Some t) = tt

-- ---- a rank that is told so

pub names_on : (h : HubView) → Laid h → (r : ℕ) (q : Request) (rank : Rank) (hart stamp : ℕ) → asked rank hart ≡ Ask.Hub q
    → NamesRightly h.board.lines rank
    → NamesRightly (outcome h r q).1.board.lines (told rank hart (answer.Reply (outcome h r q).0) stamp)
names_on h laid r q rank hart stamp asks names = go q asks
  where
    -- a reply that tells of no post
    silent : (q : Request) → IsMute (outcome h r q).0
        → NamesRightly (outcome h r q).1.board.lines (told rank hart (answer.Reply (outcome h r q).0) stamp)
    silent q is =
        rightly_told h.board.lines (outcome h r q).1.board.lines rank hart
        (answer.Reply (outcome h r q).0) stamp (grown_by h r q) names
        (mute (may_be_awaited (outcome h r q).1.board.lines) (outcome h r q).0 is)

    go : (q : Request) → asked rank hart ≡ Ask.Hub q
        → NamesRightly (outcome h r q).1.board.lines (told rank hart (answer.Reply (outcome h r q).0) stamp)
    go (request.Send sync comm dest tag bytes) asks =
        names_told h laid r (request.Send sync comm dest tag bytes) tt rank hart stamp asks names
    go (request.Recv now comm source tag) asks =
        names_told h laid r (request.Recv now comm source tag) tt rank hart stamp asks names
    go (request.Collect n) asks = names_told h laid r (request.Collect n) tt rank hart stamp asks names
    go (request.Finished n) asks = names_told h laid r (request.Finished n) tt rank hart stamp asks names
    go (request.All ns) asks = names_told h laid r (request.All ns) tt rank hart stamp asks names
    go (request.Probe comm source tag) asks =
        names_told h laid r (request.Probe comm source tag) tt rank hart stamp asks names
    go (request.Claim comm source tag) asks =
        names_told h laid r (request.Claim comm source tag) tt rank hart stamp asks names
    go (request.Claimed now n) asks = names_told h laid r (request.Claimed now n) tt rank hart stamp asks names
    go (request.Init sends comm peer tag parts size) asks =
        let s = setup_of r sends comm peer tag parts size in
        silent (request.Init sends comm peer tag parts size) (init_mute h s (peer_of h.sides s))
    go (request.Cut link) asks =
        silent (request.Cut link)
        (either (is_receiver h.links r link) (cut_of (sender_over h.sides link), h) (reply.Code code.BadRequest, h)
        (cut_mute (sender_over h.sides link)) tt)
