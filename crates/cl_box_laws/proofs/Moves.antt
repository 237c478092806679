-- What each act makes of a rank's phases: what the gates of its boxes lean on.
use Rattle.std.specs.Prelude.{ℕ, ◌<◌, ◌≡◌, ◌⊎◌, List, slice_get, Bool, true, false, IsTrue, not}
use Rattle.std.specs.Prelude.{Option, None, Some, if◌then◌else◌}
use Rattle.std.proofs.Common.{refl, ap, ◌∙◌, subst}
use Rattle.std.proofs.lemmas.Bool.Decides.{leb_tells}
use Rattle.std.proofs.lemmas.Option.{same_Some}
use mathlib.Core.Logic.{inl, inr}
use Rattle.rv_memory.specs.Memory.{Memory}
use Rattle.rv_image_types.specs.declared.images.ImageVersion.{ImageVersion}
use Rattle.mp_types.specs.declared.replies.Reply.{Reply}
use Rattle.mp_types.specs.declared.replies.Reply.TheVariants as reply
use Rattle.mp_types.specs.declared.requests.Request.{Request}
use Rattle.mp_types.specs.declared.requests.Request.TheVariants as request
use Rattle.part_phase.specs.declared.phases.Phase.{Phase}
use Rattle.part_phase.specs.declared.sending.SendPhase.{SendPhase}
use Rattle.part_phase.specs.Limits.{are_parts}
use Rattle.part_phase.specs.Phases.{begun, changed_at, is_unshaped_receiving, is_unshaped_sending, on_receiving}
use Rattle.part_phase.specs.Phases.{on_sending, receiving_at, sending_at}
use Rattle.part_phase.specs.Receiving.{cut_into, is_cut, one_taken, shaped_receiving}
use Rattle.part_phase.specs.Sending.{all_freed, is_part_ready, one_freed, readied, shaped_sending}
use Rattle.cl_calls.specs.declared.sites.Site.{Site}
use Rattle.cl_state.specs.declared.asking.Answer.TheVariants as answer
use Rattle.cl_state.specs.declared.asking.Ask.{Ask}
use Rattle.cl_state.specs.Asked.{asked}
use Rattle.cl_state.specs.Moves.{AsksFreed, Known, KnownOfRequest, begun_at, moved, moved_by_hub}
use Rattle.cl_state.specs.Moves.{started_by}
use Rattle.cl_state.specs.Moves.{started_by}
use Rattle.cl_state.specs.Moves.{with_cut, with_receiving, with_sending}
use Rattle.cl_state.specs.Rank.{Rank}
use Rattle.cl_state.proofs.Known.{known as known_of}
use Rattle.cl_state.proofs.Phases.{moved_by}
use Rattle.cl_deeds.specs.Deeds.{Act, Suits, Deed, RankMoves, answer_of}

-- a phase begins
abbrev pub Begins : List Phase → List Phase → Type 0
Begins old new = (link : ℕ) × (new ≡ changed_at link begun old)

-- a transfer gets the sender's side of a link, which none had, or the receiver's
abbrev pub ShapesSending : List Phase → List Phase → Type 0
ShapesSending old new =
    (link : ℕ) × (parts : ℕ) × (size : ℕ)
    × (is_unshaped_sending (slice_get old link) ≡ true)
    × (are_parts parts ≡ true)
    × (new ≡ changed_at link (on_sending (shaped_sending parts size)) old)

abbrev pub ShapesReceiving : List Phase → List Phase → Type 0
ShapesReceiving old new =
    (link : ℕ) × (parts : ℕ) × (size : ℕ) × (new ≡ changed_at link (on_receiving (shaped_receiving parts size)) old)

-- a receiver learns the sender's cut
abbrev pub LearnsCut : ImageVersion → List Phase → List Phase → Type 0
LearnsCut version old new =
    (link : ℕ) × (boxes : ℕ) × (bytes : ℕ)
    × (is_cut version (receiving_at old link) boxes bytes ≡ true)
    × (new ≡ changed_at link (on_receiving (cut_into boxes bytes)) old)

abbrev pub HubMoves : ImageVersion → List Phase → List Phase → Type 0
HubMoves version old new =
    (new ≡ old) ⊎ (ShapesSending old new ⊎ (ShapesReceiving old new ⊎ LearnsCut version old new))

-- a partition is made ready only while a phase is going on, and once in it
abbrev pub MayReady : List Phase → ℕ → ℕ → Type 0
MayReady phases link part =
    (part < (sending_at phases link).parts)
    × ((sending_at phases link).freed < (sending_at phases link).parts)
    × (is_part_ready (sending_at phases link) part ≡ false)

-- the sender asks only of the lowest partition that isn't freed, and only once that is ready
abbrev pub MayAskFreed : List Phase → ℕ → ℕ → Type 0
MayAskFreed phases link part =
    (part < (sending_at phases link).parts)
    × ((sending_at phases link).freed ≡ part)
    × (is_part_ready (sending_at phases link) part ≡ true)

-- the receiver looks only at boxes of the sender's cut
abbrev pub MayLook : List Phase → ℕ → ℕ → Type 0
MayLook phases link box = box < (receiving_at phases link).boxes

abbrev pub ActMoves : ImageVersion → Act → List Phase → List Phase → Type 0
ActMoves version Act.Local old new = (new ≡ old) ⊎ Begins old new
ActMoves version (Act.Hub clock request reply) old new = HubMoves version old new
ActMoves version (Act.Ready link part bytes) old new =
    MayReady old link part × (new ≡ changed_at link (on_sending (readied part)) old)
ActMoves version (Act.Freed link part gate) old new =
    MayAskFreed old link part × (new ≡ changed_at link (on_sending one_freed) old)
ActMoves version (Act.Take link part gate bytes) old new =
    MayLook old link part × (new ≡ changed_at link (on_receiving (one_taken part)) old)
ActMoves version _ old new = new ≡ old

-- ---- a phase that is going on

is_going : (p : SendPhase) → IsTrue (not (all_freed p)) → p.freed < p.parts
is_going p going = elim (leb_tells p.parts p.freed) [ inl h ↦ absurd (let e = h.0 in (cc)) | inr h ↦ h.1 ]

is_next : (p : SendPhase) (part : ℕ) → AsksFreed p part → p.freed ≡ part
is_next p part h = go (all_freed p) refl h.next
  where
    go : (b : Bool) → all_freed p ≡ b → (if b then None else Some p.freed) ≡ Some part → p.freed ≡ part
    go true e f = absurd (cc)
    go false e f = same_Some _ _ f

pub is_part : (p : SendPhase) (part : ℕ) → AsksFreed p part → part < p.parts
is_part p part h = subst (λ n. n < p.parts) (is_next p part h) (is_going p h.going)

-- ---- the hub's replies

module _ (site : Site) (old new : List Phase) where
  sending_moves : (parts size : ℕ) (r : Reply) → are_parts parts ≡ true
      → new ≡ with_sending parts size (answer.Reply r) old → HubMoves site.version old new
  sending_moves parts size (reply.Link link) few m = go (is_unshaped_sending (slice_get old link)) refl m
    where
      go : (b : Bool) → is_unshaped_sending (slice_get old link) ≡ b
          → new ≡ (if b then changed_at link (on_sending (shaped_sending parts size)) old else old)
          → HubMoves site.version old new
      go true e m = inr (inl (link, parts, size, e, few, m))
      go false e m = inl m
  sending_moves parts size (reply.Code c) few m = inl m
  sending_moves parts size (reply.Posted post done) few m = inl m
  sending_moves parts size (reply.Got message) few m = inl m
  sending_moves parts size reply.NotYet few m = inl m
  sending_moves parts size reply.Done few m = inl m
  sending_moves parts size (reply.Seen envelope) few m = inl m
  sending_moves parts size (reply.Held message envelope) few m = inl m
  sending_moves parts size (reply.AllGot gots) few m = inl m
  sending_moves parts size (reply.Cut boxes bytes) few m = inl m

  receiving_moves : (parts size : ℕ) (r : Reply) → new ≡ with_receiving parts size (answer.Reply r) old
      → HubMoves site.version old new
  receiving_moves parts size (reply.Link link) m = go (is_unshaped_receiving (slice_get old link)) m
    where
      go : (b : Bool) → new ≡ (if b then changed_at link (on_receiving (shaped_receiving parts size)) old else old)
          → HubMoves site.version old new
      go true m = inr (inr (inl (link, parts, size, m)))
      go false m = inl m
  receiving_moves parts size (reply.Code c) m = inl m
  receiving_moves parts size (reply.Posted post done) m = inl m
  receiving_moves parts size (reply.Got message) m = inl m
  receiving_moves parts size reply.NotYet m = inl m
  receiving_moves parts size reply.Done m = inl m
  receiving_moves parts size (reply.Seen envelope) m = inl m
  receiving_moves parts size (reply.Held message envelope) m = inl m
  receiving_moves parts size (reply.AllGot gots) m = inl m
  receiving_moves parts size (reply.Cut boxes bytes) m = inl m

  cut_moves : (link : ℕ) (r : Reply) → new ≡ with_cut site link (answer.Reply r) old → HubMoves site.version old new
  cut_moves link (reply.Cut boxes bytes) m = go (is_cut site.version (receiving_at old link) boxes bytes) refl m
    where
      go : (b : Bool) → is_cut site.version (receiving_at old link) boxes bytes ≡ b
          → new ≡ (if b then changed_at link (on_receiving (cut_into boxes bytes)) old else old)
          → HubMoves site.version old new
      go true e m = inr (inr (inr (link, boxes, bytes, e, m)))
      go false e m = inl m
  cut_moves link (reply.Code c) m = inl m
  cut_moves link (reply.Posted post done) m = inl m
  cut_moves link (reply.Got message) m = inl m
  cut_moves link reply.NotYet m = inl m
  cut_moves link reply.Done m = inl m
  cut_moves link (reply.Seen envelope) m = inl m
  cut_moves link (reply.Held message envelope) m = inl m
  cut_moves link (reply.AllGot gots) m = inl m
  cut_moves link (reply.Link other) m = inl m

  hub_moves : (q : Request) (r : Reply) → KnownOfRequest site old q → new ≡ moved_by_hub site q (answer.Reply r) old
      → HubMoves site.version old new
  hub_moves (request.Init true comm peer tag parts size) r known m = sending_moves parts size r known.count m
  hub_moves (request.Init false comm peer tag parts size) r known m = receiving_moves parts size r m
  hub_moves (request.Cut link) r known m = cut_moves link r m
  hub_moves (request.Send sync comm dest tag bytes) r known m = inl m
  hub_moves (request.Recv now comm source tag) r known m = inl m
  hub_moves (request.Collect post) r known m = inl m
  hub_moves (request.Finished post) r known m = inl m
  hub_moves (request.Probe comm source tag) r known m = inl m
  hub_moves (request.Claim comm source tag) r known m = inl m
  hub_moves (request.Claimed now message) r known m = inl m
  hub_moves (request.All posts) r known m = inl m

  local_moves : (begins : Option ℕ) → new ≡ begun_at begins old → (new ≡ old) ⊎ Begins old new
  local_moves None m = inl m
  local_moves (Some link) m = inr (link, m)

  -- ---- each act

  module _ (memory : Memory) (begins : Option ℕ) where
    by_act : (asks : Ask) (a : Act) → Suits asks a → new ≡ moved site begins asks (answer_of a) old
        → Known site memory old asks → ActMoves site.version a old new
    by_act asks Act.Plain e m known = subst (λ q. new ≡ moved site begins q answer.Alone old) e m
    by_act asks Act.Local e m known =
        local_moves begins (subst (λ q. new ≡ moved site begins q answer.Alone old) e m)
    by_act asks (Act.Hub clock request reply) e m known =
        hub_moves request reply (subst (Known site memory old) e known)
        (subst (λ q. new ≡ moved site begins q (answer.Reply reply) old) e m)
    by_act asks (Act.Ready link part bytes) e m known =
        let asks_it = subst (Known site memory old) e known in (
          (asks_it.there, is_going (sending_at old link) asks_it.going, asks_it.unready),
          subst (λ q. new ≡ moved site begins q answer.Alone old) e m,
        )
    by_act asks (Act.Take link part gate bytes) e m known = (
      (subst (Known site memory old) e known).there,
      subst (λ q. new ≡ moved site begins q (answer.Taken bytes) old) e m,
    )
    by_act asks (Act.Miss link part) (inl e) m known = subst (λ q. new ≡ moved site begins q answer.Missed old) e m
    by_act asks (Act.Miss link part) (inr e) m known = subst (λ q. new ≡ moved site begins q answer.Missed old) e m
    by_act asks (Act.Freed link part gate) e m known =
        let asks_it = subst (Known site memory old) e known in (
          (is_part (sending_at old link) part asks_it, is_next (sending_at old link) part asks_it, asks_it.ready),
          subst (λ q. new ≡ moved site begins q answer.Freed old) e m,
        )
    by_act asks Act.Held e m known = subst (λ q. new ≡ moved site begins q answer.Alone old) e m
    by_act asks Act.Idle e m known = subst (λ q. new ≡ moved site begins q answer.Alone old) e m

-- a turn's act, by what turns do to phases and what their questions know
pub moves : (old new : Rank) (d : Deed) → RankMoves old d new → ActMoves old.site.version d.act old.phases new.phases
moves old new d m =
    by_act old.site old.phases new.phases old.memory (started_by old d.hart) (asked old d.hart) d.act m.2
    (ap (λ (r : Rank). r.phases) m.4 ∙ moved_by old d.hart (answer_of d.act) d.stamp) (known_of old d.hart)
