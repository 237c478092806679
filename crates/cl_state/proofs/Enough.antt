-- Spare pages that are enough for what a turn may write are enough for what it writes.
use Rattle.std.proofs.Common.{◌≡◌, ◌≤◌, ◌+◌, ◌*◌, ℕ, refl, ap, sym, ◌∙◌, subst, Bool, true, false, List, [], ◌∷◌, ◌++◌, Option, Some, None, length, length-append, take, min, arith}
use Rattle.std.proofs.lemmas.List.{length-take}
use Rattle.mp_types.specs.declared.messages.Message.{Message}
use Rattle.rv_memory.specs.Memory.{Memory}
use Rattle.cl_calls.specs.declared.sites.Site.{Site}
use Rattle.cl_state.specs.declared.pending.Pending.{Pending}
use Rattle.cl_state.specs.declared.pending.Pending.TheVariants.{Nothing, FromNull, Message as Awaited, Word}
use Rattle.cl_state.specs.declared.writes.Range.{Range as Bytes}
use Rattle.cl_state.specs.Several.{Given, dealt, given, given_one, got_for_post, left_of, post_of, bytes_of_status, statuses_of}
use Rattle.cl_state.specs.Pending.{pending_of}
use Rattle.std.specs.Prelude.{max}
use Rattle.cl_state.specs.TurnRoom.{HasRoom, HasRoomBehind, writes_of}
use Rattle.cl_state.specs.declared.state.RankState.{RankState}
use Rattle.cl_state.specs.Writes.{missing_for}
use Rattle.cl_state.specs.Writes.{IsEnough, box_into, buffer_of, bytes_from, how_many, messages_then, statuses_from}
use Rattle.mp_request.specs.Table.{Table, request_at}
use Rattle.std.proofs.lemmas.Bool.{ne_eqb}
use Rattle.std.specs.Prelude.{◌-◌, ◌^◌, if◌then◌else◌}
use Rattle.mp_request.specs.declared.entries.Partitions.{Partitions}
use Rattle.part_phase.specs.declared.phases.Phase.{Phase}
use Rattle.part_phase.specs.declared.receiving.RecvPhase.{RecvPhase}
use Rattle.part_phase.specs.Phases.{receiving_at}
use Rattle.cl_state.specs.Written.{written}
use Rattle.cl_state.proofs.Pages.{enough_missing, enough_behind, enough_head, enough_left, none_enough}

pub kept_fits : (most : ℕ) (bytes : List ℕ) → length (take most bytes) ≤ most
kept_fits most bytes = omega (arith, length-take most bytes)

-- a message that is kept needs no more than its buffer
pub enough_kept : (ps : List Bool) (spares a b most : ℕ) (all bytes : List ℕ) (rs : List Bytes)
    → IsEnough ps spares (bytes_from a most ∷ rs) → b ≡ a → bytes ≡ take most all
    → IsEnough ps spares (bytes_from b (length bytes) ∷ [])
enough_kept ps spares a b most all bytes rs enough at is =
    subst (λ (x : ℕ). IsEnough ps spares (bytes_from x (length bytes) ∷ [])) (sym at)
    (subst (λ (xs : List ℕ). IsEnough ps spares (bytes_from a (length xs) ∷ [])) (sym is)
    (enough_head ps spares a most (length (take most all)) rs enough (kept_fits most all)))

-- ---- several requests

pub given_enough : (site : Site) (p : Pending) (got : Option Message) (ps : List Bool) (spares : ℕ) (rs : List Bytes)
    → IsEnough ps spares (buffer_of p ∷ rs)
    → IsEnough ps spares (bytes_from (given_one site p got).buffer (length (given_one site p got).bytes) ∷ [])
given_enough site (Awaited post buffer most) (Some m) ps spares rs enough =
    enough_head ps spares buffer most (length (take most m.bytes)) rs enough (kept_fits most m.bytes)
given_enough site (Awaited post buffer most) None ps spares rs enough = none_enough ps spares 0
given_enough site (Word post) got ps spares rs enough = none_enough ps spares 0
given_enough site Nothing got ps spares rs enough = none_enough ps spares 0
given_enough site FromNull got ps spares rs enough = none_enough ps spares 0

same_left : (m after : Memory) (spares left : ℕ) (r : Bytes) (rs : List Bytes) → IsEnough m.pages spares (r ∷ rs)
    → after ≡ m → how_many after.pages + left ≡ how_many m.pages + spares → IsEnough after.pages left rs
same_left m after spares left r rs enough is same =
    let behind = enough_behind m.pages spares r.address r.count rs enough in
    let even : left ≡ spares = omega (arith, same, ap (λ (x : Memory). how_many x.pages) is) in
    subst (λ (x : Memory). IsEnough x.pages left rs) (sym is)
    (subst (λ (n : ℕ). IsEnough m.pages n rs) (sym even) behind)

pub given_left : (site : Site) (p : Pending) (got : Option Message) (m after : Memory) (spares left : ℕ)
    (rs : List Bytes) → IsEnough m.pages spares (buffer_of p ∷ rs)
    → after ≡ written m (given_one site p got).buffer (given_one site p got).bytes
    → how_many after.pages + left ≡ how_many m.pages + spares → IsEnough after.pages left rs
given_left site (Awaited post buffer most) (Some message) m after spares left rs enough is same =
    enough_left m spares left buffer most (take most message.bytes) rs after enough (kept_fits most message.bytes) is same
given_left site (Awaited post buffer most) None m after spares left rs enough is same =
    same_left m after spares left _ rs enough is same
given_left site (Word post) got m after spares left rs enough is same =
    same_left m after spares left _ rs enough is same
given_left site Nothing got m after spares left rs enough is same =
    same_left m after spares left _ rs enough is same
given_left site FromNull got m after spares left rs enough is same =
    same_left m after spares left _ rs enough is same

long_status : (g : Given) → length (bytes_of_status g) ≡ 24
unfolding bytes_of_status
long_status g = refl

pub long_statuses : (site : Site) (ps : List Pending) (gots : List (Option Message))
    → length (statuses_of (given site ps gots)) ≡ 24 * length ps
long_statuses site [] gots = refl
long_statuses site (p ∷ ps) gots =
    let g = given_one site p (got_for_post (post_of p) gots) in
    let rest = given site ps (left_of (post_of p) gots) in
    omega (
      arith,
      length-append (bytes_of_status g) (statuses_of rest),
      long_status g,
      long_statuses site ps (left_of (post_of p) gots),
    )

-- of several requests the first is the one that is next
pub enough_next : (ps : List Bool) (spares : ℕ) (table : Table) (handles : List ℕ) (handle : ℕ) (rest : List ℕ)
    (last : Bytes) (p : Pending) → handles ≡ handle ∷ rest → p ≡ pending_of (request_at table handle)
    → IsEnough ps spares (messages_then table handles last)
    → IsEnough ps spares (buffer_of p ∷ messages_then table rest last)
enough_next ps spares table handles handle rest last p is of enough =
    subst (λ (x : Pending). IsEnough ps spares (buffer_of x ∷ messages_then table rest last)) (sym of)
    (subst (λ (hs : List ℕ). IsEnough ps spares (messages_then table hs last)) is enough)

-- the statuses of all of them stand where their range is
pub enough_statuses : (site : Site) (qs : List Pending) (gots : List (Option Message)) (ps : List Bool)
    (spares a n : ℕ) (bytes : List ℕ) → IsEnough ps spares (statuses_from a n ∷ []) → (a ≡ 0 → ⊥)
    → length qs ≡ n → bytes ≡ statuses_of (given site qs gots) → IsEnough ps spares (bytes_from a (length bytes) ∷ [])
enough_statuses site qs gots ps spares a n bytes enough there long is =
    subst (λ (k : ℕ). IsEnough ps spares (bytes_from a k ∷ [])) same
    (subst (λ (b : Bool). IsEnough ps spares (bytes_from a (if b then 0 else 24 * n) ∷ [])) (ne_eqb a 0 there) enough)
  where
    same : 24 * n ≡ length bytes
    same = ap (λ (k : ℕ). 24 * k) (sym long) ∙ sym (long_statuses site qs gots) ∙ ap length (sym is)

-- ---- a box

pub enough_box : (ps : List Bool) (spares : ℕ) (phases : List Phase) (side : Partitions) (box a : ℕ) (p : RecvPhase)
    (all bytes : List ℕ) (rs : List Bytes) → IsEnough ps spares (box_into phases side box ∷ rs)
    → p ≡ receiving_at phases side.link → a ≡ min (side.buffer + box * p.bytes) (2 ^ 64 - 1)
    → bytes ≡ take p.bytes all → IsEnough ps spares (bytes_from a (length bytes) ∷ [])
enough_box ps spares phases side box a p all bytes rs enough phase at is =
    enough_kept ps spares (min (side.buffer + box * p.bytes) (2 ^ 64 - 1)) a p.bytes all bytes rs
    (subst (λ (q : RecvPhase).
    IsEnough ps spares (bytes_from (min (side.buffer + box * q.bytes) (2 ^ 64 - 1)) q.bytes ∷ rs)) (sym phase) enough)
    at is

pub box_left : (m after : Memory) (spares left : ℕ) (phases : List Phase) (side : Partitions) (box a : ℕ)
    (p : RecvPhase) (all bytes : List ℕ) (rs : List Bytes) → IsEnough m.pages spares (box_into phases side box ∷ rs)
    → p ≡ receiving_at phases side.link → a ≡ min (side.buffer + box * p.bytes) (2 ^ 64 - 1)
    → bytes ≡ take p.bytes all → after ≡ written m a bytes
    → how_many after.pages + left ≡ how_many m.pages + spares → IsEnough after.pages left rs
box_left m after spares left phases side box a p all bytes rs enough phase at is done same =
    enough_left m spares left a p.bytes bytes rs after
    (subst (λ (x : ℕ). IsEnough m.pages spares (bytes_from x p.bytes ∷ rs)) (sym at)
    (subst (λ (q : RecvPhase).
    IsEnough m.pages spares (bytes_from (min (side.buffer + box * q.bytes) (2 ^ 64 - 1)) q.bytes ∷ rs)) (sym phase)
    enough))
    (subst (λ (xs : List ℕ). length xs ≤ p.bytes) (sym is) (kept_fits p.bytes all)) done same

-- ---- a message whose bytes are known

pub enough_same : (ps : List Bool) (spares a : ℕ) (all bytes : List ℕ) (rs : List Bytes)
    → IsEnough ps spares (bytes_from a (length all) ∷ rs) → bytes ≡ all
    → IsEnough ps spares (bytes_from a (length bytes) ∷ [])
enough_same ps spares a all bytes rs enough is =
    enough_head ps spares a (length all) (length bytes) rs enough (omega (arith, ap length is))

pub left_same : (m after : Memory) (spares left a : ℕ) (all bytes : List ℕ) (rs : List Bytes)
    → IsEnough m.pages spares (bytes_from a (length all) ∷ rs) → bytes ≡ all → after ≡ written m a bytes
    → how_many after.pages + left ≡ how_many m.pages + spares → IsEnough after.pages left rs
left_same m after spares left a all bytes rs enough is done same =
    enough_left m spares left a (length all) bytes rs after enough (omega (arith, ap length is)) done same

-- ---- the room of a turn

pub room_made : (s t : RankState) (hart missing old spares : ℕ) → t ≡ s → HasRoomBehind s hart
    → missing ≡ missing_for s.memory.pages (writes_of s hart) → spares ≡ max old missing
    → HasRoom (record t { spares = spares }) hart
room_made s t hart missing old spares is behind count made =
    subst (λ (u : RankState). HasRoom (record u { spares = spares }) hart) (sym is)
    (behind, enough_missing s.memory.pages spares (writes_of s hart) (omega (arith, count, made)))
