-- Several requests that complete together (MPI 4.1, chapter 3.7.5).
use Rattle.std.specs.Prelude.{ℕ, ◌==◌, if◌then◌else◌, List, [], ◌∷◌, ◌++◌, fold, length, map, take, Option, Some, None}
use Rattle.std.specs.Prelude.{Bool, true, false, ◌&&◌, nat_lt, is_some}
use Rattle.std.specs.List.{filter_map, flat_map, list_all, list_any}
use Rattle.std.specs.Option.{unwrap_or}
use Rattle.rv_memory.specs.Memory.{Memory, bytes_of}
use Rattle.mp_types.specs.declared.codes.Code.{Code}
use Rattle.mp_types.specs.declared.codes.Code.TheVariants as code
use Rattle.mp_types.specs.declared.messages.Message.{Message}
use Rattle.mp_types.specs.declared.requests.Request.TheVariants as request
use Rattle.mp_request.specs.Table.{Table, request_at, completed}
use Rattle.cl_calls.specs.declared.sites.Site.{Site}
use Rattle.cl_calls.specs.Site.{members, position_of}
use Rattle.cl_calls.specs.Calls.{any, no_rank}
use Rattle.cl_state.specs.declared.asking.Ask.{Ask}
use Rattle.cl_state.specs.declared.asking.Ask.TheVariants as ask
use Rattle.cl_state.specs.declared.pending.Pending.{Pending}
use Rattle.cl_state.specs.declared.pending.Pending.TheVariants.{Nothing, FromNull, Message as Awaited, Word}
use Rattle.cl_state.specs.Pending.{pending_of}
use Rattle.cl_state.specs.Written.{written}

-- what each request of an array needs to complete
abbrev pub pendings : Table → List ℕ → List Pending
pendings table handles = map (λ handle. pending_of (request_at table handle)) handles

-- the post that is asked for it, where it needs the hub
abbrev pub post_of : Pending → Option ℕ
post_of Nothing = None
post_of FromNull = None
post_of (Awaited post buffer capacity) = Some post
post_of (Word post) = Some post

-- the posts of those that need the hub, in the array's order
abbrev pub posts_pending : List Pending → List ℕ
posts_pending ps = filter_map post_of ps

abbrev pub has_posts : List ℕ → Bool
has_posts [] = false
has_posts (post ∷ posts) = true

-- all of them are asked for together; where there is none nobody is asked
abbrev pub asked_all : List ℕ → Ask
asked_all [] = ask.Local
asked_all (post ∷ posts) = ask.Hub (request.All (post ∷ posts))

-- ---- what the hub gave: one thing for each request that it was asked for, in the array's order

-- what is there for this request, and what is left for those behind it
abbrev pub got_for_post : Option ℕ → List (Option Message) → Option Message
got_for_post None gots = None
got_for_post (Some post) [] = None
got_for_post (Some post) (got ∷ gots) = got

abbrev pub left_of : Option ℕ → List (Option Message) → List (Option Message)
left_of None gots = gots
left_of (Some post) [] = []
left_of (Some post) (got ∷ gots) = gots

-- each request beside what the hub gave for it
abbrev pub dealt : List Pending → List (Option Message) → List (Pending × Option Message)
dealt [] gots = []
dealt (p ∷ ps) gots = (p, got_for_post (post_of p) gots) ∷ dealt ps (left_of (post_of p) gots)

abbrev pub is_from_member : Site → Message → Bool
is_from_member site message = is_some (position_of message.envelope.source (members site message.envelope.comm))

-- a receive got a message whose source is a member, and a send got none
abbrev pub fits_one : Site → Pending → Option Message → Bool
fits_one site (Awaited post buffer capacity) None = false
fits_one site (Awaited post buffer capacity) (Some message) = is_from_member site message
fits_one site (Word post) None = true
fits_one site (Word post) (Some message) = false
fits_one site Nothing got = true
fits_one site FromNull got = true

-- as many as were asked for, and each of the right kind
abbrev pub are_fit : Site → List Pending → List (Option Message) → Bool
are_fit site ps gots = (length gots == length (posts_pending ps)) && list_all (λ d. fits_one site d.0 d.1) (dealt ps gots)

-- ---- what each request writes

-- bytes for its buffer, and what its status tells
pub record Given : Type 0 where
  pub buffer : ℕ
  pub bytes : List ℕ
  pub source : ℕ
  pub tag : ℕ
  pub truncated : Bool

-- no bytes, and a status of this source: the empty status, or that of the null process
abbrev pub given_nothing : ℕ → Given
given_nothing source = record { buffer = 0; bytes = []; source = source; tag = any; truncated = false }

-- as many of a message's bytes as fit
abbrev pub given_message : Site → ℕ → ℕ → Message → Given
given_message site buffer capacity message = record {
  buffer = buffer;
  bytes = take capacity message.bytes;
  source = unwrap_or (position_of message.envelope.source (members site message.envelope.comm)) 0;
  tag = message.envelope.tag;
  truncated = nat_lt capacity (length message.bytes);
}

abbrev pub given_one : Site → Pending → Option Message → Given
given_one site (Awaited post buffer capacity) (Some message) = given_message site buffer capacity message
given_one site (Awaited post buffer capacity) None = given_nothing any
given_one site (Word post) got = given_nothing any
given_one site Nothing got = given_nothing any
given_one site FromNull got = given_nothing no_rank

abbrev pub given : Site → List Pending → List (Option Message) → List Given
given site ps gots = map (λ d. given_one site d.0 d.1) (dealt ps gots)

-- all bytes, in the array's order
abbrev pub with_all_bytes : Memory → List Given → Memory
with_all_bytes memory gs = fold (λ m (g : Given). written m g.buffer g.bytes) memory gs

-- a status: source, tag and count (3.2.5)
unfoldable pub bytes_of_status : Given → List ℕ
bytes_of_status g = bytes_of g.source 8 ++ bytes_of g.tag 8 ++ bytes_of (length g.bytes) 8

-- one status after the other
abbrev pub statuses_of : List Given → List ℕ
statuses_of gs = flat_map bytes_of_status gs

-- at address 0 none is wanted
abbrev pub with_statuses : Memory → ℕ → List Given → Memory
with_statuses memory address gs = if (address == 0) then memory else written memory address (statuses_of gs)

-- one truncated message is enough for the code
abbrev pub code_of : List Given → Code
code_of gs = if list_any (λ (g : Given). g.truncated) gs then code.Truncated else code.Ok

abbrev pub completed_each : Table → List ℕ → Table
completed_each table handles = fold completed table handles
