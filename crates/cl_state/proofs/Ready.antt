-- What the checks and `room` made sure of is what a turn's row leans on.
use Rattle.std.proofs.Common.{◌≡◌, ℕ, refl, subst}
use Rattle.mp_request.specs.Handles.{IsInactive}
use Rattle.cl_calls.specs.declared.calls.Call.{Call}
use Rattle.cl_calls.specs.declared.calls.Call.TheVariants as call
use Rattle.cl_calls.specs.declared.needs.Needs.{Needs}
use Rattle.cl_calls.specs.declared.calls.Several.{Several}
use Rattle.cl_calls.specs.Needs.{needs_of, needs_of_several}
use Rattle.cl_state.specs.declared.asking.Doing.{Doing}
use Rattle.cl_state.specs.declared.asking.Doing.TheVariants.{Go}
use Rattle.cl_state.specs.declared.row.Purpose.{Purpose}
use Rattle.cl_state.specs.declared.row.Purpose.TheVariants as purpose
use Rattle.cl_state.specs.declared.row.Wanted.TheVariants as wanted
use Rattle.mp_request.specs.declared.entries.Transfer.{Transfer}
use Rattle.cl_state.specs.declared.turn.Turn.{Turn}
use Rattle.cl_state.specs.Right.{HasHandles}
use Rattle.cl_state.specs.Turn.{HasArray, IsReady, IsRow, IsWantable, row_for}
use Rattle.cl_state.proofs.Forms.{Forms, IsFor, by_form}
use Rattle.cl_state.proofs.Idle.{started_inactive, freed_inactive}

module _ (turn : Turn) where
  -- a request that is started is inactive
  is_inactive : (handle : ℕ) → IsReady turn (Go (call.Start handle)) → IsInactive turn.requests.now handle
  is_inactive handle r = started_inactive turn.requests.now handle r.checked.1.named r.checked.1.idle

  posts : (c : Call) (why : Purpose) (t : Transfer) → IsFor c why → IsReady turn (Go c)
      → IsWantable turn (wanted.Post why t)
  posts c purpose.Send t is r = tt
  posts c purpose.Open t is r = tt
  posts c (purpose.Start handle) t is r = is_inactive handle (subst (λ c. IsReady turn (Go c)) is r)

  has_array : (c : Call) (s : Several) → needs_of c ≡ needs_of_several s → IsReady turn (Go c) → HasArray turn s
  has_array c s of r = subst (λ (needs : Needs). HasHandles turn.memory.now needs) of r.checked.2

  rows : Forms turn.site.now turn.number turn.memory.now turn.requests.now turn.phases.now
      (λ started d asks row. IsReady turn d → IsRow turn row)
  rows = record {
    steps = λ r. r.running;
    refused = λ c r. tt;
    stopped = λ r. tt;
    polls_message = λ c post target r. tt;
    polls_send = λ c post r. tt;
    polls_other = λ c post r. tt;
    stays = λ r. tt;
    exits = λ value r. tt;
    puts = λ buffer count r. (r.fresh, r.room);
    ends = λ c end value r. tt;
    completes = λ c source target r. tt;
    completes_all = λ c value s. has_array c s;
    finds_nothing = λ c value status r. tt;
    arrives = λ c side target r. tt;
    holds = λ c r. tt;
    makes = λ c t of none r. refl;
    opens = λ c t of none r. refl;
    starts = is_inactive;
    begins = λ handle link. is_inactive handle;
    frees = λ handle r. freed_inactive turn.requests.now handle r.checked.1.named r.checked.1.idle;
    sends = λ c why sync buffer count dest tag comm is of. posts c why _ is;
    receives = λ c why now buffer capacity source tag comm is. posts c why _ is;
    receives_claimed = λ c buffer capacity message r. tt;
    starts_claimed = λ handle buffer capacity. is_inactive handle;
    comes = λ c comm source tag target r. tt;
    comes_claimed = λ c message target r. tt;
    links_sending = λ t r. r.checked.0;
    links_receiving = λ t r. r.checked.0;
    collects = λ c m post target r. tt;
    finishes = λ c m post target r. tt;
    gathers = λ c m value s post posts. has_array c s;
    sees = λ c m comm source tag value status r. tt;
    claims = λ c m comm source tag status r. tt;
    cuts = λ c m link going unknown r. tt;
    readies = λ handle part side is r. tt;
    frees_part = λ c m link part target going next ready r. going;
    takes = λ c m side box target going next r. tt;
    looks = λ c side box part going next r. tt;
  }

pub row_of_ready : (turn : Turn) (d : Doing) → IsReady turn d → IsRow turn (row_for turn d)
row_of_ready turn =
    by_form turn.site.now turn.number turn.memory.now turn.requests.now turn.phases.now _ (rows turn)
