-- What a turn does to the phases of its rank: what its row does when it is told an answer, by the form of the turn.
use Rattle.std.proofs.Common.{◌≡◌, ℕ, refl, Bool, true, false, List, [], length, Option, Some, None, IsTrue}
use Rattle.std.specs.Prelude.{if◌then◌else◌, is_some, slice_get}
use Rattle.mp_types.specs.declared.replies.Reply.TheVariants as reply
use Rattle.mp_types.specs.declared.requests.Request.TheVariants as request
use Rattle.mp_request.specs.declared.entries.Partitions.{Partitions}
use Rattle.mp_request.specs.declared.entries.Transfer.{Transfer}
use Rattle.mp_request.specs.declared.entries.Transfer.TheVariants as transfer
use Rattle.mp_request.specs.Table.{lowest_free}
use Rattle.part_phase.specs.declared.phases.Phase.{Phase}
use Rattle.part_phase.specs.Phases.{changed_at, is_unshaped_receiving, is_unshaped_sending, receiving_at}
use Rattle.part_phase.specs.Receiving.{is_cut}
use Rattle.cl_calls.specs.declared.calls.Call.TheVariants as call
use Rattle.cl_calls.specs.declared.calls.Partitioning.{Partitioning}
use Rattle.cl_calls.specs.declared.sites.Site.{Site}
use Rattle.cl_calls.specs.Calls.{any}
use Rattle.cl_calls.specs.Checks.{has_room}
use Rattle.cl_state.specs.declared.asking.Answer.{Answer}
use Rattle.cl_state.specs.declared.asking.Answer.TheVariants as answer
use Rattle.cl_state.specs.declared.asking.Ask.{Ask}
use Rattle.cl_state.specs.declared.asking.Ask.TheVariants as ask
use Rattle.cl_state.specs.declared.asking.Doing.TheVariants.{Go}
use Rattle.cl_state.specs.declared.pending.Manner.{Manner}
use Rattle.cl_state.specs.declared.pending.Manner.TheVariants.{Polling, Posting}
use Rattle.cl_state.specs.declared.pending.Target.{Target}
use Rattle.cl_state.specs.declared.row.Purpose.TheVariants as purpose
use Rattle.cl_state.specs.declared.row.Row.{Row}
use Rattle.cl_state.specs.declared.row.Row.TheVariants.{OnReply, OnBox}
use Rattle.cl_state.specs.declared.row.Visit.TheVariants.{Readies, Frees, Takes, Sees}
use Rattle.cl_state.specs.declared.row.Wanted.{Wanted}
use Rattle.cl_state.specs.declared.row.Wanted.TheVariants as wanted
use Rattle.cl_state.specs.Asked.{Part, asked, doing, part_of}
use Rattle.cl_state.specs.Moves.{MovedLaw, moved, started_by}
use Rattle.cl_state.specs.Partitions.{asked_ready, asked_receiving, asked_sending}
use Rattle.cl_state.specs.Told.{freed_one, made_side_at, part_readied, phase_begun, seen_one, taken_one, told, told_row}
use Rattle.cl_state.proofs.Forms.{Forms, by_form}
use Rattle.cl_state.proofs.Kept.{IsPlain, kept_all, kept_arrived, kept_freed, kept_not_yet, kept_nothing, kept_opened}
use Rattle.cl_state.proofs.Kept.{kept_received, kept_told}
use Rattle.cl_state.proofs.Passed.{HasPassed, passed, right_holds}

module _ (site : Site) (part : Part) where
  -- the phases after the row was told any answer to this question
  abbrev pub MovesSo : Option ℕ → Ask → Row → Type 0
  MovesSo begins asks row = (a : Answer) → (told_row site row a part).phases ≡ moved site begins asks a part.phases

  same_if : (b : Bool) (x y : Part) (p q : List Phase) → x.phases ≡ p → y.phases ≡ q
      → (if b then x else y).phases ≡ (if b then p else q)
  same_if true x y p q first second = first
  same_if false x y p q first second = second

  both : (b : Bool) (x y : Part) (p : List Phase) → x.phases ≡ p → y.phases ≡ p → (if b then x else y).phases ≡ p
  both true x y p first second = first
  both false x y p first second = second

  kept : (m : Manner) (w : Wanted) → IsPlain w → (a : Answer)
      → (told_row site (OnReply m w) a part).phases ≡ part.phases
  kept m w plain a = kept_told site m w a part plain

  -- ---- links and cuts

  moves_made : (o : Option ℕ) (t : Transfer) (link : ℕ) (shape : Phase → Phase) → IsTrue (is_some o)
      → (made_side_at o t link shape part).phases ≡ changed_at link shape part.phases
  moves_made None t link shape there = absurd (cc)
  moves_made (Some handle) t link shape there = refl

  moves_sending : (t : Partitioning) → HasPassed site part (Go (call.PsendInit t))
      → MovesSo None (asked_sending site t) (OnReply Posting (wanted.SendingLink t))
  moves_sending t passed (answer.Reply (reply.Link link)) =
      same_if (is_unshaped_sending (slice_get part.phases link)) _ _ _ _
      (moves_made (lowest_free part.requests) _ link _
      (right_holds (has_room (length part.out) 0) _ passed.1.1.1.1.1.1.1.1.1.1.1.1.1.0)) refl
  moves_sending t passed _ = refl

  moves_receiving : (t : Partitioning) → HasPassed site part (Go (call.PrecvInit t))
      → MovesSo None (asked_receiving site t) (OnReply Posting (wanted.ReceivingLink t))
  moves_receiving t passed (answer.Reply (reply.Link link)) =
      same_if (is_unshaped_receiving (slice_get part.phases link)) _ _ _ _
      (moves_made (lowest_free part.requests) _ link _
      (right_holds (has_room (length part.out) 0) _ passed.1.1.1.1.1.1.1.1.1.1.1.1.1.0)) refl
  moves_receiving t passed _ = refl

  moves_cut : (m : Manner) (link : ℕ) → MovesSo None (ask.Hub (request.Cut link)) (OnReply m (wanted.Cut m link))
  moves_cut m link (answer.Reply (reply.Cut boxes bytes)) =
      same_if (is_cut site.version (receiving_at part.phases link) boxes bytes) _ _ _ _ (kept_not_yet m _) refl
  moves_cut m link (answer.Reply reply.NotYet) = kept_not_yet m part
  moves_cut m link _ = refl

  -- ---- boxes

  moves_readies : (side : Partitions) (ready : ℕ)
      → MovesSo None (asked_ready site part.memory ready (Some side)) (OnBox (Readies side.link ready))
  unfolding part_readied
  moves_readies side ready answer.Alone = refl
  moves_readies side ready _ = refl

  moves_frees : (m : Manner) (link free : ℕ) (target : Target)
      → MovesSo None (ask.Freed link free) (OnBox (Frees m link target))
  unfolding freed_one
  moves_frees m link free target answer.Freed =
      both _ _ _ _ (kept_received target _ _ _ _) (kept_not_yet m _)
  moves_frees m link free target answer.Missed = kept_not_yet m part
  moves_frees m link free target _ = refl

  moves_takes : (m : Manner) (side : Partitions) (box : ℕ) (target : Target)
      → MovesSo None (ask.Look side.link box) (OnBox (Takes m side box target))
  unfolding taken_one
  moves_takes m side box target (answer.Taken bytes) =
      both _ _ _ _ (kept_not_yet m _) (kept_arrived site side target _)
  moves_takes m side box target answer.Missed = kept_not_yet m part
  moves_takes m side box target _ = refl

  moves_looks : (side : Partitions) (box asked : ℕ)
      → MovesSo None (ask.Look side.link box) (OnBox (Sees side box asked))
  unfolding seen_one
  moves_looks side box asked (answer.Taken bytes) = refl
  moves_looks side box asked _ = refl

  -- ---- a turn

  moves : (hart : ℕ)
      → Forms site hart part.memory part.requests part.phases
      (λ started d asks row. HasPassed site part d → MovesSo started asks row)
  unfolding phase_begun
  moves hart = record {
    steps = λ passed a. refl;
    refused = λ c passed a. refl;
    stopped = λ passed a. refl;
    polls_message = λ c post target passed. kept Polling (wanted.Message target) tt;
    polls_send = λ c post passed. kept Polling wanted.Sent tt;
    polls_other = λ c post passed. kept Polling wanted.Nothing tt;
    stays = λ passed a. refl;
    exits = λ value passed a. refl;
    puts = λ buffer count passed a. refl;
    ends = λ c end value passed a. refl;
    completes = λ c source target passed a. kept_received target source any [] part;
    completes_all = λ c value s of passed a. kept_all site value s.statuses _ [] part;
    finds_nothing = λ c value status passed a. kept_nothing value status part;
    arrives = λ c side target passed a. kept_arrived site side target part;
    holds = λ c passed a. refl;
    makes = λ c t of none passed a. kept_opened _ part;
    opens = λ c t of none passed a. kept_opened _ part;
    starts = λ handle passed a. refl;
    begins = λ handle link passed a. refl;
    frees = λ handle passed a. kept_freed handle part;
    sends = λ c why sync buffer count dest tag comm is of passed.
        kept Posting (wanted.Post why (transfer.Send sync buffer count dest tag comm)) tt;
    receives = λ c why now buffer capacity source tag comm is passed.
        kept Posting (wanted.Post why (transfer.Receive buffer capacity source tag comm)) tt;
    receives_claimed = λ c buffer capacity message passed.
        kept Posting (wanted.Post purpose.Open (transfer.ReceiveClaimed buffer capacity)) tt;
    starts_claimed = λ handle buffer capacity passed.
        kept Posting (wanted.Post (purpose.Start handle) (transfer.ReceiveClaimed buffer capacity)) tt;
    comes = λ c comm source tag target passed. kept Posting (wanted.MessageOrPost target) tt;
    comes_claimed = λ c message target passed. kept Posting (wanted.MessageOrPost target) tt;
    links_sending = moves_sending;
    links_receiving = moves_receiving;
    collects = λ c m post target passed. kept m (wanted.Message target) tt;
    finishes = λ c m post target passed. kept m (wanted.Word target) tt;
    gathers = λ c m value s post posts of passed. kept m (wanted.All value s) tt;
    sees = λ c m comm source tag value status passed. kept m (wanted.Sight value status) tt;
    claims = λ c m comm source tag status passed. kept m (wanted.Claim status) tt;
    cuts = λ c m link going unknown passed. moves_cut m link;
    readies = λ handle ready side is passed. moves_readies side ready;
    frees_part = λ c m link free target going next ready passed. moves_frees m link free target;
    takes = λ c m side box target going next passed. moves_takes m side box target;
    looks = λ c side box asked going next passed. moves_looks side box asked;
  }

pub moved_by : MovedLaw
unfolding told asked started_by
moved_by rank hart a stamp =
    let part = part_of rank hart in
    by_form rank.site hart part.memory part.requests part.phases _ (moves rank.site part hart)
    (doing rank.site part) (passed rank.site part) a
