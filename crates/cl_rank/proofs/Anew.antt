-- A hart that polls a post, or makes a call anew that waits: told that nothing is there yet it asks the same again, and
-- only the clock of its rank changes.
use Rattle.std.proofs.Common.{◌≡◌, ◌<◌, ℕ, Bool, true, false, List, [], ◌∷◌, Option, Some, None, Result, Ok, Err, IfOk}
use Rattle.std.proofs.Common.{refl, sym, ap, subst, ◌∙◌, ◌==◌, if◌then◌else◌, get_or, vec_len}
use Rattle.std.proofs.lemmas.List.{get_or_read_under, set-get_or}
use Rattle.std.specs.Result.{result_ok}
use Rattle.mp_types.specs.declared.replies.Reply.TheVariants as reply
use Rattle.mp_types.specs.declared.requests.Request.{Request}
use Rattle.mp_request.specs.Table.{request_at}
use Rattle.mp_request.specs.declared.entries.OpenRequest.{OpenRequest}
use Rattle.cl_calls.specs.Calls.{no_rank}
use Rattle.cl_calls.specs.declared.calls.Call.TheVariants.{Wait, Probe, Mprobe, Waitall}
use Rattle.cl_calls.specs.declared.calls.Completing.{Completing}
use Rattle.cl_calls.specs.declared.calls.Several.{Several}
use Rattle.cl_calls.specs.declared.sites.Site.{Site}
use Rattle.rv_hart.specs.State.{State, in_mode}
use Rattle.rv_hart.specs.declared.state.Mode.{Mode}
use Rattle.rv_hart.specs.declared.state.Mode.TheVariants.{Running as Runs, Waiting, Ended, Trapped}
use Rattle.rv_hart.specs.declared.state.Wait.TheVariants.{Post, Again}
use Rattle.cl_state.specs.declared.asking.Answer.TheVariants as answer
use Rattle.cl_state.specs.declared.asking.Ask.{Ask}
use Rattle.cl_state.specs.declared.asking.Ask.TheVariants as ask
use Rattle.cl_state.specs.declared.asking.Doing.{Doing}
use Rattle.cl_state.specs.declared.asking.Doing.TheVariants.{Go, Poll}
use Rattle.cl_state.specs.declared.partitions.Awaited.{Awaited}
use Rattle.cl_state.specs.declared.partitions.Awaited.TheVariants as awaited_word
use Rattle.cl_state.specs.declared.pending.Manner.TheVariants.{Immediate, Blocking, Polling, Posting}
use Rattle.cl_state.specs.declared.pending.Pending.{Pending}
use Rattle.cl_state.specs.declared.pending.Pending.TheVariants as pending
use Rattle.cl_state.specs.declared.row.Row.{Row}
use Rattle.cl_state.specs.declared.row.Row.TheVariants.{AtOnce, OnReply, OnBox}
use Rattle.cl_state.specs.declared.state.RankState.{RankState}
use Rattle.cl_state.specs.Asked.{Part, asked, asked_completing, asked_in, doing, no_hart, part_of}
use Rattle.cl_state.specs.Partitions.{awaited}
use Rattle.cl_state.specs.Pending.{asked_pending, pending_of}
use Rattle.cl_state.specs.Rank.{Rank}
use Rattle.cl_state.specs.Room.{rank_of}
use Rattle.cl_state.specs.Several.{asked_all}
use Rattle.cl_state.specs.Table.{completes, gathers, row_completing}
use Rattle.cl_state.specs.Told.{asking_again, told, told_in, told_row, with_part}
use Rattle.cl_rank.specs.Roomy.{AsksAgain, IsAgain, is_anew, repeats}
use Rattle.cl_rank.specs.Views.{Stays}

-- ---- such a call that asks the hub waits for its reply

-- the turn is told by a reply, and made anew where what it asks for isn't there yet
abbrev Blocks : Row → Type 0
Blocks (OnReply Blocking w) = Unit {0}
Blocks _ = ⊥

again_by : (site : Site) (row : Row) (part : Part) → Blocks row
    → told_row site row (answer.Reply reply.NotYet) part ≡ asking_again part
again_by site (OnReply Blocking w) part blocks = refl
again_by site (OnReply Immediate w) part blocks = absurd blocks
again_by site (OnReply Polling w) part blocks = absurd blocks
again_by site (OnReply Posting w) part blocks = absurd blocks
again_by site (AtOnce o) part blocks = absurd blocks
again_by site (OnBox v) part blocks = absurd blocks

either_blocks : (local : Bool) (a : Ask) (r : Request) (x y : Row) → Blocks y
    → (if local then ask.Local else a) ≡ ask.Hub r → Blocks (if local then x else y)
either_blocks true a r x y blocks hub = cc
either_blocks false a r x y blocks hub = blocks

completes_blocks : (c : Completing) (p : Pending) (r : Request) → asked_pending p ≡ ask.Hub r
    → Blocks (completes Blocking c p)
completes_blocks c (pending.Message post buffer capacity) r hub = tt
completes_blocks c (pending.Word post) r hub = tt
completes_blocks c _ r hub = cc

waits_block : (c : Completing) (o : Option Awaited) (q : OpenRequest) (r : Request)
    → asked_completing Blocking o (pending_of (Some q)) ≡ ask.Hub r → Blocks (row_completing Blocking c o (Some q))
waits_block c None q r hub = completes_blocks c (pending_of (Some q)) r hub
waits_block c (Some (awaited_word.Cut link)) q r hub = tt
waits_block c (Some _) q r hub = cc

wait_blocks : (part : Part) (c : Completing) (o : Option OpenRequest) (r : Request)
    → asked_completing Blocking (awaited part.phases o) (pending_of o) ≡ ask.Hub r
    → Blocks (row_completing Blocking c (awaited part.phases o) o)
wait_blocks part c None r hub = completes_blocks c pending.Nothing r hub
wait_blocks part c (Some q) r hub = waits_block c (awaited part.phases (Some q)) q r hub

several_block : (s : Several) (posts : List ℕ) (r : Request) → asked_all posts ≡ ask.Hub r → Blocks (gathers Blocking s posts)
several_block s [] r hub = cc
several_block s (post ∷ posts) r hub = tt

-- ---- so its rank stays as it is

-- such a hart waits
anew_mode : (m : Mode) → is_anew m ≡ true → m ≡ Waiting Again
anew_mode (Waiting Again) h = refl
anew_mode (Waiting (Post post)) h = absurd (cc)
anew_mode Runs h = absurd (cc)
anew_mode (Ended code) h = absurd (cc)
anew_mode (Trapped cause pc) h = absurd (cc)

made_anew : (site : Site) (row : Row) (part : Part) → Blocks row → is_anew part.hart.mode ≡ true
    → told_row site row (answer.Reply reply.NotYet) part ≡ part
made_anew site row part blocks anew =
    again_by site row part blocks
    ∙ ap (λ (m : Mode). (let x : Part = record part { hart = in_mode part.hart m } in x))
    (sym (anew_mode part.hart.mode anew))

told_stays : (site : Site) (hart : ℕ) (part : Part) (d : Doing) (r : Request) → repeats part.hart.mode d ≡ true
    → asked_in site part.memory part.requests part.phases d ≡ ask.Hub r
    → told_in site hart d (answer.Reply reply.NotYet) part ≡ part
told_stays site hart part (Poll c post) r again hub = refl
told_stays site hart part (Go (Wait c)) r again hub =
    made_anew site _ part (wait_blocks part c (request_at part.requests c.handle) r hub) again
told_stays site hart part (Go (Probe p)) r again hub =
    made_anew site _ part (either_blocks (p.source == no_rank) _ r _ _ tt hub) again
told_stays site hart part (Go (Mprobe p)) r again hub =
    made_anew site _ part (either_blocks (p.source == no_rank) _ r _ _ tt hub) again
told_stays site hart part (Go (Waitall s)) r again hub = made_anew site _ part (several_block s _ r hub) again
told_stays site hart part _ r again hub = absurd (cc)

pub again_stays : (state : RankState) (hart : ℕ) (r : Request) → AsksAgain state hart r → Stays state hart r
unfolding asked told
again_stays state hart r again =
    let part = part_of (rank_of state) hart in
    record {
      asks = again.asks;
      stays = λ stamp. ap (λ x. with_part (rank_of state) hart x stamp)
          (told_stays state.site hart part (doing state.site part) r again.waits again.asks)
          ∙ ap (λ hs. (let x : Rank = record (rank_of state) { harts = hs; clock = stamp } in x))
          (set-get_or (rank_of state).harts hart _);
    }

-- ---- what a hart asks again

-- a hart that is read does so
pub asks_so : (state : RankState) (hart : ℕ) (at : State) (d : Doing) (r : Request) → at ≡ get_or state.harts.items hart at
    → hart < vec_len state.harts → d ≡ doing state.site (part_of (rank_of state) hart) → repeats at.mode d ≡ true
    → asked (rank_of state) hart ≡ ask.Hub r → AsksAgain state hart r
asks_so state hart at d r read there spelled again asks = record {
  waits = ap (λ (h : State). repeats h.mode (doing state.site (part_of (rank_of state) hart)))
      (sym (get_or_read_under state.harts.items hart (vec_len state.harts) at no_hart read there state.harts.ok.0))
      ∙ ap (repeats at.mode) (sym spelled) ∙ again;
  asks = asks;
}

-- a copy of the request is kept, if there is one
pub kept : {E : Type 0} (state : RankState) (hart : ℕ) (r : Request) (copy : Result Request E) → AsksAgain state hart r
    → IfOk copy (λ x. x ≡ r) → IsAgain state hart (result_ok copy)
kept state hart r (Ok x) again same = subst (AsksAgain state hart) (sym same) again
kept state hart r (Err e) again same = tt
