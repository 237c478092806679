-- A turn that was worked out without the table of calls is one that the table has, and has room.
use Rattle.std.proofs.Common.{◌≡◌, ◌≤◌, [], length, Bool, true, None}
use Rattle.std.proofs.Common.{sym, ap, ◌∙◌, arith}
use Rattle.std.specs.Prelude.{if◌then◌else◌, vec_capacity, vec_len}
use Rattle.rv_hart.specs.State.{State}
use Rattle.rv_hart.specs.declared.state.Mode.{Mode}
use Rattle.rv_hart.specs.declared.state.Mode.TheVariants.{Running as Runs}
use Rattle.rv_memory.specs.Access.{word_at}
use Rattle.cl_calls.specs.declared.calls.Call.{Call}
use Rattle.cl_calls.specs.declared.sites.Site.{Site}
use Rattle.cl_calls.specs.Calls.{call_named}
use Rattle.cl_calls.specs.Checks.{checks, first_fault}
use Rattle.cl_calls.specs.Needs.{needs_of}
use Rattle.cl_state.specs.declared.asking.Ask.{Ask}
use Rattle.cl_state.specs.declared.asking.Doing.TheVariants.{Go, Step}
use Rattle.cl_state.specs.declared.state.RankState.{RankState}
use Rattle.cl_state.specs.Asked.{Part, checked, doing, doing_in, go_or_refuse, is_ecall}
use Rattle.cl_state.specs.Right.{output_of}
use Rattle.cl_state.specs.TurnRoom.{HasRoom}
use Rattle.cl_rank.specs.Known.{IsKnown}
use Rattle.cl_rank.specs.declared.turning.Turn.{Turn}

-- ---- a call whose checks hold

pub does_call : (site : Site) (part : Part) (at : State) (c : Call) → at ≡ part.hart → at.mode ≡ Runs
    → is_ecall (word_at part.memory at.pc) ≡ true → c ≡ call_named at
    → first_fault (checks site part.memory part.requests part.phases (length part.out) (needs_of c)) ≡ None
    → doing site part ≡ Go c
unfolding doing
does_call site part at c here running ecall is right =
    ap (λ (m : Mode). doing_in m site part) (ap (λ (h : State). h.mode) (sym here) ∙ running)
    ∙ ap (λ (b : Bool). if b then checked site part else Step)
    (ap (λ (h : State). is_ecall (word_at part.memory h.pc)) (sym here) ∙ ecall)
    ∙ ap (λ (x : Call). go_or_refuse
    (first_fault (checks site part.memory part.requests part.phases (length part.out) (needs_of x))) x)
    (ap call_named (sym here) ∙ sym is)
    ∙ ap (λ o. go_or_refuse o c) right

-- ---- its room

pub has_room : (state : RankState) (t : Turn) (asks : Ask) → IsKnown state t asks → state.fresh.items ≡ []
    → HasRoom state t.hart
has_room state t asks known none =
    let count : vec_len state.fresh ≡ 0 = state.fresh.ok.0 ∙ ap length none in
    let within : vec_len state.out ≤ vec_capacity state.out = state.out.ok.1 in (
      (
        none ∙ sym (ap (output_of state.memory) (sym known.next.spelled) ∙ known.quiet),
        omega (arith, count, within),
      ),
      known.pages,
    )
