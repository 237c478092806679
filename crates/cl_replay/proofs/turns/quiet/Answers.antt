use Rattle.std.proofs.Common.{◌<◌, arith, sym, ap, ◌∙◌, subst, inl, inr, ⊎_elim}
use Rattle.cl_trace.specs.Traces.{kind_of_bare}
use Rattle.cl_machine.specs.SameSteps.{kind_seen}
use Rattle.cl_state.specs.Asked.{doing, part_of}
use Rattle.cl_state.specs.Right.{growth_of}
use Rattle.cl_state.specs.Room.{rank_of}
use Rattle.cl_state.specs.TurnRoom.{writes_of}
use Rattle.cl_state.specs.Writes.{missing_for}
use Rattle.cl_deeds.specs.Memory.{LacksPages}
use Rattle.cl_replay.proofs.Asks.{either, quiet_grows}
use Rattle.cl_replay.proofs.turns.quiet.Goals as goal

pub returns-in-Err-clause-found : goal.returns-in-Err-clause-found
returns-in-Err-clause-found c =
    let state = c.args.state.now in
    let rank = rank_of state in
    let kind = sym c.kind.ensures ∙ ap kind_seen c.in-Bare.is in
    ⊎_elim (λ lacks. inl (subst (LacksPages rank) c.hart-hart.ensures lacks)) (λ more.
    let grown = quiet_grows rank c.hart-hart.result c.next-doing.result c.next-doing.ensures.spelled c.in-Ok.ask
    c.in-Ok.ensures
    (kind_of_bare c.in-Bare.kind) (c.is_quiet.ensures.0 c.if-not-is_quiet.false)
    (λ none. absurd (omega (arith, more, none))) in
    inr (kind ∙ grown.0, subst (λ h. 0 < growth_of (doing rank.site (part_of rank h))) c.hart-hart.ensures grown.1))
    (either (growth_of c.next-doing.result) (missing_for state.memory.pages (writes_of state c.hart-hart.result))
    (λ none there. let never = c.in-Err.ensures.sure none there in cc))
