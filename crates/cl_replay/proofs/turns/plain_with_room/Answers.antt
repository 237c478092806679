use Rattle.std.proofs.Common.{refl, sym, ap, ◌∙◌}
use Rattle.std.proofs.lemmas.Result.{on_ok_weaker}
use Rattle.cl_state.specs.declared.asking.Ask.TheVariants as ask
use Rattle.cl_state.specs.Asked.{asked}
use Rattle.cl_state.specs.Room.{rank_of}
use Rattle.cl_replay.proofs.Asks.{nothing_out}
use Rattle.cl_replay.proofs.ByKind.{lacking}
use Rattle.cl_replay.proofs.turns.plain_with_room.Goals as goal

pub tell-requires-clause-nothing_out : goal.tell-requires-clause-nothing_out
tell-requires-clause-nothing_out c =
    nothing_out (rank_of c.args.state.now) c.hart-hart.result c.next-doing.result c.next-doing.ensures.spelled
    ask.Plain (sym c.in-Ok.ensures ∙ c.is_plain.ensures.0 c.if-not-is_plain.false) refl

pub returns-clause-goes : goal.returns-clause-goes
returns-clause-goes c =
    let asks = ap (asked (rank_of c.args.state.now)) (sym c.hart-hart.ensures) ∙ sym c.in-Ok.ensures
    ∙ c.is_plain.ensures.0 c.if-not-is_plain.false in
    on_ok_weaker c.tell.result (λ told. ((asks, c.requires.stamp), told)) c.tell.ensures.told

pub returns-clause-fault : goal.returns-clause-fault
returns-clause-fault c = lacking c.tell.result (rank_of c.args.state.now) c.args.step.now _ c.tell.ensures.fault
