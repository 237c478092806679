use Rattle.std.proofs.Common.{◌≡◌, Some, arith, slice_get, subst, refl, ◌∙◌}
use Rattle.std.proofs.lemmas.Option.{slice_get_read}
use Rattle.cl_moves.specs.Moves.{HasMoves}
use Rattle.cl_moves.specs.declared.single.Whose.{Whose}
use Rattle.cl_moves.proofs.Asking.{all_turns, if_ok_on, no_hart, no_rank}
use Rattle.cl_moves.proofs.turns.turns_of.Goals as goal

pub returns-then-place-len-clause-all : goal.returns-then-place-len-clause-all
returns-then-place-len-clause-all c =
    let ranks = c.args.state.now.ranks in
    no_rank c.args.state.now c.args.rank c.args.hart _
    (omega (arith, c.if-place-len.true, c.from-place.ensures, c.len.ensures, ranks.ok.0))

pub returns-then-from-len-clause-all : goal.returns-then-from-len-clause-all
returns-then-from-len-clause-all c =
    let own = c.index-own.result.now in
    let ranks = c.args.state.now.ranks in
    let here = slice_get_read ranks.items c.len.result c.from-place.result own (c.len.ensures ∙ ranks.ok.0)
    c.if-place-len.false c.index-own.ensures in
    no_hart c.args.state.now c.args.rank c.args.hart own
    (subst (λ r. slice_get ranks.items r ≡ Some own) c.from-place.ensures here) _
    (omega (arith, c.if-from-len.true, c.from.ensures, c.len-2.ensures, own.harts.ok.0))

pub returns-clause-all : goal.returns-clause-all
returns-clause-all c =
    let own = c.index-own.result.now in
    let state = c.args.state.now in
    let ranks = state.ranks in
    let here = slice_get_read ranks.items c.len.result c.from-place.result own (c.len.ensures ∙ ranks.ok.0)
    c.if-place-len.false c.index-own.ensures in
    let whose : Whose = record { rank = c.args.rank; hart = c.args.hart; clock = own.clock } in
    if_ok_on c.turns_for.result (λ turns moves.
    all_turns state c.args.rank c.args.hart own (subst (λ r. slice_get ranks.items r ≡ Some own) c.from-place.ensures here)
    whose turns.items refl refl refl
    (subst (λ a. HasMoves state whose a turns.items) c.in_ok-ask.ensures moves)) c.turns_for.ensures.all
