use Rattle.std.proofs.Common.{ap, sym, subst, ◌∙◌}
use Rattle.cl_machine.specs.Boxes.{box_number}
use Rattle.cl_state.specs.declared.asking.Ask.{Ask}
use Rattle.cl_trace.specs.declared.events.Kind.{Kind}
use Rattle.cl_replay.specs.Boxes.{settled_at}
use Rattle.cl_moves.specs.Moves.{HasMoves, looks}
use Rattle.cl_moves.proofs.Asking.{call_moves, if_ok_on, look_moves}
use Rattle.cl_moves.proofs.turns.turns_for.Goals as goal

pub returns-in-Look-clause-all : goal.returns-in-Look-clause-all
returns-in-Look-clause-all c =
    let state = c.args.state.now in
    let whose = c.args.whose in
    let there = c.in_box.ensures ∙ ap (λ b. settled_at b (box_number c.in-Look.link c.in-Look.part))
    c.as_slice-boxes.ensures.value in
    if_ok_on c.looking.result (λ turns is.
    subst (λ a. HasMoves state whose a turns.items) (sym c.in-Look.is)
    (look_moves state whose turns.items (Ask.Look c.in-Look.link c.in-Look.part) c.in-Look.link
    c.in-Look.part Kind.Take
    (is ∙ ap (looks whose Kind.Take) there) (λ cluster e rank move. move))) c.looking.ensures.turns

pub returns-in-Freed-clause-all : goal.returns-in-Freed-clause-all
returns-in-Freed-clause-all c =
    let state = c.args.state.now in
    let whose = c.args.whose in
    let there = c.in_box-in-Freed.ensures ∙ ap (λ b. settled_at b (box_number c.in-Freed.link c.in-Freed.part))
    c.as_slice-boxes.ensures.value in
    if_ok_on c.looking-in-Freed.result (λ turns is.
    subst (λ a. HasMoves state whose a turns.items) (sym c.in-Freed.is)
    (look_moves state whose turns.items (Ask.Freed c.in-Freed.link c.in-Freed.part) c.in-Freed.link
    c.in-Freed.part Kind.Freed
    (is ∙ ap (looks whose Kind.Freed) there) (λ cluster e rank move. move))) c.looking-in-Freed.ensures.turns

pub returns-in-Hub-clause-all : goal.returns-in-Hub-clause-all
returns-in-Hub-clause-all c =
    let state = c.args.state.now in
    let whose = c.args.whose in
    if_ok_on c.calling.result (λ turns is.
    subst (λ a. HasMoves state whose a turns.items) (sym c.in-Hub.is) (call_moves state whose turns.items _ is))
    c.calling.ensures.turn
