use Rattle.std.proofs.Common.{sym, ap, ◌∙◌}
use Rattle.std.specs.Prelude.{◌||◌}
use Rattle.std.proofs.lemmas.Bool.{or_left}
use Rattle.cl_state.specs.Room.{rank_of}
use Rattle.cl_rest_laws.specs.Rests.{rests_before, rests_behind}
use Rattle.cl_rests.specs.Sought.{is_sought}
use Rattle.cl_rests.proofs.Found.{none_rests}
use Rattle.cl_rests.proofs.resting.rests_in.Goals as goal

pub returns-then-len-eq0 : goal.returns-then-len-eq0
returns-then-len-eq0 c =
    let s = c.args.sought.now in
    let own = c.args.own.now in
    sym (none_rests (rank_of own) (sym (c.len.ensures ∙ own.harts.ok.0) ∙ c.if-len-eq0.true) (is_sought s) s.hub.now s.from)

pub returns-then-rests_behind : goal.returns-then-rests_behind
returns-then-rests_behind c =
    let s = c.args.sought.now in
    let rank = rank_of c.args.own.now in
    c.if-rests_behind.true
    ∙ sym (or_left (rests_behind (is_sought s) s.hub.now s.from rank 0) (rests_before (is_sought s) s.hub.now s.from rank 0)
    (sym c.rests_behind.ensures ∙ c.if-rests_behind.true))

pub returns-else-rests_behind : goal.returns-else-rests_behind
returns-else-rests_behind c =
    let s = c.args.sought.now in
    let rank = rank_of c.args.own.now in
    c.rests_before.ensures
    ∙ sym (ap (λ b. b || rests_before (is_sought s) s.hub.now s.from rank 0)
    (sym c.rests_behind.ensures ∙ c.if-rests_behind.false))
