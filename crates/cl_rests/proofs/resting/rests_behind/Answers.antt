use Rattle.std.proofs.Common.{sym, ap, ◌∙◌}
use Rattle.cl_state.specs.Room.{rank_of}
use Rattle.cl_rests.specs.Sought.{is_sought}
use Rattle.cl_rests.proofs.Found.{behind_is, unreceived}
use Rattle.cl_rests.proofs.resting.rests_behind.Goals as goal

pub returns-in-None : goal.returns-in-None
returns-in-None c =
    let s = c.args.sought.now in
    let own = c.args.own.now in
    sym (behind_is s (rank_of own)
    ∙ ap (unreceived (is_sought s) s.hub.now s.from own.site) (sym c.send_behind.ensures ∙ c.in-None.is))

pub returns-in-Some : goal.returns-in-Some
returns-in-Some c =
    let s = c.args.sought.now in
    let own = c.args.own.now in
    c.finds_any_sent.ensures
    ∙ sym (behind_is s (rank_of own)
    ∙ ap (unreceived (is_sought s) s.hub.now s.from own.site) (sym c.send_behind.ensures ∙ c.in-Some.is))
