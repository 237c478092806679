use Rattle.std.proofs.Common.{ap, refl, subst, sym, ◌∙◌}
use Rattle.cl_state.specs.Rank.{Rank as RankAlone}
use Rattle.cl_sides.specs.Sides.{AreChannelsOf}
use Rattle.cl_rank.specs.Views.{view_of}
use Rattle.cl_rank.proofs.Asks.{asks_nothing_plain, asks_nothing_local, asks_nothing_held, asks_nothing_idle}
use Rattle.cl_rank.proofs.Ends.{is_active}
use Rattle.cl_rank.proofs.Same.{same_keeps}
use Rattle.cl_rank.proofs.SameEnds.{quiet_ends, same_ends, seen}
use Rattle.cl_rank.proofs.ranks.Rank.table_turn.Goals as goal

pub go_alone-requires-clause-asked : goal.go_alone-requires-clause-asked
go_alone-requires-clause-asked g c =
    asks_nothing_plain _ _ c.args.hart c.in-Ok-lay_out.ensures.same (sym c.in-Ok.ensures ∙ c.in-Plain.is)

pub go_alone-requires-in-Local-clause-asked : goal.go_alone-requires-in-Local-clause-asked
go_alone-requires-in-Local-clause-asked g c =
    asks_nothing_local _ _ c.args.hart c.in-Ok-lay_out.ensures.same (sym c.in-Ok.ensures ∙ c.in-Local.is)

pub go_alone-requires-in-Held-clause-asked : goal.go_alone-requires-in-Held-clause-asked
go_alone-requires-in-Held-clause-asked g c =
    asks_nothing_held _ _ c.args.hart c.in-Ok-lay_out.ensures.same (sym c.in-Ok.ensures ∙ c.in-Held.is)

pub go_alone-requires-in-Idle-clause-asked : goal.go_alone-requires-in-Idle-clause-asked
go_alone-requires-in-Idle-clause-asked g c =
    asks_nothing_idle _ _ c.args.hart c.in-Ok-lay_out.ensures.same (sym c.in-Ok.ensures ∙ c.in-Idle.is)

pub invariant_of-self-2 : goal.invariant_of-self-2
invariant_of-self-2 g c = same_keeps c.args.self.now c.lay_out.new.self c.lay_out.ensures.same

pub returns-in-Plain : goal.returns-in-Plain
returns-in-Plain g c =
    quiet_ends g.D.Desk.gives c.args.hart c.args.self.now c.args.channels.now _
    (ap (seen c.args.self.now) c.in-Ok-lay_out.ensures.same) refl c.in-Ok-lay_out.ensures.harts _ c.args.desk.now
    (is_active c.args.self.now c.args.hart c.requires.active c.requires.has) c.requires.own c.go_alone.ensures

pub returns-in-Local : goal.returns-in-Local
returns-in-Local g c =
    quiet_ends g.D.Desk.gives c.args.hart c.args.self.now c.args.channels.now _
    (ap (seen c.args.self.now) c.in-Ok-lay_out.ensures.same) refl c.in-Ok-lay_out.ensures.harts _ c.args.desk.now
    (is_active c.args.self.now c.args.hart c.requires.active c.requires.has) c.requires.own c.go_alone-in-Local.ensures

pub returns-in-Held : goal.returns-in-Held
returns-in-Held g c =
    quiet_ends g.D.Desk.gives c.args.hart c.args.self.now c.args.channels.now _
    (ap (seen c.args.self.now) c.in-Ok-lay_out.ensures.same) refl c.in-Ok-lay_out.ensures.harts _ c.args.desk.now
    (is_active c.args.self.now c.args.hart c.requires.active c.requires.has) c.requires.own c.go_alone-in-Held.ensures

pub returns-in-Idle : goal.returns-in-Idle
returns-in-Idle g c =
    quiet_ends g.D.Desk.gives c.args.hart c.args.self.now c.args.channels.now _
    (ap (seen c.args.self.now) c.in-Ok-lay_out.ensures.same) refl c.in-Ok-lay_out.ensures.harts _ c.args.desk.now
    (is_active c.args.self.now c.args.hart c.requires.active c.requires.has) c.requires.own c.go_alone-in-Idle.ensures

pub returns-in-Ready : goal.returns-in-Ready
returns-in-Ready g c =
    quiet_ends g.D.Desk.gives c.args.hart c.args.self.now c.args.channels.now _
    (ap (seen c.args.self.now) c.in-Ok-lay_out.ensures.same) refl c.in-Ok-lay_out.ensures.harts _ c.args.desk.now
    (is_active c.args.self.now c.args.hart c.requires.active c.requires.has) c.requires.own c.make_ready.ensures

pub returns-in-Look : goal.returns-in-Look
returns-in-Look g c =
    quiet_ends g.D.Desk.gives c.args.hart c.args.self.now c.args.channels.now _
    (ap (seen c.args.self.now) c.in-Ok-lay_out.ensures.same) refl c.in-Ok-lay_out.ensures.harts _ c.args.desk.now
    (is_active c.args.self.now c.args.hart c.requires.active c.requires.has) c.requires.own c.look.ensures

pub returns-in-Freed : goal.returns-in-Freed
returns-in-Freed g c =
    quiet_ends g.D.Desk.gives c.args.hart c.args.self.now c.args.channels.now _
    (ap (seen c.args.self.now) c.in-Ok-lay_out.ensures.same) refl c.in-Ok-lay_out.ensures.harts _ c.args.desk.now
    (is_active c.args.self.now c.args.hart c.requires.active c.requires.has) c.requires.own c.test.ensures

pub returns-in-Hub : goal.returns-in-Hub
returns-in-Hub g c =
    same_ends g.D.Desk.gives c.args.hart c.args.self.now c.args.channels.now _
    (ap (seen c.args.self.now) c.in-Ok-lay_out.ensures.same) refl c.in-Ok-lay_out.ensures.harts
    c.call_hub.result _ c.args.desk.now c.call_hub.new.desk (λ none. none)
    (c.call_hub.ensures c.args.channels.now
    (subst (λ (r : RankAlone). AreChannelsOf r.site.version c.args.channels.now (view_of c.args.self.now).sides)
    (sym c.in-Ok-lay_out.ensures.same) c.requires.own))
