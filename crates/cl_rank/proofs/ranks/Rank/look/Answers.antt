use Rattle.std.proofs.Common.{◌∙◌, ap, sym, refl}
use Rattle.cl_state.specs.Room.{rank_of}
use Rattle.cl_trace.specs.declared.events.Event.{Event}
use Rattle.cl_rank.specs.Views.{place_in}
use Rattle.cl_rank.proofs.Asks.{went_box}
use Rattle.cl_rank.proofs.Taken.{look_turn, may_take}
use Rattle.cl_rank.proofs.Went.{keeps, leaves, no_room, uncalled_event}
use Rattle.cl_rank.proofs.ranks.Rank.look.Goals as goal

pub take-take-requires-clause-may : goal.take-take-requires-clause-may
take-take-requires-clause-may c =
    may_take (rank_of c.args.self.now.state) c.args.turn.now.hart c.args.place.link c.args.place.part c.args.channels.now
    c.args.self.now.sends.items c.args.self.now.recvs.items c.args.self.now.sides c.args.self.now.fit c.requires.own
    c.requires.asked

pub invariant_of-self : goal.invariant_of-self
invariant_of-self c =
    let turn = look_turn c.args.self.now c.args.turn.now c.requires.own c.requires.asked c.take-take.ensures.taken
    c.tell_row.new.self c.told_of_take-answer.result c.told_of_take-answer.ensures c.tell_row.ensures.told in
    let went = went_box turn c.requires.may c.tell_row.ensures.told in
    keeps went c.note.new.roomy c.args.self.now.again _ c.requires.may.has.left (ap (λ (e : Event). e.stamp) c.uncalled-noted.ensures.event)
    c.note.ensures.event (no_room c.tell_row.new.self c.args.self.now.again (c.note.ensures.waits ∙ c.uncalled-noted.ensures.waits))

pub returns : goal.returns
returns c =
    let turn = look_turn c.args.self.now c.args.turn.now c.requires.own c.requires.asked c.take-take.ensures.taken
    c.tell_row.new.self c.told_of_take-answer.result c.told_of_take-answer.ensures c.tell_row.ensures.told in
    let went = went_box turn c.requires.may c.tell_row.ensures.told in
    record {
      deed = _;
      quiet = turn.quiet;
      leaves = leaves went
          (uncalled_event turn.act _ _ turn.kinds turn.quiet c.uncalled-noted.ensures.event c.note.ensures.event)
          (ap place_in (c.note.ensures.place ∙ c.uncalled-noted.ensures.place) ∙ sym turn.place) refl c.tell_row.ensures.harts;
    }
