use Rattle.std.proofs.Common.{refl, ap, sym, ◌∙◌}
use Rattle.cl_trace.specs.declared.events.Event.{Event}
use Rattle.cl_rank.specs.Views.{place_in}
use Rattle.cl_rank.proofs.Went.{in_time, keeps, leaves, no_room, uncalled_event, went_alone}
use Rattle.cl_rank.proofs.ranks.Rank.go_alone.Goals as goal

pub note-requires-clause-rises : goal.note-requires-clause-rises
note-requires-clause-rises c =
    let went = went_alone c.args.self.now c.args.turn.now c.tell_row.new.self c.requires.may c.requires.asked
    c.tell_row.ensures.told c.started-link.ensures c.begin.ensures.sends c.begin.ensures.recvs in
    (in_time went (ap (λ (e : Event). e.stamp) c.uncalled-noted.ensures.event)).0

pub invariant_of-self : goal.invariant_of-self
invariant_of-self c =
    let went = went_alone c.args.self.now c.args.turn.now c.tell_row.new.self c.requires.may c.requires.asked
    c.tell_row.ensures.told c.started-link.ensures c.begin.ensures.sends c.begin.ensures.recvs in
    keeps went c.note.new.roomy c.args.self.now.again _ c.requires.may.has.left (ap (λ (e : Event). e.stamp) c.uncalled-noted.ensures.event)
    c.note.ensures.event (no_room c.tell_row.new.self c.args.self.now.again (c.note.ensures.waits ∙ c.uncalled-noted.ensures.waits))

pub returns : goal.returns
returns c =
    let asked = c.requires.asked in
    let went = went_alone c.args.self.now c.args.turn.now c.tell_row.new.self c.requires.may asked
    c.tell_row.ensures.told c.started-link.ensures c.begin.ensures.sends c.begin.ensures.recvs in
    record {
      deed = _;
      quiet = asked.quiet;
      leaves = leaves went
          (uncalled_event asked.act _ _ asked.kind asked.quiet c.uncalled-noted.ensures.event c.note.ensures.event)
          (ap place_in (c.note.ensures.place ∙ c.uncalled-noted.ensures.place) ∙ sym asked.nowhere) refl c.tell_row.ensures.harts;
    }
