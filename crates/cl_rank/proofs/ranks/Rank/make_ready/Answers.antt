use Rattle.std.proofs.Common.{◌∙◌, length, ap, sym, refl, arith}
use Rattle.part_phase.specs.declared.sending.SendPhase.{SendPhase}
use Rattle.cl_trace.specs.declared.events.Event.{Event}
use Rattle.cl_deeds.specs.Deeds.{Act}
use Rattle.cl_rank.specs.Views.{place_in}
use Rattle.cl_rank.proofs.Boxes.{length_first}
use Rattle.cl_rank.proofs.Went.{in_bounds, in_time, keeps, leaves, may_go, no_room, uncalled_event, went_ready}
use Rattle.cl_rank.proofs.ranks.Rank.make_ready.Goals as goal

pub slice_bounds-bytes-end : goal.slice_bounds-bytes-end
slice_bounds-bytes-end c =
    let low = in_bounds c.args.self.now c.args.turn.now c.requires.own c.requires.asked in
    let size = ap (λ (p : SendPhase). p.size) c.sending-size.ensures.phase in
    let count = ap length c.as_slice.ensures in
    sym (length_first c.sending-size.result.size c.as_slice.result.now (omega (arith, low, size, count)))

pub make_ready-stamp-requires-clause-may : goal.make_ready-stamp-requires-clause-may
make_ready-stamp-requires-clause-may c =
    may_go c.args.self.now c.args.turn.now c.requires.own c.requires.asked
    (ap (λ (p : SendPhase). p.size) c.sending-size.ensures.phase) c.as_slice.ensures

pub note-requires-clause-rises : goal.note-requires-clause-rises
note-requires-clause-rises c =
    let went = went_ready c.args.self.now c.args.turn.now c.requires.own c.requires.asked
    (ap (λ (p : SendPhase). p.size) c.sending-size.ensures.phase) c.as_slice.ensures c.tell_row.new.self c.requires.may
    c.make_ready-stamp.ensures.stamp c.tell_row.ensures.told c.make_ready-stamp.ensures.made in
    (in_time went (ap (λ (e : Event). e.stamp) c.uncalled-noted.ensures.event)).0

pub invariant_of-self : goal.invariant_of-self
invariant_of-self c =
    let went = went_ready c.args.self.now c.args.turn.now c.requires.own c.requires.asked
    (ap (λ (p : SendPhase). p.size) c.sending-size.ensures.phase) c.as_slice.ensures c.tell_row.new.self c.requires.may
    c.make_ready-stamp.ensures.stamp c.tell_row.ensures.told c.make_ready-stamp.ensures.made in
    keeps went c.note.new.roomy c.args.self.now.again _ c.requires.may.has.left (ap (λ (e : Event). e.stamp) c.uncalled-noted.ensures.event)
    c.note.ensures.event (no_room c.tell_row.new.self c.args.self.now.again (c.note.ensures.waits ∙ c.uncalled-noted.ensures.waits))

pub returns : goal.returns
returns c =
    let went = went_ready c.args.self.now c.args.turn.now c.requires.own c.requires.asked
    (ap (λ (p : SendPhase). p.size) c.sending-size.ensures.phase) c.as_slice.ensures c.tell_row.new.self c.requires.may
    c.make_ready-stamp.ensures.stamp c.tell_row.ensures.told c.make_ready-stamp.ensures.made in
    record {
      deed = _;
      quiet = refl;
      leaves = leaves went
          (uncalled_event (Act.Ready c.args.place.link c.args.place.part c.args.bytes.now) _ _ refl refl
          c.uncalled-noted.ensures.event c.note.ensures.event)
          (ap place_in (c.note.ensures.place ∙ c.uncalled-noted.ensures.place)) refl c.tell_row.ensures.harts;
    }
