use Rattle.std.proofs.Common.{◌∙◌, refl, ap}
use Rattle.cl_trace.specs.declared.events.Event.{Event}
use Rattle.cl_rank.specs.Views.{place_in}
use Rattle.cl_rank.proofs.QuickSends.{went_posted}
use Rattle.cl_rank.proofs.Replied.{called_event}
use Rattle.cl_rank.proofs.Went.{keeps, leaves, no_room}
use Rattle.cl_rank.proofs.ranks.Rank.tell_posted.Goals as goal

pub invariant_of-self : goal.invariant_of-self
invariant_of-self c =
    let went = went_posted c.args.self.now c.tell_sent.new.state c.args.post c.args.done c.requires.may c.requires.stamp
    c.tell_sent.ensures.told in
    keeps went c.note.new.roomy c.args.self.now.again _ c.requires.may.has.left
    (ap (λ (e : Event). e.stamp) c.called-noted.ensures.event) c.note.ensures.event
    (no_room c.tell_sent.new.state c.args.self.now.again (c.note.ensures.waits ∙ c.called-noted.ensures.waits))

pub returns : goal.returns
returns c =
    let went = went_posted c.args.self.now c.tell_sent.new.state c.args.post c.args.done c.requires.may c.requires.stamp
    c.tell_sent.ensures.told in
    leaves went (called_event _ _ _ _ _ refl c.called-noted.ensures.event c.note.ensures.event)
    (ap place_in (c.note.ensures.place ∙ c.called-noted.ensures.place)) refl c.tell_sent.ensures.harts
