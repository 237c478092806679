use Rattle.std.proofs.Common.{◌∙◌, ◌≤◌, List, ℕ, length, refl, sym, ap, subst}
use Rattle.cl_trace.specs.declared.events.Event.{Event}
use Rattle.cl_state.specs.Room.{rank_of}
use Rattle.cl_rank.specs.QuickReceives.{got_at}
use Rattle.cl_rank.specs.Views.{place_in}
use Rattle.cl_rank.proofs.QuickReceives.{fewer_present, fewer_right, fits_got, went_got}
use Rattle.cl_rank.proofs.Replied.{called_event}
use Rattle.cl_rank.proofs.Went.{keeps, leaves, no_room}
use Rattle.cl_rank.proofs.ranks.Rank.tell_message.Goals as goal

pub tell_got-requires-clause-right : goal.tell_got-requires-clause-right
tell_got-requires-clause-right c =
    let state = c.args.self.now.state in
    let fits = fits_got state.site c.args.receiving c.args.reply c.in-Got.message c.requires.fits c.in-Got.is in
    fewer_right state.memory c.args.receiving.buffer c.args.receiving.capacity (length c.as_slice.result.now)
    c.requires.may.turn.roomy.0.5
    (subst (λ (bs : List ℕ). length bs ≤ c.args.receiving.capacity) (sym c.as_slice.ensures) fits.1)

pub tell_got-requires-clause-present : goal.tell_got-requires-clause-present
tell_got-requires-clause-present c =
    let state = c.args.self.now.state in
    let fits = fits_got state.site c.args.receiving c.args.reply c.in-Got.message c.requires.fits c.in-Got.is in
    fewer_present state.memory.pages c.args.receiving.buffer c.args.receiving.capacity (length c.as_slice.result.now)
    c.requires.may.turn.roomy.1
    (subst (λ (bs : List ℕ). length bs ≤ c.args.receiving.capacity) (sym c.as_slice.ensures) fits.1)

pub invariant_of-self : goal.invariant_of-self
invariant_of-self c =
    let state = c.args.self.now.state in
    let went = went_got c.args.self.now c.tell_got.new.state c.args.reply c.args.receiving c.in-Got.message
    c.requires.may c.requires.stamp c.in-Got.is
    (fits_got state.site c.args.receiving c.args.reply c.in-Got.message c.requires.fits c.in-Got.is)
    (c.tell_got.ensures.told
    ∙ ap (λ (bs : List ℕ). got_at (rank_of state) c.args.hart c.args.receiving.buffer bs c.args.stamp) c.as_slice.ensures) in
    keeps went c.note.new.roomy c.args.self.now.again _ c.requires.may.has.left
    (ap (λ (e : Event). e.stamp) c.called-noted.ensures.event) c.note.ensures.event
    (no_room c.tell_got.new.state c.args.self.now.again (c.note.ensures.waits ∙ c.called-noted.ensures.waits))

pub returns : goal.returns
returns c =
    let state = c.args.self.now.state in
    let went = went_got c.args.self.now c.tell_got.new.state c.args.reply c.args.receiving c.in-Got.message
    c.requires.may c.requires.stamp c.in-Got.is
    (fits_got state.site c.args.receiving c.args.reply c.in-Got.message c.requires.fits c.in-Got.is)
    (c.tell_got.ensures.told
    ∙ ap (λ (bs : List ℕ). got_at (rank_of state) c.args.hart c.args.receiving.buffer bs c.args.stamp) c.as_slice.ensures) in
    leaves went (called_event _ _ _ _ _ refl c.called-noted.ensures.event c.note.ensures.event)
    (ap place_in (c.note.ensures.place ∙ c.called-noted.ensures.place)) refl c.tell_got.ensures.harts
