use Rattle.std.proofs.Common.{◌∙◌, ℕ, Option, refl, sym, ap, subst}
use Rattle.cl_state.specs.declared.state.RankState.{RankState}
use Rattle.cl_trace.specs.declared.events.Event.{Event}
use Rattle.cl_rank.specs.Roomy.{IsRoomy}
use Rattle.cl_rank.specs.Views.{place_in}
use Rattle.cl_rank.proofs.Replied.{called_event}
use Rattle.cl_rank.proofs.Stayed.{moved, waited}
use Rattle.cl_rank.proofs.Went.{keeps, leaves}
use Rattle.cl_rank.proofs.ranks.Rank.wait_on.Goals as goal

pub invariant_of-self : goal.invariant_of-self
invariant_of-self c =
    let state : RankState = c.args.self.now.state in
    let now : RankState = record state { clock = c.args.stamp } in
    keeps (waited c.args.self.now now c.requires.may c.requires.stamp refl) c.note.new.roomy c.args.self.now.again _
    c.requires.may.has.left
    (ap (λ (e : Event). e.stamp) c.called-noted.ensures.event) c.note.ensures.event
    (subst (λ (o : Option ℕ). IsRoomy now o c.args.self.now.again)
    (sym (c.note.ensures.waits ∙ c.called-noted.ensures.waits)) (c.requires.may.room, moved c.args.self.now.state c.args.stamp c.args.hart c.args.self.now.again c.requires.again))

pub returns : goal.returns
returns c =
    leaves (waited c.args.self.now _ c.requires.may c.requires.stamp refl)
    (called_event _ _ _ _ _ refl c.called-noted.ensures.event c.note.ensures.event)
    (ap place_in (c.note.ensures.place ∙ c.called-noted.ensures.place)) refl refl
