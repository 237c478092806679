use Rattle.std.proofs.Common.{◌≡◌, Some, ap, sym, ◌∙◌}
use Rattle.mp_match.specs.declared.posts.Line.{Line}
use Rattle.mp_match.specs.declared.posts.Post.TheVariants.{Receive}
use Rattle.mp_match.specs.Board.{Board, message_at}
use Rattle.mp_match.specs.Live.{kept}
use Rattle.mp_match.specs.InnerLive.{message_of, owners_with}
use Rattle.mp_match.specs.Pairs.{partner_for}
use Rattle.mp_match.proofs.Asked.{message_is}
use Rattle.mp_match.proofs.AtOnce.{held_at_once, is_kept, may_have, stand_at_once}
use Rattle.mp_match.proofs.queues.Queues.receive_once.Goals as goal

pub unreachable-requires : goal.unreachable-requires
unreachable-requires c =
    is_kept c.self.inside.owners.items (kept c.self.inside.table.map) c.self.inside.history.board c.self.invariant.0
    c.args.selection c.args.place
    (ap (λ (x : Board). partner_for x.lines (Receive c.args.selection)) c.self.view_is ∙ sym c.requires.partner)
    (sym c.in_default.ensures.live)

-- what is taken was counted
pub overflow_sub-self : goal.overflow_sub-self
overflow_sub-self c =
    let i = c.self.invariant in
    let here = sym c.in-Some.ensures.live in
    (held_at_once c.self.inside.history.board c.args.selection c.args.place c.in-Some.live.body _ _
    ((i.0).live c.args.place c.in-Some.live here).body c.count_of.ensures i.1).0

pub invariant_of-self-2 : goal.invariant_of-self-2
invariant_of-self-2 c =
    let i = c.self.invariant in
    let b = c.self.inside.history.board in
    let os = c.self.inside.owners.items in
    let f = kept c.self.inside.table.map in
    let here = sym c.in-Some.ensures.live in
    let found = ap (λ (x : Board). partner_for x.lines (Receive c.args.selection)) c.self.view_is
    ∙ sym c.requires.partner in
    let line : Line = record { post = Receive c.args.selection; partner = Some c.args.place } in
    let more : c.add_owner.new.owners.items ≡ owners_with os line =
    c.add_owner.ensures ∙ (λ j. owners_with (c.in_ok-reserve.ensures.items j) line) in
    rw c.with_received-self-inside.ensures (
      stand_at_once os c.add_owner.new.owners.items f (kept c.take.new.self.map) b i.0 c.args.selection c.args.place
          c.in-Some.live found here
          (may_have os f b i.0 c.args.selection c.args.place c.in-Some.live found here) more c.take.ensures.after,
      (held_at_once b c.args.selection c.args.place c.in-Some.live.body _ _
          ((i.0).live c.args.place c.in-Some.live here).body c.count_of.ensures i.1).1,
      i.2,
      c.pair.ensures.messages,
      c.pair.ensures.receives,
    )

pub returns-clause-message : goal.returns-clause-message
returns-clause-message c =
    c.message_from.ensures
    ∙ ap message_of c.in-Some.ensures.live
    ∙ message_is c.self.inside.owners.items (kept c.self.inside.table.map) c.self.inside.history.board
    c.self.invariant.0 c.args.place
    ∙ ap (λ (b : Board). message_at b c.args.place) c.self.view_is
