use Rattle.std.proofs.Common.{◌≡◌, ℕ, length, arith, ap, sym, ◌∙◌}
use Rattle.mp_match.specs.declared.live.Live.{Live}
use Rattle.mp_match.specs.Pairs.{partner_for}
use Rattle.mp_match.specs.Board.{Board, compared_after}
use Rattle.mp_match.specs.Live.{kept}
use Rattle.mp_match.specs.InnerLive.{entered, owners_with}
use Rattle.mp_match.proofs.Asked.{next_none, owners_length, post_waits}
use Rattle.mp_match.proofs.Kept.{stand_add, stand_same}
use Rattle.mp_match.proofs.Rows.{held_snoc, held_below, one_held}
use Rattle.mp_match.proofs.queues.Queues.add_to.Goals as goal

pub enter-requires-clause-there : goal.enter-requires-clause-there
enter-requires-clause-there c =
    post_waits c.self.inside.owners.items (kept c.self.inside.table.map) c.self.inside.history.board c.self.invariant.0
    c.args.new c.args.found.partner
    (c.requires.partner ∙ ap (λ (x : Board). partner_for x.lines c.args.new) (sym c.self.view_is))

pub enter-requires-clause-free : goal.enter-requires-clause-free
enter-requires-clause-free c =
    let b = c.self.inside.history.board in
    let n = owners_length c.self.inside.owners.items (kept c.self.inside.table.map) b c.self.invariant.0 in
    next_none c.self.inside.owners.items (kept c.self.inside.table.map) b c.self.invariant.0 c.len-place.result
    (omega (arith, n, c.len-place.ensures))

pub overflow_add-self : goal.overflow_add-self
overflow_add-self c =
    let a = held_below c.self.inside.history.board.bodies in
    let b = one_held c.args.body in
    let n : length c.self.inside.history.board.lines ≡ length c.args.self.now.lines =
    ap (λ (x : Board). length x.lines) c.self.view_is in
    let i = c.self.invariant in
    let m = (i.0).bodies in
    omega (arith, a, b, n, m, c.requires.few, c.count_of-more.ensures, i.1)

pub invariant_of-self : goal.invariant_of-self
invariant_of-self c = rw c.in_err-reserve.ensures.items c.self.invariant

pub invariant_of-self-in_err-enter : goal.invariant_of-self-in_err-enter
invariant_of-self-in_err-enter c =
    let i = c.self.invariant in
    rw c.in_ok-reserve.ensures.items (
      stand_same c.self.inside.owners.items (kept c.self.inside.table.map) (kept c.enter.new.table.map)
          c.self.inside.history.board i.0 c.in_err-enter.ensures.err_table,
      i.1,
      i.2,
      c.in_err-enter.ensures.err_messages,
      c.in_err-enter.ensures.err_receives,
    )

pub invariant_of-self-2 : goal.invariant_of-self-2
invariant_of-self-2 c =
    let b = c.self.inside.history.board in
    let i = c.self.invariant in
    let f = kept c.self.inside.table.map in
    let n = owners_length c.self.inside.owners.items f b i.0 in
    let place : c.len-place.result ≡ length b.lines = omega (arith, n, c.len-place.ensures) in
    let new : Live = record {
      alloc = c.self.inside.alloc;
      line = record { post = c.args.new; partner = c.args.found.partner };
      body = c.args.body;
    } in
    let found = c.requires.partner ∙ ap (λ (x : Board). partner_for x.lines c.args.new) (sym c.self.view_is) in
    let h = held_snoc b.bodies c.args.body in
    let more : c.add_owner.new.owners.items ≡ owners_with c.self.inside.owners.items new.line =
    c.add_owner.ensures ∙ (λ j. owners_with (c.in_ok-reserve.ensures.items j) new.line) in
    rw c.with_post-history.ensures (
      stand_add c.self.inside.owners.items c.add_owner.new.owners.items f (kept c.enter.new.table.map) b new i.0 found more
          (λ k. c.in_ok-enter.ensures.table k
          ∙ ap (λ (m : ℕ). entered f m new c.args.found.partner k) place),
      omega (arith, h, c.count_of-more.ensures, i.1),
      c.requires.compared ∙ ap (λ (x : Board). compared_after x c.args.new) (sym c.self.view_is),
      c.in_ok-enter.ensures.messages,
      c.in_ok-enter.ensures.receives,
    )
