use Rattle.std.proofs.Common.{List, ℕ, ◌≡◌, ◌∙◌, ◌+◌, ◌++◌, ◌<◌, ◌∷◌, ap, arith, drop, get_or, length, rules, sym}
use Rattle.std.proofs.lemmas.List.{append_assoc, drop_more}
use Rattle.rv_hart.specs.State.{State}
use Rattle.cl_state.specs.Room.{rank_of}
use Rattle.rvmc_explore.specs.HangTexts.{hart_going, harts_going}
use Rattle.rvmc_explore.proofs.going.put_rank.Goals as goal

pub loop-number-preserved : goal.loop-number-preserved
loop-number-preserved c =
    let symbols = c.args.symbols.now in
    let order = c.args.order.now in
    let own = rank_of c.args.own.now in
    let harts = c.args.own.now.harts.items in
    let n = c.loop-number.number in
    let hart = c.index-hart.result.now in
    let text = c.loop-number.text.items in
    let one = hart_going symbols order c.args.rank own n hart in
    let rest = harts_going symbols order c.args.rank own (n + 1) (drop (n + 1) harts) in
    let at : get_or harts n hart ≡ hart = search rules in
    let low : n < length harts = search (rules, arith) in
    c.loop-number.invariant
    ∙ ap (λ (hs : List State). text ++ harts_going symbols order c.args.rank own n hs)
    (drop_more harts n hart low ∙ ap (λ (h : State). h ∷ drop (n + 1) harts) at)
    ∙ sym (append_assoc text one rest)
    ∙ ap (λ (so_far : List ℕ). so_far ++ rest) (sym c.in_ok-put_hart.ensures)
