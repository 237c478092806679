use Rattle.std.proofs.Common.{List, ℕ, ◌∙◌, subst, sym}
use Rattle.std.specs.Io.KnownBytes.{Appends}
use Rattle.rvmc_explore.specs.InnerTelling.{WereTold}
use Rattle.rvmc_explore.proofs.Heard.{cut_by, whatever_err, whole_by}
use Rattle.rvmc_explore.proofs.putting.put_explored.Goals as goal

pub returns-in_err-found-clause-cut : goal.returns-in_err-found-clause-cut
returns-in_err-found-clause-cut g c =
    let teller = c.search_telling-found.new.teller in
    let given = c.in_err-found.out-in-Break-1-own.given in
    let there = given.1 (sym (c.search_telling-found.ensures.same_reference ∙ c.new-teller.ensures.same_reference)) in
    let told =
    subst (λ o. WereTold teller.told.items teller.taken (g.O.Write.contents o) (g.O.Write.contents given.0))
    c.new-teller.ensures.now
    (subst (λ o. WereTold teller.told.items teller.taken (g.O.Write.contents c.new-teller.result.out.now) (g.O.Write.contents o))
    (sym there) c.search_telling-found.ensures.told) in
    whatever_err c.from_residual.result _
    (cut_by c.args.asked.now.order.now c.args.image.now c.args.asked.now.buffered teller.told.items teller.taken
    (g.O.Write.contents c.args.out.now) (g.O.Write.contents given.0) c.search_telling-found.ensures.heard
    c.search_telling-found.ensures.no_need told c.if-not-taken.false)

pub returns-in_err-text-clause-cut : goal.returns-in_err-text-clause-cut
returns-in_err-text-clause-cut g c =
    let teller = c.search_telling-found.new.teller in
    let given = c.in_err-text.out-in-Break-branch-2-1-own.given in
    let there = given.1 (sym (c.search_telling-found.ensures.same_reference ∙ c.new-teller.ensures.same_reference)) in
    let told =
    subst (λ o. WereTold teller.told.items teller.taken (g.O.Write.contents o) (g.O.Write.contents given.0))
    c.new-teller.ensures.now
    (subst (λ o. WereTold teller.told.items teller.taken (g.O.Write.contents c.new-teller.result.out.now) (g.O.Write.contents o))
    (sym there) c.search_telling-found.ensures.told) in
    whatever_err c.from_residual-in_err-text.result _
    (cut_by c.args.asked.now.order.now c.args.image.now c.args.asked.now.buffered teller.told.items teller.taken
    (g.O.Write.contents c.args.out.now) (g.O.Write.contents given.0) c.search_telling-found.ensures.heard
    c.search_telling-found.ensures.no_need told c.if-not-taken.false)

pub returns-clause-told : goal.returns-clause-told
returns-clause-told g c = λ all.
    let teller = c.search_telling-found.new.teller in
    let rest = c.in_ok-text.field-0 in
    let given = c.out-2-1.given in
    let mid = g.O.Write.contents teller.out.now in
    let there = given.1 (sym (c.search_telling-found.ensures.same_reference ∙ c.new-teller.ensures.same_reference)) in
    let told =
    subst (λ o. WereTold teller.told.items teller.taken (g.O.Write.contents o) mid) c.new-teller.ensures.now
    c.search_telling-found.ensures.told in
    let puts =
    subst (λ (text : List ℕ). Appends mid (g.O.Write.contents c.put.new.out) text) c.as_slice.ensures.value (c.put.ensures all) in
    whole_by c.args.asked.now.order.now c.args.image.now c.args.asked.now.buffered c.args.asked.now.states
    c.args.asked.now.turns rest.status teller.told.items teller.taken (g.O.Write.contents c.args.out.now) mid (g.O.Write.contents given.0) rest.text.items told
    c.if-not-taken.false c.in_ok-text.ensures
    (subst (λ o. Appends mid (g.O.Write.contents o) rest.text.items) (sym there) puts)
