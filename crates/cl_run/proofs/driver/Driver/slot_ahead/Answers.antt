use Rattle.std.proofs.Common.{◌<◌, arith, length, subst}
use Rattle.cl_run.specs.Ahead.{SlotGoesAhead, SlotGone, Spends}
use Rattle.cl_run.proofs.AheadSlots.{may_count, may_joined, ran_and_gone, slot_then, spent}
use Rattle.cl_run.proofs.driver.Driver.slot_ahead.Goals as goal

pub returns-then-spend : goal.returns-then-spend
returns-then-spend c =
    let old = c.args.self.now in
    let there = c.requires.there in
    spent c.args.rank old c.args.ahead.now c.spend.new.ahead c.requires.joined (omega (arith, there, old.seats.ok.0))
    (subst (Spends c.args.rank c.args.ahead.now c.spend.new.ahead) c.if-spend.true c.spend.ensures)

pub returns-then-spend-2 : goal.returns-then-spend-2
returns-then-spend-2 c =
    let r = c.args.rank in
    let old = c.args.self.now in
    let mid = c.run_ahead.new.self in
    let turns = c.args.ahead.now in
    let none = subst (Spends r turns c.spend.new.ahead) c.if-spend.false c.spend.ensures in
    let may = c.run_ahead.ensures in
    let there = c.requires.there in
    let count = may_count r old mid c.spend.new.ahead c.run_ahead.new.ahead may in
    let inside : r < length mid.seats.items = omega (arith, there, count, old.seats.ok.0) in
    let gone = ran_and_gone r old mid mid c.spend.new.ahead c.run_ahead.new.ahead c.spend-2.new.ahead may
    (spent r mid c.run_ahead.new.ahead c.spend-2.new.ahead
    (may_joined r old mid c.spend.new.ahead c.run_ahead.new.ahead may c.requires.joined) inside
    (subst (Spends r c.run_ahead.new.ahead c.spend-2.new.ahead) c.if-spend-2.true c.spend-2.ensures)) in
    subst (λ ts. SlotGone r old ts mid c.spend-2.new.ahead) none.0 gone

pub slot-requires-clause-joined : goal.slot-requires-clause-joined
slot-requires-clause-joined c =
    may_joined c.args.rank c.args.self.now c.run_ahead.new.self c.spend.new.ahead c.run_ahead.new.ahead
    c.run_ahead.ensures c.requires.joined

pub returns : goal.returns
returns c =
    let r = c.args.rank in
    let old = c.args.self.now in
    let mid = c.run_ahead.new.self in
    let turns = c.args.ahead.now in
    let none = subst (Spends r turns c.spend.new.ahead) c.if-spend.false c.spend.ensures in
    let still = subst (Spends r c.run_ahead.new.ahead c.spend-2.new.ahead) c.if-spend-2.false c.spend-2.ensures in
    subst (λ ts. SlotGoesAhead r old ts c.slot.new.self c.spend-2.new.ahead c.slot.result) none.0
    (slot_then r old mid c.slot.new.self c.spend.new.ahead c.run_ahead.new.ahead c.spend-2.new.ahead c.slot.result
    c.requires.joined c.run_ahead.ensures still c.slot.ensures)
