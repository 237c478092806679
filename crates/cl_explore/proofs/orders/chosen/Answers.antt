use Rattle.std.proofs.Common.{arith, sym, ◌∙◌}
use Rattle.cl_explore.proofs.Following.{none_chosen, none_looked, one_chosen, one_looked, other_bool, same_bool}
use Rattle.cl_explore.proofs.orders.chosen.Goals as goal

pub rest-init : goal.rest-init
rest-init c = none_looked c.args.misses c.args.turns.items

pub returns-in-None : goal.returns-in-None
returns-in-None c =
    none_chosen c.args.misses c.args.turns.items c.rest.turns.items
    (omega (arith, c.in-None.ensures.cases.0, c.rest.turns.ok.0)) c.rest.invariant

pub returns-then-is_miss-misses : goal.returns-then-is_miss-misses
returns-then-is_miss-misses c =
    one_chosen c.args.misses c.args.turns.items c.rest.turns.items c.pop.new.self.items c.in-Some.turn
    c.in-Some.ensures.items (sym c.is_miss.ensures ∙ same_bool c.is_miss.result c.args.misses c.if-is_miss-misses.true) c.rest.invariant

pub rest-preserved-else-is_miss-misses : goal.rest-preserved-else-is_miss-misses
rest-preserved-else-is_miss-misses c =
    one_looked c.args.misses c.args.turns.items c.rest.turns.items c.pop.new.self.items c.in-Some.turn
    c.in-Some.ensures.items (λ is. other_bool c.is_miss.result c.args.misses c.if-is_miss-misses.false (c.is_miss.ensures ∙ is)) c.rest.invariant

pub rest-preserved : goal.rest-preserved
rest-preserved c =
    one_looked c.args.misses c.args.turns.items c.rest.turns.items c.pop.new.self.items c.in-Some.turn
    c.in-Some.ensures.items (λ is. other_bool c.is_miss.result c.args.misses c.if-is_miss-misses.false (c.is_miss.ensures ∙ is)) c.rest.invariant
