use Rattle.std.proofs.Common.{arith}
use Rattle.mp_alike.specs.declared.names.Naming.{Naming}
use Rattle.mp_alike.specs.InnerNames.{IsNaming}
use Rattle.std.specs.Prelude.{◌≡◌, length}
use Rattle.mp_alike.proofs.Boards.{none_named, none_unfilled, none_unlike, some_is}
use Rattle.mp_alike.proofs.alike.board_names.Goals as goal

pub returns-in_default-clause-none : goal.returns-in_default-clause-none
returns-in_default-clause-none c e =
    none_named c.args.a.now c.args.b.now c.lines-3.result.now c.lines-4.result.now c.lines-3.ensures.lines
    c.lines-4.ensures.lines (c.in_ok-naming.ensures.none (grind arith))

pub returns-then-not-are_all_named-clause-none : goal.returns-then-not-are_all_named-clause-none
returns-then-not-are_all_named-clause-none c e =
    none_unfilled c.args.a.now c.args.b.now c.lines-3.result.now c.lines-4.result.now c.lines-3.ensures.lines
    c.lines-4.ensures.lines c.in-Some.naming.to.items c.in-Some.naming.back.items
    (some_is (λ (n : Naming). IsNaming c.lines-3.result.now c.lines-4.result.now n.to.items n.back.items)
    c.in_ok-naming.field-0 c.in-Some.naming c.in-Some.is c.in_ok-naming.ensures.named)
    (some_is (λ (n : Naming). length n.to.items ≡ length c.lines-3.result.now) c.in_ok-naming.field-0 c.in-Some.naming
    c.in-Some.is c.in_ok-naming.ensures.all)
    c.are_all_named.result c.as_slice.result.now c.as_slice.ensures.value c.are_all_named.ensures
    c.if-not-are_all_named.true

pub returns-then-not-are_alike_posts-clause-none : goal.returns-then-not-are_alike_posts-clause-none
returns-then-not-are_alike_posts-clause-none c e =
    none_unlike c.args.a.now c.args.b.now c.lines-3.result.now c.lines-4.result.now c.lines-3.ensures.lines
    c.lines-4.ensures.lines c.in-Some.naming.to.items c.in-Some.naming.back.items
    (some_is (λ (n : Naming). IsNaming c.lines-3.result.now c.lines-4.result.now n.to.items n.back.items)
    c.in_ok-naming.field-0 c.in-Some.naming c.in-Some.is c.in_ok-naming.ensures.named)
    (some_is (λ (n : Naming). length n.to.items ≡ length c.lines-3.result.now) c.in_ok-naming.field-0 c.in-Some.naming
    c.in-Some.is c.in_ok-naming.ensures.all)
    c.are_alike_posts.result c.as_slice-2.result.now c.as_slice-2.ensures.value (c.are_alike_posts.ensures).1
    c.if-not-are_alike_posts.true
