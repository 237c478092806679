use Rattle.std.proofs.Common.{rules}
use Rattle.mp_alike.proofs.Naming.{inside_if, named_if, none_if}
use Rattle.mp_alike.proofs.names.next_place.Goals as goal

pub returns-clause-some : goal.returns-clause-some
returns-clause-some c =
    named_if c.args.mine.now c.args.theirs.now _ c.args.naming.now.back.items c.requires.sofar c.len.result
    (search rules) (search rules) _ c.maker.result c.maker.ensures c.as_slice.result.now c.as_slice.ensures.value
    c.first_free.result c.first_free.ensures.some

pub returns-clause-inside : goal.returns-clause-inside
returns-clause-inside c =
    inside_if c.args.mine.now c.args.theirs.now _ c.args.naming.now.back.items c.requires.sofar c.len.result
    (search rules) (search rules) _ c.maker.result c.maker.ensures c.as_slice.result.now c.as_slice.ensures.value
    c.first_free.result c.first_free.ensures.some

pub returns-clause-none : goal.returns-clause-none
returns-clause-none c e =
    none_if c.args.mine.now c.args.theirs.now _ c.args.naming.now.back.items c.requires.sofar c.len.result
    (search rules) (search rules) _ c.maker.result c.maker.ensures c.as_slice.result.now c.as_slice.ensures.value
    (c.first_free.ensures.none e)
