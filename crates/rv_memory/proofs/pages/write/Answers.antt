-- The pages are made before one is written.
use Rattle.std.proofs.Common.{arith, length}
use Rattle.std.specs.Prelude.{map}
use Rattle.rv_memory.specs.Held.{is_there, shown}
use Rattle.rv_memory.proofs.Marked.{missing_from-written}
use Rattle.rv_memory.proofs.pages.write.Goals as goal

pub fill-requires-clause-inside : goal.fill-requires-clause-inside
fill-requires-clause-inside c = omega (arith, c.requires.inside, c.place.ensures.long)

pub fill-requires-clause-most : goal.fill-requires-clause-most
fill-requires-clause-most c = omega (arith, c.requires.most, c.place.ensures.long)

pub fill-requires-clause-present : goal.fill-requires-clause-present
fill-requires-clause-present c =
    rw c.place.ensures.there (missing_from-written 0 (map is_there (shown c.args.text.now c.args.pages.now.items)) c.args.address (length c.args.bytes.now))
