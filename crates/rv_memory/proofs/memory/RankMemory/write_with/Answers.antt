use Rattle.std.proofs.Common.{◌∙◌, length, ap}
use Rattle.rv_memory.specs.Memory.{with_bytes}
use Rattle.rv_memory.proofs.Marked.{with_bytes-with_pages, missing_from-written}
use Rattle.rv_memory.proofs.memory.RankMemory.write_with.Goals as goal

pub write_present-requires-clause-present : goal.write_present-requires-clause-present
write_present-requires-clause-present c =
    rw (c.place.ensures.placed c.if-not-place.false) (missing_from-written 0 c.args.self.now.pages c.args.address (length c.args.bytes.now))

pub returns-clause-written : goal.returns-clause-written
returns-clause-written c =
    c.write_present.ensures ∙ ap (λ memory. with_bytes memory c.args.address c.args.bytes.now) (c.place.ensures.placed c.if-not-place.false)
    ∙ with_bytes-with_pages c.args.self.now c.args.address c.args.bytes.now
