use Rattle.std.proofs.Common.{◌≡◌, ◌∙◌, sym, ap, length}
use Rattle.std.specs.Prelude.{◌==◌, false}
use Rattle.cl_state.proofs.Pages.{some_bytes, write_done}
use Rattle.cl_state.proofs.turn.write_where_right.Goals as goal

pub returns-then-not-is_empty-clause-written : goal.returns-then-not-is_empty-clause-written
returns-then-not-is_empty-clause-written c =
    (write_done c.write_with.result c.args.memory.now c.write_with.new.self c.args.spares.now c.write_with.new.spares
    c.args.address c.args.bytes.now c.write_with.ensures.written c.write_with.ensures.taken c.write_with.ensures.range
    c.write_with.ensures.unchanged c.write_with.ensures.kept c.write_with.ensures.enough c.requires
    (some_bytes c.args.bytes.now c.is_empty.result c.is_empty.ensures c.if-not-is_empty.true)).0

pub returns-then-not-is_empty-clause-pages : goal.returns-then-not-is_empty-clause-pages
returns-then-not-is_empty-clause-pages c =
    (write_done c.write_with.result c.args.memory.now c.write_with.new.self c.args.spares.now c.write_with.new.spares
    c.args.address c.args.bytes.now c.write_with.ensures.written c.write_with.ensures.taken c.write_with.ensures.range
    c.write_with.ensures.unchanged c.write_with.ensures.kept c.write_with.ensures.enough c.requires
    (some_bytes c.args.bytes.now c.is_empty.result c.is_empty.ensures c.if-not-is_empty.true)).1
