use Rattle.std.proofs.Common.{rules}
use Rattle.std.specs.Prelude.{string_bytes}
use Rattle.rvmc_inspect.proofs.ByteLines.{line_done}
use Rattle.rvmc_inspect.proofs.word_texts.put_bytes_line.Goals as goal

pub returns : goal.returns
returns c =
    let done = line_done c.args.text.now.items c.args.bytes.now (string_bytes c.in_ok-first.first) c.loop-byte.text.items c.loop-byte.byte-index
    c.requires (search rules) (search rules) c.loop-byte.invariant in
    search rules
