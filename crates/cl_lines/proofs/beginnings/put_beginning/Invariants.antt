-- So many bytes of the line are written, and nothing else.
use Rattle.std.proofs.Common.{◌≤◌, length, take}
use Rattle.std.specs.Io.KnownBytes.{Appends}
use Rattle.cl_lines.proofs.beginnings.put_beginning.Given as goal

abbrev pub invariant-loop-turn : goal.invariant-loop-turn
invariant-loop-turn g l =
    let contents = g.W.Write.contents in
    record {
      within : l.done ≤ length l.line;
      written : Appends (contents l.fn.out) (contents l.out) (take l.done l.line);
    }
