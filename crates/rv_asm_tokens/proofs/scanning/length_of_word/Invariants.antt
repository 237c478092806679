use Rattle.std.proofs.Common.{◌≡◌, ◌+◌, drop}
use Rattle.std.specs.List.{prefix_len}
use Rattle.rv_asm_tokens.specs.Scan.{is_name_byte}
use Rattle.rv_asm_tokens.proofs.scanning.length_of_word.Given as goal

abbrev pub invariant-loop-i : goal.invariant-loop-i
invariant-loop-i l = l.i + prefix_len is_name_byte (drop l.i l.bytes) ≡ prefix_len is_name_byte l.bytes
