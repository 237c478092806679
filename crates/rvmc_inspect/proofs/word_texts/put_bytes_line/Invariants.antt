use Rattle.std.proofs.Common.{◌≡◌, ◌++◌, ◌∷◌, drop, take}
use Rattle.std.specs.Prelude.{string_bytes}
use Rattle.std.specs.List.{flat_map}
use Rattle.rvmc_inspect.specs.WordTexts.{padded_hex}
use Rattle.rvmc_inspect.proofs.word_texts.put_bytes_line.Given as goal

-- the first byte, and those of the others so far, a blank before each
abbrev pub invariant-loop-byte : goal.invariant-loop-byte
invariant-loop-byte l =
    l.text.items ≡ l.fn.text.items ++ (string_bytes l.first ++ flat_map (λ b. 32 ∷ padded_hex 2 b) (take l.byte-index (drop 1 l.bytes)))
