use Rattle.std.proofs.Common.{◌≡◌, ◌++◌, drop, false}
use Rattle.std.specs.Prelude.{option_map}
use Rattle.rvmc_protocol.specs.Packets.Texts.{unescaped}
use Rattle.rvmc_protocol.proofs.packets.texts.unescaped.Given as goal

-- what is undone so far, and what is left
abbrev pub invariant-loop-byte : goal.invariant-loop-byte
invariant-loop-byte l =
    unescaped false l.text ≡ option_map (λ more. l.bytes.items ++ more) (unescaped l.behind (drop l.byte-index l.text))
