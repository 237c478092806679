use Rattle.std.proofs.Common.{◌≡◌, ◌++◌, drop}
use Rattle.std.specs.Prelude.{option_map}
use Rattle.rvmc_protocol.specs.Packets.Texts.{expanded}
use Rattle.rvmc_protocol.specs.declared.packets.texts.Behind.TheVariants.{Start}
use Rattle.rvmc_protocol.proofs.packets.texts.expanded.Given as goal

-- what is written out so far, and what is left
abbrev pub invariant-loop-byte : goal.invariant-loop-byte
invariant-loop-byte l =
    expanded Start l.text ≡ option_map (λ more. l.done.items ++ more) (expanded l.behind (drop l.byte-index l.text))
