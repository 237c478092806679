use Rattle.std.proofs.Common.{◌≡◌, ◌++◌, take}
use Rattle.std.specs.List.{flat_map}
use Rattle.rvmc_page.specs.Texts.{source_text}
use Rattle.rvmc_page.proofs.texts.put_texts.Given as goal

-- those so far
abbrev pub invariant-loop-source : goal.invariant-loop-source
invariant-loop-source l = l.text.items ≡ l.fn.text.items ++ flat_map source_text (take l.source-index l.sources)
