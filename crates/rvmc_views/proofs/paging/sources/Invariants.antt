use Rattle.std.proofs.Common.{◌≡◌, ◌++◌, drop, map}
use Rattle.rvmc_page.specs.Texts.{source_of}
use Rattle.rvmc_views.specs.Records.{sources_in}
use Rattle.rvmc_views.proofs.paging.sources.Given as goal

-- the sources so far, and those in what is left
abbrev pub invariant-loop-text : goal.invariant-loop-text
invariant-loop-text l =
    sources_in l.texts l.bytes ≡ map source_of l.sources.items ++ sources_in (drop l.text-index l.texts) l.rest
