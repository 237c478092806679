-- What was printed before memory was refused is in the list of each search that left no state.
use Rattle.std.proofs.Common.{◌≡◌, ◌∙◌, true, false, inl, inr, sym}
use Rattle.rvmc_explore.specs.declared.outcomes.Outcome.{Outcome}
use Rattle.rvmc_explore.proofs.Listed.{as_outcome}
use Rattle.rvmc_explore.proofs.OneList.{some_any, unneeded}
use Rattle.rvmc_text_laws.specs.Begun.{BegunLaw}
use Rattle.rvmc_text_laws.proofs.OneText.{text_there}

pub begun_law : BegunLaw
begun_law = record {
  each = λ image order buffered copied states turns text other right begun listed whole k outcome at.
      elim (begun.each k outcome at) [
        | inl end ↦ inl (text_there image order copied states turns other listed right whole outcome end)
        | inr needs ↦ inr (record { node = needs.node; way = needs.led; ranks = needs.ranks; need = (needs.need).need })
      ];
  listed = λ image order buffered copied states turns text other status right begun one whole none k outcome at.
      elim (begun.each k outcome at) [
        | inl end ↦ text_there image order copied states turns one.told one.listed right whole outcome end
        | inr needs ↦ elim none [
          | inl copies ↦
              let some = some_any (λ (o : Outcome). o.need) begun.told k outcome at needs.of_need in
              let no : true ≡ false = sym some ∙ begun.no_need copies in absurd (cc)
          | inr waits ↦
              let found = (one.listed).found in
              absurd (unneeded image order found outcome (one.none_need whole waits)
              (as_outcome order image found outcome (inr needs)) needs.of_need)
        ]
      ];
}
