-- Words that are done one after another.
use Rattle.std.specs.Prelude.{ℕ, ◌≡◌, ◌+◌, ◌<◌, ◌++◌, List, [], ◌∷◌, length, take}
use Rattle.std.proofs.Common.{◌∙◌, ap, append-nil, append_assoc, get_or, refl, subst, sym}
use Rattle.std.proofs.lemmas.List.{take_more}
use Rattle.rvmc_report.specs.Below.{Debugging}
use Rattle.rvmc_words.specs.declared.debug.DebugWord.{DebugWord}
use Rattle.rvmc_inspect.specs.Words.{Does, Walks}

-- one word more
pub walks_more : (old : Debugging) (words : List DebugWord) (new next : Debugging) (text more : List ℕ) (word : DebugWord)
    → Walks old words new text → Does new word next more → Walks old (words ++ word ∷ []) next (text ++ more)
walks_more old [] new next text more word walked does = (
  next,
  more,
  [],
  subst (λ (d : Debugging). Does d word next more) walked.0 does,
  (refl, refl),
  ap (λ t. t ++ more) walked.1 ∙ sym (append-nil more),
)
walks_more old (w ∷ ws) new next text more word (mid, first, rest, did, walked, is) does = (
  mid,
  first,
  rest ++ more,
  did,
  walks_more mid ws new next rest more word walked does,
  ap (λ t. t ++ more) is ∙ append_assoc first rest more,
)

-- the next of a list of words
pub walks_next : (old : Debugging) (words : List DebugWord) (k : ℕ) (new next : Debugging) (text more : List ℕ) (word : DebugWord)
    → k < length words → word ≡ get_or words k word → Walks old (take k words) new text → Does new word next more
    → Walks old (take (k + 1) words) next (text ++ more)
walks_next old words k new next text more word below is walked does =
    subst (λ (ws : List DebugWord). Walks old ws next (text ++ more))
    (ap (λ (w : DebugWord). take k words ++ w ∷ []) is ∙ sym (take_more words k word below))
    (walks_more old (take k words) new next text more word walked does)
