-- Replies of which another is there, and what several posts gave beside copies that were made of each before.
use Rattle.std.specs.Prelude.{◌≡◌, ◌⊎◌, List, [], ◌∷◌, Option, Some, None}
use Rattle.mp_types.specs.declared.messages.Message.{Message}
use Rattle.mp_types.specs.declared.replies.Reply.{Reply}
use Rattle.mp_types.specs.Carried.{IsInPlace}

-- all of the reply stands in place, so that it can be copied at any time, or it is there once more
abbrev pub HasTwin : Reply → Option Reply → Type 0
HasTwin reply None = IsInPlace reply
HasTwin reply (Some twin) = twin ≡ reply

-- each post gave nothing, or what was copied of it
abbrev pub Covers : List (Option Message) → List (Option Message) → Type 0
Covers [] [] = Unit {0}
Covers [] (copy ∷ copies) = ⊥
Covers (got ∷ gots) [] = ⊥
Covers (got ∷ gots) (copy ∷ copies) = ((got ≡ None) ⊎ (got ≡ copy)) × Covers gots copies
