-- A machine of parts that stand beside one another: the events of one part, and where they lead it.
use Rattle.std.specs.Prelude.{ℕ, List, [], ◌≡◌, Bool, false, eqb, Option, None, Some}
use Rattle.std.specs.List.{filter}
use Rattle.cl_deeds.specs.Deeds.{PartRun}

-- whether this is part number i
abbrev pub is_index : ℕ → Option ℕ → Bool
is_index i None = false
is_index i (Some k) = eqb k i

-- the events of part number i, in their order; at says which part of the family an event moves
abbrev pub own : {D : Type 0} → (D → Option ℕ) → ℕ → List D → List D
own at i ds = filter (λ d. is_index i (at d)) ds

-- one part alone goes through its own events; a part that isn't there has none
abbrev pub PartRunAt : {S D : Type 0} → (S → D → S → Type 0) → Option S → List D → Option S → Type 0
PartRunAt Move (Some old) ds (Some new) = PartRun Move old ds new
PartRunAt {S} {D} Move None ds None = ds ≡ []
PartRunAt Move (Some old) ds None = ⊥
PartRunAt Move None ds (Some new) = ⊥
