-- What stands in a list, and which step added it.
use Rattle.std.specs.Prelude.{◌≡◌, List, [], ◌∷◌, ◌++◌}
use Rattle.rvmc_draw.specs.declared.deeds.Deed.{Deed}

-- this is one of these
pub record IsAmong {A : Type 0} (xs : List A) (x : A) : Type 0 where
  pub front : List A
  pub back : List A
  pub are : xs ≡ front ++ x ∷ back

-- a step added it, of what it adds behind the steps before it
pub record IsAdded {A : Type 0} (adds : List Deed → Deed → List A) (deeds : List Deed) (x : A) : Type 0 where
  pub before : List Deed
  pub deed : Deed
  pub after : List Deed
  pub all : deeds ≡ before ++ deed ∷ after
  pub added : IsAmong (adds before deed) x
