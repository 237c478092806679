-- Queues of places in a map by key.
use Rattle.std.specs.Prelude.{ℕ, List, [], Option, Some, None}
use Rattle.std.specs.BTreeMap as tree
use Rattle.std.specs.BTreeMap.{BTreeMap}
use Rattle.std.specs.declared.alloc.Global.{Global}
use Rattle.std.specs.declared.cmp.Ordering.{Ordering}
use Rattle.std.specs.declared.collections.VecDeque.{VecDeque}
use Rattle.mp_match.specs.declared.posts.Selection.{Selection}
use Rattle.mp_match.specs.contracts.posts.SelectionOrd.TheImpl as selection_ord

abbrev pub Keyed : Type 0
Keyed = BTreeMap Selection (VecDeque ℕ Global)

abbrev pub selection_cmp : Selection → Selection → Ordering
selection_cmp = (selection_ord.ghosts).cmp

abbrev pub places_in : Option (VecDeque ℕ Global) → List ℕ
places_in None = []
places_in (Some q) = q.items

-- the places at a key
abbrev pub queue : Keyed → Selection → List ℕ
queue m k = places_in (tree.get selection_cmp m k)
