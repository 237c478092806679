-- Alike clusters: the same but for clocks, stamps, the numbers of posts that are no claims, the order of messages from
-- different sources where nobody asks for any source, and messages that were collected.
use Rattle.std.specs.Prelude.{ℕ}
use Rattle.mp_alike_laws.specs.Renaming.{Renaming}
use Rattle.mp_source_laws.specs.Alike.{AlikeHubs, Wild}
use Rattle.mp_source_laws.specs.Laws.{AsksWithin}
use Rattle.cl_state.specs.declared.asking.Ask.{Ask}
use Rattle.cl_machine.specs.Cluster.{Cluster}
use Rattle.cl_order_laws.specs.Alike.{AlikeBoxes, AlikeRanks, AreEach, hub_of}

pub record AlikeClusters (wild : Wild) (names : Renaming) (a b : Cluster) : Type 0 where
  pub ranks : AreEach (AlikeRanks names) a.ranks b.ranks
  pub hubs : AlikeHubs wild names (hub_of a.journal) (hub_of b.journal)
  pub boxes : AreEach AlikeBoxes a.boxes b.boxes

abbrev pub AreAlike : Wild → Cluster → Cluster → Type 0
AreAlike wild a b = (names : Renaming) × AlikeClusters wild names a b

-- a rank asks for any source only where it may
abbrev pub AskWithin : Wild → ℕ → Ask → Type 0
AskWithin wild r (Ask.Hub q) = AsksWithin wild r q
AskWithin wild r _ = Unit {0}
