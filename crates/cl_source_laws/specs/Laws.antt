-- The laws of alike clusters.
use Rattle.std.specs.Prelude.{ℕ, ◌≡◌, Some}
use Rattle.std.specs.List.{slice_get}
use Rattle.mp_alike_laws.specs.Renaming.{Renaming}
use Rattle.mp_source_laws.specs.Alike.{Wild}
use Rattle.cl_state.specs.Asked.{asked}
use Rattle.cl_state.specs.Rank.{Rank}
use Rattle.cl_machine.specs.declared.steps.Step.{Step}
use Rattle.cl_machine.specs.Cluster.{Cluster}
use Rattle.mp_source_laws.specs.Laws.{AsksOfLive}
use Rattle.cl_state.specs.declared.asking.Ask.{Ask}
use Rattle.cl_order_laws.specs.Alike.{Leads, at_stamp, hub_of}
use Rattle.cl_order_laws.specs.Laws.{AreAlike as AreSame}
use Rattle.cl_source_laws.specs.Alike.{AlikeClusters, AreAlike, AskWithin}

pub record LikenessLaw : Type 0 where
  -- likeness that keeps the order of all messages is likeness
  pub same : (wild : Wild) (a b : Cluster) → AreSame a b → AreAlike wild a b
  pub back : (wild : Wild) (a b : Cluster) → AreAlike wild a b → AreAlike wild b a
  pub on : (wild : Wild) (a b c : Cluster) → AreAlike wild a b → AreAlike wild b c → AreAlike wild a c

-- a rank asks whether a send is complete only of sends that aren't over
abbrev pub AskOfLive : Cluster → Ask → Type 0
AskOfLive c (Ask.Hub q) = AsksOfLive (hub_of c.journal).board q
AskOfLive c _ = Unit {0}

-- where one goes by a turn within what may be asked the other goes by the same turn, of the same kind and with the same
-- reply, to a cluster that is alike by the same names
abbrev pub GoAlikeLaw : Type 0
GoAlikeLaw =
    (wild : Wild) (names : Renaming) (a b new : Cluster) (e : Step) (rank : Rank) → AlikeClusters wild names a b
    → slice_get a.ranks e.rank ≡ Some rank → AskWithin wild e.rank (asked rank e.hart) → AskOfLive a (asked rank e.hart)
    → Leads a e new
    → (stamp : ℕ) × (then : Cluster) × Leads b (at_stamp e stamp) then × AlikeClusters wild names new then
