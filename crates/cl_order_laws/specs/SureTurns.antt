-- Turns that are sure: of a rank that needs only itself, and of one that asks the hub for what is there and stays.
use Rattle.std.specs.Prelude.{ℕ, ◌<◌, ◌≡◌, slice_get, Some}
use Rattle.mp_types.specs.declared.requests.Request.{Request}
use Rattle.cl_state.specs.declared.asking.Ask.{Ask}
use Rattle.cl_state.specs.Asked.{asked}
use Rattle.cl_state.specs.Rank.{Rank}
use Rattle.cl_machine.specs.Journal.{reply_in}
use Rattle.cl_order_laws.specs.Closed.{Node, Plans}
use Rattle.cl_order_laws.specs.Laws.{AreAlike}
use Rattle.cl_order_laws.specs.Sure.{IsSure}
use Rattle.cl_order_laws.specs.SureAsks.{IsBusy, IsReady}

-- ---- alone

-- at a cluster that is alike itself, as each that was reached, the rank is sure
abbrev pub SureAloneLaw : Type 0
SureAloneLaw =
    (plans : Plans) (most : ℕ) (here : Node) (r : ℕ) (rank : Rank) → AreAlike here.cluster here.cluster
    → slice_get here.cluster.ranks r ≡ Some rank → IsBusy (asked rank (plans r (here.had r)))
    → IsSure plans most here r

-- ---- at the hub

-- and so is one that asks the hub for what is ready, while fewer posts were made than a hub holds messages
abbrev pub SureHubLaw : Type 0
SureHubLaw =
    (plans : Plans) (most : ℕ) (here : Node) (r : ℕ) (rank : Rank) (q : Request) → most < 65536
    → AreAlike here.cluster here.cluster → slice_get here.cluster.ranks r ≡ Some rank
    → asked rank (plans r (here.had r)) ≡ Ask.Hub q → IsReady q (reply_in here.cluster.journal r q)
    → IsSure plans most here r
