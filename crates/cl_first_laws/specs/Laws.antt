-- The law of two turns that may change places.
use Rattle.std.specs.Prelude.{ℕ, ◌+◌, ◌<◌, ◌≡◌, ◌≢◌, length, Some}
use Rattle.std.specs.List.{slice_get}
use Rattle.rv_hart.specs.declared.state.Mode.TheVariants.{Waiting}
use Rattle.rv_hart.specs.declared.state.Wait.TheVariants.{Post}
use Rattle.mp_types.specs.declared.messages.Message.{Message}
use Rattle.mp_types.specs.declared.replies.Reply.TheVariants.{Got}
use Rattle.mp_types.specs.declared.requests.Request.{Request}
use Rattle.mp_types.specs.declared.requests.Request.TheVariants as request
use Rattle.mp_source_laws.specs.Alike.{Wild}
use Rattle.mp_clash_laws.specs.Exchanges.{IsPosting, NoRace, NoSync, WaitsWithin}
use Rattle.cl_state.specs.declared.asking.Ask.{Ask}
use Rattle.cl_state.specs.Asked.{asked}
use Rattle.cl_state.specs.Rank.{Rank}
use Rattle.cl_state_laws.specs.Vain.{mode_of}
use Rattle.cl_post_laws.specs.Laws.{NamesBelow}
use Rattle.cl_machine.specs.declared.steps.Step.{Step}
use Rattle.cl_machine.specs.Boxes.{Box}
use Rattle.cl_machine.specs.Journal.{reply_in}
use Rattle.cl_machine.specs.Cluster.{Cluster}
use Rattle.cl_order_laws.specs.Alike.{AlikeBoxes, Leads, hub_of}
use Rattle.cl_source_laws.specs.Alike.{AreAlike}

-- what is known of a cluster: few posts, receives of any source wait only where those may be made, ranks name only
-- posts that were made, and no box has two things
pub record IsCalm (wild : Wild) (c : Cluster) : Type 0 where
  pub few : length (hub_of c.journal).board.lines + 1 < 65536
  pub waits : WaitsWithin wild (hub_of c.journal)
  pub names : (r : ℕ) (rank : Rank) → slice_get c.ranks r ≡ Some rank
      → NamesBelow (length (hub_of c.journal).board.lines) rank
  pub boxes : (i : ℕ) (box : Box) → slice_get c.boxes i ≡ Some box → AlikeBoxes box box

-- a turn of this hart leads from the one to the other
pub record Turn (r which : ℕ) (old new : Cluster) : Type 0 where
  pub step : Step
  pub rank : step.rank ≡ r
  pub hart : step.hart ≡ which
  pub leads : Leads old step new

-- the hart polls its own receive, whose message is there
pub record Polls (r which : ℕ) (c : Cluster) : Type 0 where
  pub rank : Rank
  pub there : slice_get c.ranks r ≡ Some rank
  pub post : ℕ
  pub waits : mode_of rank which ≡ Waiting (Post post)
  pub asks : asked rank which ≡ Ask.Hub (request.Collect post)
  pub message : Message
  pub gets : reply_in c.journal r (request.Collect post) ≡ Got message

-- two turns lead to what is alike; or those and the poll of a receive do that was posted before its message was sent; or
-- they lead to where a poll leads
pub data Reordered (wild : Wild) (r mine s theirs : ℕ) (new second : Cluster) : Type 0 where
  at_once : AreAlike wild new second → Reordered wild r mine s theirs new second
  r_polls : (last : Cluster) → Polls r mine second → Turn r mine second last → AreAlike wild new last
      → Reordered wild r mine s theirs new second
  s_polls : (last : Cluster) → Polls s theirs new → Turn s theirs new last → AreAlike wild last second
      → Reordered wild r mine s theirs new second

-- turns of r and then of s, in place of turns of s and then of r
pub record IsExchanged (wild : Wild) (r mine s theirs : ℕ) (old new : Cluster) : Type 0 where
  pub first : Cluster
  pub goes : Turn r mine old first
  pub second : Cluster
  pub then : Turn s theirs first second
  pub reordered : Reordered wild r mine s theirs new second

-- a send or a receive that makes no race with one of another rank could have gone before it
abbrev pub ExchangeLaw : Type 0
ExchangeLaw =
    (wild : Wild) (r mine s theirs : ℕ) (old mid new : Cluster) (x y : Rank) (q p : Request) → IsCalm wild old → r ≢ s
    → slice_get old.ranks r ≡ Some y → asked y mine ≡ Ask.Hub q → IsPosting q
    → slice_get old.ranks s ≡ Some x → asked x theirs ≡ Ask.Hub p → IsPosting p
    → NoRace wild q p → NoSync r q s p
    → Turn s theirs old mid → Turn r mine mid new
    → IsExchanged wild r mine s theirs old new
