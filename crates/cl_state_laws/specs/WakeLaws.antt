-- The laws of harts that make their calls anew.
use Rattle.std.specs.Prelude.{◌≡◌, ℕ, true}
use Rattle.mp_types.specs.declared.replies.Reply.TheVariants as reply
use Rattle.mp_types.specs.declared.requests.Request.{Request}
use Rattle.cl_state.specs.declared.asking.Answer.{Answer}
use Rattle.cl_state.specs.declared.asking.Answer.TheVariants as answer
use Rattle.cl_state.specs.declared.asking.Ask.{Ask}
use Rattle.cl_state.specs.Asked.{asked, doing, part_of}
use Rattle.cl_state.specs.Rank.{Rank}
use Rattle.cl_state.specs.Told.{told}
use Rattle.cl_state_laws.specs.Vain.{waits_on}
use Rattle.cl_state_laws.specs.VainLaws.{at_clock}
use Rattle.cl_state_laws.specs.Awake.{HasNoBytes, StandsAtCall, awake}

pub record WakeLaw : Type 0 where
  -- it asks the same
  pub asks : (rank : Rank) (hart : ℕ) → StandsAtCall rank hart → asked (awake rank) hart ≡ asked rank hart
  -- and whatever it is told, it is left the same
  pub tells : (rank : Rank) (hart stamp : ℕ) (a : Answer) → StandsAtCall rank hart
      → awake (told (awake rank) hart a stamp) ≡ awake (told rank hart a stamp)
  -- a call that waits, made for the first time or anew, leaves the rank as it was where nothing is there
  pub vain : (rank : Rank) (hart stamp : ℕ) (q : Request) → waits_on (doing rank.site (part_of rank hart)) ≡ true
      → asked rank hart ≡ Ask.Hub q
      → awake (told rank hart (answer.Reply reply.NotYet) stamp) ≡ at_clock (awake rank) stamp
  -- a hart that makes its call anew stands at it, whatever it was told but the bytes of a partition
  pub stands : (rank : Rank) (hart stamp : ℕ) (a : Answer) → StandsAtCall rank hart → HasNoBytes a
      → StandsAtCall (told rank hart a stamp) hart
