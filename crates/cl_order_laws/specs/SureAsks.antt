-- What a rank asks for on a turn that is sure.
use Rattle.std.specs.Prelude.{ℕ}
use Rattle.mp_types.specs.declared.replies.Reply.{Reply}
use Rattle.mp_types.specs.declared.replies.Reply.TheVariants as reply
use Rattle.mp_types.specs.declared.requests.Request.{Request}
use Rattle.mp_types.specs.declared.requests.Request.TheVariants as request
use Rattle.cl_state.specs.declared.asking.Ask.{Ask}
use Rattle.cl_machine.specs.Cluster.{Cluster}
use Rattle.cl_machine.specs.Journal.{reply_in}

-- a turn that needs only its rank, and isn't in vain
abbrev pub IsBusy : Ask → Type 0
IsBusy Ask.Plain = Unit {0}
IsBusy Ask.Local = Unit {0}
IsBusy _ = ⊥

-- the message of its receive, that its send is complete, what several posts of its own gave together (MPI 4.1, 3.7.3
-- and 3.7.5), what its next receive would give (3.8.1), or how the sender of its link cuts (4.2)
abbrev pub IsReady : Request → Reply → Type 0
IsReady (request.Collect post) (reply.Got message) = Unit {0}
IsReady (request.Finished post) reply.Done = Unit {0}
IsReady (request.All posts) (reply.AllGot gots) = Unit {0}
IsReady (request.Probe comm source tag) (reply.Seen envelope) = Unit {0}
IsReady (request.Cut link) (reply.Cut parts size) = Unit {0}
IsReady _ _ = ⊥

-- it needs only its rank, or asks the hub for what is there and stays. So it is no send, and nothing that a rank waits
-- for in vain
abbrev pub IsSureAsk : Cluster → ℕ → Ask → Type 0
IsSureAsk cluster r (Ask.Hub q) = IsReady q (reply_in cluster.journal r q)
IsSureAsk cluster r ask = IsBusy ask
