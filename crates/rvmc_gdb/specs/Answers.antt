-- The answer to each request, and how the session stands behind it.
use Rattle.std.specs.Prelude.{ℕ, ◌≡◌, Bool, true, false, List, [], codes}
use Rattle.rvmc_protocol.specs.Replies.Features.{description_text}
use Rattle.rvmc_protocol.specs.Replies.Parts.{part_of}
use Rattle.rvmc_protocol.specs.Replies.Threads.{current_text, host_text, process_text, supported_text, threads_text}
use Rattle.hex.specs.Hex.{encode_lower}
use Rattle.rvmc_protocol.specs.declared.requests.Request.{Request}
use Rattle.rvmc_protocol.specs.declared.requests.Request.TheVariants.{Supported, Description, ThreadList, HostInfo, ProcessInfo}
use Rattle.rvmc_protocol.specs.declared.requests.Request.TheVariants.{Why, Select, SelectMoved, Alive}
use Rattle.rvmc_protocol.specs.declared.requests.Request.TheVariants.{Current, FirstThreads, MoreThreads, ThreadText, Registers}
use Rattle.rvmc_protocol.specs.declared.requests.Request.TheVariants.{Register, Bytes, RawBytes, Moves, Move, StepBack, GoBack}
use Rattle.rvmc_protocol.specs.declared.requests.Request.TheVariants.{Insert, Remove, Detach, Kill, Monitor, NoAcknowledgements}
use Rattle.rvmc_protocol.specs.declared.requests.Request.TheVariants.{Change, Unknown}
use Rattle.rvmc_gdb.specs.Moving.{Moves as MovesAs, RunsBack, Selects, SelectsMoved, StepsBack, standing_text}
use Rattle.rvmc_gdb.specs.Points.{Inserts, Removes, mark_of}
use Rattle.rvmc_gdb.specs.Serving.{Serving, done, own_thread, refused, thread_count, who_of}
use Rattle.rvmc_gdb.specs.Shown.{Lists, TellsBytes, TellsRegister, TellsRegisters, TellsThread, alive_text, raw_text}
use Rattle.rvmc_gdb.specs.Typing.{Monitors}

-- how many bytes the text of a packet has at most
abbrev pub most : ℕ
most = 16384

-- nothing changes, and this is told
abbrev pub Says : Serving → Serving → List ℕ → List ℕ → Type 0
Says old new reply text = (new ≡ old) × (reply ≡ text)

-- A record can't be changed: what would change it is refused. What is no request is answered by nothing. Threads have names
-- where all ranks are served.
abbrev pub Answers : Serving → Request → Serving → List ℕ → Type 0
Answers old Supported new reply = Says old new reply (supported_text most old.all)
Answers old (Description from count) new reply = Says old new reply (part_of description_text from count)
Answers old (ThreadList from count) new reply = (new ≡ old) × Lists old from count reply
Answers old HostInfo new reply = Says old new reply host_text
Answers old ProcessInfo new reply = Says old new reply process_text
Answers old Why new reply = Says old new reply (standing_text old)
Answers old (Select thread) new reply = Selects old thread new reply
Answers old (SelectMoved thread) new reply = SelectsMoved old thread new reply
Answers old (Alive thread) new reply = Says old new reply (alive_text (who_of old thread))
Answers old Current new reply = Says old new reply (current_text (own_thread old))
Answers old FirstThreads new reply = Says old new reply (threads_text (thread_count old))
Answers old MoreThreads new reply = Says old new reply (codes "l")
Answers old (ThreadText thread) new reply = (new ≡ old) × TellsThread old thread reply
Answers old Registers new reply = (new ≡ old) × TellsRegisters old reply
Answers old (Register number) new reply = (new ≡ old) × TellsRegister old number reply
Answers old (Bytes address count) new reply = (new ≡ old) × TellsBytes encode_lower old address count reply
Answers old (RawBytes address count) new reply = (new ≡ old) × TellsBytes raw_text old address count reply
Answers old Moves new reply = Says old new reply (codes "vCont;c;C;s;S;t")
Answers old (Move asked) new reply = MovesAs old asked new reply
Answers old StepBack new reply = StepsBack old new reply
Answers old GoBack new reply = RunsBack old new reply
Answers old (Insert point address size) new reply = Inserts old (mark_of old point address size) new reply
Answers old (Remove point address size) new reply = Removes old (mark_of old point address size) new reply
Answers old Detach new reply = Says old new reply done
Answers old Kill new reply = Says old new reply []
Answers old (Monitor typed) new reply = Monitors old typed new reply
Answers old NoAcknowledgements new reply = Says old new reply done
Answers old Change new reply = Says old new reply refused
Answers old Unknown new reply = Says old new reply []

-- ---- what a request means for the connection

-- nothing is acknowledged from then on
abbrev pub quiets : Request → Bool
quiets NoAcknowledgements = true
quiets other = false

-- the client leaves
abbrev pub leaves : Request → Bool
leaves Detach = true
leaves Kill = true
leaves other = false

-- and wants no answer
abbrev pub kills : Request → Bool
kills Kill = true
kills other = false
