-- What a session is of all the bytes of an input: a record, and behind it what a client sends.
use Rattle.std.specs.Prelude.{◌≡◌, ◌⊎◌, ℕ, ◌<◌, ◌≤◌, true, List, [], ◌++◌, length, Option, Some, None, Result, Ok, Err}
use Rattle.std.specs.Option.{unwrap_or}
use Rattle.cl_debug.specs.declared.faults.DebugFault.TheVariants.{NoRank, NotARun}
use Rattle.cl_text.specs.Front.End.{record_end}
use Rattle.cl_machine.specs.declared.steps.Step.{Step}
use Rattle.cl_text.specs.Reading.{reading_record}
use Rattle.cl_text.specs.declared.faults.RecordFault.{RecordFault}
use Rattle.rv_image_types.specs.declared.images.ImageParts.{ImageParts}
use Rattle.rvmc_gdb.specs.Serving.{Serving, opened}
use Rattle.rvmc_gdb.specs.Talks.{Connection, Serves, connected}
use Rattle.rvmc_gdb.specs.Below.{BreaksAt, Fault, IsRunUpTo}
use Rattle.rvmc_gdb.specs.Below.faults

-- ---- where the record ends

-- so many bytes decide what they are as a record; or none do, and then all of them are the front
abbrev pub DecidesAt : List ℕ → List ℕ → Option ℕ → Type 0
DecidesAt front behind (Some end) = end ≡ length front
DecidesAt front behind None = behind ≡ []

-- what is read as a record, and what the client sends behind it
pub record IsStream (bytes front behind : List ℕ) : Type 0 where
  pub all : bytes ≡ front ++ behind
  pub decides : DecidesAt front behind (record_end bytes)

-- ---- the record

-- what bytes are read as
abbrev pub Reading : Type 0
Reading = Result (ImageParts × List Step) RecordFault

-- the rank is there, or the first where all are served; the steps are a run of the image, and the session stands before the
-- first of them
pub record IsOpenedOn (rank : Option ℕ) (image : ImageParts) (steps : List Step) (serving : Serving) : Type 0 where
  pub run : IsRunUpTo image steps (length steps)
  pub there : unwrap_or rank 0 < image.ranks
  pub is : serving ≡ opened (record { image = image; steps = steps; place = 0; breaks = [] }) rank

abbrev pub IsOpened : Option ℕ → Reading → Serving → Type 0
IsOpened rank (Ok (image, steps)) serving = IsOpenedOn rank image steps serving
IsOpened rank (Err fault) serving = ⊥

-- for which fault there is no session: steps that are no run, of which the first is told that isn't the machine's; or a
-- rank that isn't there
abbrev pub RefusesSteps : Option ℕ → ImageParts → List Step → Fault → Type 0
RefusesSteps rank image steps (faults.Debug (NotARun n)) = BreaksAt image steps n
RefusesSteps rank image steps (faults.Debug NoRank) = IsRunUpTo image steps (length steps) × (image.ranks ≤ unwrap_or rank 0)
RefusesSteps rank image steps other = ⊥

-- bytes that are no record have their own fault
abbrev pub Refuses : Option ℕ → Reading → Fault → Type 0
Refuses rank (Ok (image, steps)) fault = RefusesSteps rank image steps fault
Refuses rank (Err meant) fault = fault ≡ faults.Record meant

-- ---- the client

-- of what the client sends all but `unheard` is heard, and this is written for it
pub record HearsPart (old : Connection) (behind unheard : List ℕ) (new : Connection) (text : List ℕ) : Type 0 where
  pub heard : List ℕ
  pub all : behind ≡ heard ++ unheard
  pub serves : Serves old heard new text

-- all is heard, or all until the client leaves
abbrev pub HearsAll : Connection → List ℕ → List ℕ → Type 0
HearsAll old behind text =
    (unheard : List ℕ) × (new : Connection) × HearsPart old behind unheard new text
    × ((unheard ≡ []) ⊎ (new.talk.ended ≡ true))

-- some of it is heard
abbrev pub HearsSome : Connection → List ℕ → List ℕ → Type 0
HearsSome old behind text = (unheard : List ℕ) × (new : Connection) × HearsPart old behind unheard new text

-- ---- all of it

-- a session to its end
abbrev pub IsWhole : Option ℕ → Reading → List ℕ → List ℕ → Type 0
IsWhole rank read behind text =
    (serving : Serving) × IsOpened rank read serving × HearsAll (connected serving) behind text

-- one that is cut short: nothing is written, or what is written for what was heard until then
abbrev pub IsCut : Option ℕ → Reading → List ℕ → List ℕ → Type 0
IsCut rank read behind text =
    (text ≡ [])
    ⊎ ((serving : Serving) × IsOpened rank read serving × HearsSome (connected serving) behind text)

-- what is written of a session of this rank, by the fault that ends it, if one does. Where a read fails, and where
-- memory is refused, it is cut short; for any other fault nothing is written
abbrev pub Writes : Option ℕ → Reading → List ℕ → List ℕ → Option Fault → Type 0
Writes rank read behind text None = IsWhole rank read behind text
Writes rank read behind text (Some faults.Memory) = IsCut rank read behind text
Writes rank read behind text (Some faults.Read) = IsCut rank read behind text
Writes rank read behind text (Some fault) = Refuses rank read fault × (text ≡ [])

pub record IsSession (rank : Option ℕ) (bytes text : List ℕ) (ended : Option Fault) : Type 0 where
  pub front : List ℕ
  pub behind : List ℕ
  pub stream : IsStream bytes front behind
  pub writes : Writes rank (reading_record front) behind text ended
