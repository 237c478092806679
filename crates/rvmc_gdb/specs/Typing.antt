-- What a person types behind `monitor`, and what is printed: the texts are those of the words of `debug`, and of `why`.
use Rattle.std.specs.Prelude.{ℕ, ◌≡◌, ◌≢◌, ◌⊎◌, Bool, true, false, List, [], ◌∷◌, ◌++◌, codes, nat_lt, if◌then◌else◌}
use Rattle.std.specs.Prelude.{Option, Some, None}
use Rattle.std.specs.Fmt.{decimal}
use Rattle.hex.specs.Hex.{encode_lower}
use Rattle.cl_replay.specs.Replaying.{IsReached}
use Rattle.cl_replay.specs.declared.states.ClusterState.{ClusterState}
use Rattle.cl_state.specs.Rank.{Rank as RankOf}
use Rattle.cl_debug.specs.Debugging.{Debugging}
use Rattle.cl_debug.specs.declared.faults.DebugFault.{DebugFault}
use Rattle.cl_debug.specs.declared.faults.DebugFault.TheVariants as faults
use Rattle.rvmc_words.specs.declared.debug.DebugWord.{DebugWord}
use Rattle.rvmc_words.specs.declared.debug.DebugWord.TheVariants as word
use Rattle.rvmc_protocol.specs.Monitor.Typed.{typed_word}
use Rattle.rvmc_protocol.specs.declared.monitor.typed.Typed.{Typed}
use Rattle.rvmc_protocol.specs.declared.monitor.typed.Typed.TheVariants.{Help, Why, Rank, Go, Place, Regs, Bytes}
use Rattle.rvmc_protocol.specs.declared.monitor.typed.Typed.TheVariants.{Sent, Got, LastWrite, Unknown}
use Rattle.rvmc_picture.specs.Below.{Does, IsSpot, IsUnknown, IsWhy, Refuses, newline}
use Rattle.rvmc_motions.specs.declared.marks.Mark.{Mark}
use Rattle.rvmc_motions.specs.declared.marks.Motion.TheVariants as motions
use Rattle.rvmc_motions.specs.declared.marks.Mover.{Mover}
use Rattle.rvmc_motions.specs.declared.marks.Ranks.TheVariants as ranks
use Rattle.rvmc_protocol.specs.declared.requests.points.Point.TheVariants.{Written}
use Rattle.rvmc_words.specs.declared.debug.Spot.{Spot}
use Rattle.rvmc_gdb.specs.declared.ends.Found.{Found}
use Rattle.rvmc_gdb.specs.declared.ends.Side.{Side}
use Rattle.rvmc_gdb.specs.declared.ends.Side.TheVariants.{Gets, Sends}
use Rattle.rvmc_gdb.specs.declared.session.Goal.{Goal}
use Rattle.rvmc_gdb.specs.Ends.{arrow_text, nothing_text, other_end}
use Rattle.rvmc_gdb.specs.Finding.{FindsWrite, IsEnd, TellsGoal, bytes_of_spot}
use Rattle.rvmc_gdb.specs.Goals.{with_goal}
use Rattle.rvmc_gdb.specs.Moving.{own_who}
use Rattle.rvmc_gdb.specs.Points.{IsOwner, can_stand}
use Rattle.rvmc_gdb.specs.Serving.{Serving, done}

-- ---- texts

abbrev pub help_text : List ℕ
help_text =
    codes "place         tells how many of the record's steps are done" ++ newline
    ++ codes "go N          goes to the place with N steps done" ++ newline
    ++ codes "why           tells what each hart waits for there" ++ newline
    ++ codes "rank R        shows rank R from now on" ++ newline
    ++ codes "regs R H      shows the registers of hart H of rank R" ++ newline
    ++ codes "bytes R A N   shows N bytes of rank R from A on: an address, a symbol or FILE:LINE" ++ newline
    ++ codes "sent          tells where the message was sent that the hart gets here, or next" ++ newline
    ++ codes "got           tells where the message is got that the hart sends here, or next" ++ newline
    ++ codes "last-write A  tells what last changed the bytes of address A, or of a symbol" ++ newline
    ++ codes "help          tells this" ++ newline

abbrev pub unknown_text : List ℕ
unknown_text = codes "no such word: monitor help tells which there are" ++ newline

abbrev pub unchanged_text : List ℕ
unchanged_text = codes "nothing changes it before this place" ++ newline

-- gdb keeps registers, and asks again after this command
abbrev pub flush_text : List ℕ
flush_text = codes "maintenance flush register-cache shows it" ++ newline

-- a fault's name and its numbers
abbrev pub fault_name : DebugFault → List ℕ
fault_name (faults.PastEnd len) = codes "PastEnd " ++ decimal len
fault_name faults.NoRank = codes "NoRank"
fault_name faults.NoHart = codes "NoHart"
fault_name faults.Range = codes "Range"
fault_name faults.Memory = codes "Memory"
fault_name (faults.NotARun n) = codes "NotARun " ++ decimal n
fault_name faults.NoSymbol = codes "NoSymbol"

-- as the command line tells it
abbrev pub fault_text : DebugFault → List ℕ
fault_text fault = codes "rvmc: debug: " ++ (fault_name fault ++ newline)

-- ---- words of `debug`

-- the session at another place
abbrev pub with_debugging : Serving → Debugging → Serving
with_debugging serving debugging = record serving { debugging = debugging }

-- a word of `debug` does what it does there, and prints that; or it is refused, and its fault is printed. Want of memory
-- is no answer
abbrev pub Debugs : Serving → DebugWord → Option DebugFault → Debugging → List ℕ → Type 0
Debugs old word None new text = Does old.debugging word new text
Debugs old word (Some fault) new text =
    Refuses old.debugging fault word × (fault ≢ faults.Memory) × (new ≡ old.debugging) × (text ≡ fault_text fault)

-- what gdb shows is another place from then on
abbrev pub flushed : Option DebugFault → List ℕ → List ℕ
flushed None text = text ++ flush_text
flushed (Some fault) text = text

pub record PrintsWord (old : Serving) (word : DebugWord) (new : Serving) (text : List ℕ) : Type 0 where
  pub fault : Option DebugFault
  pub debugs : Debugs old word fault new.debugging text
  pub stands : new ≡ with_debugging old new.debugging

pub record PrintsGo (old : Serving) (n : ℕ) (new : Serving) (text : List ℕ) : Type 0 where
  pub fault : Option DebugFault
  pub printed : List ℕ
  pub debugs : Debugs old (word.Go n) fault new.debugging printed
  pub stands : new ≡ with_debugging old new.debugging
  pub is : text ≡ flushed fault printed

-- ---- the others

-- the first hart of another rank
abbrev pub with_rank : Serving → ℕ → Serving
with_rank serving rank = record serving { rank = rank; hart = 0; moved = None }

abbrev pub PrintsRank : Serving → ℕ → Serving → List ℕ → Type 0
PrintsRank old rank new text =
    (new ≡ (if nat_lt rank old.debugging.image.ranks then with_rank old rank else old))
    × (text ≡ (if nat_lt rank old.debugging.image.ranks then flush_text else fault_text faults.NoRank))

abbrev pub PrintsWhy : Serving → List ℕ → Type 0
PrintsWhy serving text =
    (state : ClusterState) × IsReached serving.debugging.image serving.debugging.steps serving.debugging.place state
    × IsWhy false serving.debugging.image state text

-- ---- places that are asked for: the next run leads there

-- this place, of which so much is told; or none, and then this is printed
abbrev pub PrintsGoal : List ℕ → Serving → Option Goal → Serving → List ℕ → Type 0
PrintsGoal none old None new text = (new ≡ with_goal old None) × (text ≡ none)
PrintsGoal none old (Some goal) new text = (new ≡ with_goal old (Some goal)) × TellsGoal old.debugging goal text

-- both ends of what a hart gets or sends; the other one's place is asked for
abbrev pub PrintsFound : Side → Option Found → Serving → Serving → List ℕ → Type 0
PrintsFound side None old new text = PrintsGoal (nothing_text side (own_who old)) old None new text
PrintsFound side (Some found) old new text =
    (more : List ℕ) × PrintsGoal [] old (other_end side found.arrow) new more
    × (text ≡ arrow_text found.arrow ++ more)

abbrev pub PrintsEnd : Side → Serving → Serving → List ℕ → Type 0
PrintsEnd side old new text =
    (found : Option Found) × IsEnd old.debugging side (own_who old) found × PrintsFound side found old new text

-- the last change of bytes of the rank that is meant
abbrev pub change_mark : Serving → Spot → ℕ → Mark
change_mark serving at address = record {
  ranks = ranks.One serving.rank;
  point = Written;
  address = address;
  size = bytes_of_spot serving.debugging.image.symbols at address;
}

abbrev pub change_mover : Serving → Mover
change_mover serving =
    record { ranks = ranks.One serving.rank; rank = serving.rank; hart = serving.hart; motion = motions.Run }

-- they are outside its memory, or there is such a change or none
abbrev pub PrintsChangeIf : Bool → Mark → Serving → Serving → List ℕ → Type 0
PrintsChangeIf false mark old new text = (new ≡ with_goal old None) × (text ≡ fault_text faults.Range)
PrintsChangeIf true mark old new text =
    (goal : Option Goal) × FindsWrite old.debugging mark (change_mover old) goal
    × PrintsGoal unchanged_text old goal new text

abbrev pub PrintsChangeAt : Mark → Serving → Serving → List ℕ → Type 0
PrintsChangeAt mark old new text =
    (owner : Option RankOf) × IsOwner old owner × PrintsChangeIf (can_stand owner mark) mark old new text

-- those of an address, or of a symbol if there is one
abbrev pub PrintsChange : Spot → Serving → Serving → List ℕ → Type 0
PrintsChange at old new text =
    ((address : ℕ) × IsSpot old.debugging.image at address
    × PrintsChangeAt (change_mark old at address) old new text)
    ⊎ (IsUnknown old.debugging.image at × (new ≡ with_goal old None) × (text ≡ fault_text faults.NoSymbol))

-- what is printed for a word, and how the session stands then
abbrev pub Prints : Serving → Typed → Serving → List ℕ → Type 0
Prints old Help new text = (new ≡ old) × (text ≡ help_text)
Prints old Why new text = (new ≡ old) × PrintsWhy old text
Prints old (Rank rank) new text = PrintsRank old rank new text
Prints old (Go n) new text = PrintsGo old n new text
Prints old Place new text = PrintsWord old word.Place new text
Prints old (Regs rank hart) new text = PrintsWord old (word.Regs rank hart) new text
Prints old (Bytes rank at count) new text = PrintsWord old (word.Bytes rank at count) new text
Prints old Sent new text = PrintsEnd Gets old new text
Prints old Got new text = PrintsEnd Sends old new text
Prints old (LastWrite at) new text = PrintsChange at old new text
Prints old Unknown new text = (new ≡ old) × (text ≡ unknown_text)

-- ---- the answer: what is printed, in digits, or that it is done where nothing is

abbrev pub printed_text : List ℕ → List ℕ
printed_text [] = done
printed_text (byte ∷ bytes) = encode_lower (byte ∷ bytes)

-- what was typed is done, and what it prints is answered
pub record Monitors (old : Serving) (typed : List ℕ) (new : Serving) (text : List ℕ) : Type 0 where
  pub printed : List ℕ
  pub prints : Prints old (typed_word typed) new printed
  pub is : text ≡ printed_text printed
