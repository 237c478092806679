-- Patterns that are looked up in the list, and those that a turn may pass.
use Rattle.std.specs.Prelude.{ℕ, ◌≡◌, ◌==◌, ◌&&◌, Bool, false, true, List}
use Rattle.std.specs.List.{list_any}
use Rattle.rv_image_types.specs.declared.images.Link.{Link}
use Rattle.mp_types.specs.declared.requests.Request.{Request}
use Rattle.mp_transfers.specs.Inits.{is_receiver}
use Rattle.mp_wait_laws.specs.Waits.{sends_over}
use Rattle.cl_state.specs.declared.asking.Ask.{Ask}
use Rattle.cl_reduction_laws.specs.Patterns.{InitMayPass, MayMeet, MayPass, Pattern as Asked, by_receiver, by_sender, claim, initialisation, poll, poll_of_cuts, poll_of_sends, receive, send}
use Rattle.cl_contests.specs.declared.patterns.AskedBy.{AskedBy}
use Rattle.cl_contests.specs.declared.patterns.Pattern.{Pattern}
use Rattle.cl_contests.specs.declared.patterns.Pattern.TheVariants as pattern
use Rattle.cl_contests.specs.Kept.{is_any_source, is_pattern, is_poll_of_complete, wild_of}

-- the kept pattern is the wanted one
abbrev pub is_wanted : Pattern → Pattern → Bool
is_wanted (pattern.Send sync dest comm) kept = is_pattern kept (send sync dest comm)
is_wanted pattern.Receive kept = is_pattern kept receive
is_wanted pattern.Poll kept = is_pattern kept poll
is_wanted pattern.PollOfSends kept = is_pattern kept poll_of_sends
is_wanted pattern.Claim kept = is_pattern kept claim
is_wanted (pattern.Initialisation sends comm peer tag bytes) kept = is_pattern kept (initialisation sends comm peer tag bytes)
is_wanted pattern.PollOfCuts kept = is_pattern kept poll_of_cuts
is_wanted (pattern.BySender link) kept = is_pattern kept (by_sender link)
is_wanted (pattern.ByReceiver link) kept = is_pattern kept (by_receiver link)
is_wanted (pattern.AnySource comm) kept = is_any_source kept comm
is_wanted pattern.PollOfComplete kept = is_poll_of_complete kept

-- it is one of the rank's patterns
abbrev pub has_pattern : List AskedBy → ℕ → Pattern → Bool
has_pattern kept r wanted = list_any (λ (a : AskedBy). (a.rank == r) && is_wanted wanted a.pattern) kept

-- the call of rank r may go before what is asked by this kept pattern
abbrev pub MayPassKept : List AskedBy → ℕ → Request → AskedBy → Type 0
MayPassKept kept r q a = (p : Asked) → is_pattern a.pattern p ≡ true → MayPass (wild_of kept) r q a.rank p

-- the initialisation of rank r may go before what is asked by this kept pattern
abbrev pub InitMayPassKept : ℕ → Request → AskedBy → Type 0
InitMayPassKept r q a = (p : Asked) → is_pattern a.pattern p ≡ true → InitMayPass r q a.rank p

-- the turn at a box may go before what is asked by this kept pattern
abbrev pub MayMeetKept : Ask → AskedBy → Type 0
MayMeetKept ask a = (p : Asked) → is_pattern a.pattern p ≡ true → MayMeet ask p

-- who may be the sender on a link is its sender, and who may be the receiver its receiver
abbrev pub IsOnSide : List Link → AskedBy → Type 0
IsOnSide links a =
    ((link : ℕ) → is_pattern a.pattern (by_sender link) ≡ true → sends_over links link a.rank ≡ true)
    × ((link : ℕ) → is_pattern a.pattern (by_receiver link) ≡ true → is_receiver links a.rank link ≡ true)

-- each pattern that was there still is
abbrev pub Keeps : List AskedBy → List AskedBy → Type 0
Keeps old new = (r : ℕ) (wanted : Pattern) → has_pattern old r wanted ≡ true → has_pattern new r wanted ≡ true

-- a rank that asks by this kept pattern only waits for named ranks
pub record IsWaitKept (a : AskedBy) : Type 0 where
  pub sources : (comm : ℕ) → is_any_source a.pattern comm ≡ false
  pub claims : is_pattern a.pattern claim ≡ false
  pub polls : is_pattern a.pattern poll ≡ false
  pub polls_of_sends : is_pattern a.pattern poll_of_sends ≡ false
  pub polls_of_complete : is_poll_of_complete a.pattern ≡ false
