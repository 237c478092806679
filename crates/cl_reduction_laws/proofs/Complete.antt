-- Polls of synchronous sends that were complete as they were made: by other names of posts they are such polls too, and no turn
-- that waits is one.
use Rattle.std.proofs.Common.{◌≡◌, ◌∙◌, ◌&&◌, ℕ, refl, ap, Bool, false, true, Option, Some, None}
use Rattle.std.specs.List.{list_any}
use Rattle.std.specs.Option.{option_map}
use Rattle.rv_memory.specs.Memory.{Memory}
use Rattle.mp_request.specs.declared.entries.OpenRequest.{OpenRequest}
use Rattle.mp_request.specs.declared.entries.Progress.TheVariants.{Finished, Sent, OnPost, InPhase}
use Rattle.mp_request.specs.declared.entries.State.{State}
use Rattle.mp_request.specs.declared.entries.State.TheVariants.{Ordinary, Inactive, Active}
use Rattle.mp_request.specs.Table.{Table, request_at}
use Rattle.mp_alike_laws.specs.Renaming.{Renaming, number_by}
use Rattle.cl_calls.specs.declared.calls.Call.TheVariants as call
use Rattle.cl_calls.specs.Handles.{handles_in}
use Rattle.cl_calls.specs.Needs.{array_at}
use Rattle.cl_names_laws.specs.Named.{open_by, state_by, table_by}
use Rattle.cl_names_laws.proofs.Asks.{doing_by, doing_named, part_named}
use Rattle.cl_names_laws.proofs.Tables.{request_named}
use Rattle.cl_state.specs.declared.asking.Doing.{Doing}
use Rattle.cl_state.specs.declared.asking.Doing.TheVariants.{Go}
use Rattle.cl_state.specs.Asked.{doing, part_of}
use Rattle.cl_state.specs.Rank.{Rank}
use Rattle.cl_state_laws.specs.Vain.{waits_on}
use Rattle.cl_order_laws.specs.Alike.{AlikeRanks}
use Rattle.cl_reduction_laws.specs.Complete.{PollWithin, PollsOfComplete, is_complete_send, is_finished, is_synchronous, polls_complete, polls_complete_in}

-- by other names of posts a send is as far
finished_same : (names : Renaming) (s : State) → is_finished (state_by names s) ≡ is_finished s
finished_same names (Ordinary Finished) = refl
finished_same names (Ordinary (Sent post)) = refl
finished_same names (Ordinary (OnPost post)) = refl
finished_same names (Ordinary InPhase) = refl
finished_same names Inactive = refl
finished_same names (Active Finished) = refl
finished_same names (Active (Sent post)) = refl
finished_same names (Active (OnPost post)) = refl
finished_same names (Active InPhase) = refl

complete_same : (names : Renaming) (o : Option OpenRequest)
    → is_complete_send (option_map (open_by names) o) ≡ is_complete_send o
complete_same names None = refl
complete_same names (Some r) = ap (λ b. is_synchronous r.transfer && b) (finished_same names r.state)

complete_named : (names : Renaming) (table : Table) (handle : ℕ)
    → is_complete_send (request_at (table_by names table) handle) ≡ is_complete_send (request_at table handle)
complete_named names table handle =
    ap is_complete_send (request_named names (number_by names) table handle) ∙ complete_same names (request_at table handle)

polls_named : (names : Renaming) (memory : Memory) (table : Table) (d : Doing)
    → polls_complete_in memory (table_by names table) (doing_by names d) ≡ polls_complete_in memory table d
polls_named names memory table (Go (call.Test c)) = complete_named names table c.handle
polls_named names memory table (Go (call.Testall s)) =
    ap (λ (f : ℕ → Bool). list_any f (handles_in memory (array_at s.array s.count))) (λ k h. complete_named names table h k)
polls_named names memory table _ = refl

pub polls_alike : (names : Renaming) (hart : ℕ) (x y : Rank) → AlikeRanks names x y
    → polls_complete y hart ≡ polls_complete x hart
polls_alike names hart x y alike =
    let polls = polls_complete_in x.memory (table_by names x.requests) in
    ap (λ (z : Rank). polls_complete z hart) alike.1
    ∙ ap (λ p. polls (doing x.site p)) (part_named names (number_by names) x hart)
    ∙ ap polls (doing_named names (number_by names) x.site (part_of x hart))
    ∙ polls_named names x.memory x.requests (doing x.site (part_of x hart))

-- a call that is made anew where nothing is there, or the poll of a RECV or SSEND, is none
waits_only : (memory : Memory) (table : Table) (d : Doing) → waits_on d ≡ true → polls_complete_in memory table d ≡ false
waits_only memory table (Go (call.Test c)) on = absurd (cc)
waits_only memory table (Go (call.Testall s)) on = absurd (cc)
waits_only memory table _ on = refl

pub waits_within : (may : PollsOfComplete) (r : ℕ) (rank : Rank) (hart : ℕ)
    → waits_on (doing rank.site (part_of rank hart)) ≡ true → PollWithin may r rank hart
waits_within may r rank hart on = λ polls.
    let none = waits_only rank.memory rank.requests (doing rank.site (part_of rank hart)) on in
    absurd (cc)
