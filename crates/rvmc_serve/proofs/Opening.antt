-- From what is read as a record to the session that it opens, or its fault.
use Rattle.std.specs.Prelude.{Option, ℕ, ◌≡◌, ◌<◌, ◌≤◌, List, [], length, Ok}
use Rattle.std.specs.Option.{unwrap_or}
use Rattle.std.proofs.Common.{refl, sym, ap, subst, ◌∙◌}
use Rattle.cl_debug.specs.Debugging.{Debugging}
use Rattle.cl_debug.specs.Faults.{OpenFaultHolds}
use Rattle.cl_debug.specs.declared.faults.DebugFault.{DebugFault}
use Rattle.cl_debug.specs.declared.faults.DebugFault.TheVariants as debug
use Rattle.cl_machine.specs.declared.steps.Step.{Step}
use Rattle.cl_text.specs.ReadingAnswers.{IsFaultOf as IsRecordFaultOf}
use Rattle.cl_text.specs.declared.faults.RecordFault.{RecordFault}
use Rattle.cl_text.specs.declared.faults.RecordFault.TheVariants as recorded
use Rattle.rv_image_types.specs.declared.images.ImageParts.{ImageParts}
use Rattle.rvmc_gdb.specs.Serving.{Serving, opened}
use Rattle.rvmc_gdb.specs.Talks.{Connection, connected}
use Rattle.rvmc_gdb.specs.Below.{IsRunUpTo, fault_of_debug, fault_of_record}
use Rattle.rvmc_gdb.specs.Below.faults
use Rattle.rvmc_serve.specs.Serving.{IsFaultOf, IsOpenedAs}
use Rattle.rvmc_serve.specs.Sessions.{IsOpened, Reading}

-- a fault of the record
pub unread : (rank : Option ℕ) (read : Reading) (fault : RecordFault) → IsRecordFaultOf read fault
    → IsFaultOf rank read (fault_of_record fault)
unread rank read recorded.Memory is = tt
unread rank read recorded.Magic is = subst (λ (r : Reading). IsFaultOf rank r (faults.Record recorded.Magic)) (sym is) refl
unread rank read (recorded.Short n) is =
    subst (λ (r : Reading). IsFaultOf rank r (faults.Record (recorded.Short n))) (sym is) refl
unread rank read (recorded.Long n) is =
    subst (λ (r : Reading). IsFaultOf rank r (faults.Record (recorded.Long n))) (sym is) refl
unread rank read (recorded.Step n) is =
    subst (λ (r : Reading). IsFaultOf rank r (faults.Record (recorded.Step n))) (sym is) refl
unread rank read (recorded.Image image) is =
    subst (λ (r : Reading). IsFaultOf rank r (faults.Record (recorded.Image image))) (sym is) refl

-- steps that are no run
pub no_run : (rank : Option ℕ) (read : Reading) (image : ImageParts) (steps : List Step) (fault : DebugFault)
    → read ≡ Ok (image, steps) → OpenFaultHolds image steps fault → IsFaultOf rank read (fault_of_debug fault)
no_run rank read image steps (debug.NotARun n) is breaks =
    subst (λ (r : Reading). IsFaultOf rank r (faults.Debug (debug.NotARun n))) (sym is) breaks
no_run rank read image steps debug.Memory is breaks = tt
no_run rank read image steps other is breaks = absurd breaks

-- a rank that isn't there
pub no_rank : (rank : Option ℕ) (read : Reading) (image : ImageParts) (steps : List Step) (fault : DebugFault)
    → read ≡ Ok (image, steps) → IsRunUpTo image steps (length steps) → image.ranks ≤ unwrap_or rank 0 → fault ≡ debug.NoRank
    → IsFaultOf rank read (fault_of_debug fault)
no_rank rank read image steps fault is run past which =
    subst (λ (f : DebugFault). IsFaultOf rank read (fault_of_debug f)) (sym which)
    (subst (λ (r : Reading). IsFaultOf rank r (faults.Debug debug.NoRank)) (sym is) (run, past))

-- a session
pub is_opened : (rank : Option ℕ) (read : Reading) (image : ImageParts) (steps : List Step) (debugger : Debugging)
    (session : Serving) (server : Connection) → read ≡ Ok (image, steps) → IsRunUpTo image steps (length steps)
    → debugger ≡ record { image = image; steps = steps; place = 0; breaks = [] } → unwrap_or rank 0 < debugger.image.ranks
    → session ≡ opened debugger rank → server ≡ connected session → IsOpenedAs rank read server
is_opened rank read image steps debugger session server is run starts there shown joined = (
  session,
  subst (λ (r : Reading). IsOpened rank r session) (sym is) (record {
    run = run;
    there = subst (λ (d : Debugging). unwrap_or rank 0 < d.image.ranks) starts there;
    is = shown ∙ ap (λ (d : Debugging). opened d rank) starts;
  }),
  joined,
)
