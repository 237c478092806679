-- A step tells whether it met an ECALL; a running hart that meets none does its instruction.
use Rattle.std.proofs.Common.{◌≡◌, ◌==◌, ◌%◌, ℕ, refl, sym, ap, ◌∙◌, subst, eq-eqb}
use Rattle.std.specs.Prelude.{Option, Some, None, Bool, true, false, if◌then◌else◌, slice_get, slice_set}
use Rattle.std.proofs.lemmas.Bool.{eqb-true}
use Rattle.std.proofs.lemmas.Option.{get_or_from_slice_get}
use Rattle.rv_decode.specs.Decoded.{decoded}
use Rattle.rv_decode.specs.declared.instruction.Instr.{Instr}
use Rattle.rv_decode.specs.declared.instruction.Instr.TheVariants.{Upper, Jal, Jalr, Branch, Load, Store, Imm, Shift}
use Rattle.rv_decode.specs.declared.instruction.Instr.TheVariants.{Arith, Fence, Ecall, Ebreak}
use Rattle.rv_decode.specs.declared.instruction.LoadOp.{LoadOp}
use Rattle.rv_decode.proofs.Found.{found, found_exactly}
use Rattle.rv_memory.specs.Memory.{Memory}
use Rattle.rv_memory.specs.Access.{load_trap, size_of, store_trap, stored, word_at}
use Rattle.rv_memory.specs.declared.fault.Cause.{Cause}
use Rattle.rv_hart.specs.Effect.{After, after, after_branch, after_load, after_store, gives, jumps, next, offset, plain}
use Rattle.rv_hart.specs.Results.{is_taken, load_width, store_width}
use Rattle.rv_hart.specs.State.{State, at_pc, read}
use Rattle.rv_hart.specs.Stepped.{after_decoded, after_fetched, stepped}
use Rattle.rv_hart.specs.declared.state.Did.TheVariants.{Call}
use Rattle.rv_hart.specs.declared.state.Mode.TheVariants.{Running}
use Rattle.cl_calls.specs.declared.sites.Site.{Site}
use Rattle.cl_state.specs.declared.asking.Answer.TheVariants.{Alone}
use Rattle.cl_state.specs.declared.asking.Ask.TheVariants as ask
use Rattle.cl_state.specs.declared.asking.Doing.TheVariants.{Step}
use Rattle.cl_state.specs.Asked.{Part, asked, asked_in, doing, is_ecall, no_hart, part_of}
use Rattle.cl_state.specs.Rank.{Rank}
use Rattle.cl_state.specs.Told.{told, told_in, with_part}

-- of two that are no calls either is none
neither : (b : Bool) (x y : After) → (x.did ≡ Call → ⊥) → (y.did ≡ Call → ⊥) → (if b then x else y).did ≡ Call → ⊥
neither true x y no_x no_y = no_x
neither false x y no_x no_y = no_y

jumps_is_none : (d target : ℕ) (s : State) (m : Memory) → (jumps d target s m).did ≡ Call → ⊥
unfolding jumps
jumps_is_none d target s m = neither (target % 4 == 0) _ _ (λ e. cc) (λ e. cc)

branch_is_none : (target : ℕ) (s : State) (m : Memory) → (after_branch target s m).did ≡ Call → ⊥
unfolding after_branch
branch_is_none target s m = neither (target % 4 == 0) _ _ (λ e. cc) (λ e. cc)

gives_is_none : (d value : ℕ) (s : State) (m : Memory) → (gives d value s m).did ≡ Call → ⊥
unfolding gives
gives_is_none d value s m = λ e. cc

load_is_none : (trap : Option Cause) (op : LoadOp) (d address : ℕ) (s : State) (m : Memory)
    → (after_load trap op d address s m).did ≡ Call → ⊥
load_is_none None op d address s m = gives_is_none d _ s m
load_is_none (Some cause) op d address s m = λ e. cc

store_is_none : (trap : Option Cause) (new : Memory) (s : State) (m : Memory)
    → (after_store trap new s m).did ≡ Call → ⊥
store_is_none None new s m = λ e. cc
store_is_none (Some cause) new s m = λ e. cc

-- an instruction that is a call is the ECALL
only_ecall : (i : Instr) (s : State) (m : Memory) → (after i s m).did ≡ Call → i ≡ Ecall
only_ecall (Upper op d imm) s m e = absurd (gives_is_none d _ s m e)
only_ecall (Jal d off) s m e = absurd (jumps_is_none d _ s m e)
only_ecall (Jalr d r off) s m e = absurd (jumps_is_none d _ s m e)
only_ecall (Branch op r t off) s m e =
    absurd (neither (is_taken op (read s r) (read s t)) (after_branch (offset s.pc off) s m) (plain (at_pc s (next s)) m)
    (branch_is_none (offset s.pc off) s m) (λ is. cc) e)
only_ecall (Load op d r off) s m e =
    absurd (load_is_none (load_trap m (offset (read s r) off) (size_of (load_width op))) op d (offset (read s r) off) s m e)
only_ecall (Store op r t off) s m e =
    absurd (store_is_none (store_trap m (offset (read s r) off) (size_of (store_width op)))
    (stored m (offset (read s r) off) (size_of (store_width op)) (read s t)) s m e)
only_ecall (Imm op d r imm) s m e = absurd (gives_is_none d _ s m e)
only_ecall (Shift op d r amount) s m e = absurd (gives_is_none d _ s m e)
only_ecall (Arith op d r t) s m e = absurd (gives_is_none d _ s m e)
only_ecall Fence s m e = absurd (cc)
only_ecall Ecall s m e = refl
only_ecall Ebreak s m e = absurd (cc)

-- what a step that was a call says of its word, its hart and its memory
pub record Left (word : Option ℕ) (s : State) (m : Memory) (end : After) : Type 0 where
  pub ecall : is_ecall word ≡ true
  pub state : end.state ≡ s
  pub memory : end.memory ≡ m

left_decoded : (word : ℕ) (i : Option Instr) (s : State) (m : Memory) → decoded word ≡ i
    → (after_decoded i s m).did ≡ Call → Left (Some word) s m (after_decoded i s m)
left_decoded word None s m is e = absurd (cc)
left_decoded word (Some i) s m is e =
    let call = only_ecall i s m e in
    subst (λ j. Left (Some word) s m (after j s m)) (sym call) (record {
      ecall = eq-eqb word 0x73 ((found_exactly word Ecall).0 (is ∙ ap Some call));
      state = refl;
      memory = refl;
    })

left_fetched : (word : Option ℕ) (s : State) (m : Memory) → (after_fetched word s m).did ≡ Call
    → Left word s m (after_fetched word s m)
left_fetched None s m e = absurd (cc)
left_fetched (Some word) s m e = left_decoded word (decoded word) s m refl e

-- a step that was a call met an ECALL, and left hart and memory as they were
pub left : (s : State) (m : Memory) → (stepped s m).did ≡ Call → Left (word_at m s.pc) s m (stepped s m)
unfolding stepped
left s m e = left_fetched (word_at m s.pc) s m e

met_fetched : (word : Option ℕ) (s : State) (m : Memory) → is_ecall word ≡ true → (after_fetched word s m).did ≡ Call
met_fetched None s m is = absurd (cc)
met_fetched (Some word) s m is =
    ap (λ i. (after_decoded i s m).did) (found word Ecall (eqb-true word 0x73 is))

-- a step that meets an ECALL is a call
met : (s : State) (m : Memory) → is_ecall (word_at m s.pc) ≡ true → (stepped s m).did ≡ Call
unfolding stepped
met s m is = met_fetched (word_at m s.pc) s m is

false_unless : (b : Bool) → (b ≡ true → ⊥) → b ≡ false
false_unless true never = absurd (never refl)
false_unless false never = refl

-- so one that was none met none
pub not_met : (s : State) (m : Memory) → ((stepped s m).did ≡ Call → ⊥) → is_ecall (word_at m s.pc) ≡ false
not_met s m none = false_unless (is_ecall (word_at m s.pc)) (λ is. none (met s m is))

-- a running hart at no ECALL does its instruction
does_step : (site : Site) (part : Part) (at : State) → part.hart ≡ at → at.mode ≡ Running
    → is_ecall (word_at part.memory at.pc) ≡ false → doing site part ≡ Step
unfolding doing
does_step site part at is running no_call = rw (is, running, no_call) refl

module _ (r : Rank) (hart : ℕ) (at : State) (there : slice_get r.harts hart ≡ Some at) (running : at.mode ≡ Running)
    (no_call : is_ecall (word_at r.memory at.pc) ≡ false) where
  here : (part_of r hart).hart ≡ at
  here = get_or_from_slice_get r.harts hart at no_hart there

  does : doing r.site (part_of r hart) ≡ Step
  does = does_step r.site (part_of r hart) at here running no_call

  -- it asks nobody
  pub asks_plain : asked r hart ≡ ask.Plain
  unfolding asked
  asks_plain = ap (asked_in r.site r.memory r.requests r.phases) does

  -- and the rank has what the step leaves
  pub told_plain : (stamp : ℕ) → told r hart Alone stamp
      ≡ record r {
        memory = (stepped at r.memory).memory;
        harts = slice_set r.harts hart (stepped at r.memory).state;
        clock = stamp;
      }
  unfolding told
  told_plain stamp =
      ap (λ d. with_part r hart (told_in r.site hart d Alone (part_of r hart)) stamp) does
      ∙ ap (λ (h : State). record r {
        memory = (stepped h r.memory).memory;
        harts = slice_set r.harts hart (stepped h r.memory).state;
        clock = stamp;
      }) here
