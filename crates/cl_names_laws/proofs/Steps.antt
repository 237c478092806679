-- A step of a hart looks at its registers, its pc and the memory alone.
use Rattle.std.proofs.Common.{◌≡◌, ℕ, refl, Bool, true, false, Option, Some, None}
use Rattle.std.specs.Prelude.{◌==◌, ◌%◌, if◌then◌else◌}
use Rattle.rv_decode.specs.Decoded.{decoded}
use Rattle.rv_decode.specs.declared.instruction.Instr.{Instr}
use Rattle.rv_decode.specs.declared.instruction.Instr.TheVariants.{Upper, Jal, Jalr, Branch, Load, Store, Imm, Shift, Arith, Fence, Ecall, Ebreak}
use Rattle.rv_decode.specs.declared.instruction.LoadOp.{LoadOp}
use Rattle.rv_memory.specs.Memory.{Memory}
use Rattle.rv_memory.specs.Access.{load_trap, size_of, word_at}
use Rattle.rv_memory.specs.declared.fault.Cause.{Cause}
use Rattle.rv_hart.specs.State.{State, read}
use Rattle.rv_hart.specs.Results.{is_taken, load_width}
use Rattle.rv_hart.specs.Effect.{After, after, after_branch, after_load, after_store, gives, jumps, offset}
use Rattle.rv_hart.specs.Stepped.{after_decoded, after_fetched, stepped}
use Rattle.mp_alike_laws.specs.Renaming.{Renaming}
use Rattle.cl_names_laws.specs.Named.{hart_by}

module _ (names : Renaming) where
  abbrev after_by : After → After
  after_by a = record { did = a.did; state = hart_by names a.state; memory = a.memory }

  gives_by : (d value : ℕ) (s : State) (m : Memory) → gives d value (hart_by names s) m ≡ after_by (gives d value s m)
  unfolding gives
  gives_by d value s m = refl

  if_by : (b : Bool) (x y z w : After) → x ≡ after_by z → y ≡ after_by w
      → (if b then x else y) ≡ after_by (if b then z else w)
  if_by true x y z w e f = e
  if_by false x y z w e f = f

  jumps_by : (d target : ℕ) (s : State) (m : Memory) → jumps d target (hart_by names s) m ≡ after_by (jumps d target s m)
  unfolding jumps
  jumps_by d target s m = if_by (target % 4 == 0) _ _ _ _ refl refl

  branch_by : (target : ℕ) (s : State) (m : Memory)
      → after_branch target (hart_by names s) m ≡ after_by (after_branch target s m)
  unfolding after_branch
  branch_by target s m = if_by (target % 4 == 0) _ _ _ _ refl refl

  load_by : (o : Option Cause) (op : LoadOp) (d address : ℕ) (s : State) (m : Memory)
      → after_load o op d address (hart_by names s) m ≡ after_by (after_load o op d address s m)
  load_by None op d address s m = gives_by d _ s m
  load_by (Some cause) op d address s m = refl

  store_by : (o : Option Cause) (new : Memory) (s : State) (m : Memory)
      → after_store o new (hart_by names s) m ≡ after_by (after_store o new s m)
  store_by None new s m = refl
  store_by (Some cause) new s m = refl

  after_named : (i : Instr) (s : State) (m : Memory) → after i (hart_by names s) m ≡ after_by (after i s m)
  after_named (Upper op d imm) s m = gives_by d _ s m
  after_named (Jal d off) s m = jumps_by d _ s m
  after_named (Jalr d r off) s m = jumps_by d _ s m
  after_named (Branch op r t off) s m =
      if_by (is_taken op (read s r) (read s t)) _ _ _ _ (branch_by (offset s.pc off) s m) refl
  after_named (Load op d r off) s m =
      load_by (load_trap m (offset (read s r) off) (size_of (load_width op))) op d (offset (read s r) off) s m
  after_named (Store op r t off) s m = store_by _ _ s m
  after_named (Imm op d r imm) s m = gives_by d _ s m
  after_named (Shift op d r amount) s m = gives_by d _ s m
  after_named (Arith op d r t) s m = gives_by d _ s m
  after_named Fence s m = refl
  after_named Ecall s m = refl
  after_named Ebreak s m = refl

  decoded_named : (o : Option Instr) (s : State) (m : Memory)
      → after_decoded o (hart_by names s) m ≡ after_by (after_decoded o s m)
  decoded_named None s m = refl
  decoded_named (Some i) s m = after_named i s m

  fetched_named : (o : Option ℕ) (s : State) (m : Memory)
      → after_fetched o (hart_by names s) m ≡ after_by (after_fetched o s m)
  fetched_named None s m = refl
  fetched_named (Some word) s m = decoded_named (decoded word) s m

  pub stepped_named : (s : State) (m : Memory)
      → stepped (hart_by names s) m
      ≡ record { did = (stepped s m).did; state = hart_by names (stepped s m).state; memory = (stepped s m).memory }
  unfolding stepped
  stepped_named s m = fetched_named (word_at m s.pc) s m
