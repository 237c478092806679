-- An instruction changes at most the bytes that it stores.
use Rattle.std.specs.Prelude.{ℕ, ◌≡◌, ◌+◌, ◌≤◌, ◌%◌, ◌==◌, nat_lt, not, if◌then◌else◌, Bool, true, false, length, Option, None, Some}
use Rattle.std.proofs.Common.{refl, ap, ◌∙◌, arith}
use Rattle.std.proofs.lemmas.Bool.{leb-true}
use Rattle.rv_decode.specs.Decoded.{decoded}
use Rattle.rv_decode.specs.declared.instruction.Instr.{Instr}
use Rattle.rv_decode.specs.declared.instruction.Instr.TheVariants.{Upper, Jal, Jalr, Branch, Load, Store, Imm, Shift}
use Rattle.rv_decode.specs.declared.instruction.Instr.TheVariants.{Arith, Fence, Ecall, Ebreak}
use Rattle.rv_decode.specs.declared.instruction.LoadOp.{LoadOp}
use Rattle.rv_memory.proofs.Marked.{bytes_low_first-length}
use Rattle.rv_memory.specs.Access.{is_aligned, is_inside, load_trap, size_of, store_trap, stored, word_at}
use Rattle.rv_memory.specs.Memory.{Memory, bytes_at, bytes_of}
use Rattle.rv_memory.specs.declared.fault.Cause.{Cause}
use Rattle.rv_memory.specs.declared.fault.Cause.TheVariants.{InstructionMisaligned, StoreAccess, StoreMisaligned}
use Rattle.rv_hart.specs.Effect.{After, after, after_branch, after_load, after_store, gives, jumps, next, offset, plain, trapped}
use Rattle.rv_hart.specs.Results.{is_taken, load_width, store_width}
use Rattle.rv_hart.specs.State.{State, at_pc, read, write}
use Rattle.rv_hart.specs.Stepped.{after_decoded, after_fetched, stepped}
use Rattle.rv_hart.specs.Stores.{nothing, range_decoded, range_fetched, store_range, stored_by, unless}
use Rattle.rv_hart.specs.declared.stores.StoreRange.{StoreRange}
use Rattle.rvmc_changes.proofs.Compared.{edits_overwritten, edits_same}
use Rattle.rvmc_changes.specs.Edits.{edits_from}

module _ (s : State) (m : Memory) where
  -- the edits of these bytes are all, and the bytes are in the memory
  record Through (r : StoreRange) (a : After) : Type 0 where
    pub edits : edits_from 0 m.bytes a.memory.bytes
        ≡ edits_from r.address (bytes_at m r.address r.count) (bytes_at a.memory r.address r.count)
    pub inside : r.address + r.count ≤ length m.bytes

  stays : (a : After) → a.memory ≡ m → Through nothing a
  stays a same = record {
    edits = ap (λ (x : Memory). edits_from 0 m.bytes x.bytes) same ∙ edits_same 0 m.bytes;
    inside = omega arith;
  }

  by_store : (address size value : ℕ)
      → Through (unless (store_trap m address size) address size)
      (after_store (store_trap m address size) (stored m address size value) s m)
  by_store address size value =
      go (is_aligned address size) (is_inside m address size) refl (nat_lt address m.text)
    where
      go : (aligned inside : Bool) → is_inside m address size ≡ inside → (text : Bool)
          → Through (unless (if not aligned then Some StoreMisaligned
          else (if not inside then Some StoreAccess else (if text then Some StoreAccess else None))) address size)
          (after_store (if not aligned then Some StoreMisaligned
          else (if not inside then Some StoreAccess else (if text then Some StoreAccess else None)))
          (stored m address size value) s m)
      go false inside is text = stays _ refl
      go true false is text = stays _ refl
      go true true is true = stays _ refl
      go true true is false =
          let fits = leb-true (address + size) (length m.bytes) is in
          let count = bytes_low_first-length 0 size value in
          record {
            edits = edits_overwritten m.bytes (bytes_of value size) address size count fits;
            inside = fits;
          }

  gives_stays : (d v : ℕ) → (gives d v s m).memory ≡ m
  unfolding gives
  gives_stays d v = refl

  jumps_stays : (d target : ℕ) → (jumps d target s m).memory ≡ m
  unfolding jumps
  jumps_stays d target = go (target % 4 == 0)
    where
      go : (b : Bool)
          → (if b then plain (at_pc (write s d (next s)) target) m else trapped InstructionMisaligned s m).memory ≡ m
      go true = refl
      go false = refl

  branch_stays : (b : Bool) (target : ℕ)
      → (if b then after_branch target s m else plain (at_pc s (next s)) m).memory ≡ m
  unfolding after_branch
  branch_stays true target = go (target % 4 == 0)
    where
      go : (b : Bool) → (if b then plain (at_pc s target) m else trapped InstructionMisaligned s m).memory ≡ m
      go true = refl
      go false = refl
  branch_stays false target = refl

  load_stays : (o : Option Cause) (op : LoadOp) (d address : ℕ) → (after_load o op d address s m).memory ≡ m
  load_stays None op d address = gives_stays d _
  load_stays (Some cause) op d address = refl

  by_instr : (i : Instr) → Through (stored_by i s m) (after i s m)
  by_instr (Upper op d imm) = stays _ (gives_stays d _)
  by_instr (Jal d off) = stays _ (jumps_stays d _)
  by_instr (Jalr d r off) = stays _ (jumps_stays d _)
  by_instr (Branch op r t off) = stays _ (branch_stays (is_taken op (read s r) (read s t)) (offset s.pc off))
  by_instr (Load op d r off) =
      stays _ (load_stays (load_trap m (offset (read s r) off) (size_of (load_width op))) op d (offset (read s r) off))
  by_instr (Store op r t off) = by_store (offset (read s r) off) (size_of (store_width op)) (read s t)
  by_instr (Imm op d r imm) = stays _ (gives_stays d _)
  by_instr (Shift op d r amount) = stays _ (gives_stays d _)
  by_instr (Arith op d r t) = stays _ (gives_stays d _)
  by_instr Fence = stays _ refl
  by_instr Ecall = stays _ refl
  by_instr Ebreak = stays _ refl

  by_step : Through (store_range s m) (stepped s m)
  unfolding stepped store_range
  by_step = fetched (word_at m s.pc)
    where
      read_as : (o : Option Instr) → Through (range_decoded o s m) (after_decoded o s m)
      read_as None = stays _ refl
      read_as (Some i) = by_instr i

      fetched : (o : Option ℕ) → Through (range_fetched o s m) (after_fetched o s m)
      fetched None = stays _ refl
      fetched (Some word) = read_as (decoded word)

-- the bytes that an instruction stores are in the memory
pub stored_inside : (s : State) (m : Memory) → (store_range s m).address + (store_range s m).count ≤ length m.bytes
stored_inside s m = (by_step s m).inside

-- and it changes no other
pub stored_edits : (s : State) (m : Memory)
    → edits_from 0 m.bytes (stepped s m).memory.bytes
    ≡ edits_from (store_range s m).address (bytes_at m (store_range s m).address (store_range s m).count)
    (bytes_at (stepped s m).memory (store_range s m).address (store_range s m).count)
stored_edits s m = (by_step s m).edits
