-- An instruction makes the page that it stores to, and no other.
use Rattle.std.proofs.Common.{◌≡◌, ◌||◌, ℕ, suc, refl, ap, sym, ◌∙◌, Bool, true, false, List, [], ◌∷◌, Option, Some, None, length}
use Rattle.std.specs.Prelude.{◌==◌, ◌%◌, if◌then◌else◌}
use Rattle.std.proofs.Math.Bool.{or-false}
use Rattle.rv_decode.specs.Decoded.{decoded}
use Rattle.rv_decode.specs.declared.instruction.Instr.{Instr}
use Rattle.rv_decode.specs.declared.instruction.Instr.TheVariants.{Upper, Jal, Jalr, Branch, Load, Store, Imm, Shift}
use Rattle.rv_decode.specs.declared.instruction.Instr.TheVariants.{Arith, Fence, Ecall, Ebreak}
use Rattle.rv_decode.specs.declared.instruction.LoadOp.{LoadOp}
use Rattle.rv_memory.specs.Access.{size_of, store_trap, stored, word_at}
use Rattle.rv_memory.specs.Memory.{Memory, bytes_of}
use Rattle.rv_memory.specs.Pages.{touches, written_from, written_pages}
use Rattle.rv_memory.specs.declared.fault.Cause.{Cause}
use Rattle.rv_memory.specs.declared.fault.Cause.TheVariants.{InstructionMisaligned}
use Rattle.rv_memory.proofs.Marked.{bytes_low_first-length}
use Rattle.rv_hart.specs.Effect.{After, after, after_branch, gives, jumps, after_load, next, offset, plain, after_store, trapped}
use Rattle.rv_hart.specs.Results.{is_taken, store_width}
use Rattle.rv_hart.specs.State.{State, at_pc, read, write}
use Rattle.rv_hart.specs.Stepped.{after_decoded, after_fetched, stepped}
use Rattle.rv_hart.specs.Stores.{range_decoded, range_fetched, store_range, stored_by, unless}

none_from : (page : ℕ) (ps : List Bool) (a : ℕ) → written_from page ps a 0 ≡ ps
none_from page [] a = refl
none_from page (p ∷ ps) a = rw (none_from (suc page) ps a, or-false p) refl

pages_unless : (o : Option Cause) (m : Memory) (s : State) (a n v : ℕ) → length (bytes_of v n) ≡ n
    → (after_store o (stored m a n v) s m).memory.pages ≡ written_pages m.pages (unless o a n).address (unless o a n).count
pages_unless None m s a n v long = ap (written_pages m.pages a) long
pages_unless (Some cause) m s a n v long = sym (none_from 0 m.pages 0)

same_jump : (d target : ℕ) (s : State) (m : Memory) → (jumps d target s m).memory ≡ m
unfolding jumps
same_jump d target s m = go (target % 4 == 0)
  where
    go : (b : Bool) → (if b then plain (at_pc (write s d (next s)) target) m else trapped InstructionMisaligned s m).memory ≡ m
    go true = refl
    go false = refl

same_branch : (target : ℕ) (s : State) (m : Memory) → (after_branch target s m).memory ≡ m
unfolding after_branch
same_branch target s m = go (target % 4 == 0)
  where
    go : (b : Bool) → (if b then plain (at_pc s target) m else trapped InstructionMisaligned s m).memory ≡ m
    go true = refl
    go false = refl

same_give : (d value : ℕ) (s : State) (m : Memory) → (gives d value s m).memory ≡ m
unfolding gives
same_give d value s m = refl

same_load : (o : Option Cause) (op : LoadOp) (d a : ℕ) (s : State) (m : Memory) → (after_load o op d a s m).memory ≡ m
same_load None op d a s m = same_give d _ s m
same_load (Some cause) op d a s m = refl

either : (b : Bool) (x y : After) (m : Memory) → x.memory ≡ m → y.memory ≡ m → (if b then x else y).memory ≡ m
either true x y m one two = one
either false x y m one two = two

-- where the memory stays so do its pages
kept : (x : After) (m : Memory) → x.memory ≡ m → x.memory.pages ≡ written_pages m.pages 0 0
kept x m same = ap (λ (y : Memory). y.pages) same ∙ sym (none_from 0 m.pages 0)

pages_by : (i : Instr) (s : State) (m : Memory)
    → (after i s m).memory.pages ≡ written_pages m.pages (stored_by i s m).address (stored_by i s m).count
pages_by (Store op r t off) s m =
    let a = offset (read s r) off in
    let n = size_of (store_width op) in
    pages_unless (store_trap m a n) m s a n (read s t) (bytes_low_first-length 0 n (read s t))
pages_by (Upper op d imm) s m = kept (after (Upper op d imm) s m) m (same_give d _ s m)
pages_by (Jal d off) s m = kept (after (Jal d off) s m) m (same_jump d _ s m)
pages_by (Jalr d r off) s m = kept (after (Jalr d r off) s m) m (same_jump d _ s m)
pages_by (Branch op r t off) s m =
    kept (after (Branch op r t off) s m) m (either (is_taken op (read s r) (read s t)) _ _ m (same_branch _ s m) refl)
pages_by (Load op d r off) s m = kept (after (Load op d r off) s m) m (same_load _ op d _ s m)
pages_by (Imm op d r imm) s m = kept (after (Imm op d r imm) s m) m (same_give d _ s m)
pages_by (Shift op d r amount) s m = kept (after (Shift op d r amount) s m) m (same_give d _ s m)
pages_by (Arith op d r t) s m = kept (after (Arith op d r t) s m) m (same_give d _ s m)
pages_by Fence s m = kept (after Fence s m) m refl
pages_by Ecall s m = kept (after Ecall s m) m refl
pages_by Ebreak s m = kept (after Ebreak s m) m refl

pages_decoded : (o : Option Instr) (s : State) (m : Memory)
    → (after_decoded o s m).memory.pages
    ≡ written_pages m.pages (range_decoded o s m).address (range_decoded o s m).count
pages_decoded None s m = kept (after_decoded None s m) m refl
pages_decoded (Some i) s m = pages_by i s m

pages_fetched : (o : Option ℕ) (s : State) (m : Memory)
    → (after_fetched o s m).memory.pages
    ≡ written_pages m.pages (range_fetched o s m).address (range_fetched o s m).count
pages_fetched None s m = kept (after_fetched None s m) m refl
pages_fetched (Some word) s m = pages_decoded (decoded word) s m

pub stepped_pages : (s : State) (m : Memory)
    → (stepped s m).memory.pages ≡ written_pages m.pages (store_range s m).address (store_range s m).count
unfolding stepped store_range
stepped_pages s m = pages_fetched (word_at m s.pc) s m
