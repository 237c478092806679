-- A step over a memory whose pages were made first is the step.
use Rattle.std.proofs.Common.{◌≡◌, ℕ, refl, ap, sym, ◌∙◌, arith}
use Rattle.std.specs.Prelude.{Option, Some, None, Bool, true, false, ◌||◌, IsTrue, if◌then◌else◌, not}
use Rattle.rv_decode.specs.Decoded.{decoded}
use Rattle.rv_decode.specs.declared.instruction.Instr.{Instr}
use Rattle.rv_decode.specs.declared.instruction.Instr.TheVariants.{Upper, Jal, Jalr, Branch, Load, Store, Imm, Shift}
use Rattle.rv_decode.specs.declared.instruction.Instr.TheVariants.{Arith, Fence, Ecall, Ebreak}
use Rattle.rv_memory.specs.Memory.{Memory}
use Rattle.rv_memory.specs.MorePages.{with_pages}
use Rattle.rv_memory.specs.Access.{size_of, store_trap, stored, word_at, is_inside}
use Rattle.rv_memory.specs.declared.fault.Cause.{Cause}
use Rattle.rv_memory.proofs.Marked.{with_no_pages, stored-with_pages, missing_from-written}
use Rattle.rv_hart.specs.Results.{store_width}
use Rattle.rv_hart.specs.State.{State, read}
use Rattle.rv_hart.specs.Effect.{After, after, after_store, offset, trapped}
use Rattle.rv_hart.specs.Stepped.{stepped, after_decoded, after_fetched}
use Rattle.rv_hart.specs.Stores.{unless, store_at, stored_by, range_decoded, range_fetched, store_range, nothing, IsThere}
use Rattle.rv_hart.specs.declared.stores.StoreRange.{StoreRange}

-- the memory with the pages of a range
abbrev pub placed : Memory → StoreRange → Memory
placed m range = with_pages m range.address range.count

store-placed : (trap : Option Cause) (address size value : ℕ) (s : State) (m : Memory) → store_trap m address size ≡ trap
    → after_store (store_trap m address size) (stored (placed m (unless trap address size)) address size value) s (placed m (unless trap address size))
    ≡ after_store (store_trap m address size) (stored m address size value) s m
store-placed None address size value s m e = rw (e, stored-with_pages m address size value) refl
store-placed (Some cause) address size value s m e = rw e (ap (trapped cause s) (with_no_pages m 0))

after-placed : (i : Instr) (s : State) (m : Memory) → after i s (placed m (stored_by i s m)) ≡ after i s m
after-placed (Store op r t off) s m =
    store-placed (store_trap m (offset (read s r) off) (size_of (store_width op))) (offset (read s r) off) (size_of (store_width op)) (read s t) s m refl
after-placed (Upper op d imm) s m = ap (after (Upper op d imm) s) (with_no_pages m 0)
after-placed (Jal d off) s m = ap (after (Jal d off) s) (with_no_pages m 0)
after-placed (Jalr d r off) s m = ap (after (Jalr d r off) s) (with_no_pages m 0)
after-placed (Branch op r t off) s m = ap (after (Branch op r t off) s) (with_no_pages m 0)
after-placed (Load op d r off) s m = ap (after (Load op d r off) s) (with_no_pages m 0)
after-placed (Imm op d r imm) s m = ap (after (Imm op d r imm) s) (with_no_pages m 0)
after-placed (Shift op d r amount) s m = ap (after (Shift op d r amount) s) (with_no_pages m 0)
after-placed (Arith op d r t) s m = ap (after (Arith op d r t) s) (with_no_pages m 0)
after-placed Fence s m = ap (after Fence s) (with_no_pages m 0)
after-placed Ecall s m = ap (after Ecall s) (with_no_pages m 0)
after-placed Ebreak s m = ap (after Ebreak s) (with_no_pages m 0)

after_decoded-placed : (i : Option Instr) (s : State) (m : Memory) → after_decoded i s (placed m (range_decoded i s m)) ≡ after_decoded i s m
after_decoded-placed None s m = ap (after_decoded None s) (with_no_pages m 0)
after_decoded-placed (Some i) s m = after-placed i s m

after_fetched-placed : (word : Option ℕ) (s : State) (m : Memory) → after_fetched word s (placed m (range_fetched word s m)) ≡ after_fetched word s m
after_fetched-placed None s m = ap (after_fetched None s) (with_no_pages m 0)
after_fetched-placed (Some word) s m = after_decoded-placed (decoded word) s m

pub stepped-placed : (s : State) (m : Memory) → stepped s (placed m (store_range s m)) ≡ stepped s m
unfolding stepped store_range
stepped-placed s m = after_fetched-placed (word_at m s.pc) s m

-- pages that are made don't change what is stored
stored_by-placed : (i : Instr) (s : State) (m : Memory) (range : StoreRange) → stored_by i s (placed m range) ≡ stored_by i s m
stored_by-placed (Store op r t off) s m range = refl
stored_by-placed (Upper op d imm) s m range = refl
stored_by-placed (Jal d off) s m range = refl
stored_by-placed (Jalr d r off) s m range = refl
stored_by-placed (Branch op r t off) s m range = refl
stored_by-placed (Load op d r off) s m range = refl
stored_by-placed (Imm op d r imm) s m range = refl
stored_by-placed (Shift op d r amount) s m range = refl
stored_by-placed (Arith op d r t) s m range = refl
stored_by-placed Fence s m range = refl
stored_by-placed Ecall s m range = refl
stored_by-placed Ebreak s m range = refl

range_decoded-placed : (i : Option Instr) (s : State) (m : Memory) (range : StoreRange) → range_decoded i s (placed m range) ≡ range_decoded i s m
range_decoded-placed None s m range = refl
range_decoded-placed (Some i) s m range = stored_by-placed i s m range

range_fetched-placed : (word : Option ℕ) (s : State) (m : Memory) (range : StoreRange) → range_fetched word s (placed m range) ≡ range_fetched word s m
range_fetched-placed None s m range = refl
range_fetched-placed (Some word) s m range = range_decoded-placed (decoded word) s m range

pub store_range-placed : (s : State) (m : Memory) (range : StoreRange) → store_range s (placed m range) ≡ store_range s m
unfolding store_range
store_range-placed s m range = range_fetched-placed (word_at m s.pc) s m range

-- what doesn't trap is in the memory
inside-of : (aligned inside : Bool) (misaligned outside : Cause) (rest : Option Cause)
    → (if not aligned then Some misaligned else (if not inside then Some outside else rest)) ≡ None → inside ≡ true
inside-of aligned true misaligned outside rest e = refl
inside-of true false misaligned outside rest e = grind arith
inside-of false false misaligned outside rest e = grind arith

or-true : (a : Bool) → (a || true) ≡ true
or-true true = refl
or-true false = refl

there-unless : (trap : Option Cause) (address size : ℕ) (m : Memory) → store_trap m address size ≡ trap → IsThere (placed m (unless trap address size)) (unless trap address size)
there-unless None address size m e =
    let inside : is_inside m address size ≡ true = inside-of _ (is_inside m address size) _ _ _ e in
    rw (inside, missing_from-written 0 m.pages address size) (or-true _)
there-unless (Some cause) address size m e = refl

there-stored : (i : Instr) (s : State) (m : Memory) → IsThere (placed m (stored_by i s m)) (stored_by i s m)
there-stored (Store op r t off) s m = there-unless (store_trap m (offset (read s r) off) (size_of (store_width op))) (offset (read s r) off) (size_of (store_width op)) m refl
there-stored (Upper op d imm) s m = refl
there-stored (Jal d off) s m = refl
there-stored (Jalr d r off) s m = refl
there-stored (Branch op r t off) s m = refl
there-stored (Load op d r off) s m = refl
there-stored (Imm op d r imm) s m = refl
there-stored (Shift op d r amount) s m = refl
there-stored (Arith op d r t) s m = refl
there-stored Fence s m = refl
there-stored Ecall s m = refl
there-stored Ebreak s m = refl

there-decoded : (i : Option Instr) (s : State) (m : Memory) → IsThere (placed m (range_decoded i s m)) (range_decoded i s m)
there-decoded None s m = refl
there-decoded (Some i) s m = there-stored i s m

there-fetched : (word : Option ℕ) (s : State) (m : Memory) → IsThere (placed m (range_fetched word s m)) (range_fetched word s m)
there-fetched None s m = refl
there-fetched (Some word) s m = there-decoded (decoded word) s m

-- pages that are made are there
pub there-placed : (s : State) (m : Memory) → IsThere (placed m (store_range s m)) (store_range s m)
unfolding store_range
there-placed s m = there-fetched (word_at m s.pc) s m
