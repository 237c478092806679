-- A hart has 32 registers in every state that a rank reaches.
use Rattle.std.specs.Prelude.{ℕ, zero, suc, ◌+◌, ◌<◌, ◌≡◌, ◌%◌, ◌==◌, List, [], ◌∷◌, ◌++◌, length, set, get_or, Bool, true, false}
use Rattle.std.specs.Prelude.{if◌then◌else◌, Option, None, Some}
use Rattle.std.proofs.Common.{refl, sym, ap, ◌∙◌, subst, arith}
use Rattle.std.proofs.Math.ListN.{length-set}
use Rattle.std.proofs.lemmas.Bool.Decides.{eqb_tells}
use Rattle.std.proofs.lemmas.List.{get_or_append_left, get_or-append-add, length-append, get_or-set_same}
use mathlib.Core.Logic.{inl, inr}
use Rattle.rv_image_types.specs.declared.images.ImageParts.{ImageParts}
use Rattle.rv_decode.specs.Decoded.{decoded}
use Rattle.rv_decode.specs.declared.instruction.Instr.{Instr}
use Rattle.rv_decode.specs.declared.instruction.Instr.TheVariants.{Upper, Jal, Jalr, Branch, Load, Store, Imm, Shift}
use Rattle.rv_decode.specs.declared.instruction.Instr.TheVariants.{Arith, Fence, Ecall, Ebreak}
use Rattle.rv_decode.specs.declared.instruction.LoadOp.{LoadOp}
use Rattle.rv_memory.specs.Memory.{Memory}
use Rattle.rv_memory.specs.Access.{word_at, size_of, load_trap, store_trap, stored}
use Rattle.rv_memory.specs.declared.fault.Cause.{Cause}
use Rattle.rv_memory.specs.declared.fault.Cause.TheVariants.{InstructionMisaligned}
use Rattle.rv_hart.specs.State.{State, at_pc, read, start_state, write}
use Rattle.rv_hart.specs.Effect.{After, after, after_branch, after_load, after_store, even, gives, jumps, next, offset}
use Rattle.rv_hart.specs.Effect.{plain, trapped}
use Rattle.rv_hart.specs.Results.{arith_result, imm_result, is_taken, load_width, shift_result, store_width, upper_result}
use Rattle.rv_hart.specs.Stepped.{after_decoded, after_fetched, stepped}
use Rattle.cl_state.specs.declared.asking.Answer.{Answer}
use Rattle.cl_state.specs.declared.asking.Doing.{Doing}
use Rattle.cl_state.specs.declared.asking.Doing.TheVariants.{Step, Refused, Go, Poll, Stopped}
use Rattle.cl_state.specs.Asked.{doing, no_hart, part_of}
use Rattle.cl_state.specs.Rank.{Rank, loaded, start_harts}
use Rattle.cl_state.specs.Told.{returned, told, told_in}
use Rattle.cl_state_laws.specs.Leaves.{IsLeft, has_returned, is_waiting, has_ended, is_kept}
use Rattle.cl_state_laws.specs.Registers.{HasRegisters, RegistersLaw, Turn, after_turns}
use Rattle.cl_state_laws.proofs.Leaves.{hart_law, left_hart}

kept_write : (s : State) (d v : ℕ) → length (write s d v).regs ≡ length s.regs
kept_write s d v = go (d == 0)
  where
    go : (b : Bool) → length (if b then s.regs else set s.regs d v) ≡ length s.regs
    go true = refl
    go false = length-set s.regs d v

-- ---- an instruction

module _ (s : State) (m : Memory) where
  abbrev Keeps : After → Type 0
  Keeps a = length a.state.regs ≡ length s.regs

  by_gives : (d v : ℕ) → Keeps (gives d v s m)
  unfolding gives
  by_gives d v = kept_write s d v

  by_jumps : (d target : ℕ) → Keeps (jumps d target s m)
  unfolding jumps
  by_jumps d target = go (target % 4 == 0)
    where
      go : (b : Bool)
          → Keeps (if b then plain (at_pc (write s d (next s)) target) m else trapped InstructionMisaligned s m)
      go true = kept_write s d (next s)
      go false = refl

  by_branch : (target : ℕ) → Keeps (after_branch target s m)
  unfolding after_branch
  by_branch target = go (target % 4 == 0)
    where
      go : (b : Bool) → Keeps (if b then plain (at_pc s target) m else trapped InstructionMisaligned s m)
      go true = refl
      go false = refl

  by_choice : (b : Bool) (target : ℕ) → Keeps (if b then after_branch target s m else plain (at_pc s (next s)) m)
  by_choice true target = by_branch target
  by_choice false target = refl

  by_load : (o : Option Cause) (op : LoadOp) (d address : ℕ) → Keeps (after_load o op d address s m)
  by_load None op d address = by_gives d _
  by_load (Some cause) op d address = refl

  by_store : (o : Option Cause) (new : Memory) → Keeps (after_store o new s m)
  by_store None new = refl
  by_store (Some cause) new = refl

  by_instruction : (i : Instr) → Keeps (after i s m)
  by_instruction (Upper op d imm) = by_gives d (upper_result op s.pc imm)
  by_instruction (Jal d off) = by_jumps d (offset s.pc off)
  by_instruction (Jalr d r off) = by_jumps d (even (offset (read s r) off))
  by_instruction (Branch op r t off) = by_choice (is_taken op (read s r) (read s t)) (offset s.pc off)
  by_instruction (Load op d r off) =
      let address = offset (read s r) off in
      by_load (load_trap m address (size_of (load_width op))) op d address
  by_instruction (Store op r t off) =
      let address = offset (read s r) off in
      let size = size_of (store_width op) in
      by_store (store_trap m address size) (stored m address size (read s t))
  by_instruction (Imm op d r imm) = by_gives d (imm_result op (read s r) imm)
  by_instruction (Shift op d r amount) = by_gives d (shift_result op (read s r) amount)
  by_instruction (Arith op d r t) = by_gives d (arith_result op (read s r) (read s t))
  by_instruction Fence = refl
  by_instruction Ecall = refl
  by_instruction Ebreak = refl

  by_decoded : (o : Option Instr) → Keeps (after_decoded o s m)
  by_decoded None = refl
  by_decoded (Some i) = by_instruction i

  by_fetched : (o : Option ℕ) → Keeps (after_fetched o s m)
  by_fetched None = refl
  by_fetched (Some word) = by_decoded (decoded word)

  by_step : Keeps (stepped s m)
  unfolding stepped
  by_step = by_fetched (word_at m s.pc)

-- ---- a turn

kept_returned : (old new : State) → IsLeft old new → length new.regs ≡ length old.regs
unfolding returned
kept_returned old new (has_returned c value e) =
    ap (λ (s : State). length s.regs) e ∙ (length-set _ 11 value ∙ length-set old.regs 10 _)
kept_returned old new (is_waiting w e) = ap (λ (s : State). length s.regs) e
kept_returned old new (has_ended value e) = ap (λ (s : State). length s.regs) e
kept_returned old new (is_kept e) = ap (λ (s : State). length s.regs) e

kept_doing : (rank : Rank) (hart : ℕ) (a : Answer) (d : Doing)
    → length (told_in rank.site hart d a (part_of rank hart)).hart.regs ≡ length (part_of rank hart).hart.regs
kept_doing rank hart a Step = by_step (part_of rank hart).hart rank.memory
kept_doing rank hart a (Refused c) = kept_returned _ _ (left_hart rank hart a (Refused c) tt)
kept_doing rank hart a (Go c) = kept_returned _ _ (left_hart rank hart a (Go c) tt)
kept_doing rank hart a (Poll c post) = kept_returned _ _ (left_hart rank hart a (Poll c post) tt)
kept_doing rank hart a Stopped = kept_returned _ _ (left_hart rank hart a Stopped tt)

as_many : (rank : Rank) (hart : ℕ) (a : Answer) (stamp : ℕ)
    → length (told rank hart a stamp).harts ≡ length rank.harts
unfolding told
as_many rank hart a stamp = length-set rank.harts hart _

kept : (rank : Rank) (hart : ℕ) (a : Answer) (stamp : ℕ) → HasRegisters rank → HasRegisters (told rank hart a stamp)
unfolding told
kept rank hart a stamp has other there =
    elim (eqb_tells other hart) [
      | inl same ↦ subst (λ h. length (part_of (told rank hart a stamp) h).hart.regs ≡ 32) (sym same.1)
          (ap (λ (s : State). length s.regs) (get_or-set_same rank.harts hart
          (told_in rank.site hart (doing rank.site (part_of rank hart)) a (part_of rank hart)).hart no_hart
          (subst (λ h. h < length rank.harts) same.1 low))
          ∙ (kept_doing rank hart a (doing rank.site (part_of rank hart))
          ∙ has hart (subst (λ h. h < length rank.harts) same.1 low)))
      | inr apart ↦ ap (λ (s : State). length s.regs) (hart_law.others rank hart other a stamp apart.1) ∙ has other low
    ]
  where
    low : other < length rank.harts
    low = (let n = as_many rank hart a stamp in omega (arith, n, there))

-- ---- from the start

start_registers : (entry memory hart rank : ℕ) → length (start_state entry memory hart rank).regs ≡ 32
start_registers entry memory hart rank = refl

first_of : (image : ImageParts) (number n hart : ℕ) → hart < length (start_harts image number n)
    → length (get_or (start_harts image number n) hart no_hart).regs ≡ 32
first_of image number zero hart there = absurd (omega (arith, there))
first_of image number (suc n) hart there =
    elim (eqb_tells hart (length before)) [
      | inl same ↦ ap (λ (s : State). length s.regs)
          (ap (λ h. get_or (before ++ last ∷ []) h no_hart) (same.1 ∙ plus_none)
          ∙ get_or-append-add before (last ∷ []) 0 no_hart)
      | inr apart ↦ (let here : hart < length before = omega (arith, there, apart.1, length-append before (last ∷ [])) in
          ap (λ (s : State). length s.regs) (get_or_append_left before (last ∷ []) no_hart hart here)
          ∙ first_of image number n hart here)
    ]
  where
    before : List State
    before = start_harts image number n

    last : State
    last = start_state image.entry image.memory n number

    plus_none : length before ≡ length before + 0
    plus_none = omega arith

first : (image : ImageParts) (number : ℕ) → HasRegisters (loaded image number)
first image number hart there = first_of image number image.harts hart there

along : (turns : List Turn) (rank : Rank) → HasRegisters rank → HasRegisters (after_turns rank turns)
along [] rank has = has
along (t ∷ ts) rank has =
    along ts (told rank t.hart t.answer t.stamp) (kept rank t.hart t.answer t.stamp has)

pub registers : RegistersLaw
registers = record {
  first = first;
  kept = kept;
  reached = λ rank is.
      subst HasRegisters (sym is.is) (along is.turns (loaded is.image is.number) (first is.image is.number));
}
