-- What changes come to, done one after another, and undone, the last first.
use Rattle.std.specs.Prelude.{ℕ, zero, suc, ◌-◌, List, [], ◌∷◌, ◌++◌, length, slice_set, take}
use Rattle.rvmc_changes.specs.declared.edits.Edit.{Edit}
use Rattle.rvmc_changes.specs.Changes.{Difference}
use Rattle.rvmc_changes.specs.Seen.{SeenHart, SeenRank}

-- ---- edits

-- the list with what stands there now
abbrev pub with_new : List Edit → List ℕ → List ℕ
with_new [] xs = xs
with_new (e ∷ es) xs = with_new es (slice_set xs e.place e.new)

-- and with what stood there
abbrev pub with_old : List Edit → List ℕ → List ℕ
with_old [] xs = xs
with_old (e ∷ es) xs = slice_set (with_old es xs) e.place e.old

-- another item at a place, made from the one there
abbrev pub at_place : {A : Type 0} → ℕ → (A → A) → List A → List A
at_place place f [] = []
at_place zero f (x ∷ xs) = f x ∷ xs
at_place (suc place) f (x ∷ xs) = x ∷ at_place place f xs

-- ---- changes, done and undone

abbrev pub done_to_hart : Difference → SeenHart → SeenHart
done_to_hart d hart =
    record { registers = with_new d.registers hart.registers; pc = d.new.pc; mode = d.new.mode }

abbrev pub done_to_rank : Difference → SeenRank → SeenRank
done_to_rank d rank = record {
  harts = at_place d.hart (done_to_hart d) rank.harts;
  bytes = with_new d.bytes rank.bytes;
  out = rank.out ++ d.put;
}

abbrev pub done : Difference → List SeenRank → List SeenRank
done d ranks = at_place d.rank (done_to_rank d) ranks

abbrev pub undone_to_hart : Difference → SeenHart → SeenHart
undone_to_hart d hart =
    record { registers = with_old d.registers hart.registers; pc = d.old.pc; mode = d.old.mode }

abbrev pub undone_to_rank : Difference → SeenRank → SeenRank
undone_to_rank d rank = record {
  harts = at_place d.hart (undone_to_hart d) rank.harts;
  bytes = with_old d.bytes rank.bytes;
  out = take (length rank.out - length d.put) rank.out;
}

abbrev pub undone : Difference → List SeenRank → List SeenRank
undone d ranks = at_place d.rank (undone_to_rank d) ranks

abbrev pub all_done : List Difference → List SeenRank → List SeenRank
all_done [] ranks = ranks
all_done (d ∷ ds) ranks = all_done ds (done d ranks)

-- the last first
abbrev pub all_undone : List Difference → List SeenRank → List SeenRank
all_undone [] ranks = ranks
all_undone (d ∷ ds) ranks = undone d (all_undone ds ranks)
