-- How phases begin and end.
use Rattle.std.proofs.Common.{◌≡◌, ◌≢◌, ℕ, zero, suc, ◌+◌, ◌<◌, ◌≤◌, ◌==◌, set, get_or, replicate, Bool, true, false}
use Rattle.std.proofs.Common.{Some, None, refl, sym, ap, ◌∙◌, ⊎_elim, arith, get_or-set_other, get_or-set_same}
use Rattle.std.specs.Prelude.{is_some, nat_le, not, if◌then◌else◌}
use Rattle.std.proofs.lemmas.Bool.{cases_eq}
use Rattle.part_phase.specs.declared.receiving.RecvPhase.{RecvPhase}
use Rattle.part_phase.specs.declared.sending.SendPhase.{SendPhase}
use Rattle.part_phase.specs.Laws.{BegunReceivingLaw, BegunSendingLaw, LastFreedLaw, LastTakenLaw, NextToFreeLaw}
use Rattle.part_phase.specs.Laws.{OneTakenLaw}
use Rattle.part_phase.specs.Receiving.{lowest_from, is_left, are_left, one_taken, next_box, begun_receiving}
use Rattle.part_phase.specs.Sending.{none_marked, all_freed, begun_sending, is_last, is_part_ready, next_to_free, one_freed}
use Rattle.part_phase.proofs.Lowest.{none_of, some_of, first_passes}

none_at : (n i : ℕ) → get_or (replicate n false) i false ≡ false
none_at zero i = refl
none_at (suc n) zero = refl
none_at (suc n) (suc i) = none_at n i

unmarked : (i : ℕ) → get_or none_marked i false ≡ false
unmarked i = none_at 16 i

not_le : (a b : ℕ) → b < a → nat_le a b ≡ false
not_le a b low = grind arith

is_le : (a b : ℕ) → a ≤ b → nat_le a b ≡ true
is_le a b low = grind arith

le_not : (a b : ℕ) → nat_le a b ≡ false → b < a
le_not a b e = grind arith

same_is : (a b : ℕ) → a ≡ b → (a == b) ≡ true
same_is a b e = grind arith

pub begun_send : BegunSendingLaw
begun_send p ended some =
    let new : SendPhase = record p { ready = none_marked; freed = 0 } in
    let is : begun_sending p ≡ new = ap (λ (b : Bool). if b then new else p) ended in
    let going : all_freed new ≡ false = not_le p.parts 0 some in
    let next = ap next_to_free is ∙ ap (λ (b : Bool). if b then None else Some 0) going in
    (next, λ part. ap (λ q. is_part_ready q part) is ∙ unmarked part)

pub begun_receive : BegunReceivingLaw
begun_receive p idle some =
    let new : RecvPhase = record p { active = true; taken = none_marked } in
    let is : begun_receiving p ≡ new = ap (λ (b : Bool). if b then p else new) idle in
    let next = ap next_box is ∙ first_passes (is_left none_marked) p.boxes some refl in
    (next, λ box. ap (λ (q : RecvPhase). get_or q.taken box false) is ∙ unmarked box)

pub next_free : NextToFreeLaw
next_free p part is = go (all_freed p) refl
  where
    none_some : None ≡ Some part → ⊥
    none_some e = cc

    go : (b : Bool) → all_freed p ≡ b → part < p.parts
    go true ended = absurd (none_some (sym (ap (λ (b : Bool). if b then None else Some p.freed) ended) ∙ is))
    go false going =
        let here : Some p.freed ≡ Some part = sym (ap (λ (b : Bool). if b then None else Some p.freed) going) ∙ is in
        let same : p.freed ≡ part = cc in
        let less = le_not p.parts p.freed going in omega (arith, same, less)

pub last_freed : LastFreedLaw
last_freed p last =
    let ended : is_last p ≡ true = same_is (p.freed + 1) p.parts last in
    let all : all_freed (one_freed p) ≡ true = is_le p.parts (p.freed + 1) (omega arith) in (
      ap (λ (b : Bool). if b then None else Some (p.freed + 1)) all,
      λ part. ap (λ (b : Bool). get_or (if b then none_marked else p.ready) part false) ended ∙ unmarked part,
    )

pub last_taken : LastTakenLaw
last_taken p box low others =
    let lowest = lowest_from (is_left (one_taken box p).taken) 0 p.boxes in
    (ends, ap (λ (b : Bool). if b then lowest else None) ends)
  where
    fails : (other : ℕ) → other < p.boxes → is_left (set p.taken box true) other ≡ false
    fails other there = ap not (⊎_elim
        (λ (same : other ≡ box).
        ap (λ n. get_or (set p.taken box true) n false) same ∙ get_or-set_same p.taken box true false low)
        (λ (apart : other ≢ box). get_or-set_other p.taken box other true false apart ∙ others other there apart)
        (cases_eq other box))

    ends : (one_taken box p).active ≡ false
    ends = ap is_some (none_of (is_left (set p.taken box true)) 0 p.boxes (λ j _ high. fails j (omega (arith, high))))

pub one_more : OneTakenLaw
one_more p box other low there apart left =
    let stays : is_left (set p.taken box true) other ≡ true =
    ap not (get_or-set_other p.taken box other true false apart ∙ left) in
    let goes : are_left (set p.taken box true) p.boxes ≡ true =
    some_of (is_left (set p.taken box true)) p.boxes other there stays in (
      goes,
      ap (λ (b : Bool). get_or (if b then set p.taken box true else none_marked) box false) goes ∙
          get_or-set_same p.taken box true false low,
    )
