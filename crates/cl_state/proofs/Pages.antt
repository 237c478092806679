-- Pages that are there stay, and spare pages that are enough stay so.
use Rattle.std.proofs.Common.{◌≡◌, ◌≤◌, ◌<◌, ◌+◌, ◌*◌, ◌&&◌, ◌||◌, ℕ, suc, refl, ap, sym, ◌∙◌, subst, Bool, true, false, List, [], ◌∷◌, ◌++◌, arith}
use Rattle.std.specs.Prelude.{◌==◌, ◌↔◌, ◌≢◌, nat_lt, not, if◌then◌else◌, length, Result, Ok, Err, OnOk, OnErr}
use Rattle.std.proofs.lemmas.Bool.{ltb-true, lt-ltb}
use Rattle.std.proofs.Math.Dec.{leb}
use Rattle.std.proofs.Math.Bool.{or-false}
use Rattle.std.proofs.lemmas.Bool.{ne_eqb}
use Rattle.rv_hart.specs.State.{State}
use Rattle.rv_hart.specs.Stepped.{stepped}
use Rattle.rv_hart.specs.Stores.{store_range}
use Rattle.rv_memory.specs.Access.{is_writable}
use Rattle.rv_memory.specs.Present.{IsWritable}
use Rattle.rv_memory.specs.declared.fault.BytesFault.{BytesFault}
use Rattle.rv_memory.specs.declared.fault.BytesFault.TheVariants.{Range, Memory as NoMemory}
use Rattle.rv_memory.specs.Memory.{Memory, with_bytes}
use Rattle.rv_memory.specs.Pages.{touches, written_from, written_pages}
use Rattle.rv_memory.specs.MorePages.{missing_from, missing_pages}
use Rattle.cl_state.specs.declared.writes.Range.{Range as Bytes}
use Rattle.cl_state.proofs.Stepped.{stepped_pages}
use Rattle.cl_state.specs.Written.{written}
use Rattle.cl_state.specs.Writes.{IsEnough, bytes_from, how_many, missing_for, written_for}

-- each page that is there in the first list is there in the second
abbrev pub Within : List Bool → List Bool → Type 0
Within [] [] = Unit {0}
Within [] (q ∷ qs) = ⊥
Within (p ∷ ps) [] = ⊥
Within (p ∷ ps) (q ∷ qs) = (p ≡ true → q ≡ true) × Within ps qs

both_left : (a b : Bool) → (a && b) ≡ true → a ≡ true
both_left true b is = refl
both_left false b is = cc

both_right : (a b : Bool) → (a && b) ≡ true → b ≡ true
both_right true b is = is
both_right false b is = cc

both : (a b : Bool) → a ≡ true → b ≡ true → (a && b) ≡ true
both a b one two = rw one two

-- more bytes touch no fewer pages
touches_more : (a m n page : ℕ) → m ≤ n → touches a m page ≡ true → touches a n page ≡ true
touches_more a m n page most is =
    let some = ltb-true 0 m (both_left (nat_lt 0 m) _ is) in
    let rest = both_right (nat_lt 0 m) _ is in
    let before = ltb-true (page * 4096) (a + m) (both_left (nat_lt (page * 4096) (a + m)) _ rest) in
    let behind = both_right (nat_lt (page * 4096) (a + m)) _ rest in
    both (nat_lt 0 n) _ (lt-ltb 0 n (omega (arith, some, most)))
    (both (nat_lt (page * 4096) (a + n)) _ (lt-ltb (page * 4096) (a + n) (omega (arith, before, most))) behind)

either : (p q s t : Bool) → (p ≡ true → q ≡ true) → (s ≡ true → t ≡ true) → (p || s) ≡ true → (q || t) ≡ true
either true q s t first second is = rw (first refl) refl
either false true s t first second is = refl
either false false s t first second is = second is

-- what is there stays there
pub stays : (page : ℕ) (ps : List Bool) (a n : ℕ) → Within ps (written_from page ps a n)
stays page [] a n = tt
stays page (p ∷ ps) a n = ((λ is. rw is refl), stays (suc page) ps a n)

pub grows : (page : ℕ) (ps qs : List Bool) (a m n : ℕ) → Within ps qs → m ≤ n
    → Within (written_from page ps a m) (written_from page qs a n)
grows page [] [] a m n inside most = tt
grows page [] (q ∷ qs) a m n inside most = absurd inside
grows page (p ∷ ps) [] a m n inside most = absurd inside
grows page (p ∷ ps) (q ∷ qs) a m n inside most = (
  either p q (touches a m page) (touches a n page) inside.0 (touches_more a m n page most),
  grows (suc page) ps qs a m n inside.1 most,
)

pub same_within : (ps : List Bool) → Within ps ps
same_within [] = tt
same_within (p ∷ ps) = ((λ is. is), same_within ps)

counted : (ps qs : List Bool) → Within ps qs → how_many ps ≤ how_many qs
counted [] [] inside = omega arith
counted [] (q ∷ qs) inside = absurd inside
counted (p ∷ ps) [] inside = absurd inside
counted (true ∷ ps) (true ∷ qs) inside = omega (arith, counted ps qs inside.1)
counted (true ∷ ps) (false ∷ qs) inside = let never : false ≡ true = inside.0 refl in cc
counted (false ∷ ps) (true ∷ qs) inside = omega (arith, counted ps qs inside.1)
counted (false ∷ ps) (false ∷ qs) inside = counted ps qs inside.1

-- those that were missing are there
made_one : (t p : Bool) (m h w : ℕ) (ps qs : List Bool) → m + how_many ps ≡ how_many qs
    → (if (t && not p) then 1 else 0) + m + how_many (p ∷ ps) ≡ how_many ((p || t) ∷ qs)
made_one true true m h w ps qs is = omega (arith, is)
made_one true false m h w ps qs is = omega (arith, is)
made_one false true m h w ps qs is = omega (arith, is)
made_one false false m h w ps qs is = omega (arith, is)

made : (page : ℕ) (ps : List Bool) (a n : ℕ)
    → missing_from page ps a n + how_many ps ≡ how_many (written_from page ps a n)
made page [] a n = refl
made page (p ∷ ps) a n =
    made_one (touches a n page) p (missing_from (suc page) ps a n) 0 0 ps (written_from (suc page) ps a n)
    (made (suc page) ps a n)

pub all_made : (ps : List Bool) (a n : ℕ) → missing_pages ps a n + how_many ps ≡ how_many (written_pages ps a n)
all_made ps a n = made 0 ps a n

fewer_one : (s t p q : Bool) (m n : ℕ) → (p ≡ true → q ≡ true) → (s ≡ true → t ≡ true) → m ≤ n
    → (if (s && not q) then 1 else 0) + m ≤ (if (t && not p) then 1 else 0) + n
fewer_one false t p q m n there touch few = omega (arith, few)
fewer_one true t p true m n there touch few = omega (arith, few)
fewer_one true t true false m n there touch few = let never : false ≡ true = there refl in cc
fewer_one true t false false m n there touch few = rw (touch refl) (omega (arith, few))

-- where more is there less is missing
fewer : (page : ℕ) (ps qs : List Bool) (a m n : ℕ) → Within ps qs → m ≤ n
    → missing_from page qs a m ≤ missing_from page ps a n
fewer page [] [] a m n inside most = omega arith
fewer page [] (q ∷ qs) a m n inside most = absurd inside
fewer page (p ∷ ps) [] a m n inside most = absurd inside
fewer page (p ∷ ps) (q ∷ qs) a m n inside most =
    fewer_one (touches a m page) (touches a n page) p q _ _ inside.0 (touches_more a m n page most)
    (fewer (suc page) ps qs a m n inside.1 most)

all_fewer : (ps qs : List Bool) (rs : List Bytes) → Within ps qs → missing_for qs rs ≤ missing_for ps rs
all_fewer ps qs [] inside = omega arith
all_fewer ps qs (r ∷ rs) inside =
    omega (arith, fewer 0 ps qs r.address r.count r.count inside (omega arith), all_fewer ps qs rs inside)

-- ---- several ranges

all_grow : (ps qs : List Bool) (rs : List Bytes) → Within ps qs → Within (written_for ps rs) (written_for qs rs)
all_grow ps qs [] inside = inside
all_grow ps qs (r ∷ rs) inside =
    all_grow (written_pages ps r.address r.count) (written_pages qs r.address r.count) rs
    (grows 0 ps qs r.address r.count r.count inside (omega arith))

all_stay : (ps qs : List Bool) (rs : List Bytes) → Within ps qs → Within ps (written_for qs rs)
all_stay ps qs [] inside = inside
all_stay ps qs (r ∷ rs) inside =
    all_stay ps (written_pages qs r.address r.count) rs (joined ps qs (written_pages qs r.address r.count) inside
    (stays 0 qs r.address r.count))
  where
    joined : (xs ys zs : List Bool) → Within xs ys → Within ys zs → Within xs zs
    joined [] [] [] one two = tt
    joined [] [] (z ∷ zs) one two = absurd two
    joined [] (y ∷ ys) zs one two = absurd one
    joined (x ∷ xs) [] zs one two = absurd one
    joined (x ∷ xs) (y ∷ ys) [] one two = absurd two
    joined (x ∷ xs) (y ∷ ys) (z ∷ zs) one two = ((λ is. two.0 (one.0 is)), joined xs ys zs one.1 two.1)

-- as many spare pages as are missing are enough
pub enough_missing : (ps : List Bool) (spares : ℕ) (rs : List Bytes) → missing_for ps rs ≤ spares → IsEnough ps spares rs
enough_missing ps spares rs few = omega (arith, few, most ps rs)
  where
    most : (ps : List Bool) (rs : List Bytes) → how_many (written_for ps rs) ≤ how_many ps + missing_for ps rs
    most ps [] = omega arith
    most ps (r ∷ rs) =
        omega (
          arith,
          most (written_pages ps r.address r.count) rs,
          all_made ps r.address r.count,
          all_fewer ps (written_pages ps r.address r.count) rs (stays 0 ps r.address r.count),
        )

-- enough for all is enough for the first of them, or for fewer bytes there
pub enough_first : (ps : List Bool) (spares a c n : ℕ) (rs : List Bytes) → IsEnough ps spares (bytes_from a c ∷ rs)
    → n ≤ c → missing_pages ps a n ≤ spares
enough_first ps spares a c n rs enough few =
    omega (
      arith,
      enough,
      all_made ps a c,
      fewer 0 ps ps a n c (same_within ps) few,
      counted (written_pages ps a c) (written_for (written_pages ps a c) rs)
          (all_stay (written_pages ps a c) (written_pages ps a c) rs (same_within (written_pages ps a c))),
    )

pub enough_fewer : (ps : List Bool) (spares a c n : ℕ) (rs : List Bytes) → IsEnough ps spares (bytes_from a c ∷ rs)
    → n ≤ c → IsEnough ps spares (bytes_from a n ∷ rs)
enough_fewer ps spares a c n rs enough few =
    omega (
      arith,
      enough,
      counted (written_for (written_pages ps a n) rs) (written_for (written_pages ps a c) rs)
          (all_grow (written_pages ps a n) (written_pages ps a c) rs (grows 0 ps ps a n c (same_within ps) few)),
    )

-- and what is left then is enough for the rest
pub enough_rest : (ps qs : List Bool) (spares left a c : ℕ) (rs : List Bytes) → IsEnough ps spares (bytes_from a c ∷ rs)
    → Within qs (written_pages ps a c) → how_many qs + left ≡ how_many ps + spares → IsEnough qs left rs
enough_rest ps qs spares left a c rs enough inside same =
    omega (
      arith,
      enough,
      same,
      counted (written_for qs rs) (written_for (written_pages ps a c) rs)
          (all_grow qs (written_pages ps a c) rs inside),
    )

-- enough for all is enough for the first alone, or for fewer bytes there
pub enough_head : (ps : List Bool) (spares a c n : ℕ) (rs : List Bytes) → IsEnough ps spares (bytes_from a c ∷ rs)
    → n ≤ c → IsEnough ps spares (bytes_from a n ∷ [])
enough_head ps spares a c n rs enough few =
    omega (arith, enough_first ps spares a c n rs enough few, all_made ps a n)

none_from : (page : ℕ) (ps : List Bool) (a : ℕ) → written_from page ps a 0 ≡ ps
none_from page [] a = refl
none_from page (p ∷ ps) a = rw (none_from (suc page) ps a, or-false p) refl

-- no bytes need no page
pub none_enough : (ps : List Bool) (spares a : ℕ) → IsEnough ps spares (bytes_from a 0 ∷ [])
none_enough ps spares a = rw (none_from 0 ps a) (omega arith)

pub enough_behind : (ps : List Bool) (spares a c : ℕ) (rs : List Bytes) → IsEnough ps spares (bytes_from a c ∷ rs)
    → IsEnough ps spares rs
enough_behind ps spares a c rs enough = enough_rest ps ps spares spares a c rs enough (stays 0 ps a c) refl

missing_both : (ps : List Bool) (xs ys : List Bytes) → missing_for ps (xs ++ ys) ≡ missing_for ps xs + missing_for ps ys
missing_both ps [] ys = omega arith
missing_both ps (x ∷ xs) ys = omega (arith, missing_both ps xs ys)

-- ---- writes

-- bytes that were written made no page but those that they touch
pub written_within : (m : Memory) (a c : ℕ) (bytes : List ℕ) → length bytes ≤ c
    → Within (written m a bytes).pages (written_pages m.pages a c)
written_within m a c bytes few = go (is_writable m a (length bytes)) (length bytes == 0)
  where
    go : (right none : Bool)
        → Within (if right then (if none then m else with_bytes m a bytes) else m).pages (written_pages m.pages a c)
    go true true = stays 0 m.pages a c
    go true false = grows 0 m.pages m.pages a (length bytes) c (same_within m.pages) few
    go false none = stays 0 m.pages a c

-- what is left once bytes were written is enough for the rest
pub enough_left : (m : Memory) (spares left a c : ℕ) (bytes : List ℕ) (rs : List Bytes) (after : Memory)
    → IsEnough m.pages spares (bytes_from a c ∷ rs) → length bytes ≤ c → after ≡ written m a bytes
    → how_many after.pages + left ≡ how_many m.pages + spares → IsEnough after.pages left rs
enough_left m spares left a c bytes rs after enough few is same =
    enough_rest m.pages after.pages spares left a c rs enough
    (subst (λ (x : Memory). Within x.pages (written_pages m.pages a c)) (sym is) (written_within m a c bytes few)) same

is_written : (m : Memory) (a : ℕ) (bytes : List ℕ) → is_writable m a (length bytes) ≡ true → (length bytes ≡ 0 → ⊥)
    → written m a bytes ≡ with_bytes m a bytes
is_written m a bytes right some = rw (right, ne_eqb (length bytes) 0 some) refl

isnt_written : (m : Memory) (a : ℕ) (bytes : List ℕ) → is_writable m a (length bytes) ≡ false → written m a bytes ≡ m
isnt_written m a bytes wrong = rw wrong refl

pub some_bytes : (bytes : List ℕ) (b : Bool) → b ≡ (length bytes == 0) → b ≡ false → length bytes ≡ 0 → ⊥
some_bytes [] b is wrong none = let never : true ≡ false = sym is ∙ wrong in cc
some_bytes (x ∷ xs) b is wrong none = omega (arith, none)

-- what was done, by the answer to a write over spare pages that are enough
pub write_done : {A : Type 0} (r : Result A BytesFault) (m after : Memory) (spares left a : ℕ) (bytes : List ℕ)
    → OnOk r (after ≡ with_bytes m a bytes) → OnOk r (left + missing_pages m.pages a (length bytes) ≡ spares)
    → ((r ≡ Err Range) ↔ ¬ (IsWritable m a (length bytes))) → OnErr r (after ≡ m) → OnErr r (left ≡ spares)
    → (missing_pages m.pages a (length bytes) ≤ spares → r ≢ Err NoMemory)
    → IsEnough m.pages spares (bytes_from a (length bytes) ∷ []) → (length bytes ≡ 0 → ⊥)
    → (after ≡ written m a bytes) × (how_many after.pages + left ≡ how_many m.pages + spares)
write_done (Ok x) m after spares left a bytes done taken range same kept enough room some =
    (done ∙ sym (is_written m a bytes right some), total)
  where
    go : (b : Bool) → is_writable m a (length bytes) ≡ b → b ≡ true
    go true is = refl
    go false is = let e : Ok x ≡ Err Range = range.1 (λ yes. cc) in cc

    right : is_writable m a (length bytes) ≡ true
    right = go (is_writable m a (length bytes)) refl

    total : how_many after.pages + left ≡ how_many m.pages + spares
    total =
        let pages : how_many after.pages ≡ how_many (written_pages m.pages a (length bytes)) =
        ap (λ (x : Memory). how_many x.pages) done in
        omega (arith, pages, taken, all_made m.pages a (length bytes))
write_done (Err Range) m after spares left a bytes done taken range same kept enough room some =
    (same ∙ sym (isnt_written m a bytes wrong), total)
  where
    go : (b : Bool) → is_writable m a (length bytes) ≡ b → b ≡ false
    go true is = absurd (range.0 refl is)
    go false is = refl

    wrong : is_writable m a (length bytes) ≡ false
    wrong = go (is_writable m a (length bytes)) refl

    total : how_many after.pages + left ≡ how_many m.pages + spares
    total = rw (same, kept) refl
write_done (Err NoMemory) m after spares left a bytes done taken range same kept enough room some =
    absurd (enough (enough_first m.pages spares a (length bytes) (length bytes) [] room (omega arith)) refl)

-- and by a step
pub step_total : (s : State) (m after : Memory) (spares left : ℕ) → after ≡ (stepped s m).memory
    → left + missing_pages m.pages (store_range s m).address (store_range s m).count ≡ spares
    → how_many after.pages + left ≡ how_many m.pages + spares
step_total s m after spares left is taken =
    let pages : how_many after.pages
    ≡ how_many (written_pages m.pages (store_range s m).address (store_range s m).count) =
    ap (λ (x : Memory). how_many x.pages) is ∙ ap how_many (stepped_pages s m) in
    omega (arith, pages, taken, all_made m.pages (store_range s m).address (store_range s m).count)

pub one_enough : (ps : List Bool) (spares a n : ℕ) → IsEnough ps spares (bytes_from a n ∷ [])
    → missing_pages ps a n ≤ spares
one_enough ps spares a n enough = enough_first ps spares a n n [] enough (omega arith)
