-- What is typed of known bytes.
use Rattle.std.specs.Prelude.{ℕ, ◌≡◌, ◌≤◌, ◌+◌, ◌-◌, List, [], ◌++◌, length, drop, take, Option, Some}
use Rattle.std.proofs.Common.{refl, sym, ap, subst, ◌∙◌, append_assoc, arith, take-append-drop}
use Rattle.std.proofs.lemmas.List.{append-nil, length-append}
use Rattle.std.specs.Io.KnownBytes.{Appends, Consumes, IsAtEnd, Keeps}
use Rattle.rvmc_gdb.proofs.Walks.{joined}
use Rattle.rvmc_gdb.specs.Below.{TakesAtMost}
use Rattle.rvmc_serve.proofs.Hearing.{appended_kept, appended_then, left_behind, piece_in, piece_short, taken_none, taken_then}
use Rattle.rvmc_serve.specs.Typing.{EndsLine, HearsAll, HearsSome, Takes, TakesAll, Typed}

-- of a reader and a writer, from one state to another: these bytes are taken behind `first`, all of which are typed, and
-- this is written. Of `whole` bytes that may be taken `left` are left
pub record Heard (old : Typed) (first : List ℕ) (a w : Option (List ℕ)) (new : Typed) (b v : Option (List ℕ)) (left whole : ℕ)
    : Type 0 where
  pub heard : List ℕ
  pub text : List ℕ
  pub takes : Consumes a b heard
  pub types : TakesAll old (first ++ heard) new text
  pub writes : Appends w v text
  pub short : length heard + left ≤ whole

-- what was read before is typed first
pub heard_first : (old new : Typed) (first text : List ℕ) (a w v : Option (List ℕ)) (left : ℕ) → TakesAll old first new text
    → Appends w v text → Heard old first a w new a v left left
heard_first old new first text a w v left types writes = record {
  heard = [];
  text = text;
  takes = taken_none a;
  types = subst (λ (t : List ℕ). TakesAll old t new text) (sym (append-nil first)) types;
  writes = writes;
  short = omega arith;
}

-- and then a piece
pub heard_then : (old mid new : Typed) (first : List ℕ) (a b c w v u : Option (List ℕ)) (left whole n : ℕ) (buffer text : List ℕ)
    → Heard old first a w mid b v left whole → Consumes b c (take n buffer) → n ≤ left → TakesAll mid (take n buffer) new text
    → Appends v u text → Heard old first a w new c u (left - n) whole
heard_then old mid new first a b c w v u left whole n buffer text before takes within types writes = record {
  heard = before.heard ++ take n buffer;
  text = before.text ++ text;
  takes = taken_then a b c before.heard (take n buffer) before.takes takes;
  types = subst (λ (t : List ℕ). TakesAll old t new (before.text ++ text)) (append_assoc first before.heard (take n buffer))
      (joined Takes old (first ++ before.heard) (take n buffer) mid new before.text text before.types types);
  writes = appended_then w v u before.text text before.writes writes;
  short = rw (length-append before.heard (take n buffer)) (omega (arith, before.short, piece_short buffer n, within));
}

-- what is left of them is a bound for what is taken
pub taken_so_far : (old new : Typed) (first : List ℕ) (a b w v : Option (List ℕ)) (left whole : ℕ)
    → Heard old first a w new b v left whole → TakesAtMost (whole + 4096) a b
taken_so_far old new first a b w v left whole all = (all.heard, all.takes, omega (arith, all.short))

-- and then a piece is taken that isn't typed
pub taken_more : (old mid : Typed) (first : List ℕ) (a b c w v : Option (List ℕ)) (left whole n : ℕ) (buffer : List ℕ)
    → Heard old first a w mid b v left whole → Consumes b c (take n buffer) → length buffer ≡ 4096
    → TakesAtMost (whole + 4096) a c
taken_more old mid first a b c w v left whole n buffer before takes size = (
  before.heard ++ take n buffer,
  taken_then a b c before.heard (take n buffer) before.takes takes,
  rw (length-append before.heard (take n buffer)) (omega (arith, before.short, piece_in buffer n size)),
)

-- ---- what is said of it

abbrev pub Written : (Typed → List ℕ → List ℕ → Type 0) → Typed → List ℕ → Option (List ℕ) → Option (List ℕ) → Type 0
Written Says old bytes w v = (text : List ℕ) × Says old bytes text × Appends w v text

-- of known bytes these are the first
pub part_of : (first bytes heard unheard : List ℕ) → bytes ≡ heard ++ unheard → first ++ bytes ≡ (first ++ heard) ++ unheard
part_of first bytes heard unheard all = ap (λ (t : List ℕ). first ++ t) all ∙ sym (append_assoc first heard unheard)

-- some are typed
pub some : (old new : Typed) (first : List ℕ) (a b w v : Option (List ℕ)) (left whole : ℕ) (bytes : List ℕ) → a ≡ Some bytes
    → Heard old first a w new b v left whole → Written HearsSome old (first ++ bytes) w v
some old new first a b w v left whole bytes known all =
    let rest = left_behind a b bytes all.heard known all.takes in
    (all.text, (first ++ all.heard, rest.0, part_of first bytes all.heard rest.0 rest.2, new, all.types), all.writes)

-- and then some of a piece
pub some_then : (old mid : Typed) (first : List ℕ) (a b c w v u : Option (List ℕ)) (left whole n : ℕ) (buffer bytes : List ℕ)
    → a ≡ Some bytes → Heard old first a w mid b v left whole → Consumes b c (take n buffer)
    → Written HearsSome mid (take n buffer) v u → Written HearsSome old (first ++ bytes) w u
some_then old mid first a b c w v u left whole n buffer bytes known before takes
    (other, (heard, unheard, cut, new, types), writes) =
    let piece = take n buffer in
    let rest = left_behind a c bytes (before.heard ++ piece) known (taken_then a b c before.heard piece before.takes takes) in
    let all : bytes ≡ before.heard ++ (heard ++ (unheard ++ rest.0)) =
    rest.2 ∙ append_assoc before.heard piece rest.0
    ∙ ap (λ (t : List ℕ). before.heard ++ t) (ap (λ (t : List ℕ). t ++ rest.0) cut ∙ append_assoc heard unheard rest.0) in (
      before.text ++ other,
      (
        (first ++ before.heard) ++ heard,
        unheard ++ rest.0,
        part_of first bytes before.heard (heard ++ (unheard ++ rest.0)) all
            ∙ sym (append_assoc (first ++ before.heard) heard (unheard ++ rest.0)),
        new,
        joined Takes old (first ++ before.heard) heard mid new before.text other before.types types,
      ),
      appended_then w v u before.text other before.writes writes,
    )

-- and at once
pub some_at_once : (old : Typed) (first bytes : List ℕ) (w v : Option (List ℕ)) → Written HearsSome old first w v
    → Written HearsSome old (first ++ bytes) w v
some_at_once old first bytes w v (text, (heard, unheard, cut, new, types), writes) = (
  text,
  (
    heard,
    unheard ++ bytes,
    ap (λ (t : List ℕ). t ++ bytes) cut ∙ append_assoc heard unheard bytes,
    new,
    types,
  ),
  writes,
)

-- all are, and the last line ends
pub all_to_end : (old last new : Typed) (first : List ℕ) (a b w v u : Option (List ℕ)) (left whole : ℕ) (bytes other : List ℕ)
    → a ≡ Some bytes → Heard old first a w last b v left whole → IsAtEnd b → EndsLine last new other → Appends v u other
    → Written HearsAll old (first ++ bytes) w u
all_to_end old last new first a b w v u left whole bytes other known all end ends writes =
    let rest = left_behind a b bytes all.heard known all.takes in
    let none : rest.0 ≡ [] = subst IsAtEnd rest.1 end in
    let same : bytes ≡ all.heard = rest.2 ∙ ap (λ (t : List ℕ). all.heard ++ t) none ∙ append-nil all.heard in (
      all.text ++ other,
      record {
        last = last;
        new = new;
        one = all.text;
        other = other;
        takes = subst (λ (t : List ℕ). TakesAll old (first ++ t) last all.text) (sym same) all.types;
        ends = ends;
        is = refl;
      },
      appended_then w v u all.text other all.writes writes,
    )

-- where nothing more is written, some are
pub some_kept : (old new : Typed) (first : List ℕ) (a b w v u : Option (List ℕ)) (left whole : ℕ) (bytes : List ℕ) → a ≡ Some bytes
    → Heard old first a w new b v left whole → Keeps v u → Written HearsSome old (first ++ bytes) w u
some_kept old new first a b w v u left whole bytes known all keeps =
    let said = some old new first a b w v left whole bytes known all in
    (said.0, said.1, appended_kept w v u said.0 said.2 keeps)

-- the same of the bytes before this one
pub some_before : (old mid : Typed) (bytes : List ℕ) (i : ℕ) (w v u : Option (List ℕ)) (text : List ℕ)
    → TakesAll old (take i bytes) mid text → Appends w v text → Keeps v u → Written HearsSome old bytes w u
some_before old mid bytes i w v u text types writes keeps = (
  text,
  (take i bytes, drop i bytes, sym (take-append-drop i bytes), mid, types),
  appended_kept w v u text writes keeps,
)
