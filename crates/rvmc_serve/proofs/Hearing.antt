-- What is heard of known bytes.
use Rattle.std.specs.Prelude.{ℕ, ◌≡◌, ◌≤◌, ◌+◌, ◌-◌, Bool, true, false, List, [], ◌++◌, length, take, Option, Some, None, Result, Ok, Err, IfOk, IfErr}
use Rattle.std.proofs.Common.{refl, sym, ap, subst, ◌∙◌, append_assoc, arith, inl, inr}
use Rattle.std.proofs.Math.Nat.{min-le_left, min-le_right}
use Rattle.std.proofs.lemmas.List.{append-nil, length-append, length-take}
use Rattle.std.specs.Io.KnownBytes.{Appends, Consumes, IsAtEnd, Keeps}
use Rattle.rvmc_gdb.proofs.Walks.{joined}
use Rattle.rvmc_gdb.specs.Talks.{Connection, Serves, Takes, flow_of}
use Rattle.rvmc_gdb.specs.declared.server.Flow.{Flow}
use Rattle.rvmc_gdb.specs.declared.server.Flow.TheVariants.{Ended, On}
use Rattle.rvmc_gdb.specs.Below.{Fault, TakesAtMost}
use Rattle.rvmc_gdb.specs.Below.faults
use Rattle.rvmc_serve.specs.Serving.{CutsShort}
use Rattle.rvmc_serve.specs.Sessions.{HearsPart, HearsAll, HearsSome}

-- ---- known bytes

pub kept : (known : Option (List ℕ)) → Keeps known known
kept None = tt
kept (Some bytes) = refl

pub taken_none : (a : Option (List ℕ)) → Consumes a a []
taken_none None = tt
taken_none (Some a) = refl

pub taken_then : (a b c : Option (List ℕ)) (xs ys : List ℕ) → Consumes a b xs → Consumes b c ys → Consumes a c (xs ++ ys)
taken_then None b c xs ys p q = tt
taken_then (Some a) None c xs ys p q = absurd p
taken_then (Some a) (Some b) None xs ys p q = absurd q
taken_then (Some a) (Some b) (Some c) xs ys p q = p ∙ ap (λ (t : List ℕ). xs ++ t) q ∙ sym (append_assoc xs ys c)

pub taken_kept : (a b c : Option (List ℕ)) (xs : List ℕ) → Consumes a b xs → Keeps b c → Consumes a c xs
taken_kept None b c xs p q = tt
taken_kept (Some a) None c xs p q = absurd p
taken_kept (Some a) (Some b) None xs p q = absurd q
taken_kept (Some a) (Some b) (Some c) xs p q = p ∙ ap (λ (t : List ℕ). xs ++ t) (sym q)

pub appended_none : (a b : Option (List ℕ)) → Keeps a b → Appends a b []
appended_none None b keeps = tt
appended_none (Some a) None keeps = absurd keeps
appended_none (Some a) (Some b) keeps = keeps ∙ sym (append-nil a)

pub appended_then : (a b c : Option (List ℕ)) (xs ys : List ℕ) → Appends a b xs → Appends b c ys → Appends a c (xs ++ ys)
appended_then None b c xs ys p q = tt
appended_then (Some a) None c xs ys p q = absurd p
appended_then (Some a) (Some b) None xs ys p q = absurd q
appended_then (Some a) (Some b) (Some c) xs ys p q = q ∙ ap (λ (t : List ℕ). t ++ ys) p ∙ append_assoc a xs ys

pub appended_kept : (a b c : Option (List ℕ)) (xs : List ℕ) → Appends a b xs → Keeps b c → Appends a c xs
appended_kept None b c xs p q = tt
appended_kept (Some a) None c xs p q = absurd p
appended_kept (Some a) (Some b) None xs p q = absurd q
appended_kept (Some a) (Some b) (Some c) xs p q = q ∙ p

-- what is left behind those that were taken
pub left_behind : (a b : Option (List ℕ)) (bytes heard : List ℕ) → a ≡ Some bytes → Consumes a b heard
    → (unheard : List ℕ) × (b ≡ Some unheard) × (bytes ≡ heard ++ unheard)
left_behind a b bytes heard known takes = on b (subst (λ (k : Option (List ℕ)). Consumes k b heard) known takes)
  where
    on : (after : Option (List ℕ)) → Consumes (Some bytes) after heard
        → (unheard : List ℕ) × (after ≡ Some unheard) × (bytes ≡ heard ++ unheard)
    on None takes = absurd takes
    on (Some unheard) takes = (unheard, refl, takes)

-- ---- what was heard so far, and what was written for it

-- of a reader and a writer, from one state to another: these are taken and heard, and this is written. Of `whole` bytes
-- that may be taken `left` are left
pub record Heard (old : Connection) (a w : Option (List ℕ)) (new : Connection) (b v : Option (List ℕ)) (left whole : ℕ)
    : Type 0 where
  pub heard : List ℕ
  pub text : List ℕ
  pub takes : Consumes a b heard
  pub serves : Serves old heard new text
  pub writes : Appends w v text
  pub short : length heard + left ≤ whole

pub heard_none : (old : Connection) (a w : Option (List ℕ)) (left : ℕ) → Heard old a w old a w left left
heard_none old a w left = record {
  heard = [];
  text = [];
  takes = taken_none a;
  serves = (refl, refl);
  writes = appended_none w w (kept w);
  short = omega arith;
}

-- the beginning of a buffer
pub piece_short : (buffer : List ℕ) (n : ℕ) → length (take n buffer) ≤ n
piece_short buffer n = rw (length-take n buffer) (min-le_left n (length buffer))

pub piece_in : (buffer : List ℕ) (n : ℕ) → length buffer ≡ 4096 → length (take n buffer) ≤ 4096
piece_in buffer n size = rw (length-take n buffer, size) (min-le_right n 4096)

-- and then a piece
pub heard_then : (old mid new : Connection) (a b c w v u : Option (List ℕ)) (left whole n : ℕ) (buffer text : List ℕ)
    → Heard old a w mid b v left whole → Consumes b c (take n buffer) → n ≤ left → Serves mid (take n buffer) new text
    → Appends v u text → Heard old a w new c u (left - n) whole
heard_then old mid new a b c w v u left whole n buffer text before takes within serves writes = record {
  heard = before.heard ++ take n buffer;
  text = before.text ++ text;
  takes = taken_then a b c before.heard (take n buffer) before.takes takes;
  serves = joined Takes old before.heard (take n buffer) mid new before.text text before.serves serves;
  writes = appended_then w v u before.text text before.writes writes;
  short = rw (length-append before.heard (take n buffer)) (omega (arith, before.short, piece_short buffer n, within));
}

-- what is left of them is a bound for what is taken
pub taken_so_far : (old new : Connection) (a b w v : Option (List ℕ)) (left whole : ℕ) → Heard old a w new b v left whole
    → TakesAtMost (whole + 4096) a b
taken_so_far old new a b w v left whole all = (all.heard, all.takes, omega (arith, all.short))

-- and then a piece is taken that isn't heard
pub taken_more : (old mid : Connection) (a b c w v : Option (List ℕ)) (left whole n : ℕ) (buffer : List ℕ)
    → Heard old a w mid b v left whole → Consumes b c (take n buffer) → length buffer ≡ 4096
    → TakesAtMost (whole + 4096) a c
taken_more old mid a b c w v left whole n buffer before takes size = (
  before.heard ++ take n buffer,
  taken_then a b c before.heard (take n buffer) before.takes takes,
  rw (length-append before.heard (take n buffer)) (omega (arith, before.short, piece_in buffer n size)),
)

-- ---- what is said of it

pub hears : (old new : Connection) (bytes heard unheard text : List ℕ) → bytes ≡ heard ++ unheard → Serves old heard new text
    → HearsPart old bytes unheard new text
hears old new bytes heard unheard text all serves = record { heard = heard; all = all; serves = serves }

-- some is heard
pub some : (old new : Connection) (a b w v : Option (List ℕ)) (left whole : ℕ) (bytes : List ℕ) → a ≡ Some bytes
    → Heard old a w new b v left whole → (text : List ℕ) × HearsSome old bytes text × Appends w v text
some old new a b w v left whole bytes known all =
    let rest = left_behind a b bytes all.heard known all.takes in
    (all.text, (rest.0, new, hears old new bytes all.heard rest.0 all.text rest.2 all.serves), all.writes)

-- all is
pub all_to_end : (old new : Connection) (a b w v : Option (List ℕ)) (left whole : ℕ) (bytes : List ℕ) → a ≡ Some bytes
    → Heard old a w new b v left whole → IsAtEnd b → (text : List ℕ) × HearsAll old bytes text × Appends w v text
all_to_end old new a b w v left whole bytes known all end =
    let rest = left_behind a b bytes all.heard known all.takes in
    let none = subst IsAtEnd rest.1 end in
    (all.text, (rest.0, new, hears old new bytes all.heard rest.0 all.text rest.2 all.serves, inl none), all.writes)

pub all_to_leave : (old new : Connection) (a b w v : Option (List ℕ)) (left whole : ℕ) (bytes : List ℕ) → a ≡ Some bytes
    → Heard old a w new b v left whole → new.talk.ended ≡ true → (text : List ℕ) × HearsAll old bytes text × Appends w v text
all_to_leave old new a b w v left whole bytes known all gone =
    let rest = left_behind a b bytes all.heard known all.takes in
    (all.text, (rest.0, new, hears old new bytes all.heard rest.0 all.text rest.2 all.serves, inr gone), all.writes)

-- whether the client has left
abbrev goes_on : Flow → Type 0
goes_on On = Unit {0}
goes_on Ended = ⊥

pub has_left : (ended : Bool) (flow : Flow) → flow ≡ flow_of ended → flow ≡ Ended → ended ≡ true
has_left true flow is left = refl
has_left false flow is left = absurd (subst goes_on (sym is ∙ left) tt)

-- ---- what was read before is heard first

abbrev Written : (Connection → List ℕ → List ℕ → Type 0) → Connection → List ℕ → Option (List ℕ) → Option (List ℕ) → Type 0
Written Says old bytes w v = (text : List ℕ) × Says old bytes text × Appends w v text

behind : (old mid new : Connection) (first bytes unheard one other : List ℕ) → Serves old first mid one
    → HearsPart mid bytes unheard new other → HearsPart old (first ++ bytes) unheard new (one ++ other)
behind old mid new first bytes unheard one other serves hears = record {
  heard = first ++ hears.heard;
  all = ap (λ (t : List ℕ). first ++ t) hears.all ∙ sym (append_assoc first hears.heard unheard);
  serves = joined Takes old first hears.heard mid new one other serves hears.serves;
}

pub all_behind : (old mid : Connection) (first bytes one : List ℕ) (w v u : Option (List ℕ)) → Serves old first mid one
    → Appends w v one → Written HearsAll mid bytes v u → Written HearsAll old (first ++ bytes) w u
all_behind old mid first bytes one w v u serves writes (other, (unheard, new, hears, ends), more) = (
  one ++ other,
  (unheard, new, behind old mid new first bytes unheard one other serves hears, ends),
  appended_then w v u one other writes more,
)

pub some_behind : (old mid : Connection) (first bytes one : List ℕ) (w v u : Option (List ℕ)) → Serves old first mid one
    → Appends w v one → Written HearsSome mid bytes v u → Written HearsSome old (first ++ bytes) w u
some_behind old mid first bytes one w v u serves writes (other, (unheard, new, hears), more) = (
  one ++ other,
  (unheard, new, behind old mid new first bytes unheard one other serves hears),
  appended_then w v u one other writes more,
)

-- and the client leaves
pub left_at_once : (old new : Connection) (first bytes one : List ℕ) (w v : Option (List ℕ)) → Serves old first new one
    → Appends w v one → new.talk.ended ≡ true → Written HearsAll old (first ++ bytes) w v
left_at_once old new first bytes one w v serves writes gone =
    (one, (bytes, new, record { heard = first; all = refl; serves = serves }, inr gone), writes)

-- none of it is heard
pub none_heard : (old : Connection) (bytes : List ℕ) (w v : Option (List ℕ)) → Keeps w v → Written HearsSome old bytes w v
none_heard old bytes w v keeps =
    ([], (bytes, old, record { heard = []; all = refl; serves = (refl, refl) }), appended_none w v keeps)

pub cut_by : (fault : Fault) (Before After : Type 0) → (Before → After) → CutsShort fault Before → CutsShort fault After
cut_by faults.Memory Before After f cut = f cut
cut_by faults.Read Before After f cut = f cut
cut_by faults.Write Before After f cut = tt
cut_by other Before After f cut = absurd cut

pub whole_then : (result : Result (Unit {0}) Fault) (Before After : Type 0) → (Before → After)
    → IfOk result (λ _. Before) → IfOk result (λ _. After)
whole_then (Ok done) Before After f before = f before
whole_then (Err fault) Before After f before = tt

pub cut_then : (result : Result (Unit {0}) Fault) (Before After : Type 0) → (Before → After)
    → IfErr result (λ fault. CutsShort fault Before) → IfErr result (λ fault. CutsShort fault After)
cut_then (Ok done) Before After f before = tt
cut_then (Err fault) Before After f before = cut_by fault Before After f before

pub cut_at_once : (old : Connection) (bytes : List ℕ) (w v : Option (List ℕ)) (fault : Fault) → CutsShort fault (Keeps w v)
    → CutsShort fault (Written HearsSome old bytes w v)
cut_at_once old bytes w v fault cut = cut_by fault (Keeps w v) (Written HearsSome old bytes w v) (none_heard old bytes w v) cut

-- only that it is one that cuts short
pub cut_quiet : (fault : Fault) (Before : Type 0) → CutsShort fault Before → CutsShort fault (Unit {0})
cut_quiet fault Before cut = cut_by fault Before (Unit {0}) (λ _. tt) cut

-- ---- the front, and what is taken behind it

pub taken_all : (a b c : Option (List ℕ)) (front behind : List ℕ) (most : ℕ) → Consumes a b (front ++ behind)
    → length (front ++ behind) ≤ 67108864 → most ≡ 67108864 - length front - length behind
    → TakesAtMost (most + 4096) b c → TakesAtMost 67112960 a c
taken_all a b c front behind most takes short is (more, then, few) =
    let both : length front + length behind ≤ 67108864 =
    subst (λ (n : ℕ). n ≤ 67108864) (length-append front behind) short in (
      (front ++ behind) ++ more,
      taken_then a b c (front ++ behind) more takes then,
      rw (length-append (front ++ behind) more, length-append front behind) (omega (arith, both, is, few)),
    )
