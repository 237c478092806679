-- Which kept patterns a turn may pass.
use Rattle.std.specs.Prelude.{ℕ, zero, suc, ◌+◌, ◌*◌, ◌<◌, ◌≤◌, ◌≡◌, ◌≢◌, ◌==◌, ◌&&◌, Bool, true, false, cond, not, List, [], ◌∷◌, length, get_or, Option, Some, None}
use Rattle.std.specs.List.{list_any, slice_get}
use Rattle.std.proofs.Common.{refl, sym, ap, ◌∙◌, subst, arith, inl, inr}
use Rattle.std.proofs.lemmas.Bool.{and_parts, cases_eq, eq-eqb, eqb-true, not-true, or_cases}
use Rattle.std.proofs.lemmas.Option.{same_Some, slice_get_within}
use Rattle.rv_image_types.specs.declared.images.Link.{Link}
use Rattle.mp_types.specs.declared.requests.Request.{Request}
use Rattle.mp_types.specs.declared.requests.Request.TheVariants as request
use Rattle.mp_transfers.specs.Inits.{is_receiver}
use Rattle.mp_wait_laws.specs.Waits.{sends_over}
use Rattle.mp_source_laws.specs.Alike.{Wild}
use Rattle.mp_clash_laws.specs.Exchanges.{BringsNothing, NoRace, NoSync}
use Rattle.cl_reduction_laws.specs.Clusters.{IsAtBox}
use Rattle.cl_reduction_laws.specs.Settled.{AreOnSides}
use Rattle.cl_reduction_laws.specs.Patterns.{AreEnds, InitMayPass, IsAllowed, IsInitialisation, MayMeet, MayPass, Pattern as Asked, by_receiver, by_sender, claim, initialisation, own, poll, poll_of_cuts, poll_of_sends, receive, send, unlisted, wait}
use Rattle.cl_state.specs.declared.asking.Ask.{Ask}
use Rattle.cl_contests.specs.declared.patterns.AskedBy.{AskedBy}
use Rattle.cl_contests.specs.declared.patterns.Pattern.{Pattern}
use Rattle.cl_contests.specs.declared.patterns.Pattern.TheVariants as pattern
use Rattle.cl_contests.specs.Kept.{is_pattern, is_same_bool, patterns_of, wild_of}
use Rattle.cl_contests.specs.Passing.{InitMayPassKept, IsOnSide, Keeps, MayMeetKept, MayPassKept, has_pattern, is_wanted}

pub is_other : (a b : ℕ) → not (a == b) ≡ true → a ≢ b
is_other a b apart same =
    let is = eq-eqb a b same in
    let no : false ≡ true = sym (not-true (a == b) apart) ∙ is in cc

-- ---- no race, and nothing told to a synchronous send

module _ (wild : Wild) (dest comm tag : ℕ) (mode : Bool) (bytes : List ℕ) (to other : ℕ) where
  pub apart_ranks : dest ≢ to → (sync : Bool)
      → NoRace wild (request.Send mode comm dest tag bytes) (request.Send sync other to 0 [])
  apart_ranks apart sync same = absurd (apart same)

  pub apart_comms : comm ≢ other → (sync : Bool)
      → NoRace wild (request.Send mode comm dest tag bytes) (request.Send sync other to 0 [])
  apart_comms apart sync same its = absurd (apart its)

  pub all_named : wild to other ≡ false → (sync : Bool)
      → NoRace wild (request.Send mode comm dest tag bytes) (request.Send sync other to 0 [])
  all_named none sync same its asks =
      let is : wild dest comm ≡ false = ap (λ k. wild k comm) same ∙ (ap (wild to) its ∙ none) in
      let no : true ≡ false = sym asks ∙ is in cc

pub send_no_sync : (r s comm dest tag : ℕ) (mode sync : Bool) (bytes : List ℕ) (to other : ℕ)
    → NoSync r (request.Send mode comm dest tag bytes) s (request.Send sync other to 0 [])
send_no_sync r s comm dest tag true sync bytes to other = tt
send_no_sync r s comm dest tag false sync bytes to other = tt

pub receive_no_sync : (r s comm to other : ℕ) (now : Bool) (source tag : Option ℕ) (sync : Bool) → to ≢ r
    → NoSync r (request.Recv now comm source tag) s (request.Send sync other to 0 [])
receive_no_sync r s comm to other now source tag true apart = apart
receive_no_sync r s comm to other now source tag false apart = tt

pub receive_standard : (r s comm to other : ℕ) (now : Bool) (source tag : Option ℕ) (sync : Bool) → sync ≡ false
    → NoSync r (request.Recv now comm source tag) s (request.Send sync other to 0 [])
receive_standard r s comm to other now source tag true is = absurd (cc)
receive_standard r s comm to other now source tag false is = tt

pub sent_no_sync : (r s comm dest tag : ℕ) (mode : Bool) (bytes : List ℕ) → dest ≢ s
    → NoSync r (request.Send mode comm dest tag bytes) s (request.Recv false 0 None None)
sent_no_sync r s comm dest tag true bytes apart = apart
sent_no_sync r s comm dest tag false bytes apart = tt

pub sent_standard : (r s comm dest tag : ℕ) (mode : Bool) (bytes : List ℕ) → mode ≡ false
    → NoSync r (request.Send mode comm dest tag bytes) s (request.Recv false 0 None None)
sent_standard r s comm dest tag true bytes is = absurd (cc)
sent_standard r s comm dest tag false bytes is = tt

-- ---- one kept pattern

same_mode : (a b : Bool) → is_same_bool a b ≡ true → a ≡ b
same_mode true true is = refl
same_mode true false is = absurd (cc)
same_mode false true is = absurd (cc)
same_mode false false is = refl

module _ (kept : List AskedBy) (r : ℕ) (q : Request) (a : AskedBy) where
  by : (k : Pattern) → a.pattern ≡ k
      → ((p : Asked) → is_pattern k p ≡ true → MayPass (wild_of kept) r q a.rank p) → MayPassKept kept r q a
  by k is each p same = each p (sym (ap (λ x. is_pattern x p) is) ∙ same)

  pub passes_send : (sync : Bool) (dest comm : ℕ) → a.pattern ≡ pattern.Send sync dest comm
      → ((its : Bool) → NoRace (wild_of kept) q (request.Send its comm dest 0 []))
      → ((s other : ℕ) → NoSync r q s (request.Send sync other dest 0 [])) → MayPassKept kept r q a
  passes_send sync dest comm is race told = by (pattern.Send sync dest comm) is each
    where
      each : (p : Asked) → is_pattern (pattern.Send sync dest comm) p ≡ true → MayPass (wild_of kept) r q a.rank p
      each (send its to other) same =
          let parts = and_parts (is_same_bool sync its) ((dest == to) && (comm == other)) same in
          let places = and_parts (dest == to) (comm == other) parts.1 in
          let mode = same_mode sync its parts.0 in
          let there = eqb-true dest to places.0 in
          let within = eqb-true comm other places.1 in (
            subst (λ k. NoRace (wild_of kept) q (request.Send its other k 0 [])) there
                (subst (λ k. NoRace (wild_of kept) q (request.Send its k dest 0 [])) within (race its)),
            subst (λ k. NoSync r q a.rank (request.Send its other k 0 [])) there
                (subst (λ k. NoSync r q a.rank (request.Send k other dest 0 [])) mode (told a.rank other)),
          )
      each own same = absurd (cc)
      each receive same = absurd (cc)
      each wait same = absurd (cc)
      each poll same = absurd (cc)
      each poll_of_sends same = absurd (cc)
      each claim same = absurd (cc)
      each (initialisation gives other whom label many) same = absurd (cc)
      each poll_of_cuts same = absurd (cc)
      each (by_sender link) same = absurd (cc)
      each (by_receiver link) same = absurd (cc)
      each unlisted same = absurd (cc)

  pub passes_receive : a.pattern ≡ pattern.Receive → NoSync r q a.rank (request.Recv false 0 None None)
      → MayPassKept kept r q a
  passes_receive is told = by pattern.Receive is each
    where
      each : (p : Asked) → is_pattern pattern.Receive p ≡ true → MayPass (wild_of kept) r q a.rank p
      each receive same = told
      each own same = absurd (cc)
      each (send its to other) same = absurd (cc)
      each wait same = absurd (cc)
      each poll same = absurd (cc)
      each poll_of_sends same = absurd (cc)
      each claim same = absurd (cc)
      each (initialisation gives other whom label many) same = absurd (cc)
      each poll_of_cuts same = absurd (cc)
      each (by_sender link) same = absurd (cc)
      each (by_receiver link) same = absurd (cc)
      each unlisted same = absurd (cc)

  pub passes_poll : a.pattern ≡ pattern.Poll → BringsNothing q a.rank (request.Collect 0) → MayPassKept kept r q a
  passes_poll is nothing = by pattern.Poll is each
    where
      each : (p : Asked) → is_pattern pattern.Poll p ≡ true → MayPass (wild_of kept) r q a.rank p
      each poll same = nothing
      each own same = absurd (cc)
      each (send its to other) same = absurd (cc)
      each receive same = absurd (cc)
      each wait same = absurd (cc)
      each poll_of_sends same = absurd (cc)
      each claim same = absurd (cc)
      each (initialisation gives other whom label many) same = absurd (cc)
      each poll_of_cuts same = absurd (cc)
      each (by_sender link) same = absurd (cc)
      each (by_receiver link) same = absurd (cc)
      each unlisted same = absurd (cc)

  pub passes_poll_of_sends : a.pattern ≡ pattern.PollOfSends → BringsNothing q a.rank (request.Finished 0)
      → MayPassKept kept r q a
  passes_poll_of_sends is nothing = by pattern.PollOfSends is each
    where
      each : (p : Asked) → is_pattern pattern.PollOfSends p ≡ true → MayPass (wild_of kept) r q a.rank p
      each poll_of_sends same = nothing
      each own same = absurd (cc)
      each (send its to other) same = absurd (cc)
      each receive same = absurd (cc)
      each wait same = absurd (cc)
      each poll same = absurd (cc)
      each claim same = absurd (cc)
      each (initialisation gives other whom label many) same = absurd (cc)
      each poll_of_cuts same = absurd (cc)
      each (by_sender link) same = absurd (cc)
      each (by_receiver link) same = absurd (cc)
      each unlisted same = absurd (cc)

  pub passes_source : (comm : ℕ) → a.pattern ≡ pattern.AnySource comm → MayPassKept kept r q a
  passes_source comm is = by (pattern.AnySource comm) is (λ p same. absurd (cc))

  pub passes_complete : a.pattern ≡ pattern.PollOfComplete → MayPassKept kept r q a
  passes_complete is = by pattern.PollOfComplete is (λ p same. absurd (cc))

  pub passes_initialisation : (sends : Bool) (comm peer tag bytes : ℕ) → a.pattern ≡ pattern.Initialisation sends comm peer tag bytes
      → MayPassKept kept r q a
  passes_initialisation sends comm peer tag bytes is = by (pattern.Initialisation sends comm peer tag bytes) is each
    where
      each : (p : Asked) → is_pattern (pattern.Initialisation sends comm peer tag bytes) p ≡ true → MayPass (wild_of kept) r q a.rank p
      each (initialisation gives other whom label many) same = tt
      each own same = absurd (cc)
      each (send its to from) same = absurd (cc)
      each receive same = absurd (cc)
      each wait same = absurd (cc)
      each poll same = absurd (cc)
      each poll_of_sends same = absurd (cc)
      each claim same = absurd (cc)
      each poll_of_cuts same = absurd (cc)
      each (by_sender other) same = absurd (cc)
      each (by_receiver other) same = absurd (cc)
      each unlisted same = absurd (cc)

  pub passes_cuts : a.pattern ≡ pattern.PollOfCuts → MayPassKept kept r q a
  passes_cuts is = by pattern.PollOfCuts is each
    where
      each : (p : Asked) → is_pattern pattern.PollOfCuts p ≡ true → MayPass (wild_of kept) r q a.rank p
      each poll_of_cuts same = tt
      each own same = absurd (cc)
      each (send its to other) same = absurd (cc)
      each receive same = absurd (cc)
      each wait same = absurd (cc)
      each poll same = absurd (cc)
      each poll_of_sends same = absurd (cc)
      each claim same = absurd (cc)
      each (initialisation gives other whom label many) same = absurd (cc)
      each (by_sender other) same = absurd (cc)
      each (by_receiver other) same = absurd (cc)
      each unlisted same = absurd (cc)

  pub passes_sender : (link : ℕ) → a.pattern ≡ pattern.BySender link → MayPassKept kept r q a
  passes_sender link is = by (pattern.BySender link) is each
    where
      each : (p : Asked) → is_pattern (pattern.BySender link) p ≡ true → MayPass (wild_of kept) r q a.rank p
      each (by_sender other) same = tt
      each own same = absurd (cc)
      each (send its to other) same = absurd (cc)
      each receive same = absurd (cc)
      each wait same = absurd (cc)
      each poll same = absurd (cc)
      each poll_of_sends same = absurd (cc)
      each claim same = absurd (cc)
      each (initialisation gives other whom label many) same = absurd (cc)
      each poll_of_cuts same = absurd (cc)
      each (by_receiver other) same = absurd (cc)
      each unlisted same = absurd (cc)

  pub passes_receiver : (link : ℕ) → a.pattern ≡ pattern.ByReceiver link → MayPassKept kept r q a
  passes_receiver link is = by (pattern.ByReceiver link) is each
    where
      each : (p : Asked) → is_pattern (pattern.ByReceiver link) p ≡ true → MayPass (wild_of kept) r q a.rank p
      each (by_receiver other) same = tt
      each own same = absurd (cc)
      each (send its to other) same = absurd (cc)
      each receive same = absurd (cc)
      each wait same = absurd (cc)
      each poll same = absurd (cc)
      each poll_of_sends same = absurd (cc)
      each claim same = absurd (cc)
      each (initialisation gives other whom label many) same = absurd (cc)
      each poll_of_cuts same = absurd (cc)
      each (by_sender other) same = absurd (cc)
      each unlisted same = absurd (cc)

-- ---- all of them

pub of_any : (f : AskedBy → Bool) (xs : List AskedBy) → list_any f xs ≡ true
    → (i : ℕ) × (a : AskedBy) × (slice_get xs i ≡ Some a) × (f a ≡ true)
of_any f [] is = absurd (cc)
of_any f (x ∷ xs) is = elim (or_cases (f x) (list_any f xs) is) [
  | inl here ↦ (0, x, refl, here)
  | inr later ↦ let v = of_any f xs later in (suc v.0, v.1, v.2, v.3)
]

-- each pattern of another rank before this place is so
abbrev pub AreSoBelow : List AskedBy → ℕ → (AskedBy → Type 0) → ℕ → Type 0
AreSoBelow kept r Is n = (i : ℕ) → i < n → (a : AskedBy) → slice_get kept i ≡ Some a → a.rank ≢ r → Is a

module _ (kept : List AskedBy) (r : ℕ) (Is : AskedBy → Type 0) (n : ℕ) (before : AreSoBelow kept r Is n) where
  so_more : (a : AskedBy) → slice_get kept n ≡ Some a → (a.rank ≢ r → Is a) → AreSoBelow kept r Is (n + 1)
  so_more a at here i low x there other = elim (cases_eq n i) [
    | inl same ↦
        let is : a ≡ x = same_Some a x (sym at ∙ subst (λ k. slice_get kept k ≡ Some x) (sym same) there) in
        subst Is is (here (λ e. other (sym (ap (λ (y : AskedBy). y.rank) is) ∙ e)))
    | inr apart ↦ before i (omega (arith, low, apart)) x there other
  ]

  -- so is that which a pattern of another rank is kept by
  so_found : length kept ≤ n → (s : ℕ) (p : Asked) → s ≢ r → patterns_of kept s p ≡ true
      → (a : AskedBy) × (a.rank ≡ s) × (is_pattern a.pattern p ≡ true) × Is a
  so_found all s p other has =
      let v = of_any (λ (a : AskedBy). (a.rank == s) && is_pattern a.pattern p) kept has in
      let parts = and_parts ((v.1).rank == s) (is_pattern (v.1).pattern p) v.3 in
      let whose = eqb-true (v.1).rank s parts.0 in
      let inside = slice_get_within kept v.0 v.1 v.2 in
      (v.1, whose, parts.1, before v.0 (omega (arith, inside, all)) v.1 v.2 (λ e. other (sym whose ∙ e)))

abbrev pub MayPassBelow : List AskedBy → ℕ → Request → ℕ → Type 0
MayPassBelow kept r q n = AreSoBelow kept r (MayPassKept kept r q) n

module _ (kept : List AskedBy) (r : ℕ) (q : Request) (n : ℕ) (before : MayPassBelow kept r q n) where
  pub passes_more : (a : AskedBy) → slice_get kept n ≡ Some a → (a.rank ≢ r → MayPassKept kept r q a)
      → MayPassBelow kept r q (n + 1)
  passes_more = so_more kept r (MayPassKept kept r q) n before

  pub passes_all : length kept ≤ n → (s : ℕ) (p : Asked) → s ≢ r → IsAllowed (patterns_of kept) s p
      → MayPass (wild_of kept) r q s p
  passes_all all s p other allowed = of p allowed
    where
      found : (x : Asked) → patterns_of kept s x ≡ true → MayPass (wild_of kept) r q s x
      found x has =
          let f = so_found kept r (MayPassKept kept r q) n before all s x other has in
          subst (λ k. MayPass (wild_of kept) r q k x) f.1 (f.3 x f.2)

      of : (x : Asked) → IsAllowed (patterns_of kept) s x → MayPass (wild_of kept) r q s x
      of own allowed = tt
      of wait allowed = tt
      of unlisted allowed = absurd allowed
      of x allowed = found x allowed

-- ---- initialisations

module _ (r : ℕ) (sends : Bool) (comm peer tag parts size : ℕ) (a : AskedBy) where
  abbrev mine : Request
  mine = request.Init sends comm peer tag parts size

  begins_by : (k : Pattern) → a.pattern ≡ k → ((p : Asked) → is_pattern k p ≡ true → InitMayPass r mine a.rank p)
      → InitMayPassKept r mine a
  begins_by k is each p same = each p (sym (ap (λ x. is_pattern x p) is) ∙ same)

  pub begins_cuts : a.pattern ≡ pattern.PollOfCuts → sends ≡ false → InitMayPassKept r mine a
  begins_cuts is off = begins_by pattern.PollOfCuts is each
    where
      each : (p : Asked) → is_pattern pattern.PollOfCuts p ≡ true → InitMayPass r mine a.rank p
      each poll_of_cuts same = off
      each _ same = absurd (cc)

  -- of another initialisation, which takes other links or begins the other side of the transfer
  pub begins_two : (gives : Bool) (other whom label bytes : ℕ) → a.pattern ≡ pattern.Initialisation gives other whom label bytes
      → (AreEnds r sends peer a.rank gives whom → (comm ≡ other) × (tag ≡ label) × (parts * size ≡ bytes))
      → InitMayPassKept r mine a
  begins_two gives other whom label bytes is may = begins_by (pattern.Initialisation gives other whom label bytes) is each
    where
      each : (p : Asked) → is_pattern (pattern.Initialisation gives other whom label bytes) p ≡ true
          → InitMayPass r mine a.rank p
      each (initialisation way to who called many) same =
          let mode = and_parts (is_same_bool gives way) ((other == to) && (whom == who) && (label == called) && (bytes == many)) same in
          let all = and_parts ((other == to) && (whom == who) && (label == called)) (bytes == many) mode.1 in
          let three = and_parts ((other == to) && (whom == who)) (label == called) all.0 in
          let two = and_parts (other == to) (whom == who) three.0 in
          λ ends. (let m = may (ends.0 ∙ ap not (sym (same_mode gives way mode.0)), ends.1, eqb-true whom who two.1 ∙ ends.2) in
          (m.0 ∙ eqb-true other to two.0, m.1 ∙ eqb-true label called three.1, m.2 ∙ eqb-true bytes many all.1))
      each _ same = absurd (cc)

abbrev pub MayBeginBelow : List AskedBy → ℕ → Request → ℕ → Type 0
MayBeginBelow kept r q n = AreSoBelow kept r (InitMayPassKept r q) n

module _ (kept : List AskedBy) (r : ℕ) (q : Request) (n : ℕ) (before : MayBeginBelow kept r q n) where
  pub begins_more : (a : AskedBy) → slice_get kept n ≡ Some a → (a.rank ≢ r → InitMayPassKept r q a)
      → MayBeginBelow kept r q (n + 1)
  begins_more = so_more kept r (InitMayPassKept r q) n before

  pub begins_all : IsInitialisation q → length kept ≤ n → (s : ℕ) (p : Asked) → s ≢ r → IsAllowed (patterns_of kept) s p
      → InitMayPass r q s p
  begins_all is all s p other allowed = of p allowed
    where
      found : (x : Asked) → patterns_of kept s x ≡ true → InitMayPass r q s x
      found x has =
          let f = so_found kept r (InitMayPassKept r q) n before all s x other has in
          subst (λ k. InitMayPass r q k x) f.1 (f.3 x f.2)

      nothing : (q : Request) → IsInitialisation q → InitMayPass r q s own × InitMayPass r q s wait
      nothing (request.Init sends comm peer tag parts size) is = (tt, tt)
      nothing _ is = absurd is

      of : (x : Asked) → IsAllowed (patterns_of kept) s x → InitMayPass r q s x
      of own allowed = (nothing q is).0
      of wait allowed = (nothing q is).1
      of unlisted allowed = absurd allowed
      of x allowed = found x allowed

-- ---- turns at boxes

abbrev pub MayMeetBelow : List AskedBy → ℕ → Ask → ℕ → Type 0
MayMeetBelow kept r ask n = AreSoBelow kept r (MayMeetKept ask) n

pub none_contests : (ask : Ask) → IsAtBox ask → MayMeet ask own × MayMeet ask wait
none_contests (Ask.Ready link part bytes) at = (tt, tt)
none_contests (Ask.Freed link part) at = (tt, tt)
none_contests (Ask.Look link part) at = (tt, tt)
none_contests _ at = absurd at

module _ (kept : List AskedBy) (r : ℕ) (ask : Ask) (n : ℕ) (before : MayMeetBelow kept r ask n) where
  pub meets_more : (a : AskedBy) → slice_get kept n ≡ Some a → (a.rank ≢ r → MayMeetKept ask a)
      → MayMeetBelow kept r ask (n + 1)
  meets_more = so_more kept r (MayMeetKept ask) n before

  pub meets_all : IsAtBox ask → length kept ≤ n → (s : ℕ) (p : Asked) → s ≢ r → IsAllowed (patterns_of kept) s p → MayMeet ask p
  meets_all at all s p other allowed = of p allowed
    where
      found : (x : Asked) → patterns_of kept s x ≡ true → MayMeet ask x
      found x has = (let f = so_found kept r (MayMeetKept ask) n before all s x other has in f.3 x f.2)

      of : (x : Asked) → IsAllowed (patterns_of kept) s x → MayMeet ask x
      of own allowed = (none_contests ask at).0
      of wait allowed = (none_contests ask at).1
      of unlisted allowed = absurd allowed
      of x allowed = found x allowed

-- ---- sides of links

-- the patterns before this place
abbrev pub AreOnSidesBelow : List Link → List AskedBy → ℕ → Type 0
AreOnSidesBelow links kept n = (i : ℕ) → i < n → (a : AskedBy) → slice_get kept i ≡ Some a → IsOnSide links a

module _ (links : List Link) (kept : List AskedBy) (n : ℕ) (before : AreOnSidesBelow links kept n) where
  pub sides_more : (a : AskedBy) → slice_get kept n ≡ Some a → IsOnSide links a → AreOnSidesBelow links kept (n + 1)
  sides_more a at here i low x there = elim (cases_eq n i) [
    | inl same ↦
        subst (IsOnSide links)
        (same_Some a x (sym at ∙ subst (λ k. slice_get kept k ≡ Some x) (sym same) there)) here
    | inr apart ↦ before i (omega (arith, low, apart)) x there
  ]

  pub sides_all : length kept ≤ n → AreOnSides links (patterns_of kept)
  sides_all all = record {
    senders = λ r link has. (let f = found r (by_sender link) has in
        subst (λ k. sends_over links link k ≡ true) f.1 ((f.2).0 link f.3));
    receivers = λ r link has. (let f = found r (by_receiver link) has in
        subst (λ k. is_receiver links k link ≡ true) f.1 ((f.2).1 link f.3));
  }
    where
      found : (r : ℕ) (p : Asked) → patterns_of kept r p ≡ true
          → (a : AskedBy) × (a.rank ≡ r) × IsOnSide links a × (is_pattern a.pattern p ≡ true)
      found r p has =
          let v = of_any (λ (a : AskedBy). (a.rank == r) && is_pattern a.pattern p) kept has in
          let parts = and_parts ((v.1).rank == r) (is_pattern (v.1).pattern p) v.3 in
          let inside = slice_get_within kept v.0 v.1 v.2 in
          (v.1, eqb-true (v.1).rank r parts.0, before v.0 (omega (arith, inside, all)) v.1 v.2, parts.1)

-- ---- patterns that are added

pub poll_kept : (old new : List AskedBy) → Keeps old new → (r : ℕ) (waits : Bool)
    → IsAllowed (patterns_of old) r (cond waits wait poll) → IsAllowed (patterns_of new) r (cond waits wait poll)
poll_kept old new keeps r true allowed = tt
poll_kept old new keeps r false allowed = keeps r pattern.Poll allowed

-- each of these before this place is among those
abbrev pub HasBelow : List AskedBy → List AskedBy → ℕ → Type 0
HasBelow others new n =
    (i : ℕ) → i < n → (a : AskedBy) → slice_get others i ≡ Some a → has_pattern new a.rank a.pattern ≡ true

wanted_is : (wanted k : Pattern) → is_wanted wanted k ≡ true → k ≡ wanted
wanted_is (pattern.Send sync dest comm) (pattern.Send its to other) is =
    let parts = and_parts (is_same_bool its sync) ((to == dest) && (other == comm)) is in
    let places = and_parts (to == dest) (other == comm) parts.1 in
    let mode = same_mode its sync parts.0 in
    let there = eqb-true to dest places.0 in
    let within = eqb-true other comm places.1 in λ i. pattern.Send (mode i) (there i) (within i)
wanted_is (pattern.Send sync dest comm) pattern.Receive is = absurd (cc)
wanted_is (pattern.Send sync dest comm) pattern.Poll is = absurd (cc)
wanted_is (pattern.Send sync dest comm) pattern.PollOfSends is = absurd (cc)
wanted_is (pattern.Send sync dest comm) pattern.Claim is = absurd (cc)
wanted_is (pattern.Send sync dest comm) (pattern.AnySource other) is = absurd (cc)
wanted_is (pattern.Send sync dest comm) (pattern.Initialisation gives where_to whom label many) is = absurd (cc)
wanted_is (pattern.Send sync dest comm) pattern.PollOfCuts is = absurd (cc)
wanted_is (pattern.Send sync dest comm) (pattern.BySender other) is = absurd (cc)
wanted_is (pattern.Send sync dest comm) (pattern.ByReceiver other) is = absurd (cc)
wanted_is (pattern.Send sync dest comm) pattern.PollOfComplete is = absurd (cc)
wanted_is pattern.Receive (pattern.Send its to other) is = absurd (cc)
wanted_is pattern.Receive pattern.Receive is = refl
wanted_is pattern.Receive pattern.Poll is = absurd (cc)
wanted_is pattern.Receive pattern.PollOfSends is = absurd (cc)
wanted_is pattern.Receive pattern.Claim is = absurd (cc)
wanted_is pattern.Receive (pattern.AnySource other) is = absurd (cc)
wanted_is pattern.Receive (pattern.Initialisation gives where_to whom label many) is = absurd (cc)
wanted_is pattern.Receive pattern.PollOfCuts is = absurd (cc)
wanted_is pattern.Receive (pattern.BySender other) is = absurd (cc)
wanted_is pattern.Receive (pattern.ByReceiver other) is = absurd (cc)
wanted_is pattern.Receive pattern.PollOfComplete is = absurd (cc)
wanted_is pattern.Poll (pattern.Send its to other) is = absurd (cc)
wanted_is pattern.Poll pattern.Receive is = absurd (cc)
wanted_is pattern.Poll pattern.Poll is = refl
wanted_is pattern.Poll pattern.PollOfSends is = absurd (cc)
wanted_is pattern.Poll pattern.Claim is = absurd (cc)
wanted_is pattern.Poll (pattern.AnySource other) is = absurd (cc)
wanted_is pattern.Poll (pattern.Initialisation gives where_to whom label many) is = absurd (cc)
wanted_is pattern.Poll pattern.PollOfCuts is = absurd (cc)
wanted_is pattern.Poll (pattern.BySender other) is = absurd (cc)
wanted_is pattern.Poll (pattern.ByReceiver other) is = absurd (cc)
wanted_is pattern.Poll pattern.PollOfComplete is = absurd (cc)
wanted_is pattern.PollOfSends (pattern.Send its to other) is = absurd (cc)
wanted_is pattern.PollOfSends pattern.Receive is = absurd (cc)
wanted_is pattern.PollOfSends pattern.Poll is = absurd (cc)
wanted_is pattern.PollOfSends pattern.PollOfSends is = refl
wanted_is pattern.PollOfSends pattern.Claim is = absurd (cc)
wanted_is pattern.PollOfSends (pattern.AnySource other) is = absurd (cc)
wanted_is pattern.PollOfSends (pattern.Initialisation gives where_to whom label many) is = absurd (cc)
wanted_is pattern.PollOfSends pattern.PollOfCuts is = absurd (cc)
wanted_is pattern.PollOfSends (pattern.BySender other) is = absurd (cc)
wanted_is pattern.PollOfSends (pattern.ByReceiver other) is = absurd (cc)
wanted_is pattern.PollOfSends pattern.PollOfComplete is = absurd (cc)
wanted_is pattern.Claim (pattern.Send its to other) is = absurd (cc)
wanted_is pattern.Claim pattern.Receive is = absurd (cc)
wanted_is pattern.Claim pattern.Poll is = absurd (cc)
wanted_is pattern.Claim pattern.PollOfSends is = absurd (cc)
wanted_is pattern.Claim pattern.Claim is = refl
wanted_is pattern.Claim (pattern.AnySource other) is = absurd (cc)
wanted_is pattern.Claim (pattern.Initialisation gives where_to whom label many) is = absurd (cc)
wanted_is pattern.Claim pattern.PollOfCuts is = absurd (cc)
wanted_is pattern.Claim (pattern.BySender other) is = absurd (cc)
wanted_is pattern.Claim (pattern.ByReceiver other) is = absurd (cc)
wanted_is pattern.Claim pattern.PollOfComplete is = absurd (cc)
wanted_is (pattern.AnySource comm) (pattern.Send its to other) is = absurd (cc)
wanted_is (pattern.AnySource comm) pattern.Receive is = absurd (cc)
wanted_is (pattern.AnySource comm) pattern.Poll is = absurd (cc)
wanted_is (pattern.AnySource comm) pattern.PollOfSends is = absurd (cc)
wanted_is (pattern.AnySource comm) pattern.Claim is = absurd (cc)
wanted_is (pattern.AnySource comm) (pattern.AnySource other) is = ap (λ c. pattern.AnySource c) (eqb-true other comm is)
wanted_is (pattern.AnySource comm) (pattern.Initialisation gives where_to whom label many) is = absurd (cc)
wanted_is (pattern.AnySource comm) pattern.PollOfCuts is = absurd (cc)
wanted_is (pattern.AnySource comm) (pattern.BySender other) is = absurd (cc)
wanted_is (pattern.AnySource comm) (pattern.ByReceiver other) is = absurd (cc)
wanted_is (pattern.AnySource comm) pattern.PollOfComplete is = absurd (cc)
wanted_is (pattern.Initialisation sends comm peer tag bytes) (pattern.Send its to other) is = absurd (cc)
wanted_is (pattern.Initialisation sends comm peer tag bytes) pattern.Receive is = absurd (cc)
wanted_is (pattern.Initialisation sends comm peer tag bytes) pattern.Poll is = absurd (cc)
wanted_is (pattern.Initialisation sends comm peer tag bytes) pattern.PollOfSends is = absurd (cc)
wanted_is (pattern.Initialisation sends comm peer tag bytes) pattern.Claim is = absurd (cc)
wanted_is (pattern.Initialisation sends comm peer tag bytes) (pattern.AnySource other) is = absurd (cc)
wanted_is (pattern.Initialisation sends comm peer tag bytes) (pattern.Initialisation gives other whom label many) is =
    let parts = and_parts (is_same_bool gives sends) ((other == comm) && (whom == peer) && (label == tag) && (many == bytes)) is in
    let all = and_parts ((other == comm) && (whom == peer) && (label == tag)) (many == bytes) parts.1 in
    let three = and_parts ((other == comm) && (whom == peer)) (label == tag) all.0 in
    let two = and_parts (other == comm) (whom == peer) three.0 in
    let way = same_mode gives sends parts.0 in
    let where_is = eqb-true other comm two.0 in
    let who = eqb-true whom peer two.1 in
    let called = eqb-true label tag three.1 in
    let many_are = eqb-true many bytes all.1 in
    λ i. pattern.Initialisation (way i) (where_is i) (who i) (called i) (many_are i)
wanted_is (pattern.Initialisation sends comm peer tag bytes) pattern.PollOfCuts is = absurd (cc)
wanted_is (pattern.Initialisation sends comm peer tag bytes) (pattern.BySender other) is = absurd (cc)
wanted_is (pattern.Initialisation sends comm peer tag bytes) (pattern.ByReceiver other) is = absurd (cc)
wanted_is (pattern.Initialisation sends comm peer tag bytes) pattern.PollOfComplete is = absurd (cc)
wanted_is pattern.PollOfCuts (pattern.Send its to other) is = absurd (cc)
wanted_is pattern.PollOfCuts pattern.Receive is = absurd (cc)
wanted_is pattern.PollOfCuts pattern.Poll is = absurd (cc)
wanted_is pattern.PollOfCuts pattern.PollOfSends is = absurd (cc)
wanted_is pattern.PollOfCuts pattern.Claim is = absurd (cc)
wanted_is pattern.PollOfCuts (pattern.AnySource other) is = absurd (cc)
wanted_is pattern.PollOfCuts (pattern.Initialisation gives where_to whom label many) is = absurd (cc)
wanted_is pattern.PollOfCuts pattern.PollOfCuts is = refl
wanted_is pattern.PollOfCuts (pattern.BySender other) is = absurd (cc)
wanted_is pattern.PollOfCuts (pattern.ByReceiver other) is = absurd (cc)
wanted_is pattern.PollOfCuts pattern.PollOfComplete is = absurd (cc)
wanted_is (pattern.BySender link) (pattern.Send its to other) is = absurd (cc)
wanted_is (pattern.BySender link) pattern.Receive is = absurd (cc)
wanted_is (pattern.BySender link) pattern.Poll is = absurd (cc)
wanted_is (pattern.BySender link) pattern.PollOfSends is = absurd (cc)
wanted_is (pattern.BySender link) pattern.Claim is = absurd (cc)
wanted_is (pattern.BySender link) (pattern.AnySource other) is = absurd (cc)
wanted_is (pattern.BySender link) (pattern.Initialisation gives where_to whom label many) is = absurd (cc)
wanted_is (pattern.BySender link) pattern.PollOfCuts is = absurd (cc)
wanted_is (pattern.BySender link) (pattern.BySender other) is = ap (λ c. pattern.BySender c) (eqb-true other link is)
wanted_is (pattern.BySender link) (pattern.ByReceiver other) is = absurd (cc)
wanted_is (pattern.BySender link) pattern.PollOfComplete is = absurd (cc)
wanted_is (pattern.ByReceiver link) (pattern.Send its to other) is = absurd (cc)
wanted_is (pattern.ByReceiver link) pattern.Receive is = absurd (cc)
wanted_is (pattern.ByReceiver link) pattern.Poll is = absurd (cc)
wanted_is (pattern.ByReceiver link) pattern.PollOfSends is = absurd (cc)
wanted_is (pattern.ByReceiver link) pattern.Claim is = absurd (cc)
wanted_is (pattern.ByReceiver link) (pattern.AnySource other) is = absurd (cc)
wanted_is (pattern.ByReceiver link) (pattern.Initialisation gives where_to whom label many) is = absurd (cc)
wanted_is (pattern.ByReceiver link) pattern.PollOfCuts is = absurd (cc)
wanted_is (pattern.ByReceiver link) (pattern.BySender other) is = absurd (cc)
wanted_is (pattern.ByReceiver link) (pattern.ByReceiver other) is = ap (λ c. pattern.ByReceiver c) (eqb-true other link is)
wanted_is (pattern.ByReceiver link) pattern.PollOfComplete is = absurd (cc)
wanted_is pattern.PollOfComplete (pattern.Send its to other) is = absurd (cc)
wanted_is pattern.PollOfComplete pattern.Receive is = absurd (cc)
wanted_is pattern.PollOfComplete pattern.Poll is = absurd (cc)
wanted_is pattern.PollOfComplete pattern.PollOfSends is = absurd (cc)
wanted_is pattern.PollOfComplete pattern.Claim is = absurd (cc)
wanted_is pattern.PollOfComplete (pattern.AnySource other) is = absurd (cc)
wanted_is pattern.PollOfComplete (pattern.Initialisation gives where_to whom label many) is = absurd (cc)
wanted_is pattern.PollOfComplete pattern.PollOfCuts is = absurd (cc)
wanted_is pattern.PollOfComplete (pattern.BySender other) is = absurd (cc)
wanted_is pattern.PollOfComplete (pattern.ByReceiver other) is = absurd (cc)
wanted_is pattern.PollOfComplete pattern.PollOfComplete is = refl

pub here : (xs : List AskedBy) (i : ℕ) (none : AskedBy) → i < length xs → slice_get xs i ≡ Some (get_or xs i none)
here [] i none low = absurd (omega (arith, low))
here (x ∷ xs) zero none low = refl
here (x ∷ xs) (suc i) none low = here xs i none (omega (arith, low))

module _ (others new : List AskedBy) (n : ℕ) (before : HasBelow others new n) where
  pub has_more : (none : AskedBy) (xs more : List AskedBy) → xs ≡ others → n < length others → Keeps new more
      → has_pattern more (get_or xs n none).rank (get_or xs n none).pattern ≡ true → HasBelow others more (n + 1)
  has_more none xs more are inside keeps has i low x there = elim (cases_eq n i) [
    | inl same ↦
        let a : AskedBy = get_or xs n none in
        let at : slice_get others n ≡ Some a = here others n none inside ∙ ap (λ ys. Some (get_or ys n none)) (sym are) in
        let is : a ≡ x = same_Some a x (sym at ∙ subst (λ k. slice_get others k ≡ Some x) (sym same) there) in
        subst (λ (y : AskedBy). has_pattern more y.rank y.pattern ≡ true) is has
    | inr apart ↦ keeps x.rank x.pattern (before i (omega (arith, low, apart)) x there)
  ]

  pub has_all : length others ≤ n → Keeps others new
  has_all all r wanted has =
      let v = of_any (λ (a : AskedBy). (a.rank == r) && is_wanted wanted a.pattern) others has in
      let parts = and_parts ((v.1).rank == r) (is_wanted wanted (v.1).pattern) v.3 in
      let inside = slice_get_within others v.0 v.1 v.2 in
      subst (λ k. has_pattern new k wanted ≡ true) (eqb-true (v.1).rank r parts.0)
      (subst (λ k. has_pattern new (v.1).rank k ≡ true) (wanted_is wanted (v.1).pattern parts.1)
      (before v.0 (omega (arith, inside, all)) v.1 v.2))
