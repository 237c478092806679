-- Turns of a rank that need only itself, by other names and one behind the other.
use Rattle.std.proofs.Common.{◌≡◌, ℕ, zero, suc, ◌+◌, ◌⊎◌, inl, inr, List, [], ◌∷◌, map, Option, Some, None, refl, sym, ap, ◌∙◌, subst, arith}
use Rattle.std.specs.Option.{option_map}
use Rattle.rv_hart.specs.State.{State, in_mode}
use Rattle.rv_hart.specs.declared.state.Mode.{Mode}
use Rattle.rv_hart.specs.declared.state.Mode.TheVariants.{Running, Waiting, Ended, Trapped}
use Rattle.rv_hart.specs.declared.state.Wait.TheVariants.{Post, Again}
use Rattle.mp_request.specs.declared.entries.OpenRequest.{OpenRequest}
use Rattle.mp_request.specs.declared.entries.Progress.TheVariants.{Finished, Sent, OnPost, InPhase}
use Rattle.mp_request.specs.declared.entries.State.{State as RequestState}
use Rattle.mp_request.specs.declared.entries.State.TheVariants.{Ordinary, Inactive, Active}
use Rattle.mp_request.specs.Table.{Table}
use Rattle.cl_state.specs.declared.asking.Answer.{Answer}
use Rattle.cl_state.specs.declared.asking.Ask.{Ask}
use Rattle.cl_state.specs.Asked.{asked}
use Rattle.cl_state.specs.Rank.{Rank}
use Rattle.cl_state.specs.Told.{told}
use Rattle.cl_state_laws.specs.Vain.{IsStopped, mode_of}
use Rattle.cl_state_laws.specs.VainLaws.{at_clock}
use Rattle.cl_state_laws.proofs.Vain.{vain_law}
use Rattle.mp_alike_laws.specs.Renaming.{Renaming, followed_by, number_by}
use Rattle.cl_names_laws.specs.Named.{ask_by, hart_by, mode_by, open_with, rank_by, rank_with, state_with, table_with}
use Rattle.cl_names_laws.proofs.Asks.{part_named}
use Rattle.cl_order_laws.specs.Alike.{AlikeRanks}
use Rattle.cl_order_laws.specs.Closed.{IsAhead, IsBehind, IsDone, IsSamePlace, NeedsOnlyRank}
use Rattle.cl_order_laws.proofs.Ranks.{asked_alike, asked_timeless, told_alike, told_timeless}

-- ---- one renaming behind another

module _ (names more : Renaming) where
  number_on : (n : ℕ) → number_by more (number_by names n) ≡ number_by (followed_by names more) n
  number_on zero = refl
  number_on (suc n) = refl

  mode_on : (m : Mode) → mode_by more (mode_by names m) ≡ mode_by (followed_by names more) m
  mode_on Running = refl
  mode_on (Waiting (Post n)) = ap (λ k. Waiting (Post k)) (number_on n)
  mode_on (Waiting Again) = refl
  mode_on (Ended code) = refl
  mode_on (Trapped cause pc) = refl

  harts_on : (hs : List State)
      → map (hart_by more) (map (hart_by names) hs) ≡ map (hart_by (followed_by names more)) hs
  harts_on [] = refl
  harts_on (h ∷ hs) = λ k. in_mode h (mode_on h.mode k) ∷ harts_on hs k

  -- where standard sends are numbered otherwise
  module _ (first second : ℕ → ℕ) where
    abbrev then_second : ℕ → ℕ
    then_second post = second (first post)

    state_on : (s : RequestState)
        → state_with more second (state_with names first s) ≡ state_with (followed_by names more) then_second s
    state_on (Ordinary Finished) = refl
    state_on (Ordinary (Sent n)) = refl
    state_on (Ordinary (OnPost n)) = ap (λ k. Ordinary (OnPost k)) (number_on n)
    state_on (Ordinary InPhase) = refl
    state_on Inactive = refl
    state_on (Active Finished) = refl
    state_on (Active (Sent n)) = refl
    state_on (Active (OnPost n)) = ap (λ k. Active (OnPost k)) (number_on n)
    state_on (Active InPhase) = refl

    open_on : (o : Option OpenRequest)
        → option_map (open_with more second) (option_map (open_with names first) o)
        ≡ option_map (open_with (followed_by names more) then_second) o
    open_on None = refl
    open_on (Some r) =
        ap (λ s. (let q : OpenRequest = record { transfer = r.transfer; state = s } in Some q)) (state_on r.state)

    table_on : (t : Table)
        → table_with more second (table_with names first t) ≡ table_with (followed_by names more) then_second t
    table_on [] = refl
    table_on (o ∷ t) = λ k. open_on o k ∷ table_on t k

    pub with_on : (a : Rank)
        → rank_with more second (rank_with names first a) ≡ rank_with (followed_by names more) then_second a
    with_on a = λ k. record a { harts = harts_on a.harts k; requests = table_on a.requests k }

  pub rank_on : (a : Rank) → rank_by more (rank_by names a) ≡ rank_by (followed_by names more) a
  rank_on a =
      with_on (number_by names) (number_by more) a
      ∙ ap (λ sends. rank_with (followed_by names more) sends a) (λ k n. number_on n k)

  pub alike_on : (a b c : Rank) → AlikeRanks names a b → AlikeRanks more b c → AlikeRanks (followed_by names more) a c
  alike_on a b c f g =
      (g.0, g.1 ∙ ap (λ x. at_clock (rank_by more x) g.0) f.1 ∙ ap (λ x. at_clock x g.0) (rank_on a))

-- ---- stopped harts

module _ (names : Renaming) (a b : Rank) (alike : AlikeRanks names a b) where
  pub mode_alike : (hart : ℕ) → mode_of b hart ≡ mode_by names (mode_of a hart)
  mode_alike hart =
      ap (λ x. mode_of x hart) alike.1 ∙ ap (λ p. p.hart.mode) (part_named names (number_by names) a hart)

  pub stopped_back : (m : Mode) → IsStopped (mode_by names m) → IsStopped m
  stopped_back Running is = is
  stopped_back (Waiting w) is = is
  stopped_back (Ended code) is = is
  stopped_back (Trapped cause pc) is = is

  pub stopped_on : (m : Mode) → IsStopped m → IsStopped (mode_by names m)
  stopped_on Running is = is
  stopped_on (Waiting w) is = is
  stopped_on (Ended code) is = is
  stopped_on (Trapped cause pc) is = is

  pub done_back : (plan : ℕ → ℕ) → IsDone plan b → IsDone plan a
  done_back plan done = λ n. stopped_back (mode_of a (plan n)) (subst IsStopped (mode_alike (plan n)) (done n))

  pub done_on : (plan : ℕ → ℕ) → IsDone plan a → IsDone plan b
  done_on plan done = λ n. subst IsStopped (sym (mode_alike (plan n))) (stopped_on (mode_of a (plan n)) (done n))

-- ---- turns that change nothing but the clock

abbrev pub Rests : (ℕ → ℕ) → Rank → Type 0
Rests plan rank =
    (n stamp : ℕ) → NeedsOnlyRank (asked rank (plan n)) → told rank (plan n) Answer.Alone stamp ≡ at_clock rank stamp

pub done_rests : (plan : ℕ → ℕ) (rank : Rank) → IsDone plan rank → Rests plan rank
done_rests plan rank done = λ n stamp needs. ((vain_law.stopped) rank (plan n) stamp Answer.Alone (done n)).1

pub resting : (plan : ℕ → ℕ) (rank : Rank) → Rests plan rank → (n clock had : ℕ) (then : Rank) (after : ℕ)
    → IsAhead plan n (at_clock rank clock) had then after → (late : ℕ) × (then ≡ at_clock rank late)
resting plan rank rests zero clock had then after ahead = (clock, ahead.0)
resting plan rank rests (suc n) clock had then after ahead =
    let needs : NeedsOnlyRank (asked rank (plan had)) =
    subst NeedsOnlyRank (asked_timeless rank clock (plan had)) ahead.0 in
    let same : told (at_clock rank clock) (plan had) Answer.Alone (clock + 1) ≡ at_clock rank (clock + 1) =
    told_timeless rank clock (plan had) Answer.Alone (clock + 1) ∙ rests had (clock + 1) needs in
    resting plan rank rests n (clock + 1) (had + 1) then after
    (subst (λ x. IsAhead plan n x (had + 1) then after) same ahead.1)

-- ---- turns by other names

needs_back : (names : Renaming) (q : Ask) → NeedsOnlyRank (ask_by names q) → NeedsOnlyRank q
needs_back names Ask.Plain needs = tt
needs_back names Ask.Local needs = tt
needs_back names (Ask.Hub request) needs = needs
needs_back names (Ask.Ready link part bytes) needs = needs
needs_back names (Ask.Look link part) needs = needs
needs_back names (Ask.Freed link part) needs = needs
needs_back names Ask.Held needs = tt
needs_back names Ask.Idle needs = tt

pub same_hart : (plan : ℕ → ℕ) (n m : ℕ) → IsSamePlace plan n m → plan n ≡ plan m
same_hart plan n m same =
    let e : n + 0 ≡ n = omega arith in
    let f : m + 0 ≡ m = omega arith in
    sym (ap plan e) ∙ same 0 ∙ ap plan f

pub one_on : (plan : ℕ → ℕ) (n m : ℕ) → IsSamePlace plan n m → IsSamePlace plan (n + 1) (m + 1)
one_on plan n m same = λ k.
    let e : (n + 1) + k ≡ n + (k + 1) = omega arith in
    let f : (m + 1) + k ≡ m + (k + 1) = omega arith in
    ap plan e ∙ same (k + 1) ∙ sym (ap plan f)

record Followed (names : Renaming) (plan : ℕ → ℕ) (n : ℕ) (a : Rank) (had : ℕ) (b : Rank) (theirs : ℕ) : Type 0 where
  then : Rank
  after : ℕ
  ahead : IsAhead plan n a had then after
  alike : AlikeRanks names then b
  place : IsSamePlace plan after theirs

follows : (names : Renaming) (plan : ℕ → ℕ) (n : ℕ) (a b : Rank) (had theirs : ℕ) (end : Rank) (last : ℕ)
    → AlikeRanks names a b → IsSamePlace plan had theirs → IsAhead plan n b theirs end last
    → Followed names plan n a had end last
follows names plan zero a b had theirs end last alike same ahead = record {
  then = a;
  after = had;
  ahead = (refl, refl);
  alike = subst (λ x. AlikeRanks names a x) (sym ahead.0) alike;
  place = subst (λ m. IsSamePlace plan had m) (sym ahead.1) same;
}
follows names plan (suc n) a b had theirs end last alike same ahead =
    let hart : plan had ≡ plan theirs = same_hart plan had theirs same in
    let needs : NeedsOnlyRank (asked a (plan theirs)) =
    needs_back names (asked a (plan theirs)) (subst NeedsOnlyRank (asked_alike names a b alike (plan theirs)) ahead.0) in
    let rest = follows names plan n (told a (plan had) Answer.Alone (a.clock + 1))
    (told b (plan theirs) Answer.Alone (b.clock + 1)) (had + 1) (theirs + 1) end last
    (subst (λ h. AlikeRanks names (told a h Answer.Alone (a.clock + 1)) (told b (plan theirs) Answer.Alone (b.clock + 1)))
    (sym hart) (told_alike names a b alike (plan theirs) Answer.Alone (a.clock + 1) (b.clock + 1) tt))
    (one_on plan had theirs same) ahead.1 in
    record {
      then = rest.then;
      after = rest.after;
      ahead = (subst (λ h. NeedsOnlyRank (asked a h)) (sym hart) needs, rest.ahead);
      alike = rest.alike;
      place = rest.place;
    }

beyond : (plan : ℕ → ℕ) (n m : ℕ) (a : Rank) (had : ℕ) (b : Rank) (mid : ℕ) (c : Rank) (last : ℕ)
    → IsAhead plan n a had b mid → IsAhead plan m b mid c last → (k : ℕ) × IsAhead plan k a had c last
beyond plan zero m a had b mid c last first second =
    (m, subst (λ x. IsAhead plan m x had c last) first.0 (subst (λ i. IsAhead plan m b i c last) first.1 second))
beyond plan (suc n) m a had b mid c last first second =
    let rest = beyond plan n m (told a (plan had) Answer.Alone (a.clock + 1)) (had + 1) b mid c last first.1 second in
    (suc rest.0, (first.0, rest.1))

pub behind_on : (plan : ℕ → ℕ) (names more : Renaming) (a : Rank) (had : ℕ) (b : Rank) (mid : ℕ) (c : Rank) (last : ℕ)
    → IsBehind plan names a had b mid → IsBehind plan more b mid c last
    → IsBehind plan (followed_by names more) a had c last
behind_on plan names more a had b mid c last f g = go f.place
  where
    go : IsSamePlace plan f.after mid ⊎ IsDone plan f.then → IsBehind plan (followed_by names more) a had c last
    go (inl same) =
        let t = follows names plan g.turns f.then b f.after mid g.then g.after f.alike same g.ahead in
        let k = beyond plan f.turns g.turns a had f.then f.after t.then t.after f.ahead t.ahead in
        record {
          turns = k.0;
          then = t.then;
          after = t.after;
          ahead = k.1;
          alike = alike_on names more t.then g.then c t.alike g.alike;
          place = elim g.place [
            | inl also ↦ inl (λ i. t.place i ∙ also i)
            | inr done ↦ inr (done_back names t.then g.then t.alike plan done)
          ];
        }
    go (inr done) =
        let stays = resting plan b (done_rests plan b (done_on names f.then b f.alike plan done)) g.turns b.clock mid
        g.then g.after g.ahead in
        record {
          turns = f.turns;
          then = f.then;
          after = f.after;
          ahead = f.ahead;
          alike =
              alike_on names more f.then g.then c
              (stays.0, stays.1 ∙ ap (λ x. at_clock x stays.0) (f.alike).1) g.alike;
          place = inr done;
        }
