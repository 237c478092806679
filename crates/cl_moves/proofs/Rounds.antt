-- A rank that comes back to what it held goes round by itself for ever.
use Rattle.std.specs.Prelude.{ℕ, zero, suc, ◌+◌, ◌-◌, ◌%◌, ◌<◌, ◌≤◌, ◌≡◌, List, length, slice_index}
use Rattle.std.proofs.Common.{refl, sym, ap, ◌∙◌, subst, arith}
use Rattle.std.proofs.Math.Nat.{mod-add-mod}
use Rattle.cl_deeds.specs.Orders.{in_slot}
use Rattle.cl_state.specs.declared.asking.Answer.{Answer}
use Rattle.cl_state.specs.Asked.{asked}
use Rattle.cl_state.specs.Rank.{Rank}
use Rattle.cl_state.specs.Told.{told}
use Rattle.cl_state_laws.specs.VainLaws.{at_clock}
use Rattle.cl_order_laws.specs.Closed.{IsAhead, IsSamePlace, NeedsOnlyRank}
use Rattle.cl_order_laws.proofs.Ahead.{one_on, same_hart}
use Rattle.cl_order_laws.proofs.Ranks.{asked_timeless, told_stamped, told_timeless}
use Rattle.cl_moves.specs.Cycles.{GoesRound, IsSameRank}

-- ---- places of an order

pub same_place : (order : List ℕ) (n m : ℕ) → n % length order ≡ m % length order → IsSamePlace (in_slot order) n m
same_place order n m same = λ k.
    ap (slice_index order) (sym (mod-add-mod n (length order) k)
    ∙ (ap (λ q. (q + k) % length order) same ∙ mod-add-mod m (length order) k))

-- ---- turns that need only their rank

-- the rank behind one
abbrev next : (ℕ → ℕ) → Rank → ℕ → Rank
next plan rank had = told rank (plan had) Answer.Alone (rank.clock + 1)

pub ahead_had : (plan : ℕ → ℕ) (n : ℕ) (a : Rank) (had : ℕ) (b : Rank) (mid : ℕ) → IsAhead plan n a had b mid → mid ≡ had + n
ahead_had plan zero a had b mid ahead = let e : had ≡ had + zero = omega arith in ahead.1 ∙ e
ahead_had plan (suc n) a had b mid ahead =
    let e : (had + 1) + n ≡ had + suc n = omega arith in
    ahead_had plan n (next plan a had) (had + 1) b mid ahead.1 ∙ e

-- some, and some more
pub ahead_more : (plan : ℕ → ℕ) (n m : ℕ) (a : Rank) (had : ℕ) (b : Rank) (mid : ℕ) (c : Rank) (last : ℕ)
    → IsAhead plan n a had b mid → IsAhead plan m b mid c last → IsAhead plan (n + m) a had c last
ahead_more plan zero m a had b mid c last first second =
    let e : m ≡ zero + m = omega arith in
    subst (λ k. IsAhead plan k a had c last) e
    (subst (λ x. IsAhead plan m x had c last) first.0 (subst (λ i. IsAhead plan m b i c last) first.1 second))
ahead_more plan (suc n) m a had b mid c last first second =
    let e : suc (n + m) ≡ suc n + m = omega arith in
    subst (λ k. IsAhead plan k a had c last) e
    (first.0, ahead_more plan n m (next plan a had) (had + 1) b mid c last first.1 second)

-- the first so many of them
pub ahead_front : (plan : ℕ → ℕ) (n m : ℕ) (a : Rank) (had : ℕ) (c : Rank) (last : ℕ) → IsAhead plan (n + m) a had c last
    → (b : Rank) × IsAhead plan n a had b (had + n)
ahead_front plan zero m a had c last ahead = let e : had + zero ≡ had = omega arith in (a, (refl, e))
ahead_front plan (suc n) m a had c last ahead =
    let e : suc n + m ≡ suc (n + m) = omega arith in
    let f : (had + 1) + n ≡ had + suc n = omega arith in
    let all : IsAhead plan (suc (n + m)) a had c last = subst (λ k. IsAhead plan k a had c last) e ahead in
    let rest = ahead_front plan n m (next plan a had) (had + 1) c last all.1 in
    (rest.0, (all.0, subst (λ k. IsAhead plan n (next plan a had) (had + 1) rest.0 k) f rest.1))

-- they lead to one rank
pub ahead_once : (plan : ℕ → ℕ) (n : ℕ) (a : Rank) (had : ℕ) (b : Rank) (mid : ℕ) (c : Rank) (last : ℕ)
    → IsAhead plan n a had b mid → IsAhead plan n a had c last → b ≡ c
ahead_once plan zero a had b mid c last first second = first.0 ∙ sym second.0
ahead_once plan (suc n) a had b mid c last first second =
    ahead_once plan n (next plan a had) (had + 1) b mid c last first.1 second.1

-- of the same site
told_site : (rank : Rank) (hart : ℕ) (answer : Answer) (stamp : ℕ) → (told rank hart answer stamp).site ≡ rank.site
unfolding told
told_site rank hart answer stamp = refl

pub ahead_site : (plan : ℕ → ℕ) (n : ℕ) (a : Rank) (had : ℕ) (b : Rank) (mid : ℕ) → IsAhead plan n a had b mid
    → b.site ≡ a.site
ahead_site plan zero a had b mid ahead = ap (λ (x : Rank). x.site) ahead.0
ahead_site plan (suc n) a had b mid ahead =
    ahead_site plan n (next plan a had) (had + 1) b mid ahead.1 ∙ told_site a (plan had) Answer.Alone (a.clock + 1)

-- the clock makes no difference to them, nor how many turns were had before, at the same place of the plan
pub ahead_at : (plan : ℕ → ℕ) (n : ℕ) (a : Rank) (had : ℕ) (b : Rank) (mid : ℕ) (clock other : ℕ) → IsSamePlace plan other had
    → IsAhead plan n a had b mid → IsAhead plan n (at_clock a clock) other (at_clock b (clock + n)) (other + n)
ahead_at plan zero a had b mid clock other same ahead =
    let e : clock + zero ≡ clock = omega arith in
    let f : other + zero ≡ other = omega arith in
    ((λ i. at_clock (ahead.0 i) (e i)), f)
ahead_at plan (suc n) a had b mid clock other same ahead =
    let hart : plan other ≡ plan had = same_hart plan other had same in
    let needs : NeedsOnlyRank (asked (at_clock a clock) (plan other)) =
    subst NeedsOnlyRank (sym (asked_timeless a clock (plan other)))
    (subst (λ h. NeedsOnlyRank (asked a h)) (sym hart) ahead.0) in
    let then : told (at_clock a clock) (plan other) Answer.Alone (clock + 1) ≡ at_clock (next plan a had) (clock + 1) =
    told_timeless a clock (plan other) Answer.Alone (clock + 1)
    ∙ (ap (λ h. told a h Answer.Alone (clock + 1)) hart ∙ told_stamped a (plan had) Answer.Alone (a.clock + 1) (clock + 1)) in
    let e : (clock + 1) + n ≡ clock + suc n = omega arith in
    let f : (other + 1) + n ≡ other + suc n = omega arith in
    let rest = ahead_at plan n (next plan a had) (had + 1) b mid (clock + 1) (other + 1) (one_on plan other had same) ahead.1 in (
      needs,
      subst (λ x. IsAhead plan n x (other + 1) (at_clock b (clock + suc n)) (other + suc n)) (sym then)
          (subst (λ k. IsAhead plan n (at_clock (next plan a had) (clock + 1)) (other + 1) (at_clock b k) (other + suc n)) e
          (subst (λ k. IsAhead plan n (at_clock (next plan a had) (clock + 1)) (other + 1) (at_clock b ((clock + 1) + n)) k) f
          rest)),
    )

-- ---- round and round

module _ (plan : ℕ → ℕ) (kept : Rank) (before turns : ℕ) (rank : Rank) (had : ℕ)
    (ahead : IsAhead plan turns kept before rank had) (place : IsSamePlace plan had before)
    (same : rank ≡ at_clock kept rank.clock) where
  -- once round, at any clock and from any such place
  once : (clock other : ℕ) → IsSamePlace plan other before
      → IsAhead plan turns (at_clock kept clock) other (at_clock kept (clock + turns)) (other + turns)
  once clock other at =
      subst (λ x. IsAhead plan turns (at_clock kept clock) other x (other + turns))
      (ap (λ (x : Rank). at_clock x (clock + turns)) same)
      (ahead_at plan turns kept before rank had clock other at ahead)

  place_on : (other : ℕ) → IsSamePlace plan other before → IsSamePlace plan (other + turns) before
  place_on other at = λ k.
      let count = ahead_had plan turns kept before rank had ahead in
      let e : (other + turns) + k ≡ other + (turns + k) = omega arith in
      let f : before + (turns + k) ≡ had + k = omega (arith, count) in
      ap plan e ∙ (at (turns + k) ∙ (ap plan f ∙ place k))

  -- so many turns and more
  many : 0 < turns → (n clock other : ℕ) → IsSamePlace plan other before
      → (k : ℕ) × (n ≤ k) × (b : Rank) × (mid : ℕ) × IsAhead plan k (at_clock kept clock) other b mid
  many some zero clock other at = (zero, omega arith, at_clock kept clock, other, (refl, refl))
  many some (suc n) clock other at =
      let rest = many some n (clock + turns) (other + turns) (place_on other at) in
      let least = rest.1 in (
        turns + rest.0,
        omega (arith, some, least),
        rest.2,
        rest.3,
        ahead_more plan turns rest.0 (at_clock kept clock) other (at_clock kept (clock + turns)) (other + turns) rest.2 rest.3
            (once clock other at) rest.4,
      )

  pub goes_round : 0 < turns → GoesRound plan rank had
  goes_round some = record {
    period = turns;
    some = some;
    place = λ k. place_on had place k ∙ sym (place k);
    on = λ n.
        let w = many some n rank.clock had place in
        let least = w.1 in
        let e : w.0 ≡ n + (w.0 - n) = omega (arith, least) in
        ahead_front plan n (w.0 - n) rank had w.2 w.3
        (subst (λ k. IsAhead plan k rank had w.2 w.3) e (subst (λ x. IsAhead plan w.0 x had w.2 w.3) (sym same) w.4));
    round = λ n then again after last first second.
        let clock = rank.clock + turns in
        let back : IsAhead plan turns rank had (at_clock rank clock) (had + turns) =
        subst (λ x. IsAhead plan turns x had (at_clock rank clock) (had + turns)) (sym same)
        (ahead_at plan turns kept before rank had rank.clock had place ahead) in
        let on = ahead_at plan n rank had then after clock (had + turns) (λ k. place_on had place k ∙ sym (place k)) first in
        let both = ahead_more plan turns n rank had (at_clock rank clock) (had + turns) (at_clock then (clock + n))
        ((had + turns) + n) back on in
        let e : n + turns ≡ turns + n = omega arith in
        let is : again ≡ at_clock then (clock + n) =
        ahead_once plan (turns + n) rank had again last (at_clock then (clock + n)) ((had + turns) + n)
        (subst (λ k. IsAhead plan k rank had again last) e second) both in
        is ∙ ap (at_clock then) (sym (ap (λ (x : Rank). x.clock) is));
  }

-- a rank of the same site that holds the same is the same but for its clock
pub same_but_clock : (a b : Rank) → IsSameRank a b → b.site ≡ a.site → b ≡ at_clock a b.clock
same_but_clock a b same site =
    let beside = same.beside in
    let memory : b.memory ≡ a.memory = sym beside.memory in
    let harts : b.harts ≡ a.harts = sym same.harts in
    let requests : b.requests ≡ a.requests = sym same.requests in
    let phases : b.phases ≡ a.phases = sym beside.phases in
    let out : b.out ≡ a.out = sym beside.out in
    λ i. record {
      site = site i;
      memory = memory i;
      harts = harts i;
      requests = requests i;
      phases = phases i;
      out = out i;
      clock = b.clock;
    }
