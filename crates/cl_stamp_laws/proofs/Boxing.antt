-- From a box's run along its events: the facts of the gate rule over its two views.
use Rattle.std.specs.Prelude.{ℕ, zero, suc, ◌+◌, ◌<◌, List, [], ◌∷◌, ◌++◌, ◌≡◌, ◌≢◌, ◌⊎◌, length, ⊤}
use Rattle.std.specs.List.{slice_get, filter_map, AllByRecursion}
use Rattle.std.specs.declared.option.Option.TheVariants.{None, Some}
use Rattle.std.proofs.Common.{refl, sym, ap, ◌∙◌, subst, arith, append_assoc}
use Rattle.std.proofs.lemmas.List.{append-nil, length-append}
use Rattle.std.proofs.lemmas.Option.{same_Some, slice_get_past}
use mathlib.Core.Logic.{inl, inr}
use Rattle.cl_deeds.specs.Deeds.{Act, Deed, PartRun}
use Rattle.cl_machine.specs.Boxes.{Box, Thing}
use Rattle.cl_machine.specs.Joined.{Got, ShowsTake, gate_stamp, got_of, made_of, takes_shown, thing_of}
use Rattle.cl_machine.specs.ProductSteps.{BoxMoves}
use Rattle.cl_machine.proofs.Meshes.{ended}
use Rattle.cl_machine.proofs.Views.{IsSending}
use Rattle.cl_box_laws.specs.Gates.{Gate, KeepsGate}

-- the stamp is above the gate's that was passed
abbrev pub GatePassed : ℕ → Act → Type 0
GatePassed stamp (Act.Take link part gate bytes) = gate < stamp
GatePassed stamp (Act.Freed link part gate) = gate < stamp
GatePassed stamp _ = ⊤

-- the sender's events are above s
abbrev pub SendsAbove : ℕ → List Deed → Type 0
SendsAbove s ds = AllByRecursion (λ (x : Deed). IsSending x.act → s < x.stamp) ds

-- the stamps of the sender's events rise
abbrev pub SendsRise : List Deed → Type 0
SendsRise [] = ⊤
SendsRise (d ∷ ds) = (IsSending d.act → SendsAbove d.stamp ds) × SendsRise ds

-- what holds of a box's two views
pub record Fits (made : List Thing) (got : List Got) : Type 0 where
  pub one_more : (length made ≡ length got) ⊎ (length made ≡ length got + 1)
  pub front : (k : ℕ) (g : Got) → slice_get got k ≡ Some g → slice_get made k ≡ Some (thing_of g)
  pub taken_after : (k : ℕ) (g : Got) → slice_get got k ≡ Some g → g.stamp < g.take
  pub made_after : (k : ℕ) (g : Got) (m : Thing) → slice_get got k ≡ Some g → slice_get made (suc k) ≡ Some m
      → g.take < m.stamp

plus_zero : (n : ℕ) → n + 0 ≡ n
plus_zero n = omega arith

gate_any : (p q : ℕ) (m : Thing) (made : List Thing) (got : List Got)
    → gate_stamp p (m ∷ made) got ≡ gate_stamp q (m ∷ made) got
gate_any p q m made [] = refl
gate_any p q m made (g ∷ got) = refl

get-length : {X : Type 0} (xs : List X) (x : X) → slice_get (xs ++ x ∷ []) (length xs) ≡ Some x
get-length [] x = refl
get-length (y ∷ xs) x = get-length xs x

fits_none : Fits [] []
fits_none = record {
  one_more = inl refl;
  front = λ k g e. absurd (cc);
  taken_after = λ k g e. absurd (cc);
  made_after = λ k g m e f. absurd (cc);
}

fits_one : (m : Thing) → Fits (m ∷ []) []
fits_one m = record {
  one_more = inr refl;
  front = λ k g e. absurd (cc);
  taken_after = λ k g e. absurd (cc);
  made_after = λ k g m e f. absurd (cc);
}

-- a thing more, made and taken
fits_more : (m : Thing) (g : Got) (made : List Thing) (got : List Got) → m ≡ thing_of g → g.stamp < g.take
    → ((x : Thing) → slice_get made 0 ≡ Some x → g.take < x.stamp) → Fits made got → Fits (m ∷ made) (g ∷ got)
fits_more m g made got same up next h = record {
  one_more = elim h.one_more [ inl e ↦ inl (omega (arith, e)) | inr e ↦ inr (omega (arith, e)) ];
  front = fronts;
  taken_after = afters;
  made_after = makes;
}
  where
    fronts : (k : ℕ) (x : Got) → slice_get (g ∷ got) k ≡ Some x → slice_get (m ∷ made) k ≡ Some (thing_of x)
    fronts zero x e = let one : g ≡ x = same_Some _ _ e in ap Some (same ∙ ap thing_of one)
    fronts (suc k) x e = h.front k x e

    afters : (k : ℕ) (x : Got) → slice_get (g ∷ got) k ≡ Some x → x.stamp < x.take
    afters zero x e = let one : g ≡ x = same_Some _ _ e in subst (λ (y : Got). y.stamp < y.take) one up
    afters (suc k) x e = h.taken_after k x e

    makes : (k : ℕ) (x : Got) (y : Thing) → slice_get (g ∷ got) k ≡ Some x → slice_get (m ∷ made) (suc k) ≡ Some y
        → x.take < y.stamp
    makes zero x y e f = let one : g ≡ x = same_Some _ _ e in subst (λ (z : Got). z.take < y.stamp) one (next y f)
    makes (suc k) x y e f = h.made_after k x y e f

-- what is asked of the events to come; n were made so far
pub record Coming (n : ℕ) (gate : Gate) (K : List Deed) : Type 0 where
  pub used : gate ≢ Gate.Unused → 0 < n
  pub keeps : KeepsGate gate K
  pub rise : SendsRise K
  pub passed : AllByRecursion (λ (d : Deed). GatePassed d.stamp d.act) K

-- from an empty box
pub record FromEmpty (n : ℕ) (K : List Deed) (whole : List Got) (old new : Box) : Type 0 where
  pub fits : Fits (filter_map made_of K) (filter_map got_of K)
  pub next : (m : Thing) → slice_get (filter_map made_of K) 0 ≡ Some m → old.stamp < m.stamp
  pub freed : AllByRecursion (ShowsTake whole) (takes_shown n K)
  pub end : new
      ≡ ended old (filter_map made_of K) (length (filter_map got_of K))
      (gate_stamp old.stamp (filter_map made_of K) (filter_map got_of K))

-- from a box in which m stands
record FromFull (n : ℕ) (K : List Deed) (whole : List Got) (m : Thing) (old new : Box) : Type 0 where
  fits : Fits (m ∷ filter_map made_of K) (filter_map got_of K)
  freed : AllByRecursion (ShowsTake whole) (takes_shown n K)
  end : new
      ≡ ended old (filter_map made_of K) (length (filter_map got_of K))
      (gate_stamp 0 (m ∷ filter_map made_of K) (filter_map got_of K))

abbrev pub Empties : List Deed → Type 0
Empties K =
    (n : ℕ) (gate : Gate) (whole : List Got) (old new : Box) → PartRun BoxMoves old K new → length old.made ≡ old.taken
    → Coming n gate K
    → (gate ≢ Gate.Shut → SendsAbove old.stamp K)
    → ((k : ℕ) → n ≡ k + 1 → (g : Got) × (slice_get whole k ≡ Some g) × (g.take ≡ old.stamp))
    → ((j : ℕ) → slice_get whole (n + j) ≡ slice_get (filter_map got_of K) j)
    → FromEmpty n K whole old new

abbrev Fulls : List Deed → Type 0
Fulls K =
    (n : ℕ) (whole : List Got) (m : Thing) (old new : Box) → PartRun BoxMoves old K new
    → length old.made ≡ old.taken + 1
    → slice_get old.made old.taken ≡ Some m → old.stamp ≡ m.stamp → Coming (n + 1) Gate.Shut K
    → ((j : ℕ) → slice_get whole (n + j) ≡ slice_get (filter_map got_of K) j)
    → FromFull (n + 1) K whole m old new

empties_none : Empties []
empties_none n g whole old new run same coming above here there = record {
  fits = fits_none;
  next = λ m e. absurd (cc);
  freed = tt;
  end = run
      ∙ (λ i. record { made = sym (append-nil old.made) i; taken = sym (plus_zero old.taken) i; stamp = old.stamp });
}

fulls_none : Fulls []
fulls_none n whole m old new run same is stamp coming there = record {
  fits = fits_one m;
  freed = tt;
  end = run
      ∙ (λ i. record { made = sym (append-nil old.made) i; taken = sym (plus_zero old.taken) i; stamp = stamp i });
}

module _ (r h s : ℕ) (K : List Deed) where
  abbrev deed : Act → Deed
  deed a = record { rank = r; hart = h; stamp = s; act = a }

  step_empty : (a : Act) → Empties K → Fulls K → Empties (deed a ∷ K)
  step_empty (Act.Ready link part bytes) empties fulls n g whole old new run same coming above here there =
      let m : Thing = record { stamp = s; bytes = bytes } in
      let mid : Box = record { made = old.made ++ m ∷ []; taken = old.taken; stamp = s } in
      let more : FromFull (n + 1) K whole m mid new =
      fulls n whole m mid new (subst (λ b. PartRun BoxMoves b K new) run.1.1 run.2)
      (length-append old.made (m ∷ []) ∙ ap (λ k. k + 1) same)
      (subst (λ k. slice_get (old.made ++ m ∷ []) k ≡ Some m) same (get-length old.made m)) refl
      (record { used = λ u. omega arith; keeps = coming.keeps.1; rise = coming.rise.1; passed = coming.passed.1 })
      there in
      record {
        fits = more.fits;
        next = λ x e.
            let one : m ≡ x = same_Some _ _ e in
            subst (λ (y : Thing). old.stamp < y.stamp) one ((above coming.keeps.0).0 tt);
        freed = more.freed;
        end = more.end ∙ (λ i. record {
          made = append_assoc old.made (m ∷ []) (filter_map made_of K) i;
          taken = old.taken + length (filter_map got_of K);
          stamp = gate_any 0 old.stamp m (filter_map made_of K) (filter_map got_of K) i;
        });
      }
  step_empty (Act.Freed link part seen) empties fulls n g whole old new run same coming above here there =
      let up : old.stamp < s = omega (arith, coming.passed.0, run.1.1) in
      let more : FromEmpty n K whole old new =
      empties n Gate.Free whole old new (subst (λ b. PartRun BoxMoves b K new) run.1.2 run.2) same
      (record {
        used = λ u. coming.used coming.keeps.0;
        keeps = coming.keeps.1;
        rise = coming.rise.1;
        passed = coming.passed.1;
      })
      (λ e. lower K up (coming.rise.0 tt)) here there in
      record {
        fits = more.fits;
        next = more.next;
        freed = (shows n (coming.used coming.keeps.0) here, more.freed);
        end = more.end;
      }
    where
      lower : (xs : List Deed) → old.stamp < s → SendsAbove s xs → SendsAbove old.stamp xs
      lower [] u k = tt
      lower (x ∷ xs) u k = ((λ t. let above = k.0 t in omega (arith, u, above)), lower xs u k.1)

      shows : (n : ℕ) → 0 < n → ((k : ℕ) → n ≡ k + 1 → (g : Got) × (slice_get whole k ≡ Some g) × (g.take ≡ old.stamp))
          → ShowsTake whole (n, seen)
      shows zero low f = absurd (omega (arith, low))
      shows (suc k) low f = let g = f k (omega arith) in (k, g.0, omega arith, g.1, run.1.1 ∙ sym g.2)
  step_empty (Act.Take link part seen bytes) empties fulls n g whole old new run same coming above here there =
      let past : slice_get old.made old.taken ≡ None = slice_get_past old.made old.taken (omega (arith, same)) in
      let is = run.1.0 in
      absurd (let e = sym past ∙ is in (cc))
  step_empty Act.Plain empties fulls n g whole old new run same coming above here there = absurd run.1
  step_empty Act.Local empties fulls n g whole old new run same coming above here there = absurd run.1
  step_empty (Act.Hub clock request reply) empties fulls n g whole old new run same coming above here there =
      absurd run.1
  step_empty (Act.Miss link part) empties fulls n g whole old new run same coming above here there = absurd run.1
  step_empty Act.Held empties fulls n g whole old new run same coming above here there = absurd run.1
  step_empty Act.Idle empties fulls n g whole old new run same coming above here there = absurd run.1

  step_full : (a : Act) → Empties K → Fulls K → Fulls (deed a ∷ K)
  step_full (Act.Ready link part bytes) empties fulls n whole m old new run same is stamp coming there =
      absurd (let a = run.1.0 in omega (arith, a, same))
  step_full (Act.Freed link part seen) empties fulls n whole m old new run same is stamp coming there =
      absurd (let a = run.1.0 in omega (arith, a, same))
  step_full (Act.Take link part seen bytes) empties fulls n whole m old new run same is stamp coming there =
      let g : Got = record { stamp = seen; bytes = bytes; take = s } in
      let mid : Box = record { made = old.made; taken = old.taken + 1; stamp = s } in
      let one : m ≡ record { stamp = old.stamp; bytes = bytes } = same_Some _ _ (sym is ∙ run.1.0) in
      let thing : m ≡ thing_of g = one ∙ (λ i. record { stamp = sym run.1.1 i; bytes = bytes }) in
      let got : slice_get whole n ≡ Some g = ap (slice_get whole) (sym (plus_zero n)) ∙ there 0 in
      let more : FromEmpty (n + 1) K whole mid new =
      empties (n + 1) Gate.Shut whole mid new (subst (λ b. PartRun BoxMoves b K new) run.1.2 run.2) same
      (record { used = λ u. omega arith; keeps = coming.keeps.1; rise = coming.rise.1; passed = coming.passed.1 })
      (λ shut. absurd (shut refl))
      (λ k e. (g, (let at : k ≡ n = omega (arith, e) in ap (slice_get whole) at ∙ got), refl))
      (λ j. ap (slice_get whole) (one_by_one n j) ∙ there (suc j)) in
      record {
        fits = fits_more m g (filter_map made_of K) (filter_map got_of K) thing coming.passed.0 more.next more.fits;
        freed = more.freed;
        end = more.end ∙ (λ i. record {
          made = old.made ++ filter_map made_of K;
          taken = one_by_one old.taken (length (filter_map got_of K)) i;
          stamp = gate_stamp s (filter_map made_of K) (filter_map got_of K);
        });
      }
    where
      one_by_one : (a b : ℕ) → (a + 1) + b ≡ a + suc b
      one_by_one a b = omega arith
  step_full Act.Plain empties fulls n whole m old new run same is stamp coming there = absurd run.1
  step_full Act.Local empties fulls n whole m old new run same is stamp coming there = absurd run.1
  step_full (Act.Hub clock request reply) empties fulls n whole m old new run same is stamp coming there = absurd run.1
  step_full (Act.Miss link part) empties fulls n whole m old new run same is stamp coming there = absurd run.1
  step_full Act.Held empties fulls n whole m old new run same is stamp coming there = absurd run.1
  step_full Act.Idle empties fulls n whole m old new run same is stamp coming there = absurd run.1

both : (K : List Deed) → Empties K × Fulls K
both [] = (empties_none, fulls_none)
both (x ∷ K) = (
  step_empty x.rank x.hart x.stamp K x.act (both K).0 (both K).1,
  step_full x.rank x.hart x.stamp K x.act (both K).0 (both K).1,
)

pub from_empty : (K : List Deed) → Empties K
from_empty K = (both K).0
