-- A box goes through its events, in the order of their stamps.
use Rattle.std.specs.Prelude.{ℕ, suc, ◌+◌, ◌<◌, List, [], ◌∷◌, ◌++◌, ◌≡◌, ◌≢◌, ◌⊎◌, false, eqb, length}
use Rattle.std.specs.List.{slice_get, filter_map, cons_option, AllByRecursion}
use Rattle.std.specs.declared.option.Option.TheVariants.{Some}
use Rattle.std.proofs.Common.{refl, sym, ap, ◌∙◌, subst, arith, append_assoc}
use Rattle.std.proofs.lemmas.List.{append-nil, length-append}
use Rattle.std.proofs.lemmas.Bool.{eq-eqb}
use Rattle.std.proofs.lemmas.Bool.Decides.{eqb_tells}
use mathlib.Core.Logic.{inl, inr}
use Rattle.cl_machine.proofs.Lists.{filter-keeps, filter-skips, All-filter}
use Rattle.cl_deeds.specs.Deeds.{Act, Deed, PartRun}
use Rattle.cl_machine.specs.Boxes.{Box, Thing}
use Rattle.cl_machine.specs.Joined.{Got, gate_stamp, got_for, got_of, made_for, made_of}
use Rattle.cl_machine.specs.Order.{Before, InOrder, of_rank}
use Rattle.cl_machine.specs.ProductSteps.{BoxActs, BoxMoves}

-- the Take at stamp t takes m
abbrev pub TakeOf : Thing → ℕ → Act → Type 0
TakeOf m t (Act.Take link part gate bytes) = (gate ≡ m.stamp) × (bytes ≡ m.bytes) × (m.stamp < t)
TakeOf m t _ = ⊥

-- m stands in the box, and the sender's S and the receiver's are still to come
abbrev pub MeshFull : Thing → List Deed → (ℕ → List Deed → Type 0) → List Deed → Type 0
MeshFull m S next [] = S ≡ []
MeshFull m S next (t ∷ R) = TakeOf m t.stamp t.act × AllByRecursion (λ (d : Deed). t.stamp < d.stamp) S × next t.stamp R

abbrev pub MeshAct : ℕ → ℕ → Act → List Deed → (ℕ → List Deed → Type 0) → List Deed → Type 0
MeshAct p stamp (Act.Ready link part bytes) S next R = MeshFull (record { stamp = stamp; bytes = bytes }) S next R
MeshAct p stamp (Act.Freed link part gate) S next R = (gate ≡ p) × next p R
MeshAct p stamp _ S next R = ⊥

-- the box is empty since stamp p, and the sender's S and the receiver's R are still to come
abbrev pub Meshed : ℕ → List Deed → List Deed → Type 0
Meshed p [] R = R ≡ []
Meshed p (d ∷ S) R = MeshAct p d.stamp d.act S (λ q Q. Meshed q S Q) R

take_after : (m : Thing) (t : ℕ) (a : Act) → TakeOf m t a → m.stamp < t
take_after m t (Act.Take link part gate bytes) h = h.2
take_after m t _ h = absurd h

-- the events of two ranks and no other
pub record Two (sender receiver : ℕ) (K S R : List Deed) : Type 0 where
  pub sent : of_rank (λ (d : Deed). d.rank) sender K ≡ S
  pub received : of_rank (λ (d : Deed). d.rank) receiver K ≡ R
  pub others : (r : ℕ) → r ≢ sender → r ≢ receiver → of_rank (λ (d : Deed). d.rank) r K ≡ []

-- where the box stands once S and R are done
abbrev pub ended : Box → List Thing → ℕ → ℕ → Box
ended old made taken stamp = record { made = old.made ++ made; taken = old.taken + taken; stamp = stamp }

plus_zero : (n : ℕ) → n + 0 ≡ n
plus_zero n = omega arith

get-length : {X : Type 0} (xs : List X) (x : X) → slice_get (xs ++ x ∷ []) (length xs) ≡ Some x
get-length [] x = refl
get-length (y ∷ xs) x = get-length xs x

gate_any : (p q : ℕ) (m : Thing) (made : List Thing) (got : List Got)
    → gate_stamp p (m ∷ made) got ≡ gate_stamp q (m ∷ made) got
gate_any p q m made [] = refl
gate_any p q m made (g ∷ got) = refl

-- no Take comes first while the box is empty
no_take_first : (S : List Deed) (p : ℕ) (x : Deed) (R : List Deed) → Meshed p S (x ∷ R)
    → AllByRecursion (Before (λ (d : Deed). d.stamp) (λ (d : Deed). d.rank) x) S → ⊥
no_take_first [] p x R h k = (cc)
no_take_first (d ∷ S) p x R h k = go d.act h (λ q g. no_take_first S q x R g k.1)
  where
    go : (a : Act) → MeshAct p d.stamp a S (λ q Q. Meshed q S Q) (x ∷ R) → ((q : ℕ) → Meshed q S (x ∷ R) → ⊥) → ⊥
    go (Act.Ready link part bytes) g rest =
        let late : d.stamp < x.stamp = take_after (record { stamp = d.stamp; bytes = bytes }) x.stamp x.act g.0 in omega (arith, k.0)
    go (Act.Freed link part gate) g rest = rest p g.1
    go _ g rest = absurd g

module _ (sender receiver : ℕ) (two : sender ≢ receiver) where
  head_of_two : (x : Deed) (K S R : List Deed) → Two sender receiver (x ∷ K) S R
      → ((T : List Deed) × (S ≡ x ∷ T) × Two sender receiver K T R) ⊎ ((T : List Deed) × (R ≡ x ∷ T)
      × Two sender receiver K S T)
  head_of_two x K S R h =
      elim (eqb_tells x.rank sender) [
        | inl e ↦ inl (
          of_rank (λ (d : Deed). d.rank) sender K,
          sym h.sent ∙ filter-keeps (λ (d : Deed). eqb d.rank sender) x K e.0,
          record {
            sent = refl;
            received = sym (filter-skips (λ (d : Deed). eqb d.rank receiver) x K (not_eqb x.rank receiver (λ f. two (sym e.1 ∙ f)))) ∙ h.received;
            others = λ r p q. sym (filter-skips (λ (d : Deed). eqb d.rank r) x K (not_eqb x.rank r (λ f. p (sym f ∙ e.1)))) ∙ h.others r p q;
          },
        )
        | inr e ↦ elim (eqb_tells x.rank receiver) [
          | inl f ↦ inr (
            of_rank (λ (d : Deed). d.rank) receiver K,
            sym h.received ∙ filter-keeps (λ (d : Deed). eqb d.rank receiver) x K f.0,
            record {
              sent = sym (filter-skips (λ (d : Deed). eqb d.rank sender) x K e.0) ∙ h.sent;
              received = refl;
              others = λ r p q. sym (filter-skips (λ (d : Deed). eqb d.rank r) x K (not_eqb x.rank r (λ g. q (sym g ∙ f.1)))) ∙ h.others r p q;
            },
          )
          | inr f ↦
              let none = sym (filter-keeps (λ (d : Deed). eqb d.rank x.rank) x K (eq-eqb x.rank x.rank refl))
              ∙ h.others x.rank e.1 f.1 in
              absurd (cc)
        ]
      ]
    where
      not_eqb : (a b : ℕ) → a ≢ b → eqb a b ≡ false
      not_eqb a b ne = elim (eqb_tells a b) [ inl e ↦ absurd (ne e.1) | inr e ↦ e.0 ]

  -- what K's box goes through from an empty box, and from a full one
  abbrev pub Runs : List Deed → Type 0
  Runs K =
      (S R : List Deed) (old new : Box) → InOrder (λ (d : Deed). d.stamp) (λ (d : Deed). d.rank) K
      → Two sender receiver K S R
      → Meshed old.stamp S R → length old.made ≡ old.taken
      → new ≡ ended old (filter_map made_of S) (length R) (gate_stamp old.stamp (filter_map made_of S) (filter_map got_of R))
      → PartRun BoxMoves old K new

  abbrev pub Fulls : List Deed → Type 0
  Fulls K =
      (S R : List Deed) (old new : Box) (m : Thing) → InOrder (λ (d : Deed). d.stamp) (λ (d : Deed). d.rank) K
      → Two sender receiver K S R
      → MeshFull m S (λ q Q. Meshed q S Q) R → old.stamp ≡ m.stamp → slice_get old.made old.taken ≡ Some m
      → length old.made ≡ old.taken + 1
      → new ≡ ended old (filter_map made_of S) (length R) (gate_stamp 0 (m ∷ filter_map made_of S) (filter_map got_of R))
      → PartRun BoxMoves old K new

  runs_none : Runs []
  runs_none S R old new o h mesh same end =
      end
      ∙ ap (λ (T : List Deed). ended old (filter_map made_of T) (length R) (gate_stamp old.stamp (filter_map made_of T) (filter_map got_of R))) (sym h.sent)
      ∙ ap (λ (Q : List Deed). ended old [] (length Q) old.stamp) (sym h.received)
      ∙ (λ i. record { made = append-nil old.made i; taken = plus_zero old.taken i; stamp = old.stamp })

  fulls_none : Fulls []
  fulls_none S R old new m o h mesh stamp here same end =
      end
      ∙ ap (λ (T : List Deed). ended old (filter_map made_of T) (length R) (gate_stamp 0 (m ∷ filter_map made_of T) (filter_map got_of R))) (sym h.sent)
      ∙ ap (λ (Q : List Deed). ended old [] (length Q) (gate_stamp 0 (m ∷ []) (filter_map got_of Q))) (sym h.received)
      ∙ (λ i. record { made = append-nil old.made i; taken = plus_zero old.taken i; stamp = sym stamp i })

  step_empty : (x : Deed) (K : List Deed) → Runs K → Fulls K → Runs (x ∷ K)
  step_empty x K runs fulls S R old new o h mesh same end =
      elim (head_of_two x K S R h) [
        | inl t ↦ sends t.0 t.1 t.2 x.act refl (subst (λ Z. Meshed old.stamp Z R) t.1 mesh)
        | inr t ↦ absurd (no_take_first S old.stamp x t.0 (subst (λ Q. Meshed old.stamp S Q) t.1 mesh)
            (subst (AllByRecursion (Before (λ (d : Deed). d.stamp) (λ (d : Deed). d.rank) x)) t.2.sent
            (All-filter (Before (λ (d : Deed). d.stamp) (λ (d : Deed). d.rank) x) (λ (d : Deed). eqb d.rank sender) K o.0)))
      ]
    where
      sends : (T : List Deed) → S ≡ x ∷ T → Two sender receiver K T R → (a : Act) → x.act ≡ a
          → MeshAct old.stamp x.stamp a T (λ q Q. Meshed q T Q) R → PartRun BoxMoves old (x ∷ K) new
      sends T e t (Act.Ready link part bytes) f g =
          let m : Thing = record { stamp = x.stamp; bytes = bytes } in
          let mid : Box = record { made = old.made ++ m ∷ []; taken = old.taken; stamp = x.stamp } in
          let ms : filter_map made_of S ≡ m ∷ filter_map made_of T =
          ap (filter_map made_of) e ∙ ap (λ a. cons_option (made_for x.stamp a) (filter_map made_of T)) f in (
            mid,
            subst (λ a. BoxActs old x.stamp a mid) (sym f) (same, refl),
            fulls T R mid new m o.1 t g refl
                (subst (λ k. slice_get (old.made ++ m ∷ []) k ≡ Some m) same (get-length old.made m))
                (length-append old.made (m ∷ []) ∙ ap (λ k. k + 1) same)
                (end
                ∙ ap (λ zs. ended old zs (length R) (gate_stamp old.stamp zs (filter_map got_of R))) ms
                ∙ (λ i. record {
                  made = sym (append_assoc old.made (m ∷ []) (filter_map made_of T)) i;
                  taken = old.taken + length R;
                  stamp = gate_any old.stamp 0 m (filter_map made_of T) (filter_map got_of R) i;
                })),
          )
      sends T e t (Act.Freed link part gate) f g =
          let ms : filter_map made_of S ≡ filter_map made_of T =
          ap (filter_map made_of) e ∙ ap (λ a. cons_option (made_for x.stamp a) (filter_map made_of T)) f in (
            old,
            subst (λ a. BoxActs old x.stamp a old) (sym f) (same, g.0, refl),
            runs T R old new o.1 t g.1 same
                (end ∙ ap (λ zs. ended old zs (length R) (gate_stamp old.stamp zs (filter_map got_of R))) ms),
          )
      sends T e t _ f g = absurd g

  step_full : (x : Deed) (K : List Deed) → Runs K → Fulls K → Fulls (x ∷ K)
  step_full x K runs fulls S R old new m o h mesh stamp here same end =
      elim (head_of_two x K S R h) [
        | inl t ↦ absurd (not_yet t.0 t.1 R t.2.received mesh)
        | inr t ↦ let g = subst (MeshFull m S (λ q Q. Meshed q S Q)) t.1 mesh in takes t.0 t.1 t.2 g.2 x.act refl g.0
      ]
    where
      not_yet : (T : List Deed) → S ≡ x ∷ T → (Q : List Deed) → of_rank (λ (d : Deed). d.rank) receiver K ≡ Q
          → MeshFull m S (λ q Q. Meshed q S Q) Q → ⊥
      not_yet T e [] f g = (cc)
      not_yet T e (y ∷ Q) f g =
          let late : y.stamp < x.stamp = (subst (AllByRecursion (λ (d : Deed). y.stamp < d.stamp)) e g.1).0 in
          let soon : Before (λ (d : Deed). d.stamp) (λ (d : Deed). d.rank) x y =
          (subst (AllByRecursion (Before (λ (d : Deed). d.stamp) (λ (d : Deed). d.rank) x)) f
          (All-filter (Before (λ (d : Deed). d.stamp) (λ (d : Deed). d.rank) x) (λ (d : Deed). eqb d.rank receiver) K o.0)).0 in
          omega arith

      takes : (T : List Deed) → R ≡ x ∷ T → Two sender receiver K S T → Meshed x.stamp S T → (a : Act) → x.act ≡ a
          → TakeOf m x.stamp a
          → PartRun BoxMoves old (x ∷ K) new
      takes T e t rest (Act.Take link part gate bytes) f g =
          let mid : Box = record { made = old.made; taken = old.taken + 1; stamp = x.stamp } in
          let got : Got = record { stamp = gate; bytes = bytes; take = x.stamp } in
          let gs : filter_map got_of R ≡ got ∷ filter_map got_of T =
          ap (filter_map got_of) e ∙ ap (λ a. cons_option (got_for x.stamp a) (filter_map got_of T)) f in (
            mid,
            subst (λ a. BoxActs old x.stamp a mid) (sym f) (
              here
                  ∙ (λ i. Some (record { stamp = sym stamp i; bytes = sym g.1 i })),
              g.0 ∙ sym stamp,
              refl,
            ),
            runs S T mid new o.1 t rest same
                (end
                ∙ (λ i. ended old (filter_map made_of S) (length (e i)) (gate_stamp 0 (m ∷ filter_map made_of S) (gs i)))
                ∙ (λ i. record { made = old.made ++ filter_map made_of S; taken = one_by_one old.taken (length T) i; stamp = gate_stamp x.stamp (filter_map made_of S) (filter_map got_of T) })),
          )
        where
          one_by_one : (a b : ℕ) → a + suc b ≡ (a + 1) + b
          one_by_one a b = omega arith
      takes T e t rest _ f g = absurd g

  pub both : (K : List Deed) → Runs K × Fulls K
  both [] = (runs_none, fulls_none)
  both (x ∷ K) = (step_empty x K (both K).0 (both K).1, step_full x K (both K).0 (both K).1)
