-- From the gate rule over the two views: the sender's and the receiver's events interleave.
use Rattle.std.specs.Prelude.{ℕ, suc, ◌+◌, ◌<◌, List, [], ◌∷◌, ◌≡◌, ◌⊎◌, length, ⊤}
use Rattle.std.specs.List.{slice_get, filter_map, cons_option, AllByRecursion}
use Rattle.std.specs.declared.option.Option.TheVariants.{None, Some}
use Rattle.std.proofs.Common.{refl, sym, ap, ◌∙◌, subst, arith}
use mathlib.Core.Logic.{inl, inr}
use Rattle.cl_machine.proofs.Meshes.{TakeOf, MeshFull, MeshAct, Meshed}
use Rattle.cl_deeds.specs.Deeds.{Act, Deed}
use Rattle.cl_machine.specs.Boxes.{Thing}
use Rattle.cl_machine.specs.Joined.{Got, ShowsTake, got_for, got_of, made_for, made_more, made_of, takes_shown, shown_for}
use Rattle.cl_machine.specs.Joined.{thing_of}

abbrev pub IsSending : Act → Type 0
IsSending (Act.Ready link part bytes) = ⊤
IsSending (Act.Freed link part gate) = ⊤
IsSending _ = ⊥

abbrev pub IsTaking : Act → Type 0
IsTaking (Act.Take link part gate bytes) = ⊤
IsTaking _ = ⊥

-- a Freed stands above the stamp that it saw
abbrev pub GateBelow : ℕ → Act → Type 0
GateBelow stamp (Act.Freed link part gate) = gate < stamp
GateBelow stamp _ = ⊤

-- each Freed with k + 1 made by then shows take stamp k; n are made already
abbrev pub FreedShows : ℕ → List Got → Act → Type 0
FreedShows n got (Act.Freed link part gate) = ShowsTake got (n, gate)
FreedShows n got _ = ⊤

abbrev pub FreedAsTaken : ℕ → List Deed → List Got → Type 0
FreedAsTaken n [] got = ⊤
FreedAsTaken n (d ∷ ds) got = FreedShows n got d.act × FreedAsTaken (made_more n d.act) ds got

pub freed_from_shown : (ds : List Deed) (n : ℕ) (got : List Got) → AllByRecursion (ShowsTake got) (takes_shown n ds)
    → FreedAsTaken n ds got
freed_from_shown [] n got h = tt
freed_from_shown (d ∷ ds) n got h = go d.act h (λ m k. freed_from_shown ds m got k)
  where
    go : (a : Act) → AllByRecursion (ShowsTake got) (cons_option (shown_for n a) (takes_shown (made_more n a) ds))
        → ((m : ℕ) → AllByRecursion (ShowsTake got) (takes_shown m ds) → FreedAsTaken m ds got) → FreedShows n got a
        × FreedAsTaken (made_more n a) ds got
    go (Act.Freed link part gate) k rest = (k.0, rest n k.1)
    go (Act.Ready link part bytes) k rest = (tt, rest (n + 1) k)
    go _ k rest = (tt, rest n k)

-- stamps rise
abbrev pub Rises : List Deed → Type 0
Rises [] = ⊤
Rises (d ∷ ds) = AllByRecursion (λ (e : Deed). d.stamp < e.stamp) ds × Rises ds

-- the gate rule over what is left, where n were made so far and the box is empty since stamp p; whole has all that was got
pub record Left (p n : ℕ) (S R : List Deed) (made : List Thing) (got whole : List Got) : Type 0 where
  pub sending : AllByRecursion (λ (d : Deed). IsSending d.act) S
  pub taking : AllByRecursion (λ (d : Deed). IsTaking d.act) R
  pub made_is : filter_map made_of S ≡ made
  pub got_is : filter_map got_of R ≡ got
  pub rises : Rises S
  pub gates : AllByRecursion (λ (d : Deed). GateBelow d.stamp d.act) S
  pub one_more : (length made ≡ length got) ⊎ (length made ≡ length got + 1)
  pub front : (k : ℕ) (g : Got) → slice_get got k ≡ Some g → slice_get made k ≡ Some (thing_of g)
  pub taken_after : (k : ℕ) (g : Got) → slice_get got k ≡ Some g → g.stamp < g.take
  pub made_after : (k : ℕ) (g : Got) (m : Thing) → slice_get got k ≡ Some g → slice_get made (suc k) ≡ Some m
      → g.take < m.stamp
  pub freed : FreedAsTaken n S whole
  pub here : (k : ℕ) (g : Got) → n ≡ k + 1 → slice_get whole k ≡ Some g → g.take ≡ p
  pub there : (j : ℕ) → slice_get whole (n + j) ≡ slice_get got j

-- the first Take of R
got_cases : (R : List Deed) → AllByRecursion (λ (d : Deed). IsTaking d.act) R
    → (R ≡ []) ⊎ ((t : Deed) × (Q : List Deed) × (g : Got) × (R ≡ t ∷ Q) × (got_of t ≡ Some g) × (g.take ≡ t.stamp)
    × ((m : Thing) → thing_of g ≡ m → g.stamp < g.take → TakeOf m t.stamp t.act))
got_cases [] h = inl refl
got_cases (t ∷ Q) h = go t.act refl h.0
  where
    go : (a : Act) → t.act ≡ a → IsTaking a
        → (t ∷ Q ≡ []) ⊎ ((u : Deed) × (P : List Deed) × (g : Got) × (t ∷ Q ≡ u ∷ P) × (got_of u ≡ Some g)
        × (g.take ≡ u.stamp)
        × ((m : Thing) → thing_of g ≡ m → g.stamp < g.take → TakeOf m u.stamp u.act))
    go (Act.Take link part gate bytes) e k =
        inr (
          t,
          Q,
          record { stamp = gate; bytes = bytes; take = t.stamp },
          refl,
          ap (got_for t.stamp) e,
          refl,
          λ m same up. subst (TakeOf m t.stamp) (sym e)
              (ap (λ (x : Thing). x.stamp) same, ap (λ (x : Thing). x.bytes) same, subst (λ n. n < t.stamp) (ap (λ (x : Thing). x.stamp) same) up),
        )
    go _ e k = absurd k

-- nothing follows a thing that wasn't taken
nothing_left : (S : List Deed) (n : ℕ) (whole : List Got) → AllByRecursion (λ (d : Deed). IsSending d.act) S
    → filter_map made_of S ≡ []
    → FreedAsTaken (n + 1) S whole → slice_get whole n ≡ None → S ≡ []
nothing_left [] n whole s h f none = refl
nothing_left (d ∷ S) n whole s h f none = go d.act refl s.0 f.0
  where
    go : (a : Act) → d.act ≡ a → IsSending a → FreedShows (n + 1) whole a → d ∷ S ≡ []
    go (Act.Ready link part bytes) e k g =
        let made : filter_map made_of (d ∷ S) ≡ record { stamp = d.stamp; bytes = bytes } ∷ filter_map made_of S =
        ap (λ a. cons_option (made_for d.stamp a) (filter_map made_of S)) e in absurd (cc)
    go (Act.Freed link part gate) e k g =
        let same : n ≡ g.0 = omega (arith, g.2) in
        let at : slice_get whole n ≡ Some g.1 = ap (slice_get whole) same ∙ g.3 in absurd (cc)
    go _ e k g = absurd k

-- after a Take at t the sender's next event is above t, and so are all
above : (S : List Deed) (n t : ℕ) (made : List Thing) (whole : List Got) (g : Got) → g.take ≡ t
    → slice_get whole n ≡ Some g
    → AllByRecursion (λ (d : Deed). IsSending d.act) S → AllByRecursion (λ (d : Deed). GateBelow d.stamp d.act) S
    → Rises S
    → filter_map made_of S ≡ made → ((m : Thing) → slice_get made 0 ≡ Some m → t < m.stamp)
    → FreedAsTaken (n + 1) S whole
    → AllByRecursion (λ (d : Deed). t < d.stamp) S
above [] n t made whole g same is s b r made_is next f = tt
above (d ∷ S) n t made whole g same is s b r made_is next f =
    let first : t < d.stamp = go d.act refl s.0 b.0 f.0 in (first, more S first r.0)
  where
    go : (a : Act) → d.act ≡ a → IsSending a → GateBelow d.stamp a → FreedShows (n + 1) whole a → t < d.stamp
    go (Act.Ready link part bytes) e k l h =
        next (record { stamp = d.stamp; bytes = bytes })
        (ap (λ ms. slice_get ms 0) (sym made_is)
        ∙ ap (λ a. slice_get (cons_option (made_for d.stamp a) (filter_map made_of S)) 0) e)
    go (Act.Freed link part gate) e k l h =
        let at : n ≡ h.0 = omega (arith, h.2) in
        let two : Some g ≡ Some h.1 = sym is ∙ ap (slice_get whole) at ∙ h.3 in
        let one : g.take ≡ (h.1).take = (let eq : g ≡ h.1 = (cc) in ap (λ (x : Got). x.take) eq) in
        omega (arith, h.4, l)
    go _ e k l h = absurd k

    more : (T : List Deed) → t < d.stamp → AllByRecursion (λ (x : Deed). d.stamp < x.stamp) T
        → AllByRecursion (λ (x : Deed). t < x.stamp) T
    more [] up h = tt
    more (x ∷ T) up h = (omega (arith, up, h.0), more T up h.1)

-- what is left after a thing was made and taken
next_left : (p n : ℕ) (d t : Deed) (S Q R : List Deed) (made : List Thing) (got whole : List Got) (m : Thing) (g : Got) → Left p n (d ∷ S) R made got whole
    → R ≡ t ∷ Q → made ≡ m ∷ filter_map made_of S → got ≡ g ∷ filter_map got_of Q → g.take ≡ t.stamp
    → slice_get whole n ≡ Some g
    → FreedAsTaken (n + 1) S whole → Left t.stamp (n + 1) S Q (filter_map made_of S) (filter_map got_of Q) whole
next_left p n d t S Q R made got whole m g h r ms gs at is freed =
    let lm = ap length ms in let lg = ap length gs in
    record {
      sending = h.sending.1;
      taking = (subst (AllByRecursion (λ (x : Deed). IsTaking x.act)) r h.taking).1;
      made_is = refl;
      got_is = refl;
      rises = h.rises.1;
      gates = h.gates.1;
      one_more = elim h.one_more [ inl e ↦ inl (omega (arith, e, lm, lg)) | inr e ↦ inr (omega (arith, e, lm, lg)) ];
      front = λ k x e. sym (ap (λ xs. slice_get xs (suc k)) ms)
          ∙ h.front (suc k) x (ap (λ xs. slice_get xs (suc k)) gs ∙ e);
      taken_after = λ k x e. h.taken_after (suc k) x (ap (λ xs. slice_get xs (suc k)) gs ∙ e);
      made_after = λ k x y e f. h.made_after (suc k) x y (ap (λ xs. slice_get xs (suc k)) gs
          ∙ e) (ap (λ xs. slice_get xs (suc (suc k))) ms ∙ f);
      freed = freed;
      here = λ k x e f.
          let same : n ≡ k = omega (arith, e) in
          let both : Some x ≡ Some g = sym f ∙ ap (slice_get whole) (sym same) ∙ is in
          (let one : x ≡ g = (cc) in ap (λ (y : Got). y.take) one) ∙ at;
      there = λ j. ap (slice_get whole) (shift n j) ∙ h.there (suc j) ∙ ap (λ xs. slice_get xs (suc j)) gs;
    }
  where
    shift : (a b : ℕ) → (a + 1) + b ≡ a + suc b
    shift a b = omega arith

-- a got thing stands at the front
first_got : (R Q : List Deed) (t : Deed) (got : List Got) (g : Got) → filter_map got_of R ≡ got → R ≡ t ∷ Q
    → got_of t ≡ Some g → got ≡ g ∷ filter_map got_of Q
first_got R Q t got g is e pick = sym is ∙ ap (filter_map got_of) e ∙ ap (λ o. cons_option o (filter_map got_of Q)) pick

no_length : {X : Type 0} (xs : List X) → length xs ≡ 0 → xs ≡ []
no_length [] h = refl
no_length (x ∷ xs) h = absurd (omega (arith, h))

pub meshed : (S R : List Deed) (p n : ℕ) (made : List Thing) (got whole : List Got) → Left p n S R made got whole
    → Meshed p S R
meshed [] R p n made got whole h =
    elim (got_cases R h.taking) [
      | inl e ↦ e
      | inr c ↦
          let gs = first_got R c.1 c.0 got c.2 h.got_is c.3 c.4 in
          let at : slice_get made 0 ≡ Some (thing_of c.2) = h.front 0 c.2 (ap (λ xs. slice_get xs 0) gs) in
          let none : slice_get made 0 ≡ None = ap (λ xs. slice_get xs 0) (sym h.made_is) in
          absurd (cc)
    ]
meshed (d ∷ S) R p n made got whole h =
    go d.act refl h.sending.0 (λ Q q k ms gs. meshed S Q q k ms gs whole)
  where
    go : (a : Act) → d.act ≡ a → IsSending a
        → ((Q : List Deed) (q k : ℕ) (ms : List Thing) (gs : List Got) → Left q k S Q ms gs whole → Meshed q S Q)
        → MeshAct p d.stamp a S (λ q Q. Meshed q S Q) R
    go (Act.Ready link part bytes) e s next =
        let m : Thing = record { stamp = d.stamp; bytes = bytes } in
        let ms : made ≡ m ∷ filter_map made_of S = sym h.made_is
        ∙ ap (λ a. cons_option (made_for d.stamp a) (filter_map made_of S)) e in
        let freed : FreedAsTaken (n + 1) S whole = subst (λ a. FreedAsTaken (made_more n a) S whole) e h.freed.1 in
        let plain : n ≡ n + 0 = omega arith in
        elim (got_cases R h.taking) [
          | inl r ↦
              let none : got ≡ [] = sym h.got_is ∙ ap (filter_map got_of) r in
              let few : length (filter_map made_of S) ≡ 0 = elim h.one_more [ inl q ↦ omega (arith, q, ap length ms, ap length none) | inr q ↦ omega (arith, q, ap length ms, ap length none) ] in
              subst (MeshFull m S (λ q Q. Meshed q S Q)) (sym r)
              (nothing_left S n whole h.sending.1 (no_length (filter_map made_of S) few) freed
              (ap (slice_get whole) plain ∙ h.there 0 ∙ ap (λ xs. slice_get xs 0) none))
          | inr c ↦
              let gs = first_got R c.1 c.0 got c.2 h.got_is c.3 c.4 in
              let is : slice_get whole n ≡ Some c.2 = ap (slice_get whole) plain ∙ h.there 0
              ∙ ap (λ xs. slice_get xs 0) gs in
              let get : slice_get got 0 ≡ Some c.2 = ap (λ xs. slice_get xs 0) gs in
              let seen : Some m ≡ Some (thing_of c.2) = sym (ap (λ xs. slice_get xs 0) ms) ∙ h.front 0 c.2 get in
              let same : thing_of c.2 ≡ m = (cc) in
              subst (MeshFull m S (λ q Q. Meshed q S Q)) (sym c.3) (
                c.6 m same (h.taken_after 0 c.2 get),
                above S n (c.0).stamp (filter_map made_of S) whole c.2 c.5 is h.sending.1 h.gates.1 h.rises.1 refl
                    (λ x f. subst (λ k. k < x.stamp) c.5 (h.made_after 0 c.2 x get (ap (λ xs. slice_get xs 1) ms ∙ f))) freed,
                next c.1 (c.0).stamp (n + 1) (filter_map made_of S) (filter_map got_of c.1)
                    (next_left p n d c.0 S c.1 R made got whole m c.2 h c.3 ms gs c.5 is freed),
              )
        ]
    go (Act.Freed link part gate) e s next =
        let shows : FreedShows n whole (Act.Freed link part gate) = subst (FreedShows n whole) e h.freed.0 in (
          shows.4 ∙ h.here shows.0 shows.1 shows.2 shows.3,
          next R p n made got (record {
            sending = h.sending.1;
            taking = h.taking;
            made_is = sym (ap (λ a. cons_option (made_for d.stamp a) (filter_map made_of S)) e) ∙ h.made_is;
            got_is = h.got_is;
            rises = h.rises.1;
            gates = h.gates.1;
            one_more = h.one_more;
            front = h.front;
            taken_after = h.taken_after;
            made_after = h.made_after;
            freed = subst (λ a. FreedAsTaken (made_more n a) S whole) e h.freed.1;
            here = h.here;
            there = h.there;
          }),
        )
    go _ e s next = absurd s
