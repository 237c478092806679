-- Where turns that are sure go first, every run can be continued to a node.
use Rattle.std.proofs.Common.{◌≡◌, ℕ, zero, suc, ◌+◌, ◌<◌, ◌≤◌, ◌⊎◌, inl, inr, Bool, true, false, List, [], ◌∷◌, ◌++◌, length, refl, sym, subst, arith}
use Rattle.std.proofs.lemmas.Bool.{cases_eq, cases_lt}
use Rattle.cl_schedule_laws.specs.Machines.{AllWithin, GoesOn, IsMachine, Machine, Ranks}
use Rattle.cl_schedule_laws.specs.Laws.{HasFound, IsClosed, IsFound, IsLasting, IsNearer, IsOnItsWay, Kept, Leads, ScheduleLaw, holds_of, kept_of, machine_of}
use Rattle.cl_schedule_laws.proofs.Walks.{AllRoom, Front, Fronted, Reaches, along, front, heavy, is_next, is_there, longer_too, snoc, stays, then}

module _ (m : Machine) (kept : Kept m) (is : IsMachine m) (closed : IsClosed m kept) (P : m.State → Type 0)
    (lasts : IsLasting m P) where
  abbrev State : Type 0
  State = m.State

  abbrev Found : State → Type 0
  Found here = IsFound m kept P here

  -- ---- what is found, along likeness and back along a turn

  found_alike : (a b : State) → m.Alike a b → Found a → Found b
  found_alike a b alike f =
      let t = along m is f.more a b f.there alike f.walk f.inside in
      record {
        within = λ r. is.within r a b alike (f.within r);
        room = is.room a b alike f.room;
        more = f.more;
        there = t.last;
        walk = t.walk;
        inside = t.inside;
        node = f.node;
        is = f.is;
        alike = is.on t.last f.there f.node (is.back f.there t.last t.alike) f.alike;
        keeps = λ p. f.keeps (lasts.alike b a (is.back a b alike) p);
      }

  found_back : (r : ℕ) (a b : State) → m.IsWithin a r → m.Goes r a b → (P a → P b) → Found b → Found a
  found_back r a b its goes lasting f = record {
    within = λ s. elim (cases_eq s r) [
      | inl same ↦ subst (λ k. m.IsWithin a k) (sym same) its
      | inr apart ↦ (is.own r s a b apart goes).1 (f.within s)
    ];
    room = is.grows r a b goes f.room;
    more = r ∷ f.more;
    there = f.there;
    walk = (b, goes, f.walk);
    inside = (its, f.inside);
    node = f.node;
    is = f.is;
    alike = f.alike;
    keeps = λ p. f.keeps (lasting p);
  }

  found_before : (c d : State) → Reaches m is P lasts c d → Found d → Found c
  found_before c d stays f = f
  found_before c d (then {d = b} s d' more goes asks lasting) f =
      found_before c b more (found_back s b d asks goes lasting f)

  found_node : (a : State) → kept.IsNode a → Found a
  found_node a node = record {
    within = λ r. closed.within r a node;
    room = closed.room a node;
    more = [];
    there = a;
    walk = refl;
    inside = tt;
    node = a;
    is = node;
    alike = is.itself a;
    keeps = λ p. p;
  }

  -- ---- of all runs that weigh less, from what settles in fewer turns, and that are shorter

  abbrev Finds : (ℕ → ℕ → ℕ → Type 0) → Type 0
  Finds Less =
      (n : ℕ) (a c : State) (rs : List ℕ) → kept.Settles n a → (walk : GoesOn m rs a c)
      → Less (heavy m is rs a c walk) n (length rs)
      → Found c

  record Behind (w n l : ℕ) : Type 0 where
    lighter : Finds (λ weight settled long. weight < w)
    sooner : Finds (λ weight settled long. (weight ≤ w) × (settled < n))
    shorter : Finds (λ weight settled long. (weight ≤ w) × (settled ≤ n) × (long < l))

  -- each turn is within the patterns and begins where there is room, since what is before it is shorter
  record Good (rs : List ℕ) (a c : State) (walk : GoesOn m rs a c) : Type 0 where
    inside : AllWithin m rs a c walk
    room : AllRoom m is rs a c walk

  module _ (w n l : ℕ) (known : Behind w n l) (start : State) (settles : kept.Settles n start) where
    good_from : (qs : List ℕ) (ps : List ℕ) (a c : State) → (done : GoesOn m ps start a) → (walk : GoesOn m qs a c)
        → heavy m is ps start a done + heavy m is qs a c walk ≤ w → length ps + length qs ≤ l
        → Good qs a c walk
    good_from [] ps a c done walk weight long = record { inside = tt; room = tt }
    good_from (q ∷ qs) ps a c done walk weight long =
        let f = known.shorter n start a ps settles done (omega (arith, weight), omega arith, omega (arith, long)) in
        let more = snoc m is ps q start a walk.0 done walk.1 in
        let rest = good_from qs (ps ++ q ∷ []) walk.0 c more.walk walk.2
        (let e = more.weighs in omega (arith, e, weight)) (let e = one_longer ps in omega (arith, e, long)) in
        record { inside = (f.within q, rest.inside); room = (f.room, rest.room) }
      where
        one_longer : (ps : List ℕ) → length (ps ++ q ∷ []) ≡ length ps + 1
        one_longer [] = refl
        one_longer (p ∷ ps) = (let e = one_longer ps in omega (arith, e))

    good : (rs : List ℕ) (c : State) → (walk : GoesOn m rs start c) → heavy m is rs start c walk ≤ w → length rs ≤ l
        → Good rs start c walk
    good rs c walk weight long =
        good_from rs [] start c refl walk (omega (arith, weight)) (omega (arith, long))

    -- at what is alike a node
    at_node : (node : State) → kept.IsNode node → m.Alike start node → (rs : List ℕ) (c : State)
        → (walk : GoesOn m rs node c) → AllWithin m rs node c walk → heavy m is rs node c walk ≤ w → length rs ≤ l
        → Found c
    at_node node its alike [] c walk inside weight long =
        subst Found (sym walk) (found_node node its)
    at_node node its alike (r ∷ rs) c walk inside weight long = go (m.weight node r) refl
      where
        go : (k : ℕ) → m.weight node r ≡ k → Found c
        go zero none =
            let vain = closed.idle r node walk.0 its none walk.1 in
            let home = is.on walk.0 node start (is.back node walk.0 vain) (is.back start node alike) in
            let t = along m is rs walk.0 start c home walk.2 inside.1 in
            found_alike t.last c (is.back c t.last t.alike)
            (known.shorter n start t.last rs settles t.walk
            ((let e = t.weighs in omega (arith, e, weight)), omega arith, omega (arith, long)))
        go (suc k) some =
            let s = closed.next r node walk.0 its walk.1 in
            known.lighter s.0 walk.0 c rs s.1 walk.2 (omega (arith, some, weight))

    -- where some ranks are sure
    module _ (set : Ranks) (one : ℕ) (leads : Leads m kept n start one)
        (each : (r : ℕ) (b : State) → set r ≡ true → m.Goes r start b → IsNearer m kept n b ⊎ m.Alike start b)
        (c : State) where
      along_sooner : {sought : Bool} → (r weight long : ℕ) → weight ≤ w + m.weight start r
          → (f : Fronted m is P lasts sought r start c weight long) → IsNearer m kept n f.first
          → Found c
      along_sooner r weight long most f s =
          found_before c f.end f.more (found_alike f.last f.end (is.back f.end f.last f.alike)
          (known.sooner s.0 f.first f.last f.ranks s.2 f.walk
          ((let k = f.light in omega (arith, k, most)), s.1)))

      -- a turn in vain is left out
      left_out : (r weight : ℕ) → weight ≤ w → (f : Fronted m is P lasts false r start c weight l) → m.Alike start f.first
          → Found c
      left_out r weight most f vain =
          let t = along m is f.ranks f.first start f.last (is.back start f.first vain) f.walk f.inside in
          let same = is.on f.end f.last t.last f.alike t.alike in
          found_before c f.end f.more (found_alike t.last f.end (is.back f.end t.last same)
          (elim (cases_lt 0 (m.weight start r)) [
            | inl some ↦
                known.lighter n start t.last f.ranks settles t.walk
                (let e = t.weighs in let k = f.light in omega (arith, e, k, most, some))
            | inr zero' ↦
                let short = f.short (omega (arith, zero')) in
                known.shorter n start t.last f.ranks settles t.walk
                ((let e = t.weighs in let k = f.light in omega (arith, e, k, most)), omega arith, short)
          ]))

      at_sure : (weight : ℕ) → weight ≤ w → Front m is P lasts set one start c weight l → Found c
      at_sure weight most (is_there r among f) = elim (each r f.first among f.goes) [
        | inl on ↦ along_sooner r weight l (omega (arith, most)) f on
        | inr vain ↦ left_out r weight most f vain
      ]
      at_sure weight most (is_next f) =
          along_sooner one (weight + m.weight start one) (suc l) (omega (arith, most)) f (leads f.first f.goes)

    found : (c : State) (rs : List ℕ) → (walk : GoesOn m rs start c) → heavy m is rs start c walk ≤ w → length rs ≤ l
        → IsOnItsWay m kept n start
        → Found c
    found c rs walk weight long (inl at) =
        let g = good rs c walk weight long in
        let t = along m is rs start at.0 c at.2 walk g.inside in
        found_alike t.last c (is.back c t.last t.alike)
        (at_node at.0 at.1 at.2 rs t.last t.walk t.inside (let e = t.weighs in omega (arith, e, weight)) long)
    found c rs walk weight long (inr sure) =
        let g = good rs c walk weight long in
        at_sure sure.0 sure.1 sure.4 sure.5 c (heavy m is rs start c walk) weight
        (longer_too m is P lasts sure.0 sure.1 start c (heavy m is rs start c walk) (length rs) l long
        (front m is P lasts sure.0 sure.1 sure.3 rs start c sure.2 walk g.inside g.room))

  -- ---- three bounds, one inside the other

  abbrev Within : ℕ → ℕ → ℕ → Type 0
  Within w n l = Finds (λ weight settled long. (weight < w) × (settled < n) × (long < l))

  record Below (w n : ℕ) : Type 0 where
    light : Finds (λ weight settled long. weight < w)
    soon : Finds (λ weight settled long. (weight ≤ w) × (settled < n))

  shorter_than : (w n : ℕ) → Below w n → (l : ℕ) → Finds (λ weight settled long. (weight ≤ w) × (settled ≤ n) × (long < l))
  shorter_than w n below zero = λ k a c rs settles walk less. absurd (let z = less.2 in omega (arith, z))
  shorter_than w n below (suc l) = λ k a c rs settles walk less. elim (cases_eq k n) [
    | inl same ↦
        let at = subst (λ x. kept.Settles x a) same settles in
        found w n l (record {
          lighter = below.light;
          sooner = below.soon;
          shorter = shorter_than w n below l;
        }) a at c rs walk less.0 (let z = less.2 in omega (arith, z)) (closed.settles n a at)
    | inr other ↦ below.soon k a c rs settles walk (less.0, (let z = less.1 in omega (arith, z, other)))
  ]

  sooner_than : (w : ℕ) → Finds (λ weight settled long. weight < w) → (n : ℕ)
      → Finds (λ weight settled long. (weight ≤ w) × (settled < n))
  sooner_than w light zero = λ k a c rs settles walk less. absurd (let z = less.1 in omega (arith, z))
  sooner_than w light (suc n) = λ k a c rs settles walk less.
      shorter_than w n (record { light = light; soon = sooner_than w light n }) (suc (length rs)) k a c rs settles walk
      (less.0, (let z = less.1 in omega (arith, z)), omega arith)

  lighter_than : (w : ℕ) → Finds (λ weight settled long. weight < w)
  lighter_than zero = λ k a c rs settles walk less. absurd (omega (arith, less))
  lighter_than (suc w) = λ k a c rs settles walk less.
      sooner_than w (lighter_than w) (suc k) k a c rs settles walk (omega (arith, less), omega arith)

  pub has_found : HasFound m kept P
  has_found n start end rs settles walk =
      lighter_than (suc (heavy m is rs start end walk)) n start end rs settles walk (omega arith)

pub schedule_law : ScheduleLaw
schedule_law m is closed lasts = has_found (machine_of m) (kept_of m) is closed (holds_of m) lasts
