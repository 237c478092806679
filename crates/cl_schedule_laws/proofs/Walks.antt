-- Walks: longer by a turn, along likeness, and with a sure turn put first.
use Rattle.std.proofs.Common.{◌≡◌, ℕ, suc, ◌+◌, ◌≤◌, ◌<◌, Bool, true, false, length, ◌⊎◌, inl, inr, List, [], ◌∷◌, ◌++◌, refl, sym, ap, ◌∙◌, subst, arith}
use Rattle.std.specs.Prelude.{◌≢◌}
use Rattle.std.proofs.lemmas.Bool.{cases_Bool, cases_eq}
use Rattle.cl_schedule_laws.specs.Machines.{AllWithin, GoesOn, IsExchanged, IsMachine, IsReordered, Machine, Ranks, Takes, at_once, r_polls, s_polls, weighs}
use Rattle.cl_schedule_laws.specs.Laws.{IsLasting}

module _ (m : Machine) (is : IsMachine m) where
  abbrev pub State : Type 0
  State = m.State

  abbrev pub Walk : List ℕ → State → State → Type 0
  Walk rs a b = GoesOn m rs a b

  abbrev pub heavy : (rs : List ℕ) (a b : State) → Walk rs a b → ℕ
  heavy rs a b walk = weighs m rs a b walk

  -- ---- one turn more at the end

  pub record Longer (rs : List ℕ) (a c : State) (weight : ℕ) : Type 0 where
    pub walk : Walk rs a c
    pub weighs : heavy rs a c walk ≡ weight

  pub snoc : (rs : List ℕ) (s : ℕ) (a b c : State) → (walk : Walk rs a b) → m.Goes s b c
      → Longer (rs ++ s ∷ []) a c (heavy rs a b walk + m.weight b s)
  snoc [] s a b c walk goes = record {
    walk = (c, subst (λ x. m.Goes s x c) walk goes, refl);
    weighs = (let e = ap (λ x. m.weight x s) walk in omega (arith, e));
  }
  snoc (r ∷ rs) s a b c walk goes =
      let l = snoc rs s walk.0 b c walk.2 goes in
      record {
        walk = (walk.0, walk.1, l.walk);
        weighs = (let e = l.weighs in omega (arith, e));
      }

  -- ---- along likeness

  -- turns of the same ranks, which weigh as much, lead to what is alike
  pub record Along (rs : List ℕ) (a c : State) (weight : ℕ) : Type 0 where
    pub last : State
    pub walk : Walk rs a last
    pub inside : AllWithin m rs a last walk
    pub weighs : heavy rs a last walk ≡ weight
    pub alike : m.Alike c last

  pub along : (rs : List ℕ) (a b c : State) → m.Alike a b → (walk : Walk rs a c) → AllWithin m rs a c walk
      → Along rs b c (heavy rs a c walk)
  along [] a b c alike walk inside = record {
    last = b;
    walk = refl;
    inside = tt;
    weighs = refl;
    alike = subst (λ x. m.Alike x b) (sym walk) alike;
  }
  along (r ∷ rs) a b c alike walk inside =
      let f = is.follows r a b walk.0 alike inside.0 walk.1 in
      let t = along rs walk.0 f.0 c f.2 walk.2 inside.1 in
      record {
        last = t.last;
        walk = (f.0, f.1, t.walk);
        inside = (is.within r a b alike inside.0, t.inside);
        weighs = (let e = t.weighs in let w = is.weight r a b alike in omega (arith, e, w));
        alike = t.alike;
      }

  -- ---- a sure turn first

  -- each turn begins where there is room
  abbrev pub AllRoom : (rs : List ℕ) (a b : State) → Walk rs a b → Type 0
  AllRoom [] a b walk = Unit {0}
  AllRoom (r ∷ rs) a b walk = m.HasRoom a × AllRoom rs walk.0 b walk.2

  pub room_along : (rs : List ℕ) (a b c : State) → (alike : m.Alike a b) → (walk : Walk rs a c)
      → (inside : AllWithin m rs a c walk) → AllRoom rs a c walk
      → AllRoom rs b (along rs a b c alike walk inside).last (along rs a b c alike walk inside).walk
  unfolding along
  room_along [] a b c alike walk inside room = tt
  room_along (r ∷ rs) a b c alike walk inside room =
      let f = is.follows r a b walk.0 alike inside.0 walk.1 in
      (is.room a b alike room.0, room_along rs walk.0 f.0 c f.2 walk.2 inside.1 room.1)

  -- ---- a poll of what is there, first

  abbrev pub AllSpace : (rs : List ℕ) (a b : State) → Walk rs a b → Type 0
  AllSpace [] a b walk = Unit {0}
  AllSpace (r ∷ rs) a b walk = m.HasSpace a × AllSpace rs walk.0 b walk.2

  pub space_along : (rs : List ℕ) (a b c : State) → (alike : m.Alike a b) → (walk : Walk rs a c)
      → (inside : AllWithin m rs a c walk) → AllSpace rs a c walk
      → AllSpace rs b (along rs a b c alike walk inside).last (along rs a b c alike walk inside).walk
  unfolding along
  space_along [] a b c alike walk inside space = tt
  space_along (r ∷ rs) a b c alike walk inside space =
      let f = is.follows r a b walk.0 alike inside.0 walk.1 in
      (is.space a b alike space.0, space_along rs walk.0 f.0 c f.2 walk.2 inside.1 space.1)

  -- the poll, and turns behind it that are no heavier and no more, lead to what is alike, or where the poll leads at the
  -- end
  pub record Polled (s : ℕ) (a c : State) (weight long : ℕ) : Type 0 where
    pub first : State
    pub goes : m.Goes s a first
    pub ranks : List ℕ
    pub last : State
    pub walk : Walk ranks first last
    pub inside : AllWithin m ranks first last walk
    pub spaces : AllSpace ranks first last walk
    pub light : heavy ranks first last walk ≤ weight
    pub short : length ranks ≤ long
    pub alike : m.Alike c last ⊎ ((d : State) × m.Goes s c d × m.IsReady c s × m.Alike d last)

  pub poll : (s : ℕ) (qs : List ℕ) (a c : State) → m.IsReady a s → (walk : Walk qs a c) → AllWithin m qs a c walk
      → AllSpace qs a c walk
      → Polled s a c (heavy qs a c walk) (length qs)
  poll s [] a c ready walk inside space =
      let t = is.polls s a ready in
      record {
        first = t.0;
        goes = t.1;
        ranks = [];
        last = t.0;
        walk = refl;
        inside = tt;
        spaces = tt;
        light = omega arith;
        short = omega arith;
        alike = inr (
          t.0,
          subst (λ x. m.Goes s x t.0) (sym walk) t.1,
          subst (λ x. m.IsReady x s) (sym walk) ready,
          is.itself t.0,
        );
      }
  poll s (q ∷ qs) a c ready walk inside space = elim (cases_eq q s) [
    | inl same ↦ record {
      first = walk.0;
      goes = subst (λ k. m.Goes k a walk.0) same walk.1;
      ranks = qs;
      last = c;
      walk = walk.2;
      inside = inside.1;
      spaces = space.1;
      light = omega arith;
      short = omega arith;
      alike = inl (is.itself c);
    }
    | inr apart ↦ other apart (is.ready s q a walk.0 apart ready inside.0 space.0 walk.1) (poll s qs)
  ]
    where
      other : (apart : q ≢ s) → m.IsReady walk.0 s
          × ((d : State) → m.Goes s walk.0 d
          → (first : State) × (second : State) × m.Goes s a first × m.Goes q first second × m.Alike d second)
          → ((a c : State) → m.IsReady a s → (walk : Walk qs a c) → AllWithin m qs a c walk → AllSpace qs a c walk
          → Polled s a c (heavy qs a c walk) (length qs))
          → Polled s a c (m.weight a q + heavy qs walk.0 c walk.2) (suc (length qs))
      other apart stays rest =
          let f = rest walk.0 c stays.0 walk.2 inside.1 space.1 in
          let x = stays.1 f.first f.goes in
          let t = along f.ranks f.first x.1 f.last x.4 f.walk f.inside in
          let w = is.owns s q a x.0 apart x.2 in
          record {
            first = x.0;
            goes = x.2;
            ranks = q ∷ f.ranks;
            last = t.last;
            walk = (x.1, x.3, t.walk);
            inside = ((is.own s q a x.0 apart x.2).0 inside.0, t.inside);
            spaces = (
              is.gets s a x.0 ready space.0 x.2,
              space_along f.ranks f.first x.1 f.last x.4 f.walk f.inside f.spaces,
            );
            light = (let e = t.weighs in let k = f.light in omega (arith, e, k, w));
            short = (let k = f.short in omega (arith, k));
            alike = elim f.alike [
              | inl same ↦ inl (is.on c f.last t.last same t.alike)
              | inr d ↦ inr (d.0, d.1, d.2, is.on d.0 f.last t.last d.3 t.alike)
            ];
          }

  -- ---- a sure turn, first

  module _ (P : State → Type 0) (lasts : IsLasting m P) where
    -- some turns lead from the one to the other, of which it holds if it holds of the one
    pub data Reaches (c : State) : State → Type 0 where
      stays : Reaches c c
      then : {d : State} → (s : ℕ) (e : State) → Reaches c d → m.Goes s d e → m.IsWithin d s → (P d → P e) → Reaches c e

    reaches_along : (b c d : State) → m.Alike b c → Reaches b d → (e : State) × Reaches c e × m.Alike d e
    reaches_along b c d alike stays = (c, stays, alike)
    reaches_along b c d alike (then {d = f} s d' more goes asks keeps) =
        let t = reaches_along b c f alike more in
        let x = is.follows s f t.0 d t.2 asks goes in (
          x.0,
          then s x.0 t.1 x.1 (is.within s f t.0 t.2 asks)
              (λ p. lasts.alike d x.0 x.2 (keeps (lasts.alike t.0 f (is.back f t.0 t.2) p))),
          x.2,
        )

    -- a turn of the rank, and turns behind it that weigh less by what the turn weighs, lead to what is alike the end, or
    -- where some turns lead from it; where the rank's turn weighs nothing they are fewer. If that is sought, the turn
    -- found what it asks for
    pub record Fronted (sought : Bool) (r : ℕ) (a c : State) (weight long : ℕ) : Type 0 where
      pub first : State
      pub goes : Takes m sought r a first
      pub ranks : List ℕ
      pub last : State
      pub walk : Walk ranks first last
      pub inside : AllWithin m ranks first last walk
      pub spaces : AllSpace ranks first last walk
      pub light : heavy ranks first last walk + m.weight a r ≤ weight
      pub short : m.weight a r ≡ 0 → length ranks < long
      pub end : State
      pub more : Reaches c end
      pub alike : m.Alike end last

    -- turns of some ranks: one of theirs is among those taken, or that of this one can be taken at the end
    pub data Front (rs : Ranks) (one : ℕ) (a c : State) (weight long : ℕ) : Type 0 where
      is_there : (r : ℕ) → rs r ≡ true → Fronted false r a c weight long → Front rs one a c weight long
      is_next : Fronted true one a c (weight + m.weight a one) (suc long) → Front rs one a c weight long

    is_taken : (sought : Bool) (r : ℕ) (a b : State) → Takes m sought r a b → m.Goes r a b
    is_taken true r a b takes = is.finds_goes r a b takes
    is_taken false r a b takes = takes

    -- a turn of another rank before it
    before : (sought : Bool) (r s n l : ℕ) (a b c : State) → s ≢ r → m.IsWithin a s → m.HasRoom a → m.Goes s a b
        → ((e : State) → Takes m sought r b e → IsExchanged m sought r s a e) → Fronted sought r b c n l
        → Fronted sought r a c (m.weight a s + n) (suc l)
    before sought r s n l a b c apart asks room goes all f = go x.reordered
      where
        x : IsExchanged m sought r s a f.first
        x = all f.first f.goes

        turn : m.Goes r a x.first
        turn = is_taken sought r a x.first x.goes

        its : m.IsWithin x.first s
        its = (is.own r s a x.first apart turn).0 asks

        same : m.weight x.first s ≡ m.weight a s
        same = is.owns r s a x.first apart turn

        mine : m.weight b r ≡ m.weight a r
        mine = is.owns s r a b (λ e. apart (sym e)) goes

        spaced : m.HasSpace x.first × m.HasSpace x.second
        spaced = is.soon r s a x.first x.second room turn x.then

        go : IsReordered m r s a f.first x.first x.second → Fronted sought r a c (m.weight a s + n) (suc l)
        go (at_once alike) =
            let t = along f.ranks f.first x.second f.last alike f.walk f.inside in
            record {
              first = x.first;
              goes = x.goes;
              ranks = s ∷ f.ranks;
              last = t.last;
              walk = (x.second, x.then, t.walk);
              inside = (its, t.inside);
              spaces = (spaced.0, space_along f.ranks f.first x.second f.last alike f.walk f.inside f.spaces);
              light = (let e = t.weighs in let k = f.light in let u = same in let v = mine in omega (arith, e, k, u, v));
              short = λ none. (let k = f.short (mine ∙ none) in omega (arith, k));
              end = f.end;
              more = f.more;
              alike = is.on f.end f.last t.last f.alike t.alike;
            }
        go (r_polls last some none within turn alike) =
            let t = along f.ranks f.first last f.last alike f.walk f.inside in
            record {
              first = x.first;
              goes = x.goes;
              ranks = s ∷ r ∷ f.ranks;
              last = t.last;
              walk = (x.second, x.then, (last, turn, t.walk));
              inside = (its, (within, t.inside));
              spaces = (spaced.0, (spaced.1, space_along f.ranks f.first last f.last alike f.walk f.inside f.spaces));
              light =
                  (let e = t.weighs in let k = f.light in let u = same in let v = mine in let z = none in
                  omega (arith, e, k, u, v, z));
              short = λ zero'. absurd (let y = some in omega (arith, y, zero'));
              end = f.end;
              more = f.more;
              alike = is.on f.end f.last t.last f.alike t.alike;
            }
        go (s_polls ready leads) =
            let p = poll s f.ranks f.first f.last ready f.walk f.inside f.spaces in
            let home = leads p.first p.goes in
            let t = along p.ranks p.first x.second p.last home p.walk p.inside in
            let ending : (e : State) × Reaches c e × m.Alike e p.last = elim p.alike [
              | inl alike ↦ (f.end, f.more, is.on f.end f.last p.last f.alike alike)
              | inr d ↦
                  let asks = is.asks_for s f.last d.2 in
                  let g = is.follows s f.last f.end d.0 (is.back f.end f.last f.alike) asks d.1 in (
                    g.0,
                    then s g.0 f.more g.1 (is.within s f.last f.end (is.back f.end f.last f.alike) asks)
                        (λ p. lasts.alike d.0 g.0 g.2 (lasts.ready s f.last d.0 d.2 d.1 (lasts.alike f.end f.last f.alike p))),
                    is.on g.0 d.0 p.last (is.back d.0 g.0 g.2) d.3,
                  )
            ] in
            record {
              first = x.first;
              goes = x.goes;
              ranks = s ∷ p.ranks;
              last = t.last;
              walk = (x.second, x.then, t.walk);
              inside = (its, t.inside);
              spaces = (spaced.0, space_along p.ranks p.first x.second p.last home p.walk p.inside p.spaces);
              light =
                  (let e = t.weighs in let k = f.light in let u = same in let v = mine in let z = p.light in
                  omega (arith, e, k, u, v, z));
              short = λ none. (let k = f.short (mine ∙ none) in let z = p.short in omega (arith, k, z));
              end = ending.0;
              more = ending.1;
              alike = is.on ending.0 p.last t.last ending.2 t.alike;
            }

    lighter : {sought : Bool} → (r w n k l : ℕ) (a c : State) → w ≤ n → k ≤ l → Fronted sought r a c w k
        → Fronted sought r a c n l
    lighter r w n k l a c most longer f = record {
      first = f.first;
      goes = f.goes;
      ranks = f.ranks;
      last = f.last;
      walk = f.walk;
      inside = f.inside;
      spaces = f.spaces;
      light = (let x = f.light in omega (arith, x, most));
      short = λ none. (let x = f.short none in omega (arith, x, longer));
      end = f.end;
      more = f.more;
      alike = f.alike;
    }

    fronted_alike : {sought : Bool} → (r n l : ℕ) (a c d : State) → m.Alike c d → Fronted sought r a c n l
        → Fronted sought r a d n l
    fronted_alike r n l a c d alike f =
        let t = reaches_along c d f.end alike f.more in
        record {
          first = f.first;
          goes = f.goes;
          ranks = f.ranks;
          last = f.last;
          walk = f.walk;
          inside = f.inside;
          spaces = f.spaces;
          light = f.light;
          short = f.short;
          end = t.0;
          more = t.1;
          alike = is.on t.0 f.end f.last (is.back f.end t.0 t.2) f.alike;
        }

    module _ (rs : Ranks) (one : ℕ) (its : rs one ≡ true) where
      -- the same of the turns behind the first
      abbrev Rest : List ℕ → Type 0
      Rest qs = (a c : State) → m.AreSure a rs → (walk : Walk qs a c) → AllWithin m qs a c walk → AllRoom qs a c walk
          → Front rs one a c (heavy qs a c walk) (length qs)

      vain : (w n l : ℕ) (a b c : State) → m.Alike b c → Front rs one a b n l → Front rs one a c (w + n) (suc l)
      vain w n l a b c alike (is_there r among f) =
          is_there r among
          (lighter r n (w + n) l (suc l) a c (omega arith) (omega arith) (fronted_alike r n l a b c alike f))
      vain w n l a b c alike (is_next f) =
          is_next
          (lighter one (n + m.weight a one) (w + n + m.weight a one) (suc l) (suc (suc l)) a c (omega arith) (omega arith)
          (fronted_alike one (n + m.weight a one) (suc l) a b c alike f))

      other_rank : (r s : ℕ) → rs r ≡ true → rs s ≡ false → s ≢ r
      other_rank r s among apart same = (let e : rs s ≡ true = ap rs same ∙ among in absurd (cc))

      behind : (s n l : ℕ) (a b c : State) → rs s ≡ false → m.IsWithin a s → m.HasRoom a → m.Goes s a b
          → ((r : ℕ) (e : State) (found : Bool) → rs r ≡ true → Takes m found r b e → IsExchanged m found r s a e)
          → Front rs one b c n l
          → Front rs one a c (m.weight a s + n) (suc l)
      behind s n l a b c apart asks room goes all (is_there r among f) =
          is_there r among
          (before false r s n l a b c (other_rank r s among apart) asks room goes (λ e turn. all r e false among turn) f)
      behind s n l a b c apart asks room goes all (is_next f) =
          let same = is.owns s one a b (λ e. other_rank one s its apart (sym e)) goes in
          is_next
          (lighter one (m.weight a s + (n + m.weight b one)) (m.weight a s + n + m.weight a one) (suc (suc l)) (suc (suc l)) a c
          (omega (arith, same)) (omega arith)
          (before true one s (n + m.weight b one) (suc l) a b c (other_rank one s its apart) asks room goes
          (λ e turn. all one e true its turn) f))

      pub front : (qs : List ℕ) → Rest qs
      front [] a c sure walk inside room =
          let t = is.goes rs one a sure its in
          let goes = is.finds_goes one a t.0 t.1 in
          is_next (record {
            first = t.0;
            goes = t.1;
            ranks = [];
            last = t.0;
            walk = refl;
            inside = tt;
            spaces = tt;
            light = omega arith;
            short = λ none. omega arith;
            end = t.0;
            more = then one t.0 stays (subst (λ x. m.Goes one x t.0) (sym walk) goes)
                (subst (λ x. m.IsWithin x one) (sym walk) (is.asks rs one a sure its))
                (λ p. lasts.sure rs one a t.0 sure its goes (subst P walk p));
            alike = is.itself t.0;
          })
      front (s ∷ qs) a c sure walk inside room = elim (cases_Bool (rs s)) [
        | inl among ↦ is_there s among (record {
          first = walk.0;
          goes = walk.1;
          ranks = qs;
          last = c;
          walk = walk.2;
          inside = inside.1;
          spaces = room_space qs walk.0 c walk.2 room.1;
          light = omega arith;
          short = λ none. omega arith;
          end = c;
          more = stays;
          alike = is.itself c;
        })
        | inr apart ↦ other apart (front qs) (is.first rs s a walk.0 apart sure inside.0 room.0 walk.1)
      ]
        where
          room_space : (qs : List ℕ) (b c : State) → (walk : Walk qs b c) → AllRoom qs b c walk → AllSpace qs b c walk
          room_space [] b c walk room = tt
          room_space (q ∷ qs) b c walk room = (is.now b room.0, room_space qs walk.0 c walk.2 room.1)

          other : rs s ≡ false → Rest qs
              → m.Alike a walk.0
              ⊎ (m.AreSure walk.0 rs
              × ((r : ℕ) (e : State) (found : Bool) → rs r ≡ true → Takes m found r walk.0 e → IsExchanged m found r s a e))
              → Front rs one a c (m.weight a s + heavy qs walk.0 c walk.2) (suc (length qs))
          other apart rest (inl alike) =
              let home = is.back a walk.0 alike in
              let t = along qs walk.0 a c home walk.2 inside.1 in
              vain (m.weight a s) (heavy qs walk.0 c walk.2) (length qs) a t.last c (is.back c t.last t.alike)
              (subst (λ n. Front rs one a t.last n (length qs)) t.weighs
              (rest a t.last sure t.walk t.inside (room_along qs walk.0 a c home walk.2 inside.1 room.1)))
          other apart rest (inr y) =
              behind s (heavy qs walk.0 c walk.2) (length qs) a walk.0 c apart inside.0 room.0 walk.1 y.1
              (rest walk.0 c y.0 walk.2 inside.1 room.1)

pub longer_too : (m : Machine) (is : IsMachine m) (P : m.State → Type 0) (lasts : IsLasting m P) (rs : Ranks) (one : ℕ)
    (a c : m.State) (w k l : ℕ) → k ≤ l
    → Front m is P lasts rs one a c w k
    → Front m is P lasts rs one a c w l
longer_too m is P lasts rs one a c w k l most (is_there r among f) =
    is_there r among (lighter m is P lasts r w w k l a c (omega arith) most f)
longer_too m is P lasts rs one a c w k l most (is_next f) =
    is_next
    (lighter m is P lasts one (w + m.weight a one) (w + m.weight a one) (suc k) (suc l) a c (omega arith) (omega (arith, most)) f)
