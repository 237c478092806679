-- The arrows of partitions, and the lanes.
use Rattle.std.specs.Prelude.{ℕ, zero, suc, ◌≡◌, ◌⊎◌, ◌+◌, ◌*◌, ◌-◌, ◌^◌, ◌<◌, ◌≤◌, ◌==◌, nat_lt, min, if◌then◌else◌, Bool, true, false}
use Rattle.std.specs.Prelude.{List, [], ◌∷◌, ◌++◌, length, option_to_list, Option, Some, None}
use Rattle.std.specs.List.{flat_map, last_or}
use Rattle.std.proofs.Common.{refl, sym, ap, ◌∙◌, subst, inl, inr, append-nil, arith}
use Rattle.std.proofs.lemmas.Bool.{eq-eqb, eqb-true, false≢true, lt-ltb, ltb-true}
use Rattle.std.proofs.lemmas.Grind.{flat_map-append}
use Rattle.std.proofs.lemmas.List.{length-append}
use Rattle.mp_match.specs.PostPairs.{pairs}
use Rattle.mp_match.specs.declared.posts.Line.{Line}
use Rattle.rvmc_draw.specs.Among.{IsAmong}
use Rattle.rvmc_draw.specs.Board.{arrow_to, arrows_to, claim_arrows, could, lines_with, messages, partner_numbered, posts_made}
use Rattle.rvmc_draw.specs.Board.{spot_if, spots_made, wildcard_in}
use Rattle.rvmc_draw.specs.Laws.{BoxLaw, JoinsReady, LanesLaw, PartitionsLaw, is_partition}
use Rattle.rvmc_draw.specs.Looks.{lane_of}
use Rattle.rvmc_draw.specs.Parts.{arrow_from, arrow_if_there, arrow_to_taker, arrows_taken, box_place, cell_of, readies, spot_at}
use Rattle.rvmc_draw.specs.Walks.{Scope, arrows_by, arrows_of, within}
use Rattle.rvmc_draw.specs.declared.board.Manner.TheVariants as manner
use Rattle.rvmc_draw.specs.declared.deeds.Deed.{Deed}
use Rattle.rvmc_draw.specs.declared.drawing.Arrow.{Arrow}
use Rattle.rvmc_draw.specs.declared.drawing.Carried.TheVariants.{Partition}
use Rattle.rvmc_draw.specs.declared.drawing.Spot.{Spot}
use Rattle.rvmc_draw.specs.declared.parts.Cell.{Cell}
use Rattle.rvmc_draw.proofs.Among.{added_by, among_append, among_first, among_none, among_one, among_right, by_added}
use Rattle.rvmc_draw.proofs.Messages.{carries_if, claims_none, coulds_none, none_such, of_number}
use Rattle.rvmc_draw.proofs.Tables.{last_append, within_some}

-- ---- the step that made a box ready last

record IsLastReady (place : ℕ) (deeds : List Deed) : Type 0 where
  earlier : List Deed
  maker : Deed
  between : List Deed
  all : deeds ≡ earlier ++ maker ∷ between
  made : ℕ × ℕ
  makes : maker.ready ≡ Some made
  same : box_place made ≡ place
  none_between : readies place between ≡ []

here_or_not : (place : ℕ) (d : Deed) (ds : List Deed) → readies place ds ≡ [] → (o : Option (ℕ × ℕ)) → d.ready ≡ o
    → (spot_at place o d.spot ++ readies place ds ≡ []) ⊎ IsLastReady place (d ∷ ds)
here_or_not place d ds none None is = inl none
here_or_not place d ds none (Some box) is = go (box_place box == place) refl
  where
    go : (b : Bool) → (box_place box == place) ≡ b
        → ((if b then d.spot ∷ [] else []) ++ readies place ds ≡ []) ⊎ IsLastReady place (d ∷ ds)
    go false e = inl none
    go true e = inr (record {
      earlier = [];
      maker = d;
      between = ds;
      all = refl;
      made = box;
      makes = is;
      same = eqb-true (box_place box) place e;
      none_between = none;
    })

last_ready : (place : ℕ) (deeds : List Deed) → (readies place deeds ≡ []) ⊎ IsLastReady place deeds
last_ready place [] = inl refl
last_ready place (d ∷ ds) = elim (last_ready place ds) [
  | inl none ↦ elim (here_or_not place d ds none d.ready refl) [
    | inl nowhere ↦ inl nowhere
    | inr here ↦ inr here
  ]
  | inr there ↦ inr (record {
    earlier = d ∷ there.earlier;
    maker = there.maker;
    between = there.between;
    all = ap (λ l. d ∷ l) there.all;
    made = there.made;
    makes = there.makes;
    same = there.same;
    none_between = there.none_between;
  })
]

spot_made : (place : ℕ) (maker : Deed) (box : ℕ × ℕ) → maker.ready ≡ Some box → box_place box ≡ place
    → spot_at place maker.ready maker.spot ≡ maker.spot ∷ []
spot_made place maker box makes same =
    ap (λ o. spot_at place o maker.spot) makes
    ∙ ap (λ b. if b then maker.spot ∷ [] else []) (eq-eqb (box_place box) place same)

readies_are : (place : ℕ) (earlier between : List Deed) (maker : Deed) (box : ℕ × ℕ) → maker.ready ≡ Some box
    → box_place box ≡ place → readies place between ≡ []
    → readies place (earlier ++ maker ∷ between) ≡ readies place earlier ++ maker.spot ∷ []
readies_are place earlier between maker box makes same none =
    flat_map-append (λ (d : Deed). spot_at place d.ready d.spot) earlier (maker ∷ between)
    ∙ ap (λ l. readies place earlier ++ (l ++ readies place between)) (spot_made place maker box makes same)
    ∙ ap (λ l. readies place earlier ++ maker.spot ∷ l) none

-- the box behind them
cell_is : (place : ℕ) (deeds earlier between : List Deed) (maker : Deed) (box : ℕ × ℕ)
    → deeds ≡ earlier ++ maker ∷ between → maker.ready ≡ Some box → box_place box ≡ place → readies place between ≡ []
    → cell_of deeds place
    ≡ record { phase = min (length (readies place earlier) + 1) (2 ^ 64 - 1); last = Some maker.spot }
cell_is place deeds earlier between maker box all makes same none =
    ap (λ l. record { phase = min (length l) (2 ^ 64 - 1); last = last_or None l })
    (ap (readies place) all ∙ readies_are place earlier between maker box makes same none)
    ∙ ap (λ n. record { phase = min n (2 ^ 64 - 1); last = last_or None (readies place earlier ++ maker.spot ∷ []) })
    (length-append (readies place earlier) (maker.spot ∷ []))
    ∙ ap (λ o. record { phase = min (length (readies place earlier) + 1) (2 ^ 64 - 1); last = o })
    (last_append None (readies place earlier) (maker.spot ∷ []))

-- ---- the arrow to the step that took it

-- an arrow to a step that took a partition is from the step that made its box ready last
record IsTaken (scope : Scope) (before : List Deed) (d : Deed) (a : Arrow) : Type 0 where
  box : ℕ × ℕ
  takes : d.taken ≡ Some box
  there : box_place box < scope.boxes
  ready : IsLastReady (box_place box) before
  arrow_is : a
      ≡ record {
        from = ready.maker.spot;
        to = Some d.spot;
        dest = d.spot.rank;
        carried = Partition box.0 box.1 (min (length (readies (box_place box) ready.earlier) + 1) (2 ^ 64 - 1));
      }

taken : (scope : Scope) (before : List Deed) (d : Deed) (a : Arrow)
    → IsAmong (arrows_taken (within scope.boxes (cell_of before)) d) a → IsTaken scope before d a
taken scope before d a there = go d.taken refl there
  where
    in_cell : (box : ℕ × ℕ) → d.taken ≡ Some box → box_place box < scope.boxes
        → IsAmong (arrow_from box d.spot (cell_of before (box_place box))) a
        → (readies (box_place box) before ≡ []) ⊎ IsLastReady (box_place box) before → IsTaken scope before d a
    in_cell box takes below here (inl none) =
        absurd (among_none a (subst (λ l. IsAmong (arrow_from box d.spot
        (record { phase = min (length l) (2 ^ 64 - 1); last = last_or None l })) a) none here))
    in_cell box takes below here (inr ready) = record {
      box = box;
      takes = takes;
      there = below;
      ready = ready;
      arrow_is = among_one (record {
        from = ready.maker.spot;
        to = Some d.spot;
        dest = d.spot.rank;
        carried = Partition box.0 box.1 (min (length (readies (box_place box) ready.earlier) + 1) (2 ^ 64 - 1));
      }) a
          (subst (λ (c : Cell). IsAmong (arrow_from box d.spot c) a)
          (cell_is (box_place box) before ready.earlier ready.between ready.maker ready.made ready.all ready.makes
          ready.same ready.none_between) here);
    }

    in_table : (box : ℕ × ℕ) → d.taken ≡ Some box → (o : Option Cell)
        → within scope.boxes (cell_of before) (box_place box) ≡ o → IsAmong (arrow_if_there box d.spot o) a
        → IsTaken scope before d a
    in_table box takes None is here = absurd (among_none a here)
    in_table box takes (Some cell) is here =
        let w = within_some scope.boxes (cell_of before) (box_place box) cell is in
        in_cell box takes (ltb-true (box_place box) scope.boxes w.0)
        (subst (λ (c : Cell). IsAmong (arrow_from box d.spot c) a) w.1 here) (last_ready (box_place box) before)

    go : (o : Option (ℕ × ℕ)) → d.taken ≡ o → IsAmong (arrow_to_taker (within scope.boxes (cell_of before)) o d.spot) a
        → IsTaken scope before d a
    go None takes here = absurd (among_none a here)
    go (Some box) takes here =
        in_table box takes (within scope.boxes (cell_of before) (box_place box)) refl here

-- ---- which arrows are of partitions

in_step : (scope : Scope) (before : List Deed) (d : Deed) (a : Arrow) → IsAmong (arrows_by scope before d) a
    → is_partition a.carried ≡ true → IsAmong (arrows_taken (within scope.boxes (cell_of before)) d) a
in_step scope before d a there is =
    elim (among_append (arrows_to scope.ranks (pairs (posts_made before)) (spots_made before) d)
    (arrows_taken (within scope.boxes (cell_of before)) d) a there) [
      | inr own ↦ own
      | inl sent ↦ elim (among_append
          (could scope.ranks (pairs (posts_made before)) (spots_made before) d.spot (wildcard_in d.made))
          (claim_arrows lines spots d.spot d.made ++ messages lines spots d.spot d.got.items) a sent) [
            | inl other ↦ absurd (coulds_none is_partition (λ s. refl) scope.ranks (pairs (posts_made before))
                (spots_made before) d.spot (wildcard_in d.made) a other is)
            | inr more ↦ elim (among_append (claim_arrows lines spots d.spot d.made)
                (messages lines spots d.spot d.got.items) a more) [
                  | inl claimed ↦ absurd (claims_none is_partition (λ s. refl) lines spots d.spot d.made a claimed is)
                  | inr got ↦ absurd (got_none (of_number lines spots d a got).number (of_number lines spots d a got).is)
                ]
          ]
    ]
  where
    lines : List Line
    lines = lines_with (pairs (posts_made before)) d.made

    spots : List Spot
    spots = spots_made before ++ spot_if d.made d.spot

    got_none : (number : ℕ) → arrow_to lines spots manner.Got d.spot number ≡ Some a → ⊥
    got_none number e =
        none_such is_partition manner.Got a (λ s. refl)
        (carries_if lines spots manner.Got (Some d.spot) (partner_numbered lines number) a e) is

taken_law : (scope : Scope) (deeds : List Deed) (a : Arrow) → IsAmong (arrows_of scope deeds) a
    → is_partition a.carried ≡ true → JoinsReady scope deeds a
taken_law scope deeds a there is =
    let s = added_by (arrows_by scope) deeds a there in
    let t = taken scope s.before s.deed a (in_step scope s.before s.deed a s.added is) in
    record {
      earlier = t.ready.earlier;
      maker = t.ready.maker;
      between = t.ready.between;
      taker = s.deed;
      after = s.after;
      all = s.all ∙ ap (λ l. l ++ s.deed ∷ s.after) t.ready.all;
      box = t.box;
      takes = t.takes;
      there = t.there;
      made = t.ready.made;
      makes = t.ready.makes;
      same = t.ready.same;
      none_between = t.ready.none_between;
      arrow_is = t.arrow_is;
    }

law_taken : (scope : Scope) (deeds : List Deed) (a : Arrow) → JoinsReady scope deeds a
    → IsAmong (arrows_of scope deeds) a × (is_partition a.carried ≡ true)
law_taken scope deeds a j =
    let before = j.earlier ++ j.maker ∷ j.between in
    let place = box_place j.box in
    let below : nat_lt place scope.boxes ≡ true = lt-ltb place scope.boxes j.there in
    let here : arrows_taken (within scope.boxes (cell_of before)) j.taker ≡ a ∷ [] =
    ap (λ o. arrow_to_taker (within scope.boxes (cell_of before)) o j.taker.spot) j.takes
    ∙ ap (λ b. arrow_if_there j.box j.taker.spot (if b then Some (cell_of before place) else None)) below
    ∙ ap (arrow_from j.box j.taker.spot)
    (cell_is place before j.earlier j.between j.maker j.made refl j.makes j.same j.none_between)
    ∙ ap (λ b. b ∷ []) (sym j.arrow_is) in (
      by_added (arrows_by scope) deeds a (record {
        before = before;
        deed = j.taker;
        after = j.after;
        all = j.all;
        added = among_right (arrows_to scope.ranks (pairs (posts_made before)) (spots_made before) j.taker)
            (arrows_taken (within scope.boxes (cell_of before)) j.taker) a
            (subst (λ xs. IsAmong xs a) (sym here) (among_first a []));
      }),
      ap (λ (b : Arrow). is_partition b.carried) j.arrow_is,
    )

pub partitions_law : PartitionsLaw
partitions_law scope deeds a = ((λ both. taken_law scope deeds a both.0 both.1), law_taken scope deeds a)

pub box_law : BoxLaw
box_law a b inside other same = (omega (arith, inside, other, same), omega (arith, inside, other, same))

-- ---- lanes

-- the harts of a rank stand before those of a later one
one_first : (n harts h k : ℕ) → h < harts → 0 * harts + h < (n + harts) + k
one_first n harts h k inside = omega (arith, inside)

both_more : (n m harts h k : ℕ) → n + h < m + k → (n + harts) + h < (m + harts) + k
both_more n m harts h k less = omega (arith, less)

one_more : (r harts : ℕ) → suc r * harts ≡ r * harts + harts
one_more r harts = omega arith

rank_before : (harts r s h k : ℕ) → h < harts → r < s → r * harts + h < s * harts + k
rank_before harts r zero h k inside less = absurd (omega (arith, less))
rank_before harts zero (suc s) h k inside less =
    subst (λ n. 0 * harts + h < n + k) (sym (one_more s harts)) (one_first (s * harts) harts h k inside)
rank_before harts (suc r) (suc s) h k inside less =
    subst (λ n. n + h < suc s * harts + k) (sym (one_more r harts))
    (subst (λ n. (r * harts + harts) + h < n + k) (sym (one_more s harts))
    (both_more (r * harts) (s * harts) harts h k (rank_before harts r s h k inside (omega (arith, less)))))

hart_before : (n h k : ℕ) → h < k → n + h < n + k
hart_before n h k less = omega (arith, less)

hart_behind : (n h k : ℕ) → n + h < n + k → h < k
hart_behind n h k less = omega (arith, less)

crossed : (n m : ℕ) → n < m → m < n → ⊥
crossed n m one other = omega (arith, one, other)

three_ways : (r s : ℕ) → (r < s) ⊎ ((r ≡ s) ⊎ (s < r))
three_ways zero zero = inr (inl refl)
three_ways zero (suc s) = inl (omega arith)
three_ways (suc r) zero = inr (inr (omega arith))
three_ways (suc r) (suc s) = elim (three_ways r s) [
  | inl less ↦ inl (omega (arith, less))
  | inr more ↦ elim more [
    | inl same ↦ inr (inl (ap suc same))
    | inr past ↦ inr (inr (omega (arith, past)))
  ]
]

pub lanes_law : LanesLaw
lanes_law harts a b inside other = (there, back)
  where
    there : lane_of harts a < lane_of harts b → (a.rank < b.rank) ⊎ ((a.rank ≡ b.rank) × (a.hart < b.hart))
    there less = elim (three_ways a.rank b.rank) [
      | inl before ↦ inl before
      | inr more ↦ elim more [
        | inl same ↦ inr (
          same,
          hart_behind (b.rank * harts) a.hart b.hart
              (subst (λ r. r * harts + a.hart < b.rank * harts + b.hart) same less),
        )
        | inr past ↦ absurd (crossed (lane_of harts a) (lane_of harts b) less
            (rank_before harts b.rank a.rank b.hart a.hart other past))
      ]
    ]

    back : (a.rank < b.rank) ⊎ ((a.rank ≡ b.rank) × (a.hart < b.hart)) → lane_of harts a < lane_of harts b
    back (inl before) = rank_before harts a.rank b.rank a.hart b.hart inside before
    back (inr same) =
        subst (λ r. r * harts + a.hart < b.rank * harts + b.hart) (sym same.0)
        (hart_before (b.rank * harts) a.hart b.hart same.1)
