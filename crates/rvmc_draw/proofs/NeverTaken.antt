-- Partitions that no step took.
use Rattle.std.specs.Prelude.{ℕ, ◌≡◌, ◌⊎◌, ◌+◌, ◌-◌, ◌^◌, ◌<◌, ◌≤◌, ◌==◌, ◌&&◌, ◌||◌, nat_lt, not, min, if◌then◌else◌, Bool, true, false}
use Rattle.std.specs.Prelude.{List, [], ◌∷◌, ◌++◌, filter, length, Option, Some, None}
use Rattle.std.specs.List.{list_any, slice_get}
use Rattle.std.proofs.Common.{refl, sym, ap, ◌∙◌, subst, inl, inr, append-nil, append_assoc, arith}
use Rattle.std.proofs.lemmas.Bool.{lt-ltb, ltb-true}
use Rattle.std.proofs.lemmas.List.Elements.{filter-append}
use Rattle.std.proofs.lemmas.List.Folds.{list_any-append}
use Rattle.std.proofs.lemmas.Option.{slice_get_past}
use Rattle.rvmc_draw.specs.Among.{IsAmong}
use Rattle.rvmc_draw.specs.Held.{made_by, made_once_more, untaken_without}
use Rattle.rvmc_draw.specs.Laws.{IsNeverTaken, UntakenLaw}
use Rattle.rvmc_draw.specs.Parts.{box_place, cell_of, is_box_at, is_untaken, untaken_made, place_of, readies, untaken_after, untaken_of}
use Rattle.rvmc_draw.specs.Walks.{IsTable, within}
use Rattle.rvmc_draw.specs.declared.deeds.Deed.{Deed}
use Rattle.rvmc_draw.specs.declared.drawing.Spot.{Spot}
use Rattle.rvmc_draw.specs.declared.parts.Cell.{Cell}
use Rattle.rvmc_draw.specs.declared.parts.Untaken.{Untaken}
use Rattle.rvmc_draw.proofs.Among.{among_append, among_behind, among_first, among_left, among_none, among_one, among_right, among_split}

-- ---- filters

filter_all : {A : Type 0} (xs : List A) → filter (λ (x : A). true) xs ≡ xs
filter_all [] = refl
filter_all (x ∷ xs) = ap (λ l. x ∷ l) (filter_all xs)

filter_two : {A : Type 0} (p q r : A → Bool) → ((x : A) → r x ≡ (p x && q x)) → (xs : List A)
    → filter r xs ≡ filter q (filter p xs)
filter_two p q r both [] = refl
filter_two p q r both (x ∷ xs) =
    ap (λ b. if b then x ∷ filter r xs else filter r xs) (both x) ∙ go (p x) (q x) refl (filter_two p q r both xs)
  where
    go : (b c : Bool) → q x ≡ c → filter r xs ≡ filter q (filter p xs)
        → (if b && c then x ∷ filter r xs else filter r xs) ≡ filter q (if b then x ∷ filter p xs else filter p xs)
    go true true own rest =
        ap (λ l. x ∷ l) rest ∙ sym (ap (λ b. if b then x ∷ filter q (filter p xs) else filter q (filter p xs)) own)
    go true false own rest =
        rest ∙ sym (ap (λ b. if b then x ∷ filter q (filter p xs) else filter q (filter p xs)) own)
    go false c own rest = rest

among_filter : {A : Type 0} (p : A → Bool) (xs : List A) (x : A) → IsAmong (filter p xs) x → IsAmong xs x × (p x ≡ true)
among_filter {A = A} p [] x is = absurd (among_none x is)
among_filter {A = A} p (y ∷ xs) x is = go (p y) refl is (among_filter p xs x)
  where
    go : (b : Bool) → p y ≡ b → IsAmong (if b then y ∷ filter p xs else filter p xs) x
        → (IsAmong (filter p xs) x → IsAmong xs x × (p x ≡ true)) → IsAmong (y ∷ xs) x × (p x ≡ true)
    go true own here rest = elim (among_split y (filter p xs) x here) [
      | inl same ↦ (
        subst (λ z. IsAmong (y ∷ xs) z) (sym same) (among_first y xs),
        ap p same ∙ own,
      )
      | inr there ↦ (let r = rest there in (among_behind y xs x r.0, r.1))
    ]
    go false own there rest = let r = rest there in (among_behind y xs x r.0, r.1)

-- ---- a step more

without_is : (untaken : List Untaken) (o : Option (ℕ × ℕ))
    → filter (λ (one : Untaken). not (is_box_at (place_of one) o)) untaken ≡ untaken_without untaken o
without_is untaken None = filter_all untaken
without_is untaken (Some box) = refl

without_append : (xs ys : List Untaken) (o : Option (ℕ × ℕ))
    → untaken_without (xs ++ ys) o ≡ untaken_without xs o ++ untaken_without ys o
without_append xs ys None = refl
without_append xs ys (Some box) = filter-append (λ (one : Untaken). not (is_box_at (place_of one) (Some box))) xs ys

without_none : (o : Option (ℕ × ℕ)) → untaken_without [] o ≡ []
without_none None = refl
without_none (Some box) = refl

not_either : (a b : Bool) → not (a || (b || false)) ≡ (not a && not b)
not_either true b = refl
not_either false true = refl
not_either false false = refl

one_later : (deeds : List Deed) (d : Deed) (one : Untaken)
    → is_untaken (deeds ++ d ∷ []) one ≡ (is_untaken deeds one && not (is_box_at (place_of one) d.taken))
one_later deeds d one =
    ap not (list_any-append (λ (e : Deed). is_box_at (place_of one) e.taken) deeds (d ∷ []))
    ∙ not_either (list_any (λ (e : Deed). is_box_at (place_of one) e.taken) deeds) (is_box_at (place_of one) d.taken)

still_untaken : (deeds : List Deed) (d : Deed) (made : List Untaken)
    → filter (is_untaken (deeds ++ d ∷ [])) made ≡ untaken_without (filter (is_untaken deeds) made) d.taken
still_untaken deeds d made =
    filter_two (is_untaken deeds) (λ (one : Untaken). not (is_box_at (place_of one) d.taken)) (is_untaken (deeds ++ d ∷ []))
    (one_later deeds d) made
    ∙ without_is (filter (is_untaken deeds) made) d.taken

untaken_from : (boxes : ℕ) (before deeds : List Deed) (d : Deed)
    → untaken_after boxes before (deeds ++ d ∷ [])
    ≡ untaken_without (untaken_after boxes before deeds) d.taken ++ untaken_made boxes (before ++ deeds) d.ready d.spot
untaken_from boxes before [] d =
    append-nil (filter (is_untaken []) (untaken_made boxes before d.ready d.spot))
    ∙ filter_all (untaken_made boxes before d.ready d.spot)
    ∙ ap (λ front. untaken_made boxes front d.ready d.spot) (sym (append-nil before))
    ∙ ap (λ l. l ++ untaken_made boxes (before ++ []) d.ready d.spot) (sym (without_none d.taken))
untaken_from boxes before (e ∷ deeds) d =
    let made = untaken_made boxes before e.ready e.spot in
    let left = untaken_without (filter (is_untaken deeds) made) d.taken in
    let others = untaken_without (untaken_after boxes (before ++ e ∷ []) deeds) d.taken in
    ap (λ l. l ++ untaken_after boxes (before ++ e ∷ []) (deeds ++ d ∷ [])) (still_untaken deeds d made)
    ∙ ap (λ l. left ++ l) (untaken_from boxes (before ++ e ∷ []) deeds d)
    ∙ sym (append_assoc left others (untaken_made boxes ((before ++ e ∷ []) ++ deeds) d.ready d.spot))
    ∙ ap (λ l. l ++ untaken_made boxes ((before ++ e ∷ []) ++ deeds) d.ready d.spot)
    (sym (without_append (filter (is_untaken deeds) made) (untaken_after boxes (before ++ e ∷ []) deeds) d.taken))
    ∙ ap (λ front. untaken_without (untaken_after boxes before (e ∷ deeds)) d.taken ++ untaken_made boxes front d.ready d.spot)
    (append_assoc before (e ∷ []) deeds)

-- where there is no such box nothing is added
pub none_made : (untaken : List Untaken) (cells : List Cell) (o : Option (ℕ × ℕ)) (box : ℕ × ℕ) (spot : Spot)
    → o ≡ Some box → length cells ≤ box_place box → untaken ≡ untaken ++ made_by cells o spot
none_made untaken cells o box spot is past =
    sym (append-nil untaken)
    ∙ ap (λ p. untaken ++ made_once_more box spot p) (sym (slice_get_past cells (box_place box) past))
    ∙ ap (λ p. untaken ++ made_by cells p spot) (sym is)

-- what a step makes ready, by the boxes behind the steps before it
min_more : (a b : ℕ) → min (min a b + 1) b ≡ min (a + 1) b
min_more a b = omega arith

made_is : (boxes : ℕ) (before : List Deed) (cells : List Cell) (o : Option (ℕ × ℕ)) (spot : Spot)
    → IsTable boxes (cell_of before) cells → made_by cells o spot ≡ untaken_made boxes before o spot
made_is boxes before cells None spot table = refl
made_is boxes before cells (Some box) spot table =
    ap (made_once_more box spot) (table (box_place box)) ∙ go (nat_lt (box_place box) boxes)
  where
    count : ℕ
    count = length (readies (box_place box) before)

    same : min (min count (2 ^ 64 - 1) + 1) (2 ^ 64 - 1) ≡ min (count + 1) (2 ^ 64 - 1)
    same = min_more count (2 ^ 64 - 1)

    made : ℕ → Untaken
    made phase = record { from = spot; link = box.0; part = box.1; phase = phase }

    go : (b : Bool) → made_once_more box spot (if b then Some (cell_of before (box_place box)) else None)
        ≡ (if b then made (min (count + 1) (2 ^ 64 - 1)) ∷ [] else [])
    go true = ap (λ n. made n ∷ []) same
    go false = refl

pub untaken_more : (boxes : ℕ) (deeds : List Deed) (d : Deed) (cells : List Cell) (old new : List Untaken)
    → IsTable boxes (cell_of deeds) cells → old ≡ untaken_of boxes deeds
    → new ≡ untaken_without old d.taken ++ made_by cells d.ready d.spot → new ≡ untaken_of boxes (deeds ++ d ∷ [])
untaken_more boxes deeds d cells old new table was is =
    is
    ∙ ap (λ l. untaken_without l d.taken ++ made_by cells d.ready d.spot) was
    ∙ ap (λ l. untaken_without (untaken_of boxes deeds) d.taken ++ l) (made_is boxes deeds cells d.ready d.spot table)
    ∙ sym (untaken_from boxes [] deeds d)

-- ---- the law

record IsBehind (boxes : ℕ) (first deeds : List Deed) (one : Untaken) : Type 0 where
  before : List Deed
  maker : Deed
  after : List Deed
  all : deeds ≡ before ++ maker ∷ after
  made : IsAmong (untaken_made boxes (first ++ before) maker.ready maker.spot) one
  untaken : is_untaken after one ≡ true

behind : (boxes : ℕ) (first deeds : List Deed) (one : Untaken) → IsAmong (untaken_after boxes first deeds) one
    → IsBehind boxes first deeds one
behind boxes first [] one is = absurd (among_none one is)
behind boxes first (d ∷ ds) one is =
    elim (among_append (filter (is_untaken ds) (untaken_made boxes first d.ready d.spot))
    (untaken_after boxes (first ++ d ∷ []) ds) one is) [
      | inl here ↦ (let r = among_filter (is_untaken ds) (untaken_made boxes first d.ready d.spot) one here in record {
        before = [];
        maker = d;
        after = ds;
        all = refl;
        made = subst (λ front. IsAmong (untaken_made boxes front d.ready d.spot) one) (sym (append-nil first)) r.0;
        untaken = r.1;
      })
      | inr there ↦ (let r = behind boxes (first ++ d ∷ []) ds one there in record {
        before = d ∷ r.before;
        maker = r.maker;
        after = r.after;
        all = ap (λ l. d ∷ l) r.all;
        made = subst (λ front. IsAmong (untaken_made boxes front r.maker.ready r.maker.spot) one)
            (append_assoc first (d ∷ []) r.before) r.made;
        untaken = r.untaken;
      })
    ]

not_true : (b : Bool) → not b ≡ true → b ≡ false
not_true true is = absurd (cc)
not_true false is = refl

never : (boxes : ℕ) (deeds : List Deed) (one : Untaken) → IsAmong (untaken_of boxes deeds) one
    → IsNeverTaken boxes deeds one
never boxes deeds one is = let r = behind boxes [] deeds one is in at_box r r.maker.ready refl r.made
  where
    at_box : (r : IsBehind boxes [] deeds one) (o : Option (ℕ × ℕ)) → r.maker.ready ≡ o
        → IsAmong (untaken_made boxes r.before o r.maker.spot) one → IsNeverTaken boxes deeds one
    at_box r None makes here = absurd (among_none one here)
    at_box r (Some box) makes here = go (nat_lt (box_place box) boxes) refl here
      where
        made : Untaken
        made = record {
          from = r.maker.spot;
          link = box.0;
          part = box.1;
          phase = min (length (readies (box_place box) r.before) + 1) (2 ^ 64 - 1);
        }

        go : (b : Bool) → nat_lt (box_place box) boxes ≡ b → IsAmong (if b then made ∷ [] else []) one
            → IsNeverTaken boxes deeds one
        go false past there = absurd (among_none one there)
        go true below there = let same = among_one made one there in record {
          before = r.before;
          maker = r.maker;
          after = r.after;
          all = r.all;
          box = box;
          makes = makes;
          there = ltb-true (box_place box) boxes below;
          nobody = not_true (list_any (λ (d : Deed). is_box_at (box_place box) d.taken) r.after)
              (subst (λ (u : Untaken). is_untaken r.after u ≡ true) same r.untaken);
          one_is = same;
        }

known : (boxes : ℕ) (first before after : List Deed) (d : Deed) (one : Untaken)
    → IsAmong (filter (is_untaken after) (untaken_made boxes (first ++ before) d.ready d.spot)) one
    → IsAmong (untaken_after boxes first (before ++ d ∷ after)) one
known boxes first [] after d one is =
    among_left (filter (is_untaken after) (untaken_made boxes first d.ready d.spot)) (untaken_after boxes (first ++ d ∷ []) after)
    one (subst (λ front. IsAmong (filter (is_untaken after) (untaken_made boxes front d.ready d.spot)) one) (append-nil first) is)
known boxes first (e ∷ before) after d one is =
    among_right (filter (is_untaken (before ++ d ∷ after)) (untaken_made boxes first e.ready e.spot))
    (untaken_after boxes (first ++ e ∷ []) (before ++ d ∷ after)) one
    (known boxes (first ++ e ∷ []) before after d one
    (subst (λ front. IsAmong (filter (is_untaken after) (untaken_made boxes front d.ready d.spot)) one)
    (sym (append_assoc first (e ∷ []) before)) is))

told : (boxes : ℕ) (deeds : List Deed) (one : Untaken) → IsNeverTaken boxes deeds one
    → IsAmong (untaken_of boxes deeds) one
told boxes deeds one n =
    let made : Untaken = record {
      from = n.maker.spot;
      link = n.box.0;
      part = n.box.1;
      phase = min (length (readies (box_place n.box) n.before) + 1) (2 ^ 64 - 1);
    } in
    let here : untaken_made boxes n.before n.maker.ready n.maker.spot ≡ made ∷ [] =
    ap (λ o. untaken_made boxes n.before o n.maker.spot) n.makes
    ∙ ap (λ b. if b then made ∷ [] else []) (lt-ltb (box_place n.box) boxes n.there) in
    let kept : filter (is_untaken n.after) (made ∷ []) ≡ made ∷ [] =
    ap (λ b. if not b then made ∷ [] else []) n.nobody in
    subst (λ l. IsAmong (untaken_of boxes l) one) (sym n.all)
    (known boxes [] n.before n.after n.maker one
    (subst (λ l. IsAmong l one) (sym (ap (filter (is_untaken n.after)) here ∙ kept))
    (subst (λ u. IsAmong (made ∷ []) u) (sym n.one_is) (among_first made []))))

pub untaken_law : UntakenLaw
untaken_law boxes deeds one = (never boxes deeds one, told boxes deeds one)
