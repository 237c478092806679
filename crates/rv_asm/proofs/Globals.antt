-- The names of `.globl` that the lines so far keep: each once, in byte order, and such as a symbol may have.
use Rattle.std.proofs.Common.{◌≡◌, ℕ, ◌+◌, ◌≤◌, List, [], ◌∷◌, ◌++◌, length, Option, Some, None, Ok, Err, Bool, true, false, nat_lt, refl, sym, ap, subst, ◌∙◌, arith, append-nil}
use Rattle.std.proofs.lemmas.Bool.{ltb-true}
use Rattle.std.proofs.lemmas.List.Elements.{All-from_recursion, All-nil, filter_map-append, recursion_from_All}
use Rattle.std.proofs.lemmas.Map.Views.{All-insert_key}
use Rattle.std.specs.Prelude.{All, ◌||◌, if◌then◌else◌}
use Rattle.std.specs.BTreeSet.{insert_key}
use Rattle.std.specs.Cmp.{IsTotalOrder}
use Rattle.std.specs.Cmp.Lexicographic.{bytes_decides, nat_list_cmp_total, slice_cmp, texts_ties}
use Rattle.std.specs.List.{AllByRecursion}
use Rattle.std.specs.List.Sorted.{IsStrictlySortedBy}
use Rattle.std.specs.Ordering.{is_eq, match_ordering, nat_cmp, ordering_reverse}
use Rattle.std.specs.declared.cmp.Ordering.{Ordering}
use Rattle.std.specs.declared.cmp.Ordering.TheVariants.{Less, Equal, Greater}
use Rattle.std.specs.Str.{bytes_eq}
use Rattle.rv_image_types.specs.Names.{RisingNames, is_symbol_name}
use Rattle.rv_asm_tokens.specs.declared.fault.AsmFaultKind.TheVariants as kinds
use Rattle.rv_asm_tokens.specs.Fault.{if_some}
use Rattle.rv_asm_statements.specs.declared.directives.Directive.TheVariants as directive
use Rattle.rv_asm_statements.specs.declared.statements.Statement.{Statement}
use Rattle.rv_asm_statements.specs.declared.statements.Statement.TheVariants.{Label, Directive as Directed}
use Rattle.rv_asm_lines.specs.Item.{Item}
use Rattle.rv_asm_lines.specs.Globals.{global_of, globals_behind, is_global, most_globals, with_global}
use Rattle.rv_asm_lines.specs.GlobalNames.{globals_in}
use Rattle.rv_asm_lines.specs.Layout.{Layout, item_at, next_place}
use Rattle.rv_asm.proofs.Kept.{IsKept, IsStated}
use Rattle.rv_asm.proofs.Right.{ok, ok_is}

-- ---- a name at its place

below_all : {K : Type 0} {R : K → K → Ordering} → IsTotalOrder R → (k x : K) → R k x ≡ Less → (ys : List K) → AllByRecursion (λ y. R x y ≡ Less) ys → AllByRecursion (λ y. R k y ≡ Less) ys
below_all o k x e [] h = tt
below_all o k x e (y ∷ ys) h = (o.trans k x y e h.0, below_all o k x e ys h.1)

-- keys that rise still rise with one more at its place
inserted_rise : {K : Type 0} {R : K → K → Ordering} → IsTotalOrder R → (k : K) (ks : List K) → IsStrictlySortedBy R ks → IsStrictlySortedBy R (insert_key R ks k)
unfolding IsStrictlySortedBy
inserted_rise o k [] s = (tt, tt)
inserted_rise {K} {R} o k (x ∷ xs) s = go (R k x) refl (inserted_rise o k xs s.1)
  where
    go : (r : Ordering) → R k x ≡ r → IsStrictlySortedBy R (insert_key R xs k) → IsStrictlySortedBy R (match_ordering r (k ∷ x ∷ xs) (x ∷ xs) (x ∷ insert_key R xs k))
    go Less e rest = ((e, below_all o k x e xs s.0), s)
    go Equal e rest = s
    go Greater e rest =
        let above : R x k ≡ Less = o.antisymm x k ∙ ap ordering_reverse e in
        (recursion_from_All (λ y. R x y ≡ Less) (insert_key R xs k) (All-insert_key R k (λ y. R x y ≡ Less) xs (All-from_recursion (λ y. R x y ≡ Less) xs s.0) above), rest)

inserted_length : {K : Type 0} (R : K → K → Ordering) (k : K) (ks : List K) → length (insert_key R ks k) ≤ length ks + 1
inserted_length R k [] = omega arith
inserted_length {K} R k (x ∷ xs) = go (R k x) (inserted_length R k xs)
  where
    go : (r : Ordering) → length (insert_key R xs k) ≤ length xs + 1 → length (match_ordering r (k ∷ x ∷ xs) (x ∷ xs) (x ∷ insert_key R xs k)) ≤ length (x ∷ xs) + 1
    go Less h = omega arith
    go Equal h = omega arith
    go Greater h = omega (arith, h)

pub same_name : (w v : List ℕ) → bytes_eq w v ≡ true → w ≡ v
same_name w v h = (bytes_decides w v).0 h

tied : (w v : List ℕ) → slice_cmp nat_cmp w v ≡ Equal → w ≡ v
tied w v h = same_name w v (texts_ties w v ∙ ap is_eq h)

swapped : (a b c : Bool) → (a || (b || c)) ≡ (b || (a || c))
swapped true true c = refl
swapped true false c = refl
swapped false b c = refl

twice : (a b : Bool) → (a || b) ≡ (a || (a || b))
twice true b = refl
twice false b = refl

-- the names are those that there were, and the new one
inserted_names : (w v : List ℕ) (ks : List (List ℕ)) → is_global v (insert_key (slice_cmp nat_cmp) ks w) ≡ (bytes_eq v w || is_global v ks)
inserted_names w v [] = refl
inserted_names w v (x ∷ xs) = go (slice_cmp nat_cmp w x) refl (inserted_names w v xs)
  where
    go : (r : Ordering) → slice_cmp nat_cmp w x ≡ r → is_global v (insert_key (slice_cmp nat_cmp) xs w) ≡ (bytes_eq v w || is_global v xs) → is_global v (match_ordering r (w ∷ x ∷ xs) (x ∷ xs) (x ∷ insert_key (slice_cmp nat_cmp) xs w)) ≡ (bytes_eq v w || is_global v (x ∷ xs))
    go Less e h = refl
    go Equal e h = twice (bytes_eq v x) (is_global v xs) ∙ ap (λ y. bytes_eq v y || (bytes_eq v x || is_global v xs)) (sym (tied w x e))
    go Greater e h = ap (λ b. bytes_eq v x || b) h ∙ swapped (bytes_eq v x) (bytes_eq v w) (is_global v xs)

-- ---- the names behind a statement

-- names of which there are few, and which symbols may have
pub record AreNames (names : List (List ℕ)) : Type 0 where
  pub rising : RisingNames names
  pub few : length names ≤ most_globals
  pub named : All (λ w. is_symbol_name w ≡ true) names

-- names with one more, which may have been there
record Added (w : List ℕ) (old new : List (List ℕ)) : Type 0 where
  names : AreNames new
  same : (v : List ℕ) → is_global v new ≡ (bytes_eq v w || is_global v old)

there : (v w : List ℕ) (names : List (List ℕ)) → is_global w names ≡ true → is_global v names ≡ (bytes_eq v w || is_global v names)
there v w names h = go (bytes_eq v w) (λ e. ap (λ (x : List ℕ). is_global x names) (same_name v w e) ∙ h)
  where
    go : (b : Bool) → (b ≡ true → is_global v names ≡ true) → is_global v names ≡ (b || is_global v names)
    go true f = f refl
    go false f = refl

with_global-adds : (w : List ℕ) (old new : List (List ℕ)) → is_symbol_name w ≡ true → AreNames old → with_global w old ≡ Ok new → Added w old new
with_global-adds w old new named a h = go (is_global w old) refl (nat_lt (length old) most_globals) refl h
  where
    go : (b : Bool) → is_global w old ≡ b → (c : Bool) → nat_lt (length old) most_globals ≡ c → (if b then ok old else (if c then ok (insert_key (slice_cmp nat_cmp) old w) else Err kinds.Limit)) ≡ Ok new → Added w old new
    go true e c f h = subst (Added w old) (ok_is old new h) (record { names = a; same = λ v. there v w old e })
    go false e true f h = subst (Added w old) (ok_is (insert_key (slice_cmp nat_cmp) old w) new h) (record {
      names = record {
        rising = inserted_rise nat_list_cmp_total w old a.rising;
        few = omega (arith, inserted_length (slice_cmp nat_cmp) w old, ltb-true (length old) most_globals f);
        named = All-insert_key (slice_cmp nat_cmp) w (λ v. is_symbol_name v ≡ true) old a.named named;
      };
      same = λ v. inserted_names w v old;
    })
    go false e false f h = absurd cc

-- ---- what the first pass keeps of it

pub record HasGlobals (s : Layout) : Type 0 where
  pub names : AreNames s.globals
  pub same : (w : List ℕ) → is_global w s.globals ≡ is_global w (globals_in s.items)

any_pushed : (v w : List ℕ) (names : List (List ℕ)) → is_global v (names ++ w ∷ []) ≡ (bytes_eq v w || is_global v names)
any_pushed v w [] = refl
any_pushed v w (x ∷ xs) = ap (λ b. bytes_eq v x || b) (any_pushed v w xs) ∙ swapped (bytes_eq v x) (bytes_eq v w) (is_global v xs)

-- a statement that is no `.globl` gives no name
pushed_none : (items : List Item) (i : Item) → global_of i.statement ≡ None → globals_in (items ++ i ∷ []) ≡ globals_in items
pushed_none items i h = filter_map-append (λ (j : Item). global_of j.statement) items (i ∷ []) ∙ rw h (append-nil (globals_in items))

pushed_some : (items : List Item) (i : Item) (w : List ℕ) → global_of i.statement ≡ Some w → globals_in (items ++ i ∷ []) ≡ globals_in items ++ w ∷ []
pushed_some items i w h = filter_map-append (λ (j : Item). global_of j.statement) items (i ∷ []) ∙ rw h refl

named_of : (stated : Statement) (w : List ℕ) → IsStated stated → global_of stated ≡ Some w → is_symbol_name w ≡ true
named_of (Directed (directive.Global v)) w is h = subst (λ (x : List ℕ). is_symbol_name x ≡ true) (some_is v w h) is
  where
    some_is : (v w : List ℕ) → let l : Option (List ℕ) = Some v in let r : Option (List ℕ) = Some w in l ≡ r → v ≡ w
    some_is v w h = cc
named_of stated w is h = absurd cc

stated_globals : (n : ℕ) (s : Layout) (stated : Statement) (names : List (List ℕ)) → IsStated stated → globals_behind stated s.globals ≡ Ok names → HasGlobals s
    → AreNames names × ((w : List ℕ) → is_global w names ≡ is_global w (globals_in (s.items ++ item_at n (next_place s) stated ∷ [])))
stated_globals n s stated names is h p = go (global_of stated) refl h
  where
    go : (o : Option (List ℕ)) → global_of stated ≡ o → if_some o (ok s.globals) (λ w. with_global w s.globals) ≡ Ok names
        → AreNames names × ((w : List ℕ) → is_global w names ≡ is_global w (globals_in (s.items ++ item_at n (next_place s) stated ∷ [])))
    go None e h = subst (λ (ns : List (List ℕ)). AreNames ns × ((w : List ℕ) → is_global w ns ≡ is_global w (globals_in (s.items ++ item_at n (next_place s) stated ∷ [])))) (ok_is s.globals names h)
        (p.names, λ w. p.same w ∙ ap (is_global w) (sym (pushed_none s.items (item_at n (next_place s) stated) e)))
    go (Some v) e h =
        let a = with_global-adds v s.globals names (named_of stated v is e) p.names h in
        (a.names, λ w. a.same w ∙ ap (λ b. bytes_eq w v || b) (p.same w) ∙ sym (any_pushed w v (globals_in s.items)) ∙ ap (is_global w) (sym (pushed_some s.items (item_at n (next_place s) stated) v e)))

pub globals_kept : IsKept HasGlobals
globals_kept = record {
  label = λ n s w p. record { names = p.names; same = λ v. p.same v ∙ ap (is_global v) (sym (pushed_none s.items (item_at n (next_place s) (Label w)) refl)) };
  statement = λ n s stated f names room is may behind named p. let g = stated_globals n s stated names is named p in record { names = g.0; same = g.1 };
}

pub nothing_named : AreNames []
unfolding IsStrictlySortedBy
nothing_named = record { rising = tt; few = omega arith; named = All-nil (λ w. is_symbol_name w ≡ true) }
