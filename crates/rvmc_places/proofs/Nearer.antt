-- One symbol more in a search for the nearest of a kind.
use Rattle.std.proofs.Common.{ℕ, ◌≡◌, ◌∙◌, ◌&&◌, Bool, true, false, cond, List, ◌∷◌, ap, refl}
use Rattle.std.specs.Prelude.{Option, Some}
use Rattle.std.specs.List.{filter}
use Rattle.rv_image_types.specs.declared.images.Symbol.{Symbol}
use Rattle.rvmc_places.specs.declared.near.Kind.{Kind}
use Rattle.rvmc_places.specs.Places.{is_nearer, is_kind, nearest_from}

-- what was found is left where a symbol isn't nearer, or is of the other kind
pub kept : (wanted : Kind) (at : ℕ) (found : Option Symbol) (symbol : Symbol) (rest : List Symbol)
    → (is_nearer at found symbol && is_kind wanted symbol) ≡ false
    → nearest_from at found (filter (is_kind wanted) (symbol ∷ rest)) ≡ nearest_from at found (filter (is_kind wanted) rest)
kept wanted at found symbol rest other = go (is_kind wanted symbol) refl (is_nearer at found symbol) refl
  where
    chosen : (b : Bool) → is_kind wanted symbol ≡ b
        → nearest_from at found (filter (is_kind wanted) (symbol ∷ rest))
        ≡ nearest_from at found (cond b (symbol ∷ filter (is_kind wanted) rest) (filter (is_kind wanted) rest))
    chosen b is = ap (λ b. nearest_from at found (cond b (symbol ∷ filter (is_kind wanted) rest) (filter (is_kind wanted) rest))) is

    go : (b : Bool) → is_kind wanted symbol ≡ b → (n : Bool) → is_nearer at found symbol ≡ n
        → nearest_from at found (filter (is_kind wanted) (symbol ∷ rest)) ≡ nearest_from at found (filter (is_kind wanted) rest)
    go false is n near = chosen false is
    go true is false near =
        chosen true is ∙ ap (λ n. nearest_from at (cond n (Some symbol) found) (filter (is_kind wanted) rest)) near
    go true is true near = absurd (cc)

-- and a symbol of the kind that is nearer takes its place
pub taken : (wanted : Kind) (at : ℕ) (found : Option Symbol) (symbol : Symbol) (rest : List Symbol)
    → (is_nearer at found symbol && is_kind wanted symbol) ≡ true
    → nearest_from at found (filter (is_kind wanted) (symbol ∷ rest))
    ≡ nearest_from at (Some symbol) (filter (is_kind wanted) rest)
taken wanted at found symbol rest this = go (is_kind wanted symbol) refl (is_nearer at found symbol) refl
  where
    chosen : (b : Bool) → is_kind wanted symbol ≡ b
        → nearest_from at found (filter (is_kind wanted) (symbol ∷ rest))
        ≡ nearest_from at found (cond b (symbol ∷ filter (is_kind wanted) rest) (filter (is_kind wanted) rest))
    chosen b is = ap (λ b. nearest_from at found (cond b (symbol ∷ filter (is_kind wanted) rest) (filter (is_kind wanted) rest))) is

    go : (b : Bool) → is_kind wanted symbol ≡ b → (n : Bool) → is_nearer at found symbol ≡ n
        → nearest_from at found (filter (is_kind wanted) (symbol ∷ rest))
        ≡ nearest_from at (Some symbol) (filter (is_kind wanted) rest)
    go true is true near =
        chosen true is ∙ ap (λ n. nearest_from at (cond n (Some symbol) found) (filter (is_kind wanted) rest)) near
    go true is false near = absurd (cc)
    go false is true near = absurd (cc)
    go false is false near = absurd (cc)
