-- Only the rows whose names begin as a name does have the name.
use Rattle.std.proofs.Common.{◌≡◌, ℕ, Bool, true, false, List, [], ◌∷◌, Option, Some, None, is_some, nat_eq, refl, ap}
use Rattle.std.specs.List.{filter}
use Rattle.std.specs.Str.{bytes_eq}
use Rattle.rv_asm_tokens.specs.Fault.{if_some}
use Rattle.rv_asm_statements.specs.Arguments.{Argument}
use Rattle.rv_asm_statements.specs.Mnemonics.{row_use, row_named, use_of, is_mnemonic}
use Rattle.rv_asm_statements.specs.Rows.{Row, rows}
use Rattle.rv_asm_statements.specs.Walk.{first_given}

-- what f gives among those of a kind is what it gives at all, where it gives nothing for the others
first_among : {A B : Type 0} (f : A → Option B) (p : A → Bool) (xs : List A) → ((x : A) → p x ≡ false → f x ≡ None) → first_given f (filter p xs) ≡ first_given f xs
first_among f p [] h = refl
first_among f p (x ∷ xs) h = go (p x) refl (first_among f p xs h)
  where
    go : (b : Bool) → p x ≡ b → first_given f (filter p xs) ≡ first_given f xs → first_given f (filter p (x ∷ xs)) ≡ first_given f (x ∷ xs)
    go true e more = rw e (ap (λ o. if_some (f x) o Some) more)
    go false e more = rw (e, h x e) more

other_use : (w : List ℕ) (xs : List Argument) (r : Row) → bytes_eq r.name w ≡ false → row_use w xs r ≡ None
unfolding row_use
other_use w xs r h = rw h refl

other_named : (w : List ℕ) (r : Row) → bytes_eq r.name w ≡ false → row_named w r ≡ None
other_named w r h = rw h refl

-- ---- the first letter

abbrev first_is : ℕ → List ℕ → Bool
first_is a [] = false
first_is a (b ∷ v) = nat_eq b a

abbrev begins : ℕ → Row → Bool
begins a r = first_is a r.name

other_letter : (a : ℕ) (t v : List ℕ) → first_is a v ≡ false → bytes_eq v (a ∷ t) ≡ false
other_letter a t [] h = refl
other_letter a t (b ∷ v) h = rw h refl

-- a name of a letter has the rows that begin with it, and no others
pub uses_begun : (l a : ℕ) → l ≡ a → (t : List ℕ) (xs : List Argument) → first_given (row_use (l ∷ t) xs) (filter (begins a) rows) ≡ use_of (l ∷ t) xs
uses_begun l a same t xs = rw same (first_among (row_use (a ∷ t) xs) (begins a) rows (λ r h. other_use (a ∷ t) xs r (other_letter a t r.name h)))

pub named_begun : (l a : ℕ) → l ≡ a → (t : List ℕ) → is_some (first_given (row_named (l ∷ t)) (filter (begins a) rows)) ≡ is_mnemonic (l ∷ t)
named_begun l a same t = rw same (ap is_some (first_among (row_named (a ∷ t)) (begins a) rows (λ r h. other_named (a ∷ t) r (other_letter a t r.name h))))

-- no row has an empty name
pub uses_empty : (w : List ℕ) → w ≡ [] → (xs : List Argument) → first_given (row_use w xs) [] ≡ use_of w xs
unfolding row_use
uses_empty w none xs = rw none refl

pub named_empty : (w : List ℕ) → w ≡ [] → is_some (first_given (row_named w) []) ≡ is_mnemonic w
named_empty w none = rw none refl
