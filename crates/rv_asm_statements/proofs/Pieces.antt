-- What stands between commas, operand by operand.
use Rattle.std.proofs.Common.{◌≡◌, ◌==◌, cond, ℕ, ℤ, ◌<◌, Bool, true, false, List, [], ◌∷◌, ◌++◌, length, Option, Some, None, is_some, refl, sym, ap, ◌∙◌, append_assoc, arith}
use Rattle.std.proofs.lemmas.Bool.{ne_eqb}
use Rattle.std.proofs.lemmas.List.Splits.{length-slice_split}
use Rattle.std.specs.List.{onto_first, slice_split}
use Rattle.rv_asm_tokens.specs.Fault.{if_some}
use Rattle.rv_asm_tokens.specs.Lexeme.{Lexeme, name, number, text, comma, colon, opens, closes, plus}
use Rattle.rv_asm_statements.specs.declared.operand_list.Piece.{Piece}
use Rattle.rv_asm_statements.specs.Arguments.{Argument, quoted, sum, place, argument_of, arguments_of, is_comma}
use Rattle.rv_asm_statements.specs.CodeViews.{argument_view}
use Rattle.rv_asm_statements.specs.Pieces.{Front, ended, at_name, at_value, at_place, first_operand, piece_view, pieces_of, those}
use Rattle.rv_asm_statements.specs.Walk.{all_given}

-- what a first piece gives, and those behind it
abbrev Reads : Type 0
Reads = List Lexeme → Option Argument

abbrev heads : Reads → List (List Lexeme) → Option (List Argument)
heads f [] = None
heads f (y ∷ ys) = if_some (f y) None (λ a. if_some (all_given argument_of ys) None (λ others. Some (a ∷ others)))

abbrev from : Reads → List Lexeme → Option (List Argument)
from f ts = heads f (slice_split is_comma ts)

-- what an operand and those behind its comma come to
abbrev pub come_to : Front → Option (List Argument)
come_to None = None
come_to (Some (x, None)) = Some (x ∷ [])
come_to (Some (x, Some rest)) = if_some (pieces_of rest) None (λ xs. Some (x ∷ xs))

onto : (f : Reads) (t : Lexeme) (ps : List (List Lexeme)) → 0 < length ps → heads f (onto_first t ps) ≡ heads (λ p. f (t ∷ p)) ps
onto f t [] h = absurd (omega arith)
onto f t (y ∷ ys) h = refl

-- one token of the first piece
step : (f : Reads) (t : Lexeme) (ts : List Lexeme) → is_comma t ≡ false → from f (t ∷ ts) ≡ from (λ p. f (t ∷ p)) ts
step f t ts h =
    let some : 0 < length (slice_split is_comma ts) = omega (arith, length-slice_split is_comma ts) in
    rw h (onto f t (slice_split is_comma ts) some)

-- nothing is an operand that begins so
dead_in : (f : Reads) (ps : List (List Lexeme)) → ((p : List Lexeme) → f p ≡ None) → heads f ps ≡ None
dead_in f [] h = refl
dead_in f (y ∷ ys) h = rw (h y) refl

dead : (f : Reads) (ts : List Lexeme) → ((p : List Lexeme) → f p ≡ None) → from f ts ≡ None
dead f ts h = dead_in f (slice_split is_comma ts) h

-- no operand goes on from here
abbrev Stops : Reads → Argument → Type 0
Stops f x = (f [] ≡ Some x) × ((t : Lexeme) (p : List Lexeme) → f (t ∷ p) ≡ None)

stops : (f : Reads) (x : Argument) (ts : List Lexeme) → Stops f x → from f ts ≡ come_to (ended x ts)
stops f x [] h = rw h.0 refl
stops f x (comma ∷ ts) h = rw h.0 refl
stops f x (name w1 ∷ ts) h = step f (name w1) ts refl ∙ dead (λ p. f (name w1 ∷ p)) ts (h.1 (name w1))
stops f x (number z1 ∷ ts) h = step f (number z1) ts refl ∙ dead (λ p. f (number z1 ∷ p)) ts (h.1 (number z1))
stops f x (text r1 ∷ ts) h = step f (text r1) ts refl ∙ dead (λ p. f (text r1 ∷ p)) ts (h.1 (text r1))
stops f x (colon ∷ ts) h = step f colon ts refl ∙ dead (λ p. f (colon ∷ p)) ts (h.1 colon)
stops f x (opens ∷ ts) h = step f opens ts refl ∙ dead (λ p. f (opens ∷ p)) ts (h.1 opens)
stops f x (closes ∷ ts) h = step f closes ts refl ∙ dead (λ p. f (closes ∷ p)) ts (h.1 closes)
stops f x (plus ∷ ts) h = step f plus ts refl ∙ dead (λ p. f (plus ∷ p)) ts (h.1 plus)

abbrev named : List ℕ → Reads
named w p = argument_of (name w ∷ p)

abbrev summed : List ℕ → Reads
summed w p = argument_of (name w ∷ plus ∷ p)

no_name_name : (w : List ℕ) (w1 : List ℕ) (p : List Lexeme) → argument_of (name w ∷ name w1 ∷ p) ≡ None
no_name_name w w1 [] = refl
no_name_name w w1 (t ∷ p) = refl

no_name_number : (w : List ℕ) (z1 : ℤ) (p : List Lexeme) → argument_of (name w ∷ number z1 ∷ p) ≡ None
no_name_number w z1 [] = refl
no_name_number w z1 (t ∷ p) = refl

no_name_text : (w : List ℕ) (r1 : List ℕ) (p : List Lexeme) → argument_of (name w ∷ text r1 ∷ p) ≡ None
no_name_text w r1 [] = refl
no_name_text w r1 (t ∷ p) = refl

no_name_colon : (w : List ℕ) (p : List Lexeme) → argument_of (name w ∷ colon ∷ p) ≡ None
no_name_colon w [] = refl
no_name_colon w (t ∷ p) = refl

no_name_opens : (w : List ℕ) (p : List Lexeme) → argument_of (name w ∷ opens ∷ p) ≡ None
no_name_opens w [] = refl
no_name_opens w (t ∷ p) = refl

no_name_closes : (w : List ℕ) (p : List Lexeme) → argument_of (name w ∷ closes ∷ p) ≡ None
no_name_closes w [] = refl
no_name_closes w (t ∷ p) = refl

no_value_name : (z : ℤ) (w1 : List ℕ) (p : List Lexeme) → argument_of (number z ∷ name w1 ∷ p) ≡ None
no_value_name z w1 [] = refl
no_value_name z w1 (t ∷ p) = refl

no_value_number : (z : ℤ) (z1 : ℤ) (p : List Lexeme) → argument_of (number z ∷ number z1 ∷ p) ≡ None
no_value_number z z1 [] = refl
no_value_number z z1 (t ∷ p) = refl

no_value_text : (z : ℤ) (r1 : List ℕ) (p : List Lexeme) → argument_of (number z ∷ text r1 ∷ p) ≡ None
no_value_text z r1 [] = refl
no_value_text z r1 (t ∷ p) = refl

no_value_colon : (z : ℤ) (p : List Lexeme) → argument_of (number z ∷ colon ∷ p) ≡ None
no_value_colon z [] = refl
no_value_colon z (t ∷ p) = refl

no_value_closes : (z : ℤ) (p : List Lexeme) → argument_of (number z ∷ closes ∷ p) ≡ None
no_value_closes z [] = refl
no_value_closes z (t ∷ p) = refl

no_value_plus : (z : ℤ) (p : List Lexeme) → argument_of (number z ∷ plus ∷ p) ≡ None
no_value_plus z [] = refl
no_value_plus z (t ∷ p) = refl

no_sum_name : (w : List ℕ) (w2 : List ℕ) (p : List Lexeme) → argument_of (name w ∷ plus ∷ name w2 ∷ p) ≡ None
no_sum_name w w2 [] = refl
no_sum_name w w2 (t ∷ p) = refl

no_sum_text : (w : List ℕ) (r2 : List ℕ) (p : List Lexeme) → argument_of (name w ∷ plus ∷ text r2 ∷ p) ≡ None
no_sum_text w r2 [] = refl
no_sum_text w r2 (t ∷ p) = refl

no_sum_colon : (w : List ℕ) (p : List Lexeme) → argument_of (name w ∷ plus ∷ colon ∷ p) ≡ None
no_sum_colon w [] = refl
no_sum_colon w (t ∷ p) = refl

no_sum_opens : (w : List ℕ) (p : List Lexeme) → argument_of (name w ∷ plus ∷ opens ∷ p) ≡ None
no_sum_opens w [] = refl
no_sum_opens w (t ∷ p) = refl

no_sum_closes : (w : List ℕ) (p : List Lexeme) → argument_of (name w ∷ plus ∷ closes ∷ p) ≡ None
no_sum_closes w [] = refl
no_sum_closes w (t ∷ p) = refl

no_sum_plus : (w : List ℕ) (p : List Lexeme) → argument_of (name w ∷ plus ∷ plus ∷ p) ≡ None
no_sum_plus w [] = refl
no_sum_plus w (t ∷ p) = refl

no_place_number : (z : ℤ) (z2 : ℤ) (p : List Lexeme) → argument_of (number z ∷ opens ∷ number z2 ∷ p) ≡ None
no_place_number z z2 [] = refl
no_place_number z z2 (t ∷ p) = refl

no_place_text : (z : ℤ) (r2 : List ℕ) (p : List Lexeme) → argument_of (number z ∷ opens ∷ text r2 ∷ p) ≡ None
no_place_text z r2 [] = refl
no_place_text z r2 (t ∷ p) = refl

no_place_colon : (z : ℤ) (p : List Lexeme) → argument_of (number z ∷ opens ∷ colon ∷ p) ≡ None
no_place_colon z [] = refl
no_place_colon z (t ∷ p) = refl

no_place_opens : (z : ℤ) (p : List Lexeme) → argument_of (number z ∷ opens ∷ opens ∷ p) ≡ None
no_place_opens z [] = refl
no_place_opens z (t ∷ p) = refl

no_place_closes : (z : ℤ) (p : List Lexeme) → argument_of (number z ∷ opens ∷ closes ∷ p) ≡ None
no_place_closes z [] = refl
no_place_closes z (t ∷ p) = refl

no_place_plus : (z : ℤ) (p : List Lexeme) → argument_of (number z ∷ opens ∷ plus ∷ p) ≡ None
no_place_plus z [] = refl
no_place_plus z (t ∷ p) = refl

no_close_name : (z : ℤ) (w : List ℕ) (w3 : List ℕ) (p : List Lexeme) → argument_of (number z ∷ opens ∷ name w ∷ name w3 ∷ p) ≡ None
no_close_name z w w3 [] = refl
no_close_name z w w3 (t ∷ p) = refl

no_close_number : (z : ℤ) (w : List ℕ) (z3 : ℤ) (p : List Lexeme) → argument_of (number z ∷ opens ∷ name w ∷ number z3 ∷ p) ≡ None
no_close_number z w z3 [] = refl
no_close_number z w z3 (t ∷ p) = refl

no_close_text : (z : ℤ) (w : List ℕ) (r3 : List ℕ) (p : List Lexeme) → argument_of (number z ∷ opens ∷ name w ∷ text r3 ∷ p) ≡ None
no_close_text z w r3 [] = refl
no_close_text z w r3 (t ∷ p) = refl

no_close_colon : (z : ℤ) (w : List ℕ) (p : List Lexeme) → argument_of (number z ∷ opens ∷ name w ∷ colon ∷ p) ≡ None
no_close_colon z w [] = refl
no_close_colon z w (t ∷ p) = refl

no_close_opens : (z : ℤ) (w : List ℕ) (p : List Lexeme) → argument_of (number z ∷ opens ∷ name w ∷ opens ∷ p) ≡ None
no_close_opens z w [] = refl
no_close_opens z w (t ∷ p) = refl

no_close_plus : (z : ℤ) (w : List ℕ) (p : List Lexeme) → argument_of (number z ∷ opens ∷ name w ∷ plus ∷ p) ≡ None
no_close_plus z w [] = refl
no_close_plus z w (t ∷ p) = refl

sum_stops : (w : List ℕ) (z : ℤ) → Stops (λ p. argument_of (name w ∷ plus ∷ number z ∷ p)) (sum w z)
sum_stops w z = (refl, λ t p. refl)

place_stops : (z : ℤ) (w : List ℕ) → Stops (λ p. argument_of (number z ∷ opens ∷ name w ∷ closes ∷ p)) (place z w)
place_stops z w = (refl, λ t p. refl)

text_stops : (raw : List ℕ) → Stops (λ p. argument_of (text raw ∷ p)) (quoted raw)
text_stops raw = (refl, λ t p. refl)

in_sum : (w : List ℕ) (ts : List Lexeme) → from (λ p. argument_of (name w ∷ plus ∷ p)) ts ≡ come_to (at_name w (plus ∷ ts))
in_sum w [] = refl
in_sum w (comma ∷ ts) = refl
in_sum w (number z ∷ ts) = step (λ p. argument_of (name w ∷ plus ∷ p)) (number z) ts refl ∙ stops (λ p. argument_of (name w ∷ plus ∷ number z ∷ p)) (sum w z) ts (sum_stops w z)
in_sum w (name w2 ∷ ts) = step (λ p. argument_of (name w ∷ plus ∷ p)) (name w2) ts refl ∙ dead (λ p. argument_of (name w ∷ plus ∷ name w2 ∷ p)) ts (no_sum_name w w2)
in_sum w (text r2 ∷ ts) = step (λ p. argument_of (name w ∷ plus ∷ p)) (text r2) ts refl ∙ dead (λ p. argument_of (name w ∷ plus ∷ text r2 ∷ p)) ts (no_sum_text w r2)
in_sum w (colon ∷ ts) = step (λ p. argument_of (name w ∷ plus ∷ p)) colon ts refl ∙ dead (λ p. argument_of (name w ∷ plus ∷ colon ∷ p)) ts (no_sum_colon w)
in_sum w (opens ∷ ts) = step (λ p. argument_of (name w ∷ plus ∷ p)) opens ts refl ∙ dead (λ p. argument_of (name w ∷ plus ∷ opens ∷ p)) ts (no_sum_opens w)
in_sum w (closes ∷ ts) = step (λ p. argument_of (name w ∷ plus ∷ p)) closes ts refl ∙ dead (λ p. argument_of (name w ∷ plus ∷ closes ∷ p)) ts (no_sum_closes w)
in_sum w (plus ∷ ts) = step (λ p. argument_of (name w ∷ plus ∷ p)) plus ts refl ∙ dead (λ p. argument_of (name w ∷ plus ∷ plus ∷ p)) ts (no_sum_plus w)

in_name : (w : List ℕ) (ts : List Lexeme) → from (λ p. argument_of (name w ∷ p)) ts ≡ come_to (at_name w ts)
in_name w [] = refl
in_name w (comma ∷ ts) = refl
in_name w (plus ∷ ts) = step (λ p. argument_of (name w ∷ p)) plus ts refl ∙ in_sum w ts
in_name w (name w1 ∷ ts) = step (λ p. argument_of (name w ∷ p)) (name w1) ts refl ∙ dead (λ p. argument_of (name w ∷ name w1 ∷ p)) ts (no_name_name w w1)
in_name w (number z1 ∷ ts) = step (λ p. argument_of (name w ∷ p)) (number z1) ts refl ∙ dead (λ p. argument_of (name w ∷ number z1 ∷ p)) ts (no_name_number w z1)
in_name w (text r1 ∷ ts) = step (λ p. argument_of (name w ∷ p)) (text r1) ts refl ∙ dead (λ p. argument_of (name w ∷ text r1 ∷ p)) ts (no_name_text w r1)
in_name w (colon ∷ ts) = step (λ p. argument_of (name w ∷ p)) colon ts refl ∙ dead (λ p. argument_of (name w ∷ colon ∷ p)) ts (no_name_colon w)
in_name w (opens ∷ ts) = step (λ p. argument_of (name w ∷ p)) opens ts refl ∙ dead (λ p. argument_of (name w ∷ opens ∷ p)) ts (no_name_opens w)
in_name w (closes ∷ ts) = step (λ p. argument_of (name w ∷ p)) closes ts refl ∙ dead (λ p. argument_of (name w ∷ closes ∷ p)) ts (no_name_closes w)

in_close : (z : ℤ) (w : List ℕ) (ts : List Lexeme) → from (λ p. argument_of (number z ∷ opens ∷ name w ∷ p)) ts ≡ come_to (at_place z (name w ∷ ts))
in_close z w [] = refl
in_close z w (comma ∷ ts) = refl
in_close z w (closes ∷ ts) = step (λ p. argument_of (number z ∷ opens ∷ name w ∷ p)) closes ts refl ∙ stops (λ p. argument_of (number z ∷ opens ∷ name w ∷ closes ∷ p)) (place z w) ts (place_stops z w)
in_close z w (name w3 ∷ ts) = step (λ p. argument_of (number z ∷ opens ∷ name w ∷ p)) (name w3) ts refl ∙ dead (λ p. argument_of (number z ∷ opens ∷ name w ∷ name w3 ∷ p)) ts (no_close_name z w w3)
in_close z w (number z3 ∷ ts) = step (λ p. argument_of (number z ∷ opens ∷ name w ∷ p)) (number z3) ts refl ∙ dead (λ p. argument_of (number z ∷ opens ∷ name w ∷ number z3 ∷ p)) ts (no_close_number z w z3)
in_close z w (text r3 ∷ ts) = step (λ p. argument_of (number z ∷ opens ∷ name w ∷ p)) (text r3) ts refl ∙ dead (λ p. argument_of (number z ∷ opens ∷ name w ∷ text r3 ∷ p)) ts (no_close_text z w r3)
in_close z w (colon ∷ ts) = step (λ p. argument_of (number z ∷ opens ∷ name w ∷ p)) colon ts refl ∙ dead (λ p. argument_of (number z ∷ opens ∷ name w ∷ colon ∷ p)) ts (no_close_colon z w)
in_close z w (opens ∷ ts) = step (λ p. argument_of (number z ∷ opens ∷ name w ∷ p)) opens ts refl ∙ dead (λ p. argument_of (number z ∷ opens ∷ name w ∷ opens ∷ p)) ts (no_close_opens z w)
in_close z w (plus ∷ ts) = step (λ p. argument_of (number z ∷ opens ∷ name w ∷ p)) plus ts refl ∙ dead (λ p. argument_of (number z ∷ opens ∷ name w ∷ plus ∷ p)) ts (no_close_plus z w)

in_place : (z : ℤ) (ts : List Lexeme) → from (λ p. argument_of (number z ∷ opens ∷ p)) ts ≡ come_to (at_place z ts)
in_place z [] = refl
in_place z (comma ∷ ts) = refl
in_place z (name w ∷ ts) = step (λ p. argument_of (number z ∷ opens ∷ p)) (name w) ts refl ∙ in_close z w ts
in_place z (number z2 ∷ ts) = step (λ p. argument_of (number z ∷ opens ∷ p)) (number z2) ts refl ∙ dead (λ p. argument_of (number z ∷ opens ∷ number z2 ∷ p)) ts (no_place_number z z2)
in_place z (text r2 ∷ ts) = step (λ p. argument_of (number z ∷ opens ∷ p)) (text r2) ts refl ∙ dead (λ p. argument_of (number z ∷ opens ∷ text r2 ∷ p)) ts (no_place_text z r2)
in_place z (colon ∷ ts) = step (λ p. argument_of (number z ∷ opens ∷ p)) colon ts refl ∙ dead (λ p. argument_of (number z ∷ opens ∷ colon ∷ p)) ts (no_place_colon z)
in_place z (opens ∷ ts) = step (λ p. argument_of (number z ∷ opens ∷ p)) opens ts refl ∙ dead (λ p. argument_of (number z ∷ opens ∷ opens ∷ p)) ts (no_place_opens z)
in_place z (closes ∷ ts) = step (λ p. argument_of (number z ∷ opens ∷ p)) closes ts refl ∙ dead (λ p. argument_of (number z ∷ opens ∷ closes ∷ p)) ts (no_place_closes z)
in_place z (plus ∷ ts) = step (λ p. argument_of (number z ∷ opens ∷ p)) plus ts refl ∙ dead (λ p. argument_of (number z ∷ opens ∷ plus ∷ p)) ts (no_place_plus z)

in_value : (z : ℤ) (ts : List Lexeme) → from (λ p. argument_of (number z ∷ p)) ts ≡ come_to (at_value z ts)
in_value z [] = refl
in_value z (comma ∷ ts) = refl
in_value z (opens ∷ ts) = step (λ p. argument_of (number z ∷ p)) opens ts refl ∙ in_place z ts
in_value z (name w1 ∷ ts) = step (λ p. argument_of (number z ∷ p)) (name w1) ts refl ∙ dead (λ p. argument_of (number z ∷ name w1 ∷ p)) ts (no_value_name z w1)
in_value z (number z1 ∷ ts) = step (λ p. argument_of (number z ∷ p)) (number z1) ts refl ∙ dead (λ p. argument_of (number z ∷ number z1 ∷ p)) ts (no_value_number z z1)
in_value z (text r1 ∷ ts) = step (λ p. argument_of (number z ∷ p)) (text r1) ts refl ∙ dead (λ p. argument_of (number z ∷ text r1 ∷ p)) ts (no_value_text z r1)
in_value z (colon ∷ ts) = step (λ p. argument_of (number z ∷ p)) colon ts refl ∙ dead (λ p. argument_of (number z ∷ colon ∷ p)) ts (no_value_colon z)
in_value z (closes ∷ ts) = step (λ p. argument_of (number z ∷ p)) closes ts refl ∙ dead (λ p. argument_of (number z ∷ closes ∷ p)) ts (no_value_closes z)
in_value z (plus ∷ ts) = step (λ p. argument_of (number z ∷ p)) plus ts refl ∙ dead (λ p. argument_of (number z ∷ plus ∷ p)) ts (no_value_plus z)

no_colon : (p : List Lexeme) → argument_of (colon ∷ p) ≡ None
no_colon [] = refl
no_colon (t ∷ p) = refl

no_opens : (p : List Lexeme) → argument_of (opens ∷ p) ≡ None
no_opens [] = refl
no_opens (t ∷ p) = refl

no_closes : (p : List Lexeme) → argument_of (closes ∷ p) ≡ None
no_closes [] = refl
no_closes (t ∷ p) = refl

no_plus : (p : List Lexeme) → argument_of (plus ∷ p) ≡ None
no_plus [] = refl
no_plus (t ∷ p) = refl

all_from : (ps : List (List Lexeme)) → 0 < length ps → all_given argument_of ps ≡ heads argument_of ps
all_from [] h = absurd (omega arith)
all_from (y ∷ ys) h = refl

in_all : (ts : List Lexeme) → from argument_of ts ≡ come_to (first_operand ts)
in_all [] = refl
in_all (comma ∷ ts) = refl
in_all (name w ∷ ts) = step argument_of (name w) ts refl ∙ in_name w ts
in_all (number z ∷ ts) = step argument_of (number z) ts refl ∙ in_value z ts
in_all (text raw ∷ ts) = step argument_of (text raw) ts refl ∙ stops (λ p. argument_of (text raw ∷ p)) (quoted raw) ts (text_stops raw)
in_all (colon ∷ ts) = step argument_of colon ts refl ∙ dead (λ p. argument_of (colon ∷ p)) ts no_colon
in_all (opens ∷ ts) = step argument_of opens ts refl ∙ dead (λ p. argument_of (opens ∷ p)) ts no_opens
in_all (closes ∷ ts) = step argument_of closes ts refl ∙ dead (λ p. argument_of (closes ∷ p)) ts no_closes
in_all (plus ∷ ts) = step argument_of plus ts refl ∙ dead (λ p. argument_of (plus ∷ p)) ts no_plus

-- what stands between commas is an operand, and what stands behind its comma
pub pieces_first : (ts : List Lexeme) → pieces_of ts ≡ come_to (first_operand ts)
pieces_first ts =
    let some : 0 < length (slice_split is_comma ts) = omega (arith, length-slice_split is_comma ts) in
    all_from (slice_split is_comma ts) some ∙ in_all ts

-- no tokens are no operands, and others are what stands between their commas
pub no_token : (ts : List Lexeme) → (length ts == 0) ≡ true → arguments_of ts ≡ Some []
no_token [] h = refl
no_token (t ∷ ts) h =
    let e : (length (t ∷ ts) == 0) ≡ false = ne_eqb (length (t ∷ ts)) 0 (λ z. omega arith) in
    absurd cc

pub some_token : (ts : List Lexeme) → (length ts == 0) ≡ false → arguments_of ts ≡ pieces_of ts
some_token [] h = absurd cc
some_token (t ∷ ts) h = refl

pub those_some : (o : Option (List Argument)) → is_some o ≡ true → o ≡ Some (those o)
those_some None h = absurd cc
those_some (Some xs) h = refl

-- ---- one operand after the other

behind_comma : (left : List Lexeme) (x : Argument) (whole : Option (List Argument)) → whole ≡ if_some (pieces_of left) None (λ xs. Some (x ∷ xs)) → is_some whole ≡ true → (those whole ≡ x ∷ those (arguments_of left)) × (is_some (arguments_of left) ≡ true)
behind_comma [] x whole e h =
    let none : whole ≡ None = e in
    let no : false ≡ true = rw none at h in
    absurd cc
behind_comma (t ∷ left) x whole e h = go (pieces_of (t ∷ left)) refl e
  where
    go : (o : Option (List Argument)) → pieces_of (t ∷ left) ≡ o → whole ≡ if_some o None (λ xs. Some (x ∷ xs)) → (those whole ≡ x ∷ those (pieces_of (t ∷ left))) × (is_some (pieces_of (t ∷ left)) ≡ true)
    go None f g =
        let no : false ≡ true = rw g at h in
        absurd cc
    go (Some xs) f g = (rw (g, f) refl, rw f refl)

pub next_none : (ts left : List Lexeme) → is_some (arguments_of ts) ≡ true → piece_view None left ≡ first_operand ts → those (arguments_of ts) ≡ []
next_none [] left h front = refl
next_none (t ∷ ts) left h front =
    let none : pieces_of (t ∷ ts) ≡ None = pieces_first (t ∷ ts) ∙ ap come_to (sym front) in
    let no : false ≡ true = rw none at h in
    absurd cc

pub next_some : (ts left : List Lexeme) (p : Piece) → is_some (arguments_of ts) ≡ true → piece_view (Some p) left ≡ first_operand ts → (p.more ≡ false → left ≡ []) → (those (arguments_of ts) ≡ argument_view p.operand ∷ those (arguments_of left)) × (is_some (arguments_of left) ≡ true)
next_some [] left p h front last =
    let no : true ≡ false = ap is_some front in
    absurd cc
next_some (t ∷ ts) left p h front last = go p.more refl (pieces_first (t ∷ ts) ∙ ap come_to (sym front))
  where
    go : (more : Bool) → p.more ≡ more → pieces_of (t ∷ ts) ≡ come_to (Some (argument_view p.operand, cond p.more (Some left) None)) → (those (pieces_of (t ∷ ts)) ≡ argument_view p.operand ∷ those (arguments_of left)) × (is_some (arguments_of left) ≡ true)
    go true e come = behind_comma left (argument_view p.operand) (pieces_of (t ∷ ts)) (rw e at come) h
    go false e come =
        let only : pieces_of (t ∷ ts) ≡ Some (argument_view p.operand ∷ []) = rw e at come in
        let end : left ≡ [] = last e in
        (rw (only, end) refl, rw end refl)

-- ---- operands that were taken, before those of what is left

abbrev pub behind : List Argument → Option (List Argument) → Option (List Argument)
behind done o = if_some o None (λ xs. Some (done ++ xs))

pub behind_none : (o : Option (List Argument)) → o ≡ behind [] o
behind_none None = refl
behind_none (Some xs) = refl

pub none_left : (ts left : List Lexeme) (done : List Argument) (whole : Option (List Argument)) → piece_view None left ≡ first_operand ts → whole ≡ behind done (pieces_of ts) → whole ≡ None
none_left ts left done whole front all =
    let none : pieces_of ts ≡ None = pieces_first ts ∙ ap come_to (sym front) in
    rw (all, none) refl

pub last_left : (ts left : List Lexeme) (p : Piece) (done : List Argument) (whole : Option (List Argument)) → piece_view (Some p) left ≡ first_operand ts → p.more ≡ false → whole ≡ behind done (pieces_of ts) → whole ≡ Some (done ++ argument_view p.operand ∷ [])
last_left ts left p done whole front e all = rw (all, pieces_first ts, ← front, e) refl

pub more_left : (ts left : List Lexeme) (p : Piece) (done : List Argument) (whole : Option (List Argument)) → piece_view (Some p) left ≡ first_operand ts → p.more ≡ true → whole ≡ behind done (pieces_of ts) → whole ≡ behind (done ++ argument_view p.operand ∷ []) (pieces_of left)
more_left ts left p done whole front e all = rw (all, pieces_first ts, ← front, e) (go (pieces_of left))
  where
    go : (o : Option (List Argument)) → behind done (if_some o None (λ xs. Some (argument_view p.operand ∷ xs))) ≡ behind (done ++ argument_view p.operand ∷ []) o
    go None = refl
    go (Some xs) = ap Some (sym (append_assoc done (argument_view p.operand ∷ []) xs))
