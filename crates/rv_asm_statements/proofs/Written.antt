-- The operands of tokens are those that are written.
use Rattle.std.proofs.Common.{◌≡◌, List, [], ◌∷◌, ◌++◌, Option, Some, None, refl, sym, ap, ◌∙◌, ℤ, ℕ}
use Rattle.rv_asm_tokens.specs.Fault.{if_some}
use Rattle.rv_asm_tokens.specs.Lexeme.{Lexeme, name, number, text, comma, opens, closes, plus}
use Rattle.rv_asm_statements.specs.Arguments.{Argument, word, value, quoted, sum, place, arguments_of}
use Rattle.rv_asm_statements.specs.Pieces.{Front, ended, at_name, at_value, at_place, first_operand, pieces_of}
use Rattle.rv_asm_statements.specs.Written.{written, behind_commas, listed, OperandsAreWritten}
use Rattle.rv_asm_statements.proofs.Pieces.{come_to, pieces_first}

-- what follows an operand
abbrev after : Option (List Lexeme) → List Lexeme
after None = []
after (Some rest) = comma ∷ rest

front_is : (x y : Argument) (o p : Option (List Lexeme)) → (let l : Front = Some (x, o) in let r : Front = Some (y, p) in l ≡ r) → (x ≡ y) × (o ≡ p)
front_is x y o p h =
    let e : (x, o) ≡ (y, p) = some_is (x, o) (y, p) h in
    (ap (λ (q : Argument × Option (List Lexeme)). q.0) e, ap (λ (q : Argument × Option (List Lexeme)). q.1) e)
  where
    some_is : (a b : Argument × Option (List Lexeme)) → (let l : Front = Some a in let r : Front = Some b in l ≡ r) → a ≡ b
    some_is a b h = cc

one_written : (x y : Argument) (o p : Option (List Lexeme)) → (let l : Front = Some (x, o) in let r : Front = Some (y, p) in l ≡ r) → written x ++ after o ≡ written y ++ after p
one_written x y o p h =
    let e = front_is x y o p h in
    rw (e.0, e.1) refl

ended_written : (x y : Argument) (ts : List Lexeme) (o : Option (List Lexeme)) → ended x ts ≡ Some (y, o) → written x ++ ts ≡ written y ++ after o
ended_written x y [] o h = one_written x y None o h
ended_written x y (comma ∷ ts) o h = one_written x y (Some ts) o h
ended_written x y ts o h = absurd cc

name_written : (w : List ℕ) (ts : List Lexeme) (y : Argument) (o : Option (List Lexeme)) → at_name w ts ≡ Some (y, o) → name w ∷ ts ≡ written y ++ after o
name_written w [] y o h = one_written (word w) y None o h
name_written w (comma ∷ ts) y o h = one_written (word w) y (Some ts) o h
name_written w (plus ∷ number z ∷ ts) y o h = ended_written (sum w z) y ts o h
name_written w ts y o h = absurd cc

place_written : (z : ℤ) (ts : List Lexeme) (y : Argument) (o : Option (List Lexeme)) → at_place z ts ≡ Some (y, o) → number z ∷ opens ∷ ts ≡ written y ++ after o
place_written z (name w ∷ closes ∷ ts) y o h = ended_written (place z w) y ts o h
place_written z ts y o h = absurd cc

value_written : (z : ℤ) (ts : List Lexeme) (y : Argument) (o : Option (List Lexeme)) → at_value z ts ≡ Some (y, o) → number z ∷ ts ≡ written y ++ after o
value_written z [] y o h = one_written (value z) y None o h
value_written z (comma ∷ ts) y o h = one_written (value z) y (Some ts) o h
value_written z (opens ∷ ts) y o h = place_written z ts y o h
value_written z ts y o h = absurd cc

first_written : (ts : List Lexeme) (y : Argument) (o : Option (List Lexeme)) → first_operand ts ≡ Some (y, o) → ts ≡ written y ++ after o
first_written (name w ∷ ts) y o h = name_written w ts y o h
first_written (number z ∷ ts) y o h = value_written z ts y o h
first_written (text raw ∷ ts) y o h = ended_written (quoted raw) y ts o h
first_written ts y o h = absurd cc

-- ---- read

abbrev these : Type 0
these = Option (List Argument)

list_is : (xs ys : List Argument) → (let l : these = Some xs in let r : these = Some ys in l ≡ r) → xs ≡ ys
list_is xs ys h = cc

-- an operand and those behind it, if they are some
one_and : (y : Argument) (o : these) (xs : List Argument) → if_some o None (λ ys. Some (y ∷ ys)) ≡ Some xs → (ys : List Argument) × (o ≡ Some ys) × (y ∷ ys ≡ xs)
one_and y None xs h = absurd cc
one_and y (Some ys) xs h = (ys, refl, list_is (y ∷ ys) xs h)

some_come : (o : Front) → come_to o ≡ Some [] → ⊥
some_come None h = absurd cc
some_come (Some (y, None)) h = absurd cc
some_come (Some (y, Some rest)) h =
    let a = one_and y (pieces_of rest) [] h in
    absurd cc

some_pieces : (ts : List Lexeme) → pieces_of ts ≡ Some [] → ⊥
some_pieces ts h = some_come (first_operand ts) (sym (pieces_first ts) ∙ h)

listed_behind : (xs : List Argument) (rest : List Lexeme) → pieces_of rest ≡ Some xs → comma ∷ listed xs ≡ behind_commas xs
listed_behind [] rest h = absurd (some_pieces rest h)
listed_behind (x ∷ xs) rest h = refl

come_written : (x : Argument) (xs : List Argument) → ((rest : List Lexeme) → pieces_of rest ≡ Some xs → rest ≡ listed xs) → (ts : List Lexeme) (o : Front) → first_operand ts ≡ o → come_to o ≡ Some (x ∷ xs) → ts ≡ listed (x ∷ xs)
come_written x xs others ts None e h = absurd cc
come_written x xs others ts (Some (y, None)) e h = first_written ts y None e ∙ ap listed (list_is (y ∷ []) (x ∷ xs) h)
come_written x xs others ts (Some (y, Some rest)) e h =
    let a = one_and y (pieces_of rest) (x ∷ xs) h in
    let head : y ≡ x = first_is y x a.0 xs a.2 in
    let tail : a.0 ≡ xs = rest_is y x a.0 xs a.2 in
    let all : pieces_of rest ≡ Some xs = a.1 ∙ ap Some tail in
    first_written ts y (Some rest) e ∙ ap (λ (k : Argument). written k ++ comma ∷ rest) head
    ∙ ap (λ (k : List Lexeme). written x ++ comma ∷ k) (others rest all)
    ∙ ap (λ (k : List Lexeme). written x ++ k) (listed_behind xs rest all)
  where
    first_is : (a b : Argument) (ks ls : List Argument) → a ∷ ks ≡ b ∷ ls → a ≡ b
    first_is a b ks ls h = cc

    rest_is : (a b : Argument) (ks ls : List Argument) → a ∷ ks ≡ b ∷ ls → ks ≡ ls
    rest_is a b ks ls h = cc

pieces_written : (xs : List Argument) (ts : List Lexeme) → pieces_of ts ≡ Some xs → ts ≡ listed xs
pieces_written [] ts h = absurd (some_pieces ts h)
pieces_written (x ∷ xs) ts h = come_written x xs (pieces_written xs) ts (first_operand ts) refl (sym (pieces_first ts) ∙ h)

-- ---- written

written_first : (x : Argument) (o : Option (List Lexeme)) → first_operand (written x ++ after o) ≡ Some (x, o)
written_first (word w) None = refl
written_first (word w) (Some rest) = refl
written_first (value z) None = refl
written_first (value z) (Some rest) = refl
written_first (quoted raw) None = refl
written_first (quoted raw) (Some rest) = refl
written_first (sum w z) None = refl
written_first (sum w z) (Some rest) = refl
written_first (place z w) None = refl
written_first (place z w) (Some rest) = refl

written_pieces : (x : Argument) (xs : List Argument) → pieces_of (listed (x ∷ xs)) ≡ Some (x ∷ xs)
written_pieces x [] = pieces_first (listed (x ∷ [])) ∙ ap come_to (written_first x None)
written_pieces x (y ∷ ys) =
    pieces_first (listed (x ∷ y ∷ ys)) ∙ ap come_to (written_first x (Some (listed (y ∷ ys))))
    ∙ ap (λ (o : these). if_some o None (λ zs. Some (x ∷ zs))) (written_pieces y ys)

written_arguments : (x : Argument) (rest : List Lexeme) → arguments_of (written x ++ rest) ≡ pieces_of (written x ++ rest)
written_arguments (word w) rest = refl
written_arguments (value z) rest = refl
written_arguments (quoted raw) rest = refl
written_arguments (sum w z) rest = refl
written_arguments (place z w) rest = refl

listed_arguments : (xs : List Argument) → arguments_of (listed xs) ≡ Some xs
listed_arguments [] = refl
listed_arguments (x ∷ xs) = written_arguments x (behind_commas xs) ∙ written_pieces x xs

arguments_written : (ts : List Lexeme) (xs : List Argument) → arguments_of ts ≡ Some xs → ts ≡ listed xs
arguments_written [] xs h = ap listed (list_is [] xs h)
arguments_written (t ∷ ts) xs h = pieces_written xs (t ∷ ts) h

pub operands_are_written : OperandsAreWritten
operands_are_written ts xs = (λ h. arguments_written ts xs h, λ e. rw e (listed_arguments xs))
