-- The operand that tokens begin with.
use Rattle.std.specs.Prelude.{ℕ, ℤ, List, [], ◌∷◌, Option, Some, None, if◌then◌else◌}
use Rattle.std.specs.List.{slice_split}
use Rattle.rv_asm_tokens.specs.Lexeme.{Lexeme, name, number, text, comma, opens, closes, plus}
use Rattle.rv_asm_statements.specs.declared.operand_list.Piece.{Piece}
use Rattle.rv_asm_statements.specs.Arguments.{Argument, word, value, quoted, sum, place, argument_of, is_comma}
use Rattle.rv_asm_statements.specs.CodeViews.{argument_view}
use Rattle.rv_asm_statements.specs.Walk.{all_given}

-- what stands between commas, if each is an operand
abbrev pub pieces_of : List Lexeme → Option (List Argument)
pieces_of ts = all_given argument_of (slice_split is_comma ts)

-- the operands of tokens that have them
abbrev pub those : Option (List Argument) → List Argument
those None = []
those (Some xs) = xs

-- an operand, and what follows its comma, if one stands behind it
abbrev pub Front : Type 0
Front = Option (Argument × Option (List Lexeme))

-- behind an operand nothing stands, or a comma
abbrev pub ended : Argument → List Lexeme → Front
ended x [] = Some (x, None)
ended x (comma ∷ ts) = Some (x, Some ts)
ended x _ = None

-- behind a name: `name`, or `name+number`
abbrev pub at_name : List ℕ → List Lexeme → Front
at_name w [] = Some (word w, None)
at_name w (comma ∷ ts) = Some (word w, Some ts)
at_name w (plus ∷ number z ∷ ts) = ended (sum w z) ts
at_name w _ = None

-- behind a number and `(`
abbrev pub at_place : ℤ → List Lexeme → Front
at_place z (name w ∷ closes ∷ ts) = ended (place z w) ts
at_place z _ = None

-- behind a number: `number`, or `number(name)`
abbrev pub at_value : ℤ → List Lexeme → Front
at_value z [] = Some (value z, None)
at_value z (comma ∷ ts) = Some (value z, Some ts)
at_value z (opens ∷ ts) = at_place z ts
at_value z _ = None

abbrev pub first_operand : List Lexeme → Front
first_operand (name w ∷ ts) = at_name w ts
first_operand (number z ∷ ts) = at_value z ts
first_operand (text raw ∷ ts) = ended (quoted raw) ts
first_operand _ = None

-- what the code found, before the tokens that are left
abbrev pub piece_view : Option Piece → List Lexeme → Front
piece_view None left = None
piece_view (Some p) left = Some (argument_view p.operand, if p.more then Some left else None)
