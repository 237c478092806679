-- How the code tells an instruction's text: a mnemonic, and operands of a few kinds.
use Rattle.std.specs.Prelude.{ℕ, List, [], ◌∷◌, ◌++◌, false, codes}
use Rattle.std.specs.Fmt.{signed_decimal, digits}
use Rattle.rv_decode.specs.declared.printing.Operands.{Operands}
use Rattle.rv_decode.specs.declared.printing.Operands.TheVariants.{Nothing, Upper, Target, Address, Number, Registers}
use Rattle.rv_decode.specs.declared.printing.Statement.{Statement}
use Rattle.rv_decode.specs.Text.{register_text, address_text, statement_text}

-- the text of each operand
abbrev pub operand_texts : Operands → List (List ℕ)
operand_texts Nothing = []
operand_texts (Upper d field) = register_text d ∷ (codes "0x" ++ digits 16 false field) ∷ []
operand_texts (Target d off) = register_text d ∷ signed_decimal off ∷ []
operand_texts (Address d off s) = register_text d ∷ address_text off s ∷ []
operand_texts (Number d s number) = register_text d ∷ register_text s ∷ signed_decimal number ∷ []
operand_texts (Registers d s t) = register_text d ∷ register_text s ∷ register_text t ∷ []

-- a mnemonic alone, or with its operands
abbrev pub with_operands : List ℕ → List (List ℕ) → List ℕ
with_operands name [] = name
with_operands name (x ∷ xs) = statement_text name (x ∷ xs)

abbrev pub written : Statement → List ℕ
written s = with_operands s.0.now (operand_texts s.1)
