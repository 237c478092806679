-- What the code finds at a byte, as the definition has it.
use Rattle.std.specs.Prelude.{ℕ, ◌≤◌, Some, None}
use Rattle.rv_asm_tokens.specs.declared.scanning.Front.{Front as Found}
use Rattle.rv_asm_tokens.specs.declared.scanning.Front.TheVariants.{Comment, Blank, Piece}
use Rattle.rv_asm_tokens.specs.TokenView.{lexeme_of}
use Rattle.rv_asm_tokens.specs.Scan.{Front, piece}

abbrev pub front_view : Found → Front
front_view Comment = None
front_view Blank = Some (None, 0)
front_view (Piece t more) = piece (lexeme_of t) more

-- what belongs to a token lies in so many bytes
abbrev pub LiesIn : ℕ → Found → Type 0
LiesIn most Comment = Unit {0}
LiesIn most Blank = Unit {0}
LiesIn most (Piece t more) = more ≤ most
