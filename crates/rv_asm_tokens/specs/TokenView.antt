-- Tokens as the code has them.
use Rattle.rv_asm_tokens.specs.declared.token.Token.{Token}
use Rattle.rv_asm_tokens.specs.declared.token.Token.TheVariants.{Name, Number, Text, Comma, Colon, Open, Close, Plus}
use Rattle.rv_asm_tokens.specs.Lexeme.{number_value, Lexeme, name, number, text, comma, colon, opens, closes, plus}

-- a token of the code
abbrev pub lexeme_of : Token → Lexeme
lexeme_of (Name w) = name w.now
lexeme_of (Number n) = number (number_value n)
lexeme_of (Text w) = text w.now
lexeme_of Comma = comma
lexeme_of Colon = colon
lexeme_of Open = opens
lexeme_of Close = closes
lexeme_of Plus = plus
