-- Texts in hexadecimal digits, two for each byte.
use Rattle.std.specs.Prelude.{ℕ, List, Option, Some, None, Result, Ok, Err}
use Rattle.hex.specs.Hex.{decode_of}
use Rattle.hex.specs.declared.error.FromHexError.{FromHexError}

abbrev pub decoded : Result (List ℕ) FromHexError → Option (List ℕ)
decoded (Ok bytes) = Some bytes
decoded (Err fault) = None

-- the bytes of so many pairs of digits, of either case
unfoldable pub text_in : List ℕ → Option (List ℕ)
text_in digits = decoded (decode_of digits)
