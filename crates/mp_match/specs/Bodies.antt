-- The bytes that a message had.
use Rattle.std.specs.Prelude.{ℕ, List, Option, Some, None}

abbrev pub bytes_in : Option (Option (List ℕ)) → Option (List ℕ)
bytes_in None = None
bytes_in (Some body) = body
