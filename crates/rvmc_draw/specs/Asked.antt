-- The numbers of posts that gave a message.
use Rattle.std.specs.Prelude.{ℕ, List, [], ◌∷◌, Option, Some, None}
use Rattle.mp_types.specs.declared.messages.Message.{Message}

-- the post's number, if it gave one
abbrev pub got_if : ℕ → Option Message → List ℕ
got_if number None = []
got_if number (Some m) = number ∷ []

-- of the post at a place, where there is one
abbrev pub got_at : Option ℕ → Option (Option Message) → List ℕ
got_at (Some number) (Some got) = got_if number got
got_at number got = []
