-- Communicators that have members.
use Rattle.std.proofs.Common.{arith, ◌<◌, List, ℕ, [], ◌∷◌, length, get_or, IsTrue, is_some}
use Rattle.std.proofs.lemmas.Bool.{false≢true}
use Rattle.std.proofs.lemmas.List.{get_or_past}
use Rattle.std.proofs.Common.{◌≡◌, ◌≤◌}
use Rattle.cl_calls.specs.Site.{position_of}

pub has_members : (r : ℕ) (xs : List ℕ) → IsTrue (is_some (position_of r xs)) → 0 < length xs
has_members r [] h = absurd (false≢true h)
has_members r (x ∷ xs) h = omega arith

pub is_list : (xs : List (List ℕ)) (i n : ℕ) → 0 < length (get_or xs i []) → n ≡ length xs → n ≤ 8 → i < 8
is_list xs i n h e b = grind (arith, get_or_past)
