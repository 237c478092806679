-- What waiting receives ask for, compared.
use Rattle.std.proofs.Common.{◌≡◌, ℕ, Option, Some, None, refl, nat_eq}
use Rattle.std.specs.Option.{option_eq}
use Rattle.mp_match.specs.Waiting.{same_option}

pub same_option_is : (a b : Option ℕ) → option_eq nat_eq a b ≡ same_option a b
same_option_is None None = refl
same_option_is None (Some y) = refl
same_option_is (Some x) None = refl
same_option_is (Some x) (Some y) = refl
