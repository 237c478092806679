-- What is told of a source's fault, and of words that are refused.
use Rattle.std.proofs.Common.{◌≡◌, ℕ, List, Option, Some, None, Bor, sym}
use Rattle.std.specs.Prelude.{IfSome, option_map}
use Rattle.rvmc_hints.specs.Words.{form_of}
use Rattle.rvmc_advice.specs.Mistyped.{IsForm}

-- the form of a word that begins so
pub form_is : (head : List ℕ) (result : Option (Bor (List ℕ))) → option_map (λ form. form.now) result ≡ form_of head
    → IfSome result (λ form. IsForm form.now)
form_is head None e = tt
form_is head (Some form) e = (head, sym e)

-- a text that is known is that of what is told
pub told_text : {A B : Type 0} (f : A → B) (result : Option A) (meant : Option B) → option_map f result ≡ meant
    → IfSome result (λ told. meant ≡ Some (f told))
told_text f None meant e = tt
told_text f (Some told) meant e = sym e

-- what holds in each of two cases
pub in_both : {A : Type 0} (P Q : Type 0) (S T : A → Type 0) (result : Option A) → (P → IfSome result S)
    → (Q → IfSome result T) → IfSome result (λ told. (P → S told) × (Q → T told))
in_both P Q S T None first second = tt
in_both P Q S T (Some told) first second = (first, second)
