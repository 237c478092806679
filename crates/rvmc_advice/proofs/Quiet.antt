-- What is left alone.
use Rattle.std.proofs.Common.{◌≡◌, ◌∙◌, ℕ, List, [], ◌++◌, Option, Some, None, ap, append-nil, false, refl, sym}
use Rattle.std.specs.Io.KnownBytes.{Appends, Keeps}
use Rattle.rvmc_hints.specs.HintLines.{AppendsHint, IsHint}
use Rattle.rvmc_answers.specs.Below.{Fault, Memory, fault_status}
use Rattle.rvmc_advice.specs.Quiet.{is_quiet}

-- each fault has a line
pub fault_is_loud : (fault : Fault) → is_quiet (fault_status fault) ≡ false
fault_is_loud Memory = refl
fault_is_loud other = refl

pub kept : (known : Option (List ℕ)) → Keeps known known
kept None = tt
kept (Some bytes) = refl

-- nothing is the beginning of a hint
no_hint : IsHint []
no_hint = record { text = []; one_line = refl; begins = refl }

-- what stays as it was gets none
pub unhinted : (old new : Option (List ℕ)) → Keeps old new → AppendsHint old new
unhinted None new keeps = ([], no_hint, tt)
unhinted (Some xs) None keeps = absurd keeps
unhinted (Some xs) (Some ys) keeps = ([], no_hint, keeps ∙ sym (append-nil xs))

-- a hint behind what stayed as it was
pub hinted_behind : (old mid new : Option (List ℕ)) → Keeps old mid → AppendsHint mid new → AppendsHint old new
hinted_behind old mid new keeps (bytes, is, appends) = (bytes, is, behind old mid new keeps appends)
  where
    behind : (a b c : Option (List ℕ)) → Keeps a b → Appends b c bytes → Appends a c bytes
    behind None b c keeps appends = tt
    behind (Some x) None c keeps appends = absurd keeps
    behind (Some x) (Some y) None keeps appends = absurd appends
    behind (Some x) (Some y) (Some z) keeps appends = appends ∙ ap (λ l. l ++ bytes) keeps
