-- Which messages a receive, a probe or a claim accepts (MPI 4.1, chapter 3.2.4).
use Rattle.std.specs.Prelude.{ℕ, ◌≡◌, ◌≢◌, false, Some}
use Rattle.mp_match.specs.declared.posts.Sent.{Sent}
use Rattle.mp_match.specs.declared.posts.Selection.{Selection}
use Rattle.mp_match.specs.Pairs.{accepts}

-- no message to another rank, in another communicator, of another source than the one asked for, or with another tag
pub record RefusesOthers : Type 0 where
  pub rank : (a : Selection) (s : Sent) → s.dest ≢ a.rank → accepts a s ≡ false
  pub comm : (a : Selection) (s : Sent) → s.envelope.comm ≢ a.comm → accepts a s ≡ false
  pub source : (a : Selection) (s : Sent) (n : ℕ) → a.source ≡ Some n → s.envelope.source ≢ n → accepts a s ≡ false
  pub tag : (a : Selection) (s : Sent) (n : ℕ) → a.tag ≡ Some n → s.envelope.tag ≢ n → accepts a s ≡ false
