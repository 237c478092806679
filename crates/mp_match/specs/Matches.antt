-- Which posts are paired and which stand alone, of any map over posts, in MPI's words (MPI 4.1, chapter 3.2.4).
use Rattle.std.specs.Prelude.{ℕ, ◌<◌, ◌≡◌, ◌⊎◌, List, Option, Some, None}
use Rattle.std.specs.List.{slice_get}
use Rattle.mp_match.specs.declared.posts.Sent.{Sent}
use Rattle.mp_match.specs.declared.posts.Selection.{Selection}
use Rattle.mp_match.specs.declared.posts.Post.{Post}
use Rattle.mp_match.specs.declared.posts.Post.TheVariants.{Claim}
use Rattle.mp_match.specs.Pairs.{partner_at}
use Rattle.mp_match.specs.PostPairs.{pairs, posts_of}
use Rattle.mp_match.specs.Order.{SendsAt, ReceivesAt, TakesAt}

-- any value is asked for, or just this one
abbrev pub IsAskedFor : Option ℕ → ℕ → Type 0
IsAskedFor asked x = (asked ≡ None) ⊎ (asked ≡ Some x)

-- the message goes to the rank that asks, in the communicator, from the source and with the tag that are asked for
pub record Matches (a : Selection) (s : Sent) : Type 0 where
  pub rank : s.dest ≡ a.rank
  pub comm : s.envelope.comm ≡ a.comm
  pub source : IsAskedFor a.source s.envelope.source
  pub tag : IsAskedFor a.tag s.envelope.tag

-- whatever is paired is a send, and a receive or a claim that it matches
abbrev pub PairsMatch : List Post → (ℕ → Option ℕ) → Type 0
PairsMatch ps partner = (i j : ℕ) → partner i ≡ Some j
    → (a : Selection) × (s : Sent) × Matches a s
    × ((TakesAt ps i a × SendsAt ps j s) ⊎ (SendsAt ps i s × TakesAt ps j a))

-- no receive without a partner matches a send without one
abbrev pub NothingIdles : List Post → (ℕ → Option ℕ) → Type 0
NothingIdles ps partner = (i j : ℕ) (a : Selection) (s : Sent) → ReceivesAt ps i a → SendsAt ps j s
    → partner i ≡ None → partner j ≡ None → ¬ Matches a s

-- a claim takes a message that is there already, and no later one
abbrev pub ClaimsTakeWhatIsThere : List Post → (ℕ → Option ℕ) → Type 0
ClaimsTakeWhatIsThere ps partner = (i j : ℕ) (a : Selection) → slice_get ps i ≡ Some (Claim a) → partner i ≡ Some j
    → j < i

-- the pairs of any list of posts; and they are of just these posts, each in its place
pub record PairingLaws : Type 0 where
  pub posts : (ps : List Post) → posts_of (pairs ps) ≡ ps
  pub fit : (ps : List Post) → PairsMatch ps (partner_at (pairs ps))
  pub idle : (ps : List Post) → NothingIdles ps (partner_at (pairs ps))
  pub claims : (ps : List Post) → ClaimsTakeWhatIsThere ps (partner_at (pairs ps))
