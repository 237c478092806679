-- The laws of order, of any map over posts. A map gives the place of a post's partner, for the post at a place.
use Rattle.std.specs.Prelude.{ℕ, ◌<◌, ◌≡◌, ◌⊎◌, true, List, ◌++◌, Option, Some}
use Rattle.std.specs.List.{slice_get}
use Rattle.mp_match.specs.declared.posts.Sent.{Sent}
use Rattle.mp_match.specs.declared.posts.Selection.{Selection}
use Rattle.mp_match.specs.declared.posts.Post.{Post}
use Rattle.mp_match.specs.declared.posts.Post.TheVariants.{Send, Receive, Claim}
use Rattle.mp_match.specs.Pairs.{accepts, partner_at}
use Rattle.mp_match.specs.PostPairs.{pairs}

abbrev pub SendsAt : List Post → ℕ → Sent → Type 0
SendsAt ps i s = slice_get ps i ≡ Some (Send s)

abbrev pub ReceivesAt : List Post → ℕ → Selection → Type 0
ReceivesAt ps i a = slice_get ps i ≡ Some (Receive a)

abbrev pub TakesAt : List Post → ℕ → Selection → Type 0
TakesAt ps i a = (slice_get ps i ≡ Some (Receive a)) ⊎ (slice_get ps i ≡ Some (Claim a))

-- a receive or a claim is paired with a send that it accepts, and that send's partner is the receive or the claim
abbrev pub IsPairing : List Post → (ℕ → Option ℕ) → Type 0
IsPairing ps partner = (i j : ℕ) → partner i ≡ Some j → (partner j ≡ Some i)
    × ((a : Selection) × (s : Sent) × (accepts a s ≡ true)
    × ((TakesAt ps i a × SendsAt ps j s) ⊎ (SendsAt ps i s × TakesAt ps j a)))

-- of two sends by one rank to one rank, both accepted by the receive that has the second, the first has a receive too
abbrev pub NoSendOvertakes : List Post → (ℕ → Option ℕ) → Type 0
NoSendOvertakes ps partner = (i j k : ℕ) (s t : Sent) (a : Selection) → i < j → SendsAt ps i s → SendsAt ps j t
    → TakesAt ps k a
    → s.envelope.source ≡ t.envelope.source → s.dest ≡ t.dest → accepts a s ≡ true → accepts a t ≡ true
    → partner k ≡ Some j → (r : ℕ) × (partner i ≡ Some r)

-- of two receives that accept the send which the second has, the first has a send too
abbrev pub NoReceiveOvertakes : List Post → (ℕ → Option ℕ) → Type 0
NoReceiveOvertakes ps partner = (i j k : ℕ) (a b : Selection) (s : Sent) → i < j → ReceivesAt ps i a → TakesAt ps j b
    → SendsAt ps k s
    → accepts a s ≡ true → accepts b s ≡ true
    → partner j ≡ Some k → (r : ℕ) × (partner i ≡ Some r)

-- the pairs of any list of posts, and so of each prefix of one, keep the laws; a pair stays
pub record OrderLaws : Type 0 where
  pub pairing : (ps : List Post) → IsPairing ps (partner_at (pairs ps))
  pub sends : (ps : List Post) → NoSendOvertakes ps (partner_at (pairs ps))
  pub receives : (ps : List Post) → NoReceiveOvertakes ps (partner_at (pairs ps))
  pub stays : (ps qs : List Post) (i j : ℕ) → partner_at (pairs ps) i ≡ Some j
      → partner_at (pairs (ps ++ qs)) i ≡ Some j
