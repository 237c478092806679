-- When a send is complete (MPI 4.1, chapters 3.4 and 3.8.3).
use Rattle.std.specs.Prelude.{ℕ, suc, ◌≡◌, ◌⊎◌, false, List, Option, Some}
use Rattle.std.specs.List.{slice_get, Contains}
use Rattle.rv_image_types.specs.declared.images.Link.{Link}
use Rattle.mp_types.specs.declared.messages.Message.{Message}
use Rattle.mp_types.specs.declared.requests.Request.TheVariants as request
use Rattle.mp_types.specs.declared.replies.Reply.TheVariants.{Done, NotYet, AllGot}
use Rattle.mp_match.specs.declared.posts.Sent.{Sent}
use Rattle.mp_match.specs.declared.posts.Selection.{Selection}
use Rattle.mp_match.specs.declared.posts.Post.TheVariants.{Claim}
use Rattle.mp_match.specs.Order.{SendsAt, ReceivesAt}
use Rattle.mp_hub.specs.Hub.{Call, reply_of}
use Rattle.mp_hub.specs.Histories.{posts_after, partner_after, got_after, received_after}
use Rattle.mp_hub.specs.Losses.{NoneTwice, CollectsOf}

-- it is paired with a receive, or with a claim that was received
abbrev pub IsReceived : List Link → List Call → ℕ → Type 0
IsReceived links calls place = (j : ℕ) × (a : Selection) × (partner_after links calls place ≡ Some j)
    × (ReceivesAt (posts_after links calls) j a
    ⊎ ((slice_get (posts_after links calls) j ≡ Some (Claim a)) × Contains (received_after links calls) (suc j)))

-- a standard send is complete at once, and a synchronous one once its message is received
abbrev pub IsComplete : List Link → List Call → ℕ → Sent → Type 0
IsComplete links calls place s = (s.sync ≡ false) ⊎ IsReceived links calls place

-- a rank is told of its own send that it is complete, exactly where it is
pub record FinishedLaw : Type 0 where
  pub done : (links : List Link) (calls : List Call) (place : ℕ) (s : Sent) → SendsAt (posts_after links calls) place s
      → IsComplete links calls place s
      → reply_of links calls s.envelope.source (request.Finished (suc place)) ≡ Done
  pub not_yet : (links : List Link) (calls : List Call) (place : ℕ) (s : Sent)
      → SendsAt (posts_after links calls) place s → ¬ IsComplete links calls place s
      → reply_of links calls s.envelope.source (request.Finished (suc place)) ≡ NotYet

-- the rank's receive, or its claim that was received, with a message that wasn't got; or its send that is complete
abbrev pub IsReadyFor : List Link → List Call → ℕ → ℕ → Type 0
IsReadyFor links calls rank place =
    (CollectsOf links calls rank place × ((j : ℕ) × (partner_after links calls place ≡ Some j))
    × (¬ Contains (got_after links calls) (suc place)))
    ⊎ ((s : Sent) × SendsAt (posts_after links calls) place s × (s.envelope.source ≡ rank)
    × IsComplete links calls place s)

-- posts of a rank that are all ready, none of them named twice, complete together (3.7.5)
abbrev pub TogetherLaw : Type 0
TogetherLaw = (links : List Link) (calls : List Call) (rank : ℕ) (numbers : List ℕ) → NoneTwice numbers
    → ((number : ℕ) → Contains numbers number → (place : ℕ) × (number ≡ suc place) × IsReadyFor links calls rank place)
    → (gots : List (Option Message)) × (reply_of links calls rank (request.All numbers) ≡ AllGot gots)
