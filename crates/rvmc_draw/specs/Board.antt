-- The posts that steps made, each with the step that made it, and the arrows between the two steps of a message. Which
-- post has which partner is the hub's rule: `pairs` of the posts (MPI 4.1, chapter 3.5).
use Rattle.std.specs.Prelude.{ℕ, zero, suc, ◌==◌, ◌&&◌, Bool, false, List, [], ◌∷◌, ◌++◌, length}
use Rattle.std.specs.Prelude.{Option, Some, None, option_to_list, cond, if◌then◌else◌, not}
use Rattle.std.specs.List.{flat_map, list_any, position_from, range_with_len, slice_get}
use Rattle.mp_match.specs.Pairs.{add, fits, partner_at, partner_for}
use Rattle.mp_match.specs.declared.posts.Line.{Line}
use Rattle.mp_match.specs.declared.posts.Post.{Post}
use Rattle.mp_match.specs.declared.posts.Post.TheVariants.{Send, Receive, Claim}
use Rattle.mp_match.specs.declared.posts.Selection.{Selection}
use Rattle.mp_match.specs.declared.posts.Sent.{Sent}
use Rattle.rvmc_draw.specs.Views.{is_in_view}
use Rattle.rvmc_draw.specs.declared.board.Manner.{Manner}
use Rattle.rvmc_draw.specs.declared.board.Manner.TheVariants as manner
use Rattle.rvmc_draw.specs.declared.deeds.Deed.{Deed}
use Rattle.rvmc_draw.specs.declared.drawing.Arrow.{Arrow}
use Rattle.rvmc_draw.specs.declared.drawing.Carried.{Carried}
use Rattle.rvmc_draw.specs.declared.drawing.Carried.TheVariants.{Message, Could, Claim as Claimed}
use Rattle.rvmc_draw.specs.declared.drawing.Spot.{Spot}
use Rattle.rvmc_draw.specs.declared.views.View.{View}

-- ---- posts and their steps

-- the posts that the steps made, in order
abbrev pub posts_made : List Deed → List Post
posts_made deeds = flat_map (λ (d : Deed). option_to_list d.made) deeds

-- the step of the post that a step made, if it made one
abbrev pub spot_if : Option Post → Spot → List Spot
spot_if None spot = []
spot_if (Some post) spot = spot ∷ []

-- the steps that made them
abbrev pub spots_made : List Deed → List Spot
spots_made deeds = flat_map (λ (d : Deed). spot_if d.made d.spot) deeds

-- the lines with a post more, if there is one
abbrev pub lines_with : List Line → Option Post → List Line
lines_with lines None = lines
lines_with lines (Some new) = add lines new

-- ---- an arrow from the step of a send

-- its tag and its bytes
abbrev pub carried_by : Manner → Sent → Carried
carried_by manner.Got s = Message s.envelope.tag s.envelope.count
carried_by manner.Claimed s = Claimed s.envelope.tag s.envelope.count
carried_by manner.Could s = Could s.envelope.tag s.envelope.count

-- from the step of a send; there is none from that of a receive or a claim
abbrev pub arrow_in : Manner → Option Spot → Post → Spot → Option Arrow
arrow_in m to (Send s) from = Some (record { from = from; to = to; dest = s.dest; carried = carried_by m s })
arrow_in m to (Receive a) from = None
arrow_in m to (Claim a) from = None

abbrev pub arrow_of : Manner → Option Spot → Option Line → Option Spot → Option Arrow
arrow_of m to (Some line) (Some from) = arrow_in m to line.post from
arrow_of m to _ _ = None

-- from the step of the send at the place
abbrev pub arrow_at : List Line → List Spot → Manner → Option Spot → ℕ → Option Arrow
arrow_at lines spots m to place = arrow_of m to (slice_get lines place) (slice_get spots place)

-- the place of the partner of the post of this number, which is its place and 1
abbrev pub partner_numbered : List Line → ℕ → Option ℕ
partner_numbered lines zero = None
partner_numbered lines (suc place) = partner_at lines place

abbrev pub arrow_if : List Line → List Spot → Manner → Option Spot → Option ℕ → Option Arrow
arrow_if lines spots m to None = None
arrow_if lines spots m to (Some place) = arrow_at lines spots m to place

-- to this step, from the step of the send that is the partner of the post of this number
abbrev pub arrow_to : List Line → List Spot → Manner → Spot → ℕ → Option Arrow
arrow_to lines spots m to number = arrow_if lines spots m (Some to) (partner_numbered lines number)

-- ---- what a step got, and what it claimed

-- the arrow of a message that it got
unfoldable pub message : List Line → List Spot → Spot → ℕ → List Arrow
message lines spots to number = option_to_list (arrow_to lines spots manner.Got to number)

-- one for each
abbrev pub messages : List Line → List Spot → Spot → List ℕ → List Arrow
messages lines spots to numbers = flat_map (message lines spots to) numbers

-- one for a message that it claimed: the claim is the last post
abbrev pub claim_arrows : List Line → List Spot → Spot → Option Post → List Arrow
claim_arrows lines spots to (Some (Claim a)) = option_to_list (arrow_to lines spots manner.Claimed to (length lines))
claim_arrows lines spots to _ = []

-- ---- what a wildcard receive could have taken

-- what a receive or a claim of any source selects
abbrev pub wildcard_of : Selection → Option Selection
wildcard_of a = elim a.source [ None ↦ Some a | Some rank ↦ None ]

abbrev pub wildcard_in : Option Post → Option Selection
wildcard_in (Some (Receive a)) = wildcard_of a
wildcard_in (Some (Claim a)) = wildcard_of a
wildcard_in _ = None

abbrev pub is_sent_by : ℕ → Post → Bool
is_sent_by source (Send s) = s.envelope.source == source
is_sent_by source _ = false

-- a send of the source, without a partner, that is accepted
abbrev pub is_open_to : Selection → ℕ → Line → Bool
is_open_to a source line = fits (Receive a) line && is_sent_by source line.post

-- the place of the first of them
abbrev pub first_of : List Line → Selection → ℕ → Option ℕ
first_of lines a source = position_from (is_open_to a source) 0 lines

-- none where that is the one which is taken
abbrev pub unless_taken : Option ℕ → Option ℕ → Option ℕ
unless_taken taken None = None
unless_taken None (Some place) = Some place
unless_taken (Some other) (Some place) = cond (other == place) None (Some place)

abbrev pub other_first : List Line → Selection → ℕ → Option ℕ
other_first lines a source = unless_taken (partner_for lines (Receive a)) (first_of lines a source)

-- the line from it
unfoldable pub could_from : List Line → List Spot → Spot → Selection → ℕ → List Arrow
could_from lines spots to a source =
    option_to_list (arrow_if lines spots manner.Could (Some to) (other_first lines a source))

-- of each source in order
abbrev pub could_of_all : ℕ → List Line → List Spot → Spot → Selection → List Arrow
could_of_all ranks lines spots to a = flat_map (could_from lines spots to a) (range_with_len 0 ranks)

abbrev pub could : ℕ → List Line → List Spot → Spot → Option Selection → List Arrow
could ranks lines spots to None = []
could ranks lines spots to (Some a) = could_of_all ranks lines spots to a

-- ---- what nobody got

-- the places of the partners of these posts
abbrev pub partners_of : List Line → List ℕ → List ℕ
partners_of lines numbers = flat_map (λ number. option_to_list (partner_numbered lines number)) numbers

abbrev pub is_got_in : List ℕ → ℕ → Bool
is_got_in got place = list_any (λ other. other == place) got

abbrev pub lost_by : View → List Line → List Spot → List ℕ → ℕ → Option Spot → List Arrow
lost_by view lines spots got place None = []
lost_by view lines spots got place (Some spot) =
    if is_in_view view spot && not (is_got_in got place)
    then option_to_list (arrow_at lines spots manner.Got None place) else []

abbrev pub lost_here : View → List Line → List Spot → List ℕ → ℕ → List Arrow
lost_here view lines spots got place = lost_by view lines spots got place (slice_get spots place)

-- the arrow from the send at the place, if its step is shown and its message isn't among those that were got
unfoldable pub lost_from : View → List Line → List Spot → List ℕ → ℕ → List Arrow
lost_from view lines spots got place = lost_here view lines spots got place

-- of all posts
abbrev pub lost : View → List Line → List Spot → List ℕ → List Arrow
lost view lines spots got = flat_map (lost_from view lines spots got) (range_with_len 0 (length lines))

-- ---- one step

-- the arrows to a step: where these are the posts before it and their steps
abbrev pub arrows_to : ℕ → List Line → List Spot → Deed → List Arrow
arrows_to ranks lines spots d =
    could ranks lines spots d.spot (wildcard_in d.made)
    ++ (claim_arrows (lines_with lines d.made) (spots ++ spot_if d.made d.spot) d.spot d.made
    ++ messages (lines_with lines d.made) (spots ++ spot_if d.made d.spot) d.spot d.got.items)
