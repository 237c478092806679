-- What an arrow says of the steps.
use Rattle.std.specs.Prelude.{ℕ, ◌≡◌, ◌≢◌, ◌<◌, ◌+◌, ◌-◌, ◌^◌, ◌⊎◌, ◌↔◌, Bool, true, false, List, [], ◌∷◌, ◌++◌, length, min}
use Rattle.std.specs.Prelude.{option_to_list, Option, Some, None}
use Rattle.std.specs.List.{list_any, slice_get}
use Rattle.mp_match.specs.Pairs.{partner_for}
use Rattle.mp_match.specs.PostPairs.{pairs}
use Rattle.mp_match.specs.declared.posts.Line.{Line}
use Rattle.mp_match.specs.declared.posts.Post.{Post}
use Rattle.mp_match.specs.declared.posts.Post.TheVariants.{Receive, Send}
use Rattle.mp_match.specs.declared.posts.Selection.{Selection}
use Rattle.mp_match.specs.declared.posts.Sent.{Sent}
use Rattle.rvmc_draw.specs.Among.{IsAmong}
use Rattle.rvmc_draw.specs.Board.{arrow_to, carried_by, is_got_in, is_open_to, lines_with, lost, other_first, partner_numbered}
use Rattle.rvmc_draw.specs.Board.{posts_made, spot_if, spots_made}
use Rattle.rvmc_draw.specs.Looks.{lane_of}
use Rattle.rvmc_draw.specs.Parts.{box_place, is_box_at, readies, untaken_of}
use Rattle.rvmc_draw.specs.Views.{is_in_view}
use Rattle.rvmc_draw.specs.Walks.{Scope, arrows_of, got_places}
use Rattle.rvmc_draw.specs.declared.board.Manner.{Manner}
use Rattle.rvmc_draw.specs.declared.deeds.Deed.{Deed}
use Rattle.rvmc_draw.specs.declared.drawing.Arrow.{Arrow}
use Rattle.rvmc_draw.specs.declared.drawing.Carried.{Carried}
use Rattle.rvmc_draw.specs.declared.drawing.Carried.TheVariants.{Message, Partition}
use Rattle.rvmc_draw.specs.declared.drawing.Spot.{Spot}
use Rattle.rvmc_draw.specs.declared.parts.Untaken.{Untaken}
use Rattle.rvmc_draw.specs.declared.views.View.{View}

-- these are the posts that the steps made, in their order and with their partners, and the steps that made them
pub record IsBoardOf (deeds : List Deed) (lines : List Line) (spots : List Spot) : Type 0 where
  pub lines_are : lines ≡ pairs (posts_made deeds)
  pub spots_are : spots ≡ spots_made deeds

-- and so they are behind a step more
abbrev pub BoardLaw : Type 0
BoardLaw = (deeds : List Deed) (d : Deed) (lines : List Line) (spots : List Spot) → IsBoardOf deeds lines spots
    → IsBoardOf (deeds ++ d ∷ []) (lines_with lines d.made) (spots ++ spot_if d.made d.spot)

-- among the steps is one that made this post, before which there were so many posts; it stands at this spot
pub record IsMadeAt (deeds : List Deed) (place : ℕ) (p : Post) (spot : Spot) : Type 0 where
  pub before : List Deed
  pub maker : Deed
  pub after : List Deed
  pub all : deeds ≡ before ++ maker ∷ after
  pub made : maker.made ≡ Some p
  pub posts_before : length (posts_made before) ≡ place
  pub spot_is : maker.spot ≡ spot

-- the arrow goes from the very step that made the send which is the partner of the post of this number, among all posts,
-- to this step; it goes to the send's destination, and tells the send's tag and bytes
pub record JoinsSend (deeds : List Deed) (m : Manner) (number : ℕ) (to : Spot) (a : Arrow) : Type 0 where
  pub place : ℕ
  pub s : Sent
  pub partner : partner_numbered (pairs (posts_made deeds)) number ≡ Some place
  pub made : IsMadeAt deeds place (Send s) a.from
  pub to_is : a.to ≡ Some to
  pub dest_is : a.dest ≡ s.dest
  pub carries : a.carried ≡ carried_by m s

-- whatever the arrow to a step joins, it joins so: by the post's number, and never by its envelope
abbrev pub ArrowLaw : Type 0
ArrowLaw = (deeds : List Deed) (lines : List Line) (spots : List Spot) (m : Manner) (to : Spot) (number : ℕ) (a : Arrow)
    → IsBoardOf deeds lines spots → arrow_to lines spots m to number ≡ Some a → JoinsSend deeds m number to a

-- a step behind these got the message of the send at this place: that is the partner of one of the posts that it got
abbrev pub gets_from : List Deed → ℕ → Deed → Bool
gets_from before place d =
    list_any (λ number. is_got_in (option_to_list (partner_numbered (pairs (posts_made (before ++ d ∷ []))) number)) place)
    d.got.items

-- some step among these did
pub record IsGotAmong (deeds : List Deed) (place : ℕ) : Type 0 where
  pub before : List Deed
  pub getter : Deed
  pub after : List Deed
  pub all : deeds ≡ before ++ getter ∷ after
  pub gets : gets_from before place getter ≡ true

-- a send is known to be got exactly where some step got its message; so one that ends in an open head was got by nobody
abbrev pub GotLaw : Type 0
GotLaw = (deeds : List Deed) (place : ℕ) → (is_got_in (got_places deeds) place ≡ true) ↔ IsGotAmong deeds place

-- of the posts before a receive, here stands the first message of a source that the receive accepts and that nobody had;
-- and the receive got another
pub record IsFirstOfOthers (lines : List Line) (a : Selection) (source place : ℕ) : Type 0 where
  pub line : Line
  pub there : slice_get lines place ≡ Some line
  pub is_open : is_open_to a source line ≡ true
  pub first : (k : ℕ) (earlier : Line) → k < place → slice_get lines k ≡ Some earlier
      → is_open_to a source earlier ≡ false
  pub not_got : partner_for lines (Receive a) ≢ Some place

-- a dotted line comes from there, and from nowhere else: so there is one at most of each source
abbrev pub CouldLaw : Type 0
CouldLaw = (lines : List Line) (a : Selection) (source place : ℕ)
    → (other_first lines a source ≡ Some place) ↔ IsFirstOfOthers lines a source place

-- ---- all arrows

abbrev pub is_message : Carried → Bool
is_message (Message tag count) = true
is_message c = false

-- a step got this message: by the number of a post of which it was told that it brings one. So a claim, which brings none,
-- isn't taken for the receive, nor is a receive that was posted only
pub record IsGotArrow (deeds : List Deed) (a : Arrow) : Type 0 where
  pub before : List Deed
  pub getter : Deed
  pub after : List Deed
  pub all : deeds ≡ before ++ getter ∷ after
  pub number : ℕ
  pub got : IsAmong getter.got.items number
  pub joins : JoinsSend (before ++ getter ∷ []) Manner.Got number getter.spot a

-- the arrows of messages are those of the messages that steps got: each has its arrow, and there are no others
abbrev pub MessagesLaw : Type 0
MessagesLaw = (scope : Scope) (deeds : List Deed) (a : Arrow)
    → (IsAmong (arrows_of scope deeds) a × (is_message a.carried ≡ true)) ↔ IsGotArrow deeds a

-- nobody got the message of a send that is shown: its arrow ends in an open head
pub record IsLostArrow (deeds : List Deed) (view : View) (a : Arrow) : Type 0 where
  pub place : ℕ
  pub s : Sent
  pub from : Spot
  pub made : IsMadeAt deeds place (Send s) from
  pub shown : is_in_view view from ≡ true
  pub nobody : ¬ IsGotAmong deeds place
  pub arrow_is : a
      ≡ record { from = from; to = None; dest = s.dest; carried = Message s.envelope.tag s.envelope.count }

-- those are all arrows of messages that weren't got
abbrev pub LostLaw : Type 0
LostLaw = (deeds : List Deed) (view : View) (a : Arrow)
    → IsAmong (lost view (pairs (posts_made deeds)) (spots_made deeds) (got_places deeds)) a
    ↔ IsLostArrow deeds view a

-- ---- partitions

-- a step took a partition which the maker made ready, and none did so between them: the arrow joins the two. Its phase is
-- that which the maker began: the number of the times that the box was made ready, as 64 bits hold it (MPI 4.1, chapter 4.2)
pub record JoinsReady (scope : Scope) (deeds : List Deed) (a : Arrow) : Type 0 where
  pub earlier : List Deed
  pub maker : Deed
  pub between : List Deed
  pub taker : Deed
  pub after : List Deed
  pub all : deeds ≡ (earlier ++ maker ∷ between) ++ taker ∷ after
  pub box : ℕ × ℕ
  pub takes : taker.taken ≡ Some box
  pub there : box_place box < scope.boxes
  pub made : ℕ × ℕ
  pub makes : maker.ready ≡ Some made
  pub same : box_place made ≡ box_place box
  pub none_between : readies (box_place box) between ≡ []
  pub arrow_is : a
      ≡ record {
        from = maker.spot;
        to = Some taker.spot;
        dest = taker.spot.rank;
        carried = Partition box.0 box.1 (min (length (readies (box_place box) earlier) + 1) (2 ^ 64 - 1));
      }

abbrev pub is_partition : Carried → Bool
is_partition (Partition link part phase) = true
is_partition c = false

-- the arrows of partitions are these, so none comes from the phase before
abbrev pub PartitionsLaw : Type 0
PartitionsLaw = (scope : Scope) (deeds : List Deed) (a : Arrow)
    → (IsAmong (arrows_of scope deeds) a × (is_partition a.carried ≡ true)) ↔ JoinsReady scope deeds a

-- a step made a partition ready, in the phase that it began, and none behind it took the partition
pub record IsNeverTaken (boxes : ℕ) (deeds : List Deed) (one : Untaken) : Type 0 where
  pub before : List Deed
  pub maker : Deed
  pub after : List Deed
  pub all : deeds ≡ before ++ maker ∷ after
  pub box : ℕ × ℕ
  pub makes : maker.ready ≡ Some box
  pub there : box_place box < boxes
  pub nobody : list_any (λ (d : Deed). is_box_at (box_place box) d.taken) after ≡ false
  pub one_is : one
      ≡ record {
        from = maker.spot;
        link = box.0;
        part = box.1;
        phase = min (length (readies (box_place box) before) + 1) (2 ^ 64 - 1);
      }

-- the partitions with a broken arrow are these, and no others
abbrev pub UntakenLaw : Type 0
UntakenLaw = (boxes : ℕ) (deeds : List Deed) (one : Untaken)
    → IsAmong (untaken_of boxes deeds) one ↔ IsNeverTaken boxes deeds one

-- a box is one partition of one link, where each link has 16
abbrev pub BoxLaw : Type 0
BoxLaw = (a b : ℕ × ℕ) → a.1 < 16 → b.1 < 16 → box_place a ≡ box_place b → (a.0 ≡ b.0) × (a.1 ≡ b.1)

-- ---- lanes

-- lanes are in the ranks' order, and those of a rank in its harts', whoever had the first step
abbrev pub LanesLaw : Type 0
LanesLaw = (harts : ℕ) (a b : Spot) → a.hart < harts → b.hart < harts
    → (lane_of harts a < lane_of harts b) ↔ ((a.rank < b.rank) ⊎ ((a.rank ≡ b.rank) × (a.hart < b.hart)))
