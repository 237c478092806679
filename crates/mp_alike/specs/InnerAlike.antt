-- What is compared of two hubs, part by part, by names that are a list.
use Rattle.std.specs.Prelude.{ℕ, ◌<◌, ◌≡◌, List, [], ◌∷◌, length, filter, true, Some}
use Rattle.std.specs.List.{slice_get}
use Rattle.std.specs.Option.{option_map}
use Rattle.mp_match.specs.declared.posts.Line.{Line}
use Rattle.mp_match.specs.declared.posts.Post.TheVariants.{Claim}
use Rattle.mp_match.specs.declared.posts.Selection.{Selection}
use Rattle.mp_match.specs.declared.posts.Sent.{Sent}
use Rattle.mp_match.specs.Board.{Board}
use Rattle.mp_transfers.specs.declared.sides.Setup.{Setup}
use Rattle.mp_transfers.specs.declared.sides.Side.{Side}
use Rattle.mp_transfers.specs.Inits.{is_reserved, is_same_side, sender_over}
use Rattle.mp_hub.specs.Hub.{HubView}
use Rattle.mp_alike_laws.specs.Renaming.{Renaming}
use Rattle.mp_alike_laws.specs.Alike.{AlikeBoards, IsUnpaired}
use Rattle.mp_alike.specs.Names.{IsListed, renamed}

-- ---- posts

abbrev pub line_to : List ℕ → Line → Line
line_to to line = record { post = line.post; partner = option_map (renamed to) line.partner }

-- the post at the place and its partner are those of the post where it goes
abbrev pub HasLine : List ℕ → List Line → List Line → ℕ → Type 0
HasLine to mine theirs place = slice_get theirs (renamed to place) ≡ option_map (line_to to) (slice_get mine place)

-- a claim keeps its place
abbrev pub KeepsClaim : List ℕ → List Line → ℕ → Type 0
KeepsClaim to lines place =
    (line : Line) (what : Selection) → slice_get lines place ≡ Some line → line.post ≡ Claim what
    → renamed to place ≡ place

-- and so is its message
pub record IsAlikeAt (to : List ℕ) (a b : Board) (place : ℕ) : Type 0 where
  pub line : HasLine to a.lines b.lines place
  pub body : slice_get b.bodies (renamed to place) ≡ slice_get a.bodies place
  pub claim : KeepsClaim to a.lines place

-- of the send at the place and another behind it, both without a partner and to one rank in one communicator
abbrev pub KeepsSend : List ℕ → List Line → ℕ → Sent → ℕ → Type 0
KeepsSend to lines place s behind =
    (t : Sent) → place < behind → IsUnpaired lines behind t → s.dest ≡ t.dest → s.envelope.comm ≡ t.envelope.comm
    → renamed to place < renamed to behind

-- the order of sends without a partner to each rank in each communicator
abbrev pub KeepsSends : List ℕ → List Line → Type 0
KeepsSends to lines = (place : ℕ) (s : Sent) → IsUnpaired lines place s
    → (behind : ℕ) → KeepsSend to lines place s behind

pub record AreAlikeBoards (to : List ℕ) (a b : Board) : Type 0 where
  pub each : (place : ℕ) → place < length a.lines → IsAlikeAt to a b place
  pub sends : KeepsSends to a.lines

-- ---- sides

-- of the side's transfer, on the same side, the same were initialised; and of its link the same is told
pub record IsAlikeSide (mine theirs : List Side) (side : Side) : Type 0 where
  pub sides : filter (is_same_side side.setup) theirs ≡ filter (is_same_side side.setup) mine
  pub reserved : is_reserved theirs side.link ≡ is_reserved mine side.link
  pub sender : sender_over theirs side.link ≡ sender_over mine side.link

pub record AreAlikeSides (mine theirs : List Side) : Type 0 where
  pub sides : (s : Setup) → filter (is_same_side s) theirs ≡ filter (is_same_side s) mine
  pub reserved : (link : ℕ) → is_reserved theirs link ≡ is_reserved mine link
  pub senders : (link : ℕ) → sender_over theirs link ≡ sender_over mine link

-- there is none, or the first is on the same side of the same transfer
abbrev pub IsAtSame : Setup → List Side → Type 0
IsAtSame s [] = Unit {0}
IsAtSame s (t ∷ ts) = is_same_side s t ≡ true

-- ---- boards and hubs

-- the list gives names by which the one board is alike the other
pub record IsAlikeBoardBy (to : List ℕ) (a b : Board) : Type 0 where
  pub names : Renaming
  pub listed : IsListed names to
  pub alike : AlikeBoards names a b

-- all but the boards
pub record IsAlikeBeside (a b : HubView) : Type 0 where
  pub links : b.links ≡ a.links
  pub claims : b.claims ≡ a.claims
  pub sides : AreAlikeSides a.sides b.sides
