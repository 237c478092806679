-- What is looked over of two hubs, part by part, where posts that are over may be any that are.
use Rattle.std.specs.Prelude.{ℕ, ◌<◌, ◌≡◌, ◌⊎◌, List, length, Option, Some, None}
use Rattle.std.specs.List.{slice_get}
use Rattle.mp_match.specs.declared.posts.Line.{Line}
use Rattle.mp_match.specs.Board.{Board}
use Rattle.mp_alike_laws.specs.Renaming.{Renaming}
use Rattle.mp_alike_laws.specs.Alike.{maker}
use Rattle.mp_source_laws.specs.Alike.{AlikeBoards, IsOver, IsOverReceive, IsOverSend, Wild}
use Rattle.mp_alike.specs.Names.{IsListed, renamed}
use Rattle.mp_alike.specs.InnerAlike.{HasLine, KeepsClaim, KeepsSends}

-- ---- names both ways

abbrev pub origin_in : ℕ → Option (Option ℕ) → ℕ
origin_in place (Some (Some post)) = post
origin_in place (Some None) = place
origin_in place None = place

-- from where a post goes to the place; where none is told the place stays
abbrev pub origin : List (Option ℕ) → ℕ → ℕ
origin back place = origin_in place (slice_get back place)

-- each of two lists undoes the other
pub record AreTurned (many : ℕ) (to : List ℕ) (back : List (Option ℕ)) : Type 0 where
  pub many_to : length to ≡ many
  pub many_back : length back ≡ many
  pub there : (place : ℕ) → place < length to → origin back (renamed to place) ≡ place
  pub again : (place : ℕ) → place < length back → renamed to (origin back place) ≡ place

-- ---- posts

-- both are sends that are over, or receives that are
abbrev pub AreBothOver : Board → Board → ℕ → ℕ → Type 0
AreBothOver a b i j = (IsOverSend a i × IsOverSend b j) ⊎ (IsOverReceive a i × IsOverReceive b j)

-- the post at the place and its partner are those of the post where it goes, or both posts are over; the message is the
-- same
pub record IsLiveAlikeAt (to : List ℕ) (a b : Board) (place : ℕ) : Type 0 where
  pub post : HasLine to a.lines b.lines place ⊎ AreBothOver a b place (renamed to place)
  pub body : slice_get b.bodies (renamed to place) ≡ slice_get a.bodies place
  pub claim : KeepsClaim to a.lines place

-- ---- order

-- the line stands at the place, and its post isn't over
pub record IsLive (b : Board) (place : ℕ) (line : Line) : Type 0 where
  pub there : slice_get b.lines place ≡ Some line
  pub live : ¬ IsOver b place

-- of the post at the place and another of its rank behind it
abbrev pub KeepsRank : List ℕ → Board → ℕ → Line → ℕ → Type 0
KeepsRank to b place line behind =
    (other : Line) → place < behind → IsLive b behind other → maker line.post ≡ maker other.post
    → renamed to place < renamed to behind

-- the order of the posts of each rank that aren't over
abbrev pub KeepsRanks : List ℕ → Board → Type 0
KeepsRanks to b = (place : ℕ) (line : Line) → IsLive b place line → (behind : ℕ) → KeepsRank to b place line behind

pub record KeepsOrder (to : List ℕ) (b : Board) : Type 0 where
  pub ranks : KeepsRanks to b
  pub sends : KeepsSends to b.lines

-- ---- boards

pub record AreLiveAlikeBoards (to : List ℕ) (a b : Board) : Type 0 where
  pub each : (place : ℕ) → place < length a.lines → IsLiveAlikeAt to a b place
  pub order : KeepsOrder to a

-- the list gives names by which the one board is alike the other
pub record IsLiveBoardBy (to : List ℕ) (a b : Board) : Type 0 where
  pub names : Renaming
  pub listed : IsListed names to
  pub alike : (wild : Wild) → AlikeBoards wild names a b
