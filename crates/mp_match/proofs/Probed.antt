-- A claim takes the message that a probe shows.
use Rattle.std.specs.Prelude.{ℕ, ◌+◌, ◌≡◌, cond, List, [], ◌∷◌, Some}
use Rattle.std.specs.List.{position_from}
use Rattle.std.proofs.Common.{refl, ap}
use Rattle.mp_match.specs.declared.posts.Selection.{Selection}
use Rattle.mp_match.specs.declared.posts.Post.{Post}
use Rattle.mp_match.specs.declared.posts.Post.TheVariants.{Send, Receive, Claim}
use Rattle.mp_match.specs.declared.posts.Line.{Line}
use Rattle.mp_match.specs.Pairs.{may_pair, is_free, fits}
use Rattle.std.specs.Prelude.{◌&&◌}
use Rattle.mp_match.specs.Board.{Board, envelope_at, probed}

pairs_alike : (a : Selection) (p : Post) → may_pair (Receive a) p ≡ may_pair (Claim a) p
pairs_alike a (Send s) = refl
pairs_alike a (Receive b) = refl
pairs_alike a (Claim b) = refl

places_alike : (a : Selection) (k : ℕ) (lines : List Line)
    → position_from (fits (Receive a)) k lines ≡ position_from (fits (Claim a)) k lines
places_alike a k [] = refl
places_alike a k (line ∷ lines) = (
    λ i. cond (is_free line.partner && pairs_alike a line.post i) (Some k) (places_alike a (k + 1) lines i)
    )

pub probed_alike : (b : Board) (a : Selection) → probed b (Receive a) ≡ probed b (Claim a)
probed_alike b a = ap (envelope_at b) (places_alike a 0 b.lines)
