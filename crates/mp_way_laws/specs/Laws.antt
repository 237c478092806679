-- The laws of messages on their way, where calls name their sources.
use Rattle.std.specs.Prelude.{ℕ, ◌≡◌, List, Some}
use Rattle.rv_image_types.specs.declared.images.Link.{Link}
use Rattle.mp_match.specs.declared.posts.Sent.{Sent}
use Rattle.mp_match.specs.declared.posts.Selection.{Selection}
use Rattle.mp_match.specs.declared.posts.Post.TheVariants.{Receive}
use Rattle.mp_match.specs.Pairs.{partner_at, partner_for}
use Rattle.mp_way_laws.specs.Way.{WayView, all_arrived, arrival, found, lines_of, way_at_start}
use Rattle.mp_way_laws.specs.Runs.{Event, HappenOn, IsNamed, NameSources}

-- events whose calls name their sources lead to this hub
pub record IsCameTo (links : List Link) (w : WayView) : Type 0 where
  pub events : List Event
  pub on : HappenOn (way_at_start links) events w
  pub named : NameSources events

pub record WayLaw : Type 0 where
  -- partners are partners once all has arrived, too
  pub partners : (links : List Link) (w : WayView) → IsCameTo links w
      → (i j : ℕ) → partner_at (lines_of w) i ≡ Some j → partner_at (all_arrived w).board.lines i ≡ Some j
  -- it makes no difference to that which message arrives first
  pub arrivals : (w : WayView) (place : ℕ) (sent : Sent) → all_arrived (arrival w place sent) ≡ all_arrived w
  -- a receive or a probe of a named source that finds a message finds the one that it would find once all has arrived
  pub finds : (links : List Link) (w : WayView) → IsCameTo links w → (a : Selection) (place : ℕ) → IsNamed a.source
      → found w (Receive a) ≡ Some place
      → partner_for (all_arrived w).board.lines (Receive a) ≡ Some place
