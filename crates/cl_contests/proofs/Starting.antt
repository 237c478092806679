-- Where a search may begin, by what was looked at one by one.
use Rattle.std.specs.Prelude.{ℕ, ◌+◌, ◌<◌, ◌≡◌, List, get_or, length, slice_get, Option, None, Some, true}
use Rattle.std.proofs.Common.{refl, sym, ap, ◌∙◌}
use Rattle.std.proofs.lemmas.Option.{slice_get-get_or}
use Rattle.mp_hub.specs.Hub.{HubView}
use Rattle.mp_match.specs.declared.posts.Line.{Line}
use Rattle.mp_match.specs.declared.posts.Post.TheVariants.{Receive}
use Rattle.mp_match.specs.declared.posts.Selection.{Selection}
use Rattle.mp_source_laws.specs.Laws.{AsksFrom}
use Rattle.mp_clash_laws.specs.Exchanges.{WaitsWithin}
use Rattle.cl_state.specs.declared.state.RankState.{RankState}
use Rattle.cl_state.specs.Room.{rank_of}
use Rattle.cl_state_laws.specs.Awake.{StandsAtCall}
use Rattle.cl_moves.proofs.Resting.{below_on}
use Rattle.cl_moves.specs.declared.standing.Standing.{Standing}
use Rattle.cl_contests.specs.declared.patterns.AskedBy.{AskedBy}
use Rattle.cl_contests.specs.declared.patterns.Pattern.TheVariants.{AnySource}
use Rattle.cl_contests.specs.Going.{TellsStart}
use Rattle.cl_contests.specs.Kept.{wild_of}
use Rattle.cl_contests.specs.Passing.{Keeps}
use Rattle.cl_contests.proofs.Fits.{each_rank}

-- the line is no receive of any source that waits, or its rank may ask for any
abbrev pub MayWait : List AskedBy → Line → Type 0
MayWait kept line =
    (a : Selection) → line ≡ record { post = Receive a; partner = None } → AsksFrom (wild_of kept) a.rank a.comm a.source

-- where more is among the patterns it still may
pub still_waits : (kept more : List AskedBy) (line : Line) → Keeps kept more → MayWait kept line → MayWait more line
still_waits kept more line keeps waits a is = go a.source (waits a is)
  where
    go : (source : Option ℕ) → AsksFrom (wild_of kept) a.rank a.comm source → AsksFrom (wild_of more) a.rank a.comm source
    go None asks = keeps a.rank (AnySource a.comm) asks
    go (Some source) asks = tt

module _ (kept : List AskedBy) (lines : List Line) (n : ℕ)
    (before : (place : ℕ) → place < n → (line : Line) → slice_get lines place ≡ Some line → MayWait kept line) where
  pub wait_more : (none : Line) (xs : List Line) → xs ≡ lines → n < length lines → MayWait kept (get_or xs n none)
      → (place : ℕ) → place < n + 1 → (line : Line) → slice_get lines place ≡ Some line → MayWait kept line
  wait_more none xs are inside waits =
      below_on (λ place line. MayWait kept line) lines n before (get_or xs n none)
      (slice_get-get_or lines n none inside ∙ ap (λ ys. Some (get_or ys n none)) (sym are)) waits

pub all_wait : (kept : List AskedBy) (h : HubView)
    → ((place : ℕ) (line : Line) → slice_get h.board.lines place ≡ Some line → MayWait kept line) → WaitsWithin (wild_of kept) h
all_wait kept h each place a there = each place (record { post = Receive a; partner = None }) there a refl

pub tells_start : (standing : Standing)
    → ((r : ℕ) (own : RankState) → slice_get standing.cluster.ranks.items r ≡ Some own → StandsAtCall (rank_of own) 0)
    → TellsStart standing true
tells_start standing stands tells image here at = each_rank image standing here at (λ r rank. StandsAtCall rank 0) stands
