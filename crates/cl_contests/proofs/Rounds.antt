-- A rank that is watched as it takes turns by itself, by each order that names the first hart alone.
use Rattle.std.proofs.Common.{◌≡◌, ℕ, ◌+◌, List, [], ◌∷◌, Option, None, Bool, sym, ◌∙◌, subst}
use Rattle.cl_state.specs.declared.asking.Ask.{Ask}
use Rattle.cl_state.specs.Asked.{asked}
use Rattle.cl_state.specs.Rank.{Rank}
use Rattle.cl_state.specs.Room.{rank_of}
use Rattle.cl_trace.specs.declared.events.Kind.{Kind}
use Rattle.cl_machine.specs.declared.steps.Step.{Step}
use Rattle.cl_order_laws.specs.Closed.{NeedsOnlyRank}
use Rattle.cl_moves.specs.Cycles.{IsBackAt, KeepsAt, kept_in}
use Rattle.cl_moves.specs.Standing.{Took}
use Rattle.cl_moves.specs.declared.cycles.Watch.{Watch}
use Rattle.cl_moves.specs.declared.standing.Standing.{Standing}
use Rattle.cl_moves.proofs.Going.{NeedsOnlyIts}
use Rattle.cl_moves.proofs.Resting.{own_at}
use Rattle.cl_moves.proofs.Watched.{LeavesTrail, trail_back, trail_shown, trail_starts, trail_taken}
use Rattle.cl_reduction_laws.specs.Clusters.{Search}
use Rattle.cl_contests.specs.Going.{IsFirstHart}
use Rattle.cl_contests.specs.Turns.{GoesRoundAlone, IsBusyKind, IsBusyTurn}

needs_of : (ask : Ask) (kind : Kind) → IsBusyKind ask kind → NeedsOnlyRank ask
needs_of Ask.Plain kind is = tt
needs_of Ask.Local kind is = tt
needs_of _ kind is = absurd is

busy_needs : (search : Search) (order : List ℕ) → IsFirstHart order → (standing : Standing) (e : Step)
    → IsBusyTurn search standing e → NeedsOnlyIts order standing e
busy_needs search order first standing e turn = λ image here stands. (
  rank_of turn.own,
  own_at image standing.cluster here.cluster stands.stands e.rank turn.own turn.there,
  turn.hart_is ∙ sym (first (here.had e.rank)),
  subst (λ h. NeedsOnlyRank (asked (rank_of turn.own) h)) (sym turn.hart_is)
      (needs_of (asked (rank_of turn.own) 0) e.kind turn.busy),
)

abbrev pub LeavesTrails : ℕ → ℕ → Standing → Standing → Option Rank → Type 0
LeavesTrails r least old new kept =
    (order : List ℕ) → IsFirstHart order → LeavesTrail order (0 ∷ []) r least old new kept

pub trails_start : (r : ℕ) (old : Standing) (kept : Option Rank) → kept ≡ None → LeavesTrails r 0 old old kept
trails_start r old kept none = λ order first. trail_starts order (0 ∷ []) r old kept none

pub trails_taken : (search : Search) (r : ℕ) (old mid new : Standing) (kept : Option Rank) (e : Step) → e.rank ≡ r
    → IsBusyTurn search mid e → Took mid e new → LeavesTrails r 0 old mid kept → LeavesTrails r 1 old new kept
trails_taken search r old mid new kept e is turn took trails = λ order first.
    trail_taken order (0 ∷ []) r 0 old mid new kept e is (busy_needs search order first mid e turn) took (trails order first)

pub trails_shown : (r : ℕ) (old new : Standing) (watch after : Watch) → LeavesTrails r 1 old new (kept_in watch)
    → KeepsAt (0 ∷ []) new r watch after → LeavesTrails r 0 old new (kept_in after)
trails_shown r old new watch after trails keeps = λ order first.
    trail_shown order (0 ∷ []) r 1 old new watch after (trails order first) keeps

pub trails_back : (r : ℕ) (old new : Standing) (watch : Watch) → LeavesTrails r 1 old new (kept_in watch)
    → IsBackAt (0 ∷ []) new r watch → GoesRoundAlone old new r
trails_back r old new watch trails back = λ order first.
    trail_back order (0 ∷ []) r old new watch (λ n m one other k. first (n + k) ∙ sym (first (m + k))) (trails order first) back
