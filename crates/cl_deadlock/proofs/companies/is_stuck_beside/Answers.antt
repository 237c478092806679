use Rattle.std.specs.Prelude.{Bool, Result, Ok, Err, OnErr}
use Rattle.std.specs.declared.alloc.AllocError.{AllocError}
use Rattle.std.proofs.Common.{ℕ, ◌≡◌, ◌⊎◌, Some, below_more, subst, ◌∙◌, arith, slice_get}
use Rattle.std.proofs.lemmas.Bool.{iff_false}
use Rattle.std.proofs.lemmas.Option.{slice_get_read}
use Rattle.rv_image_types.specs.declared.images.ImageParts.{ImageParts}
use Rattle.cl_state.specs.Room.{rank_of}
use Rattle.cl_state_laws.specs.Vain.{IsStopped, mode_of}
use Rattle.cl_replay.specs.Below.{Cluster}
use Rattle.cl_replay.specs.States.{ClusterStandsFor}
use Rattle.cl_deadlock_laws.specs.Stuck.{IsStuckHart}
use Rattle.cl_deadlock.specs.Stuck.{TakesMemory}
use Rattle.cl_deadlock.proofs.Sizes.{few_harts}
use Rattle.cl_deadlock.proofs.Told.{by_harts, each_hart, not_there}
use Rattle.cl_deadlock.proofs.companies.is_stuck_beside.Goals as goal

pub returns-then-place-len-clause-stuck : goal.returns-then-place-len-clause-stuck
returns-then-place-len-clause-stuck c = λ its image cluster stands.
    let ranks = c.args.state.now.ranks in
    not_there image c.args.state.now cluster stands c.args.among.now c.args.rank
    (omega (arith, c.if-place-len.true, c.from-place.ensures, c.len.ensures, ranks.ok.0))

pub returns-then-count-gt255-clause-free : goal.returns-then-count-gt255-clause-free
returns-then-count-gt255-clause-free c = λ no image cluster is.
    let own = c.index-own.result.now in
    let ranks = c.args.state.now.ranks in
    let here = slice_get_read ranks.items c.len.result c.from-place.result own (c.len.ensures ∙ ranks.ok.0)
    c.if-place-len.false c.index-own.ensures in
    let few = few_harts image c.args.state.now cluster is c.args.rank own
    (subst (λ r. slice_get ranks.items r ≡ Some own) c.from-place.ensures here) in
    absurd (omega (arith, few, c.if-count-gt255.true, c.len-count.ensures, own.harts.ok.0))

pub loop-number-preserved : goal.loop-number-preserved
loop-number-preserved c =
    let own = c.index-own.result.now in
    below_more (λ (hart : ℕ). (image : ImageParts) (cluster : Cluster) → ClusterStandsFor image c.args.state.now cluster
    → IsStopped (mode_of (rank_of own) hart) ⊎ IsStuckHart c.args.among.now cluster c.args.rank (rank_of own) hart)
    c.loop-number.number c.loop-number.invariant
    (λ image cluster stands. (c.in_ok-is_held.ensures.held image cluster stands).0 c.if-not-branch.false)

pub returns-then-not-branch-clause-free : goal.returns-then-not-branch-clause-free
returns-then-not-branch-clause-free c = λ no image cluster is stuck.
    let own = c.index-own.result.now in
    let ranks = c.args.state.now.ranks in
    let here = slice_get_read ranks.items c.len.result c.from-place.result own (c.len.ensures ∙ ranks.ok.0)
    c.if-place-len.false c.index-own.ensures in
    iff_false (c.in_ok-is_held.ensures.held image cluster is.stands) c.if-not-branch.true
    (each_hart image c.args.state.now cluster is.stands c.args.among.now c.args.rank own
    (subst (λ r. slice_get ranks.items r ≡ Some own) c.from-place.ensures here) stuck c.loop-number.number
    (omega (arith, c.loop-number-test.true, c.len-count.ensures, own.harts.ok.0)))

pub returns-clause-stuck : goal.returns-clause-stuck
returns-clause-stuck c = λ its image cluster stands.
    let own = c.index-own.result.now in
    let ranks = c.args.state.now.ranks in
    let here = slice_get_read ranks.items c.len.result c.from-place.result own (c.len.ensures ∙ ranks.ok.0)
    c.if-place-len.false c.index-own.ensures in
    by_harts image c.args.state.now cluster stands c.args.among.now c.args.rank own
    (subst (λ r. slice_get ranks.items r ≡ Some own) c.from-place.ensures here) (λ hart low.
    c.loop-number.invariant hart (omega (arith, low, c.loop-number-test.false, c.len-count.ensures, own.harts.ok.0))
    image cluster stands)

on_err : (P : Type 0) (r : Result Bool AllocError) → P → OnErr r P
on_err P (Ok stuck) its = tt
on_err P (Err e) its = its

pub returns-in_err-is_held-clause-memory : goal.returns-in_err-is_held-clause-memory
returns-in_err-is_held-clause-memory c =
    let own = c.index-own.result.now in
    let ranks = c.args.state.now.ranks in
    let here = slice_get_read ranks.items c.len.result c.from-place.result own (c.len.ensures ∙ ranks.ok.0)
    c.if-place-len.false c.index-own.ensures in
    on_err (TakesMemory c.args.state.now c.args.rank) c.from_residual.result (
      own,
      c.loop-number.number,
      subst (λ r. slice_get ranks.items r ≡ Some own) c.from-place.ensures here,
      c.in_err-is_held.ensures.memory,
    )
