use Rattle.std.proofs.Common.{ℕ, ◌==◌, refl, get_or}
use Rattle.std.proofs.lemmas.Bool.{eq-eqb, iff_false}
use Rattle.std.proofs.lemmas.List.Folds.{list_any_at}
use Rattle.rv_image_types.specs.declared.images.ImageParts.{ImageParts}
use Rattle.cl_replay.specs.Below.{Cluster}
use Rattle.cl_replay.specs.States.{ClusterStandsFor}
use Rattle.cl_deadlock.proofs.InTurn.{all_of, one_more}
use Rattle.cl_deadlock.proofs.Waits.{Waits}
use Rattle.cl_deadlock.proofs.verdicts.some_waits.Goals as goal

pub loop-place-preserved : goal.loop-place-preserved
loop-place-preserved c =
    one_more (λ (r : ℕ). (image : ImageParts) (cluster : Cluster) → ClusterStandsFor image c.args.state.now cluster
    → Waits cluster r → ⊥) c.args.among.now c.loop-place.place c.loop-place-test.true c.loop-place.invariant
    (λ image cluster stands one. iff_false (c.waits.ensures image cluster stands) c.if-waits.false one)

pub returns-then-waits : goal.returns-then-waits
returns-then-waits c = λ image cluster stands.
    let among = c.args.among.now in
    let place = c.loop-place.place in
    let one = (c.waits.ensures image cluster stands).0 c.if-waits.true in (
      λ its. record {
        r = get_or among place 0;
        rank = one.0;
        hart = one.1;
        among = list_any_at (λ k. k == get_or among place 0) among place 0 c.loop-place-test.true
            (eq-eqb (get_or among place 0) (get_or among place 0) refl);
        there = one.2;
        waits = one.3;
      },
      λ some. refl,
    )

pub returns : goal.returns
returns c = λ image cluster stands. (
  λ no. absurd (cc),
  λ some.
      absurd
      (all_of (λ (r : ℕ). (image : ImageParts) (cluster : Cluster) → ClusterStandsFor image c.args.state.now cluster
      → Waits cluster r → ⊥) c.args.among.now c.loop-place.place c.loop-place-test.false c.loop-place.invariant some.r
      some.among image cluster stands (some.rank, some.hart, some.there, some.waits)),
)
