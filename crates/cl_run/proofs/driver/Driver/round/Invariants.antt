use Rattle.std.proofs.Common.{◌≡◌, ◌<◌, ◌≤◌, ◌+◌, ◌*◌, ℕ, List, false, cond, length, slice_index, vec_len}
use Rattle.rv_image_types.specs.declared.images.ImageParts.{ImageParts}
use Rattle.cl_record.specs.declared.plans.Plan.{Plan}
use Rattle.cl_run.specs.Driver.{AreJoined, AreSeated, IsStoppedAt, left, stations}
use Rattle.cl_run.specs.UnderWay.{IsUnderWay}
use Rattle.cl_run.proofs.driver.Driver.round.Given as goal

abbrev pub invariant-loop-rank : goal.invariant-loop-rank
invariant-loop-rank g l = record {
  joined : AreJoined l.self;
  count : vec_len l.self.seats ≡ vec_len l.initial.self.seats;
  seated : (plans : List Plan) → AreSeated plans l.initial.self → AreSeated plans l.self;
  goes : (image : ImageParts) (plans : List Plan) (k : ℕ) → AreSeated plans l.initial.self
      → IsUnderWay image plans l.order (stations l.initial.self) l.initial.self.hub (k * length l.order)
      → IsUnderWay image plans l.order (stations l.self) l.self.hub (k * length l.order + l.rank-index);
  done : l.moved ≡ false → (place : ℕ) → place < l.rank-index
      → IsStoppedAt (stations l.self) (slice_index l.order place);
  less : left l.self + cond l.moved 1 0 ≤ left l.initial.self;
}
