use Rattle.std.proofs.Common.{◌≡◌, ◌<◌, ◌≤◌, ◌+◌, ◌*◌, ℕ, List, false, cond, length, slice_index, vec_len}
use Rattle.rv_image_types.specs.declared.images.ImageParts.{ImageParts}
use Rattle.cl_record.specs.declared.plans.Plan.{Plan}
use Rattle.cl_run.specs.Ahead.{AreNamed, IsAheadOf, left_ahead}
use Rattle.cl_run.specs.Driver.{AreJoined, AreSeated, IsStoppedAt, stations}
use Rattle.cl_run.proofs.driver.Driver.round_ahead.Given as goal

abbrev pub invariant-loop-rank : goal.invariant-loop-rank
invariant-loop-rank l = record {
  joined : AreJoined l.self;
  count : vec_len l.self.seats ≡ vec_len l.initial.self.seats;
  seated : (plans : List Plan) → AreSeated plans l.initial.self → AreSeated plans l.self;
  goes : (image : ImageParts) (plans : List Plan) (k : ℕ) → AreSeated plans l.initial.self
      → IsAheadOf image plans l.order l.initial.ahead l.initial.self (k * length l.order)
      → IsAheadOf image plans l.order l.ahead l.self (k * length l.order + l.rank-index);
  named : AreNamed l.order l.initial.ahead → AreNamed l.order l.ahead;
  done : l.moved ≡ false → (place : ℕ) → place < l.rank-index
      → IsStoppedAt (stations l.self) (slice_index l.order place);
  at_slots : l.moved ≡ false → (place : ℕ) → place < l.rank-index
      → slice_index l.ahead (slice_index l.order place) ≡ 0;
  less : left_ahead l.self l.ahead + cond l.moved 1 0 ≤ left_ahead l.initial.self l.initial.ahead;
}
