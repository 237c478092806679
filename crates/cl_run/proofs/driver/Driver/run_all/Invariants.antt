use Rattle.std.proofs.Common.{ℕ, ◌≡◌, ◌*◌, List, length, vec_len}
use Rattle.rv_image_types.specs.declared.images.ImageParts.{ImageParts}
use Rattle.cl_record.specs.declared.plans.Plan.{Plan}
use Rattle.cl_run.specs.Ahead.{AreNamed, IsAheadOf, left_ahead}
use Rattle.cl_run.specs.Driver.{AreJoined, AreSeated, stations}
use Rattle.cl_run.specs.UnderWay.{IsUnderWay}
use Rattle.cl_run.proofs.driver.Driver.run_all.Given as goal

abbrev pub invariant-loop-ahead : goal.invariant-loop-ahead
invariant-loop-ahead l = record {
  joined : AreJoined l.self;
  count : vec_len l.self.seats ≡ vec_len l.initial.self.seats;
  seated : (plans : List Plan) → AreSeated plans l.initial.self → AreSeated plans l.self;
  goes : (image : ImageParts) (plans : List Plan) → AreSeated plans l.initial.self
      → IsUnderWay image plans l.order (stations l.initial.self) l.initial.self.hub 0
      → (k : ℕ) × IsAheadOf image plans l.order l.ahead l.self (k * length l.order);
  named : AreNamed l.order l.ahead;
}

abbrev pub decreases-loop-ahead : goal.decreases-loop-ahead
decreases-loop-ahead l = left_ahead l.self l.ahead
