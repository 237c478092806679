use Rattle.std.proofs.Common.{ℕ, ◌≡◌, ◌*◌, List, length, vec_len}
use Rattle.rv_image_types.specs.declared.images.ImageParts.{ImageParts}
use Rattle.cl_record.specs.declared.plans.Plan.{Plan}
use Rattle.cl_run.specs.Driver.{AreJoined, AreSeated, left, stations}
use Rattle.cl_run.specs.UnderWay.{IsUnderWay}
use Rattle.cl_run.proofs.driver.Driver.run_alone.Given as goal

abbrev pub invariant-loop : goal.invariant-loop
invariant-loop l = record {
  joined : AreJoined l.self;
  count : vec_len l.self.seats ≡ vec_len l.initial.self.seats;
  seated : (plans : List Plan) → AreSeated plans l.initial.self → AreSeated plans l.self;
  goes : (image : ImageParts) (plans : List Plan) → AreSeated plans l.initial.self
      → IsUnderWay image plans l.order (stations l.initial.self) l.initial.self.hub 0
      → (k : ℕ) × IsUnderWay image plans l.order (stations l.self) l.self.hub (k * length l.order);
}

abbrev pub decreases-loop : goal.decreases-loop
decreases-loop l = left l.self
