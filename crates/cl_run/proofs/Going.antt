-- Rounds, one behind another.
use Rattle.std.specs.Prelude.{ℕ, ◌≡◌, ◌≤◌, ◌+◌, ◌*◌, List, length, vec_len}
use Rattle.std.proofs.Common.{refl, ◌∙◌, subst, arith}
use Rattle.rv_image_types.specs.declared.images.ImageParts.{ImageParts}
use Rattle.cl_record.specs.declared.plans.Plan.{Plan}
use Rattle.cl_run.specs.declared.driver.Driver.{Driver}
use Rattle.cl_run.specs.Driver.{AreJoined, AreSeated, left, stations}
use Rattle.cl_run.specs.Going.{GoesRounds}
use Rattle.cl_run.specs.UnderWay.{IsUnderWay}

pub no_rounds : (order : List ℕ) (driver : Driver) → AreJoined driver → GoesRounds order driver driver
no_rounds order driver joined = record {
  joined = joined;
  count = refl;
  seated = λ plans seated. seated;
  goes = λ image plans k seated w. (k, w);
  no_more = omega arith;
}

pub one_round : (order : List ℕ) (old new : Driver) → AreJoined new → vec_len new.seats ≡ vec_len old.seats
    → ((plans : List Plan) → AreSeated plans old → AreSeated plans new)
    → ((image : ImageParts) (plans : List Plan) (k : ℕ) → AreSeated plans old
    → IsUnderWay image plans order (stations old) old.hub (k * length order)
    → IsUnderWay image plans order (stations new) new.hub ((k + 1) * length order))
    → left new ≤ left old → GoesRounds order old new
one_round order old new joined count seated goes no_more = record {
  joined = joined;
  count = count;
  seated = seated;
  goes = λ image plans k at_plans w. (k + 1, goes image plans k at_plans w);
  no_more = no_more;
}

pub more_rounds : (order : List ℕ) (old mid new : Driver) → GoesRounds order old mid → GoesRounds order mid new
    → GoesRounds order old new
more_rounds order old mid new first then_on = record {
  joined = then_on.joined;
  count = then_on.count ∙ first.count;
  seated = λ plans seated. then_on.seated plans (first.seated plans seated);
  goes = λ image plans k seated w.
      let far = first.goes image plans k seated w in
      then_on.goes image plans far.0 (first.seated plans seated) far.1;
  no_more = omega (arith, first.no_more, then_on.no_more);
}

-- one round more
pub rounds_on : (order : List ℕ) (old mid new : Driver) → GoesRounds order old mid → AreJoined new
    → vec_len new.seats ≡ vec_len mid.seats → ((plans : List Plan) → AreSeated plans mid → AreSeated plans new)
    → ((image : ImageParts) (plans : List Plan) (k : ℕ) → AreSeated plans mid
    → IsUnderWay image plans order (stations mid) mid.hub (k * length order)
    → IsUnderWay image plans order (stations new) new.hub ((k + 1) * length order))
    → left new ≤ left mid → GoesRounds order old new
rounds_on order old mid new first joined count seated goes no_more =
    more_rounds order old mid new first (one_round order mid new joined count seated goes no_more)

-- a run that has taken some rounds from its start
pub from_start : (order : List ℕ) (old new : Driver) → GoesRounds order old new → (image : ImageParts) (plans : List Plan)
    → AreSeated plans old → IsUnderWay image plans order (stations old) old.hub 0
    → (n : ℕ) × IsUnderWay image plans order (stations new) new.hub (n * length order)
from_start order old new on image plans seated w =
    let none : ◌≡◌ {A = ℕ} 0 (0 * length order) = omega arith in
    on.goes image plans 0 seated (subst (IsUnderWay image plans order (stations old) old.hub) none w)
