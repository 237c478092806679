-- The idle turn of a stopped hart ends no motion.
use Rattle.std.specs.Prelude.{◌≡◌, ◌&&◌, Bool, true, false}
use Rattle.std.proofs.Common.{refl}
use Rattle.rvmc_motions.specs.Laws.{IdleLaw}
use Rattle.rvmc_motions.specs.Turns.{is_meant}

-- nothing with a false part holds
neither : (a b : Bool) → (a && (false && b)) ≡ false
neither true b = refl
neither false b = refl

pub idle_law : IdleLaw
idle_law = record {
  breaks = λ rank marks hart stopped. rw stopped refl;
  steps = λ mover turn hart behind stopped. rw stopped (rw (neither (is_meant mover turn) _) refl);
}
