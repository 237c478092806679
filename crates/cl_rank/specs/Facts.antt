-- What a rank keeps are facts: of each there is one proof at most.
use Rattle.std.specs.Prelude.{ℕ, Bool, Option, Some, None, List}
use Rattle.std.specs.Coded.{le_prop}
use Rattle.std.proofs.Math.Bool.{Bool-discrete}
use Rattle.std.proofs.Math.Nat.{ℕ_set}
use mathlib.Core.HLevel.{hedberg}
use mathlib.Core.List.{List-discrete}
use Rattle.part_channel.specs.Receiving.{RecvView}
use Rattle.part_channel.specs.Sending.{SendView}
use Rattle.part_phase.specs.declared.phases.Phase.{Phase}
use Rattle.part_phase.specs.declared.phases.Phase.TheVariants.{Apart, Sending, Receiving}
use Rattle.rv_image_types.specs.declared.images.ImageVersion.{ImageVersion}
use Rattle.cl_sides.specs.Sides.{AreSides, PhaseFits, Sides}

mark_set : IsSet Bool
mark_set = hedberg Bool-discrete

marks_set : IsSet (List Bool)
marks_set = hedberg (List-discrete Bool-discrete)

pub fits_fact : (P : Option Phase) (S : Option SendView) (R : Option RecvView) → IsProp (PhaseFits P S R)
fits_fact None None None = hlevel (ℕ_set, mark_set, marks_set)
fits_fact None None (Some r) = hlevel (ℕ_set, mark_set, marks_set)
fits_fact None (Some s) None = hlevel (ℕ_set, mark_set, marks_set)
fits_fact None (Some s) (Some r) = hlevel (ℕ_set, mark_set, marks_set)
fits_fact (Some Apart) None None = hlevel (ℕ_set, mark_set, marks_set)
fits_fact (Some Apart) None (Some r) = hlevel (ℕ_set, mark_set, marks_set)
fits_fact (Some Apart) (Some s) None = hlevel (ℕ_set, mark_set, marks_set)
fits_fact (Some Apart) (Some s) (Some r) = hlevel (ℕ_set, mark_set, marks_set)
fits_fact (Some (Sending p)) None None = hlevel (ℕ_set, mark_set, marks_set)
fits_fact (Some (Sending p)) None (Some r) = hlevel (ℕ_set, mark_set, marks_set)
fits_fact (Some (Sending p)) (Some s) None = hlevel (ℕ_set, mark_set, marks_set)
fits_fact (Some (Sending p)) (Some s) (Some r) = hlevel (ℕ_set, mark_set, marks_set)
fits_fact (Some (Receiving p)) None None = hlevel (ℕ_set, mark_set, marks_set)
fits_fact (Some (Receiving p)) None (Some r) = hlevel (ℕ_set, mark_set, marks_set)
fits_fact (Some (Receiving p)) (Some s) None = hlevel (ℕ_set, mark_set, marks_set)
fits_fact (Some (Receiving p)) (Some s) (Some r) = hlevel (ℕ_set, mark_set, marks_set)

pub are_sides_fact : (v : ImageVersion) (ps : List Phase) (clock : ℕ) (sides : Sides)
    → IsProp (AreSides v ps clock sides)
are_sides_fact v ps clock sides = hlevel (fits_fact, le_prop, ℕ_set)
