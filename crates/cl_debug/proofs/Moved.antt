-- Where moves lead, and what they keep.
use Rattle.std.proofs.Common.{◌≡◌, ◌+◌, ◌≤◌, inl, inr, length, ap, ◌∙◌, true≢false, arith}
use Rattle.cl_debug.specs.Debugging.{Debugging, at_place}
use Rattle.cl_debug.specs.Laws.{BackLaw, GoesOnLaw}
use Rattle.cl_debug.specs.Places.{IsStop}

pub back_law : BackLaw
back_law old mid new (inr (stayed, there, rest)) back = absurd (true≢false stayed)
back_law old mid new (inl moved) (inr (stayed, there, rest)) = absurd (true≢false stayed)
back_law old mid new (inl (moved, within, on)) (inl (back, before, is)) =
    let there : mid.place ≡ old.place + 1 = ap (λ (d : Debugging). d.place) on in
    let same : new.place ≡ old.place = omega (arith, before, there) in
    is ∙ ap (λ (d : Debugging). at_place d new.place) on ∙ ap (at_place old) same

onward : (old new : Debugging) → old.place ≤ length old.steps
    → IsStop old.image old.steps old.breaks old.place new.place → old.place ≤ new.place
onward old new within (inl stop) = (let lt = stop.0 in omega (arith, lt))
onward old new within (inr end) = (let e = end.0 in omega (arith, e, within))

pub goes_on_law : GoesOnLaw
goes_on_law old new within (stop, is) = record {
  onward = onward old new within stop;
  image = ap (λ (d : Debugging). d.image) is;
  steps = ap (λ (d : Debugging). d.steps) is;
  breaks = ap (λ (d : Debugging). d.breaks) is;
}
