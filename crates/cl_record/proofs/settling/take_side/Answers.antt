use Rattle.std.proofs.Common.{◌∙◌, sym, ap, Some, slice_get}
use Rattle.std.proofs.lemmas.Option.{same_Some, slice_get-get_or, slice_get_within}
use Rattle.cl_rank.specs.RankSides.{side_of}
use Rattle.cl_record.proofs.Sides.{first_of, others_of}
use Rattle.cl_record.proofs.settling.take_side.Goals as goal

pub returns-clause-side : goal.returns-clause-side
returns-clause-side g c =
    let sides = c.args.sides.now.items in
    let first = c.place_in-place.ensures in
    let place = c.place_in-place.result in
    let there = ap (λ xs. slice_get xs place) (sym c.as_slice.ensures.value) ∙ first.there in
    let read = slice_get-get_or sides place c.remove-side.result (slice_get_within sides place _ there) in
    let is = same_Some _ _ (sym there ∙ read ∙ ap Some (sym c.remove-side.ensures.value)) in
    first_of sides place c.args.link first.side there
    (λ k other below at. first.first k other below (ap (λ xs. slice_get xs k) c.as_slice.ensures.value ∙ at))
    ∙ ap (λ x. Some x.1) is

pub returns-clause-others : goal.returns-clause-others
returns-clause-others g c = λ other ne.
    let sides = c.args.sides.now.items in
    let first = c.place_in-place.ensures in
    let place = c.place_in-place.result in
    let there = ap (λ xs. slice_get xs place) (sym c.as_slice.ensures.value) ∙ first.there in
    ap (side_of other) c.remove-side.ensures.items ∙ others_of sides place c.args.link other first.side there ne
