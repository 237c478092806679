use Rattle.std.proofs.Common.{◌≡◌, None, ap, arith, option_map, sym, ◌∙◌}
use Rattle.std.proofs.lemmas.Option.{slice_get_within}
use Rattle.cl_names_laws.specs.Named.{open_by}
use Rattle.cl_alike.proofs.Lists.{below_more, mapped_by, read_at}
use Rattle.cl_alike.proofs.harts.are_alike_slots.Goals as goal

pub returns : goal.returns
returns c = λ naming listed its.
    mapped_by (option_map (open_by naming)) c.args.slots.now c.args.others.now (omega (arith, c.if-slots-others.false))
    (λ i x y at there.
    let inside = slice_get_within c.args.slots.now i x at in
    c.loop-slot.invariant naming listed i (omega (arith, inside, c.loop-slot-test.false)) x y at there)

pub loop-slot-preserved : goal.loop-slot-preserved
loop-slot-preserved c = λ naming listed.
    below_more (λ x y. y ≡ option_map (open_by naming) x) c.args.slots.now c.args.others.now c.loop-slot.slot
    (c.loop-slot.invariant naming listed)
    (λ x y at there.
    let its = c.is_alike_slot.ensures naming listed c.if-not-is_alike_slot.false in
    sym (read_at c.args.others.now c.loop-slot.slot y None there)
    ∙ (its ∙ ap (option_map (open_by naming)) (read_at c.args.slots.now c.loop-slot.slot x None at)))
