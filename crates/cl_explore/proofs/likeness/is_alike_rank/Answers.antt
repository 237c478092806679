use Rattle.std.proofs.Common.{ap, map, sym, ◌∙◌}
use Rattle.cl_names_laws.specs.Named.{hart_by, table_by}
use Rattle.cl_state.specs.Room.{rank_of}
use Rattle.mp_request.specs.Kept.{whole_table}
use Rattle.cl_explore.proofs.Alike.{rank_alike}
use Rattle.cl_explore.proofs.Fronts.{filled_by}
use Rattle.cl_explore.proofs.likeness.is_alike_rank.Goals as goal
use Rattle.cl_explore.proofs.likeness.is_alike_rank.Goals.{then-is_same_beside, else-is_same_beside}

pub returns-then-are_alike_harts : goal.returns-then-are_alike_harts
returns-then-are_alike_harts c = λ naming listed its site. elim c.if-is_same_beside.branch [
  | then-is_same_beside w ↦
      rank_alike naming (rank_of c.args.rank.now) c.args.kept.now site (c.is_same_beside.ensures.0 w.if-is_same_beside.true)
      (sym w.harts.ensures
      ∙ (w.are_alike_harts.ensures naming listed (sym w.value-is ∙ c.if-are_alike_harts.true)
      ∙ ap (map (hart_by naming)) w.as_slice.ensures.value))
      (sym (c.front-then-are_alike_harts.ensures ∙ c.requests.ensures)
      ∙ ap whole_table (c.are_alike_slots.ensures naming listed its)
      ∙ filled_by naming c.front.result.now ∙ ap (table_by naming) c.front.ensures.filled)
  | else-is_same_beside w ↦ absurd (let v = w.value-is in let t = c.if-are_alike_harts.true in cc)
]
