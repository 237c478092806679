use Rattle.std.proofs.Common.{refl, sym, ◌∙◌}
use Rattle.cl_rank.proofs.QuickHandles.{known_as, known_open, known_wait}
use Rattle.cl_rank.proofs.quick_handles.at_handle.Goals as goal
use Rattle.cl_rank.proofs.quick_handles.at_handle.Goals.{in-Irecv+in_ok-opened-in-Irecv, in-Wait+in_ok-row-in-Wait}

pub returns-clause-known : goal.returns-clause-known
returns-clause-known c = elim c.match-call.branch [
  | in-Irecv+in_ok-opened-in-Irecv w ↦ known_as c.args.state.now c.args.hart w.in-Irecv.is w.row-is
      (known_open c.args.state.now c.args.hart c.index-at.result.now w.in-Irecv.receiving w.in_ok-opened-in-Irecv.row
      w.in_ok-opened-in-Irecv.request c.index-at.ensures c.requires (c.if-not-is_at_call.ensures.running refl)
      (c.if-not-is_at_call.ensures.ecall refl) (sym w.in-Irecv.is ∙ c.of-call.ensures) w.in_ok-opened-in-Irecv.ensures)
  | in-Wait+in_ok-row-in-Wait w ↦ known_as c.args.state.now c.args.hart w.in-Wait.is w.row-is
      (known_wait c.args.state.now c.args.hart c.index-at.result.now w.in-Wait.completing w.in_ok-row-in-Wait.row
      w.in_ok-row-in-Wait.request c.index-at.ensures c.requires (c.if-not-is_at_call.ensures.running refl)
      (c.if-not-is_at_call.ensures.ecall refl) (sym w.in-Wait.is ∙ c.of-call.ensures) w.in_ok-row-in-Wait.ensures)
]
