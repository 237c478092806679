use Rattle.std.proofs.Common.{◌≡◌, vec_len}
use Rattle.cl_state.specs.Rank.{start_harts}
use Rattle.cl_state.proofs.loading.all_harts.Given as goal

abbrev pub invariant-loop-hart : goal.invariant-loop-hart
invariant-loop-hart l = (l.harts.items ≡ start_harts l.parts l.rank l.hart) × (vec_len l.harts ≡ l.hart)
