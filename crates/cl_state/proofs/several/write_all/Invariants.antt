use Rattle.std.proofs.Common.{◌≡◌, ◌++◌, ◌+◌, ◌*◌, ◌≤◌, ◌||◌, length}
use Rattle.std.specs.List.{list_any}
use Rattle.arrayvec.specs.ArrayVec.{array_vec_len}
use Rattle.cl_state.specs.Deals.{given_in}
use Rattle.cl_state.specs.Several.{Given, given, pendings, statuses_of, with_all_bytes}
use Rattle.cl_state.specs.Writes.{IsEnough, how_many, messages_then, statuses_from}
use Rattle.cl_state.proofs.several.write_all.Given as goal

abbrev pub invariant-loop-handle : goal.invariant-loop-handle
invariant-loop-handle l = record {
  memory :
      with_all_bytes l.initial.memory (given_in l.deal l.requests)
      ≡ with_all_bytes l.memory (given l.deal.site.now (pendings l.requests l.rest) l.behind);
  statuses :
      l.statuses.items ++ statuses_of (given l.deal.site.now (pendings l.requests l.rest) l.behind)
      ≡ statuses_of (given_in l.deal l.requests);
  pages : how_many l.memory.pages + l.spares ≡ how_many l.initial.memory.pages + l.initial.spares;
  enough :
      IsEnough l.memory.pages l.spares
      (messages_then l.requests l.rest (statuses_from l.deal.address (length l.deal.handles.now)));
  room : array_vec_len l.statuses + 24 * length l.rest ≤ 6120;
  truncated :
      list_any (λ (g : Given). g.truncated) (given_in l.deal l.requests)
      ≡ (l.truncated
      || list_any (λ (g : Given). g.truncated) (given l.deal.site.now (pendings l.requests l.rest) l.behind));
}

abbrev pub decreases-loop-handle : goal.decreases-loop-handle
decreases-loop-handle l = length l.rest
