use Rattle.std.proofs.Common.{◌≡◌, ◌++◌, length}
use Rattle.cl_record.specs.Leaving.{HaveLeft}
use Rattle.cl_threads.proofs.leaving.leave.Given as goal

abbrev pub invariant-loop-one : goal.invariant-loop-one
invariant-loop-one l = record {
  rest : l.yielded ++ l.one-iterator.rest.items ≡ l.fn.done.items;
  left : HaveLeft (length l.fn.done.items) (length l.hub.links) l.yielded l.lists;
}
