use Rattle.std.proofs.Common.{◌≡◌, ◌++◌, length}
use Rattle.cl_record.specs.Loading.{AreLoaded}
use Rattle.cl_record.proofs.loading.load_each.Given as goal

abbrev pub invariant-loop-own : goal.invariant-loop-own
invariant-loop-own l = record {
  rest : l.yielded ++ l.own-iterator.rest.items ≡ l.fn.ends.items;
  loaded : AreLoaded l.image l.plans l.fn.ends.items (length l.yielded) l.seats.items;
}
