use Rattle.std.proofs.Common.{◌≡◌, ◌++◌, List, length}
use Rattle.cl_record.specs.Leaving.{HaveLeft}
use Rattle.cl_record.specs.declared.done.Done.{Done}
use Rattle.cl_run.specs.Driver.{AreDone}
use Rattle.cl_run.proofs.driver.Driver.into_record.Given as goal

abbrev pub invariant-loop-seat : goal.invariant-loop-seat
invariant-loop-seat l = record {
  rest : l.yielded ++ l.seat-iterator.rest.items ≡ l.fn.self.seats.items;
  left : (all : List Done) × AreDone l.yielded all
      × HaveLeft (length l.fn.self.seats.items) (length l.fn.self.hub.links) all l.lists;
}
