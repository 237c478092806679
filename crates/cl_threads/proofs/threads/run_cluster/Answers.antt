use Rattle.std.proofs.Common.{◌≤◌, arith, length, refl, subst, sym}
use Rattle.std.specs.VecDeque.{deque_capacity}
use Rattle.cl_record.specs.Leaving.{HaveRoom}
use Rattle.cl_threads.specs.OnThreads.{AreReady}
use Rattle.cl_threads.proofs.Readied.{all_ready}
use Rattle.cl_threads.proofs.Gathered.{gathered, refused}
use Rattle.cl_threads.proofs.Settled.{count, may_settle}
use Rattle.cl_threads.proofs.threads.run_cluster.Goals as goal

pub run_all-ran-requires-clause-seated : goal.run_all-ran-requires-clause-seated
run_all-ran-requires-clause-seated g c = λ lifetimes lives.
    let cluster = c.args.cluster in
    let loaded = c.requires.loaded in (
      subst (λ channels. AreReady channels cluster.seats.items) (sym c.as_slice.ensures.value)
          (all_ready c.args.image.now cluster.channels.items cluster.seats.items loaded.loaded),
      refl,
      loaded.done_empty,
      subst (λ n. n ≤ deque_capacity cluster.done) (sym loaded.count) loaded.done_room,
    )

pub gather-requires-clause-settle : goal.gather-requires-clause-settle
gather-requires-clause-settle g c =
    may_settle c.args.until c.args.image.now c.args.plans.now c.args.cluster c.in-Ok.done.items c.requires.planned c.requires.loaded
    (rw c.as_slice.ensures.value at c.in-Ok.ensures.done)

pub gather-requires-clause-room : goal.gather-requires-clause-room
gather-requires-clause-room g c =
    let many = count c.args.until c.args.image.now c.args.plans.now c.args.cluster c.in-Ok.done.items c.requires.planned c.requires.loaded
    (rw c.as_slice.ensures.value at c.in-Ok.ensures.done) in
    subst (λ n. HaveRoom n (length c.args.image.now.links) c.args.cluster.lists) (sym many) c.requires.loaded.room

pub gather-requires-clause-few : goal.gather-requires-clause-few
gather-requires-clause-few g c =
    let many = count c.args.until c.args.image.now c.args.plans.now c.args.cluster c.in-Ok.done.items c.requires.planned c.requires.loaded
    (rw c.as_slice.ensures.value at c.in-Ok.ensures.done) in
    omega (arith, many, c.parts-parts.ensures.limits.few_ranks)

pub returns-in-Ok-clause-run : goal.returns-in-Ok-clause-run
returns-in-Ok-clause-run g c =
    gathered c.args.until c.args.image.now c.args.plans.now c.args.cluster c.in-Ok.done.items c.into_inner-hub.result c.gather.result
    c.requires.planned c.requires.loaded (rw c.as_slice.ensures.value at c.in-Ok.ensures.done)
    c.gather.ensures.links c.gather.ensures.replays c.gather.ensures.left c.gather.ensures.tied c.gather.ensures.of

pub returns-in-Ok-clause-fault : goal.returns-in-Ok-clause-fault
returns-in-Ok-clause-fault g c =
    refused c.args.until c.args.image.now c.args.plans.now c.args.cluster c.in-Ok.done.items c.into_inner-hub.result
    c.requires.planned c.requires.loaded (rw c.as_slice.ensures.value at c.in-Ok.ensures.done)
    c.gather.result c.gather.ensures.unlike
