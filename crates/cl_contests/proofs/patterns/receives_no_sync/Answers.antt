use Rattle.std.proofs.Common.{[], sym, subst}
use Rattle.std.proofs.lemmas.Bool.{not-true}
use Rattle.mp_types.specs.declared.requests.Request.TheVariants as calls
use Rattle.mp_clash_laws.specs.Exchanges.{NoSync}
use Rattle.cl_contests.proofs.Passing.{is_other, receive_no_sync, receive_standard, send_no_sync}
use Rattle.cl_contests.proofs.patterns.receives_no_sync.Goals as goal

pub returns-in-Send : goal.returns-in-Send
returns-in-Send c = λ its s comm.
    subst (λ q. NoSync c.args.rank q s (calls.Send c.args.sync comm c.args.dest 0 [])) (sym c.in-Send.is)
    (send_no_sync c.args.rank s c.in-Send.comm c.in-Send.dest c.in-Send.tag c.in-Send.sync c.args.sync c.in-Send.bytes
    c.args.dest comm)

pub returns-then-not-sync : goal.returns-then-not-sync
returns-then-not-sync c = λ its s comm.
    subst (λ q. NoSync c.args.rank q s (calls.Send c.args.sync comm c.args.dest 0 [])) (sym c.in-Recv.is)
    (receive_standard c.args.rank s c.in-Recv.comm c.args.dest comm c.in-Recv.now c.in-Recv.source c.in-Recv.tag c.args.sync
    (not-true c.args.sync its))

pub returns-else-not-sync : goal.returns-else-not-sync
returns-else-not-sync c = λ its s comm.
    subst (λ q. NoSync c.args.rank q s (calls.Send c.args.sync comm c.args.dest 0 [])) (sym c.in-Recv.is)
    (receive_no_sync c.args.rank s c.in-Recv.comm c.args.dest comm c.in-Recv.now c.in-Recv.source c.in-Recv.tag c.args.sync
    (is_other c.args.dest c.args.rank its))
