use Rattle.std.proofs.Common.{None, false, sym, subst}
use Rattle.std.proofs.lemmas.Bool.{not-true}
use Rattle.mp_types.specs.declared.requests.Request.TheVariants as calls
use Rattle.mp_clash_laws.specs.Exchanges.{NoSync}
use Rattle.cl_contests.proofs.Passing.{is_other, sent_no_sync, sent_standard}
use Rattle.cl_contests.proofs.patterns.sends_no_sync.Goals as goal

pub returns-then-not-sync : goal.returns-then-not-sync
returns-then-not-sync c = λ its r.
    subst (λ q. NoSync r q c.args.other (calls.Recv false 0 None None)) (sym c.in-Send.is)
    (sent_standard r c.args.other c.in-Send.comm c.in-Send.dest c.in-Send.tag c.in-Send.sync c.in-Send.bytes
    (not-true c.in-Send.sync its))

pub returns-else-not-sync : goal.returns-else-not-sync
returns-else-not-sync c = λ its r.
    subst (λ q. NoSync r q c.args.other (calls.Recv false 0 None None)) (sym c.in-Send.is)
    (sent_no_sync r c.args.other c.in-Send.comm c.in-Send.dest c.in-Send.tag c.in-Send.sync c.in-Send.bytes
    (is_other c.in-Send.dest c.args.other its))

pub returns-in-Recv : goal.returns-in-Recv
returns-in-Recv c = λ its r.
    subst (λ q. NoSync r q c.args.other (calls.Recv false 0 None None)) (sym c.in-Recv.is) tt
