use Rattle.std.proofs.Common.{Bool, [], sym, subst, ◌∙◌}
use Rattle.std.proofs.lemmas.Bool.{not-true}
use Rattle.mp_types.specs.declared.requests.Request.TheVariants as calls
use Rattle.mp_clash_laws.specs.Exchanges.{NoRace}
use Rattle.cl_contests.specs.Kept.{wild_of}
use Rattle.cl_contests.proofs.Passing.{all_named}
use Rattle.cl_contests.proofs.patterns.Patterns.makes_no_race.Goals as goal

pub returns-else-other-comm : goal.returns-else-other-comm
returns-else-other-comm c = λ its.
    let wild = wild_of c.args.self.now.kept.items in
    let law = all_named wild c.in-Send.own c.in-Send.other c.in-Send.tag c.in-Send.sync c.in-Send.bytes c.args.dest c.args.comm
    (sym c.has.ensures ∙ not-true c.has.result its) in
    subst (λ q. (sync : Bool) → NoRace wild q (calls.Send sync c.args.comm c.args.dest 0 [])) (sym c.in-Send.is) law
