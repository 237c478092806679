use Rattle.std.specs.Prelude.{◌↔◌}
use Rattle.std.proofs.Common.{◌≡◌, true, sym, subst}
use Rattle.cl_deadlock_laws.specs.Stuck.{AsksInVain, is_among, is_member}
use Rattle.cl_deadlock.proofs.Told.{unsent, untaken, waits}
use Rattle.cl_deadlock.proofs.harts.asks_in_vain.Goals as goal

pub returns-in-Hub : goal.returns-in-Hub
returns-in-Hub c = λ image cluster stands.
    let told = c.is_in_vain.ensures in
    let law = waits image c.args.state.now cluster stands (is_member c.args.site.now) (is_among c.args.among.now)
    c.args.rank _ in
    subst (λ a. (c.is_in_vain.result ≡ true) ↔ AsksInVain c.args.among.now cluster c.args.rank c.args.site.now a)
    (sym c.in-Hub.is) (λ its. law.0 (told.0 its), λ its. told.1 (law.1 its))

pub returns-in-Look : goal.returns-in-Look
returns-in-Look c = λ image cluster stands.
    let told = c.is_unsent.ensures in
    let law = unsent image c.args.state.now cluster stands (is_among c.args.among.now) _ _ in
    subst (λ a. (c.is_unsent.result ≡ true) ↔ AsksInVain c.args.among.now cluster c.args.rank c.args.site.now a)
    (sym c.in-Look.is) (λ its. law.0 (told.0 its), λ its. told.1 (law.1 its))

pub returns-in-Freed : goal.returns-in-Freed
returns-in-Freed c = λ image cluster stands.
    let told = c.is_untaken.ensures in
    let law = untaken image c.args.state.now cluster stands (is_among c.args.among.now) _ _ in
    subst (λ a. (c.is_untaken.result ≡ true) ↔ AsksInVain c.args.among.now cluster c.args.rank c.args.site.now a)
    (sym c.in-Freed.is) (λ its. law.0 (told.0 its), λ its. told.1 (law.1 its))
