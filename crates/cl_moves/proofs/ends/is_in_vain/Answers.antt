use Rattle.std.specs.Prelude.{◌↔◌}
use Rattle.std.proofs.Common.{◌≡◌, true, sym, subst}
use Rattle.cl_state.specs.declared.asking.Ask.{Ask}
use Rattle.cl_order_laws.specs.Closed.{IsInVain}
use Rattle.cl_moves.specs.Ends.{IsFullIn, IsVacantIn}
use Rattle.cl_moves.proofs.Resting.{box_full, box_vacant, hub_in_vain}
use Rattle.cl_moves.proofs.ends.is_in_vain.Goals as goal

pub returns-in-Hub : goal.returns-in-Hub
returns-in-Hub c = λ image cluster stands.
    let law = hub_in_vain image c.args.state.now cluster stands c.args.rank c.in-Hub.request in
    subst (λ a. (c.asks_in_vain.result ≡ true) ↔ IsInVain cluster c.args.rank a) (sym c.in-Hub.is)
    (subst (λ b. (b ≡ true) ↔ IsInVain cluster c.args.rank (Ask.Hub c.in-Hub.request)) (sym c.asks_in_vain.ensures) law)

pub returns-in-Look : goal.returns-in-Look
returns-in-Look c = λ image cluster stands.
    let law = box_vacant image c.args.state.now cluster stands c.args.rank c.in-Look.link c.in-Look.part in
    let told = subst (λ b. (c.is_vacant.result ≡ true) ↔ IsVacantIn b c.in-Look.link c.in-Look.part) c.as_slice-boxes.ensures.value
    c.is_vacant.ensures in
    subst (λ a. (c.is_vacant.result ≡ true) ↔ IsInVain cluster c.args.rank a) (sym c.in-Look.is)
    (λ its. law.0 (told.0 its), λ its. told.1 (law.1 its))

pub returns-in-Freed : goal.returns-in-Freed
returns-in-Freed c = λ image cluster stands.
    let law = box_full image c.args.state.now cluster stands c.args.rank c.in-Freed.link c.in-Freed.part in
    let told = subst (λ b. (c.is_filled.result ≡ true) ↔ IsFullIn b c.in-Freed.link c.in-Freed.part) c.as_slice-boxes.ensures.value
    c.is_filled.ensures in
    subst (λ a. (c.is_filled.result ≡ true) ↔ IsInVain cluster c.args.rank a) (sym c.in-Freed.is)
    (λ its. law.0 (told.0 its), λ its. told.1 (law.1 its))
