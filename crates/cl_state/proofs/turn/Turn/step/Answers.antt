use Rattle.std.proofs.Common.{◌≡◌, refl, sym, ap}
use Rattle.std.specs.Prelude.{IsOk, Result, Ok, Err}
use Rattle.rv_hart.specs.Effect.{After}
use Rattle.cl_state.proofs.Pages.{one_enough, step_total}
use Rattle.cl_state.proofs.turn.Turn.step.Goals as goal

not_ok : {A E : Type 0} (r : Result A E) (e : E) → r ≡ Err e → IsOk r → ⊥
not_ok (Ok x) e is ok = cc
not_ok (Err y) e is ok = cc

pub unreachable-requires : goal.unreachable-requires
unreachable-requires c =
    not_ok c.step_with.result c.in_default.field-0 c.in_default.is
    (c.step_with.ensures.enough (one_enough c.args.self.now.memory.now.pages c.args.self.now.spares.now _ _
    c.requires.pages))

pub returns : goal.returns
returns c =
    let after = c.in-Ok.ensures.effect in
    let total = step_total c.args.self.now.hart.now c.args.self.now.memory.now c.step_with.new.memory
    c.args.self.now.spares.now c.step_with.new.spares (ap (λ (x : After). x.memory) after) c.in-Ok.ensures.taken in
    record {
      part = ap (λ (x : After). record {
        hart = x.state;
        memory = x.memory;
        requests = c.args.self.now.requests.now;
        phases = c.args.self.now.phases.now;
        out = c.args.self.now.out.now.items;
      }) after;
      site = refl;
      number = refl;
      hart = refl;
      memory = refl;
      spares = refl;
      requests = refl;
      phases = refl;
      out = refl;
      pages = total;
    }
