use Rattle.std.specs.Prelude.{◌≡◌, ◌++◌, ℕ, List, codes}
use Rattle.std.proofs.Common.{◌∙◌, ap, subst}
use Rattle.rvmc_tool.specs.Below.{Connection, Ended, Serves, flow_of}
use Rattle.test_program.proofs.Leaving.{ends}
use Rattle.test_program.proofs.Results.{ok_with}
use Rattle.test_program.proofs.gdb.who_has_left_is_heard_no_more.Goals as goal

pub returns : goal.returns
returns c = λ serving is.
    let old = c.args.server.now in
    let new = c.serve.new.self in
    let out = c.args.out.now.items in
    let behind = c.serve.new.out.items in
    ok_with c.serve.result
    ((text : List ℕ) × Serves old (codes "$D#44") new text × (behind ≡ out ++ text))
    (λ flow. flow ≡ flow_of new.talk.ended) (λ flow. flow ≡ Ended)
    (λ served flow told.
    let serves = subst (λ (s : Connection). Serves s (codes "$D#44") new served.0) is served.1 in
    told ∙ ap flow_of (ends c.heard_law.ensures serving new served.0 serves))
    c.serve.ensures.serves c.serve.ensures.flow
