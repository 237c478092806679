use Rattle.std.proofs.Common.{◌∙◌, ◌++◌, List, ℕ, ap, append_assoc, get_or, subst, sym, take}
use Rattle.std.proofs.lemmas.List.{take_more}
use Rattle.rvmc_gdb.specs.Talks.{Serves, Takes}
use Rattle.rvmc_gdb.proofs.Walks.{more}
use Rattle.rvmc_gdb.proofs.server.Server.serve.Goals as goal

pub loop-byte-preserved : goal.loop-byte-preserved
loop-byte-preserved c =
    let bytes = c.args.bytes.now in
    let i = c.loop-byte.byte-index in
    let old = c.args.self.now in
    let so_far = c.loop-byte.invariant in
    let one = c.in_ok-take.ensures in
    let all = more Takes old (take i bytes) (get_or bytes i 0) c.loop-byte.self c.take.new.self so_far.0 one.0 so_far.1 one.1 in (
      so_far.0 ++ one.0,
      subst (λ (bs : List ℕ). Serves old bs c.take.new.self (so_far.0 ++ one.0)) (sym (take_more bytes i 0 c.loop-byte-test.true)) all,
      one.2 ∙ ap (λ (t : List ℕ). t ++ one.0) so_far.2 ∙ append_assoc c.args.out.now.items so_far.0 one.0,
    )
