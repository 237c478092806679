use Rattle.std.specs.Prelude.{◌&&◌}
use Rattle.std.specs.Option.{is_some}
use Rattle.std.proofs.Common.{sym, ap, subst, ◌∙◌}
use Rattle.mp_match.specs.Pairs.{admits}
use Rattle.mp_wait_laws.specs.Waits.{OnlyOf}
use Rattle.cl_calls.specs.Site.{members, position_of}
use Rattle.cl_deadlock_laws.specs.Stuck.{is_among}
use Rattle.cl_deadlock.proofs.Senders.{senders_all, senders_only}
use Rattle.cl_deadlock.proofs.among.could_only_send.Goals as goal

pub returns : goal.returns
returns c =
    let among = c.args.among.now in
    let source = c.args.selection.now.source in
    let same = c.members.ensures ∙ ap (members c.args.site.now) c.from.ensures in (
      λ its. subst (λ ms. OnlyOf (is_among among) (λ k. admits source k && is_some (position_of k ms))) same
          (senders_only among c.members.result.now source (sym c.has_senders.ensures ∙ its)),
      λ only. c.has_senders.ensures
          ∙ senders_all among c.members.result.now source
          (subst (λ ms. OnlyOf (is_among among) (λ k. admits source k && is_some (position_of k ms))) (sym same) only),
    )
