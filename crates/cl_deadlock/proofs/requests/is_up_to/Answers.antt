use Rattle.std.specs.Prelude.{◌↔◌}
use Rattle.std.proofs.Common.{◌≡◌, true, sym, subst, inl, inr}
use Rattle.mp_hub.specs.Vain.{asks_in_vain}
use Rattle.mp_wait_laws.specs.Waits.{IsUpTo}
use Rattle.cl_deadlock_laws.specs.Stuck.{is_among, is_member}
use Rattle.cl_deadlock.proofs.Unready.{collected, finished}
use Rattle.cl_deadlock.proofs.requests.is_up_to.Goals as goal

pub returns-in-Collect : goal.returns-in-Collect
returns-in-Collect c = λ vain.
    let h = c.args.hub.now in
    let rank = c.args.rank in
    let member = is_member c.args.site.now in
    let among = is_among c.args.among.now in
    elim c.in-Collect.is [
      | inl is ↦
          subst (λ q. (c.could_only_pair.result ≡ true) ↔ IsUpTo member among h rank q) (sym is)
          (c.could_only_pair.ensures rank
          (collected h rank c.in-Collect.post (subst (λ q. asks_in_vain h rank q ≡ true) is vain)))
      | inr is ↦
          subst (λ q. (c.could_only_pair.result ≡ true) ↔ IsUpTo member among h rank q) (sym is)
          (c.could_only_pair.ensures rank
          (finished h rank c.in-Collect.post (subst (λ q. asks_in_vain h rank q ≡ true) is vain)))
    ]
