use Rattle.std.proofs.Common.{◌≡◌, refl, sym, subst, true}
use Rattle.std.specs.Prelude.{◌↔◌}
use Rattle.mp_match.specs.Board.{line_of}
use Rattle.mp_wait_laws.specs.Waits.{OnlyOf}
use Rattle.cl_deadlock_laws.specs.Stuck.{is_among, is_member}
use Rattle.cl_deadlock.proofs.Senders.{none_left, same_pairs}
use Rattle.cl_deadlock.proofs.among.could_only_pair.Goals as goal

pub returns-in-None : goal.returns-in-None
returns-in-None c = λ rank not_ready. (
  λ its. none_left (is_among c.args.among.now) (is_member c.args.site.now) c.args.hub.now rank c.args.post
      (c.in-None.ensures.none refl) not_ready,
  λ only. refl,
)

pub returns-in-Some : goal.returns-in-Some
returns-in-Some c = λ rank not_ready.
    subst (λ f. (c.could_only_make.result ≡ true) ↔ OnlyOf (is_among c.args.among.now) f)
    (sym (same_pairs (is_member c.args.site.now) (line_of c.args.hub.now.board c.args.post) c.in-Some.live
    c.in-Some.ensures.some)) c.could_only_make.ensures
