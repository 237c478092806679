use Rattle.std.proofs.Common.{◌≡◌, refl, sym, subst, below_more, false, get_or, arith}
use Rattle.std.proofs.lemmas.Bool.{iff_false}
use Rattle.std.proofs.lemmas.Option.{get_or_from_slice_get, slice_get-get_or, slice_get_within}
use Rattle.mp_match.specs.Board.{line_of}
use Rattle.mp_hub.specs.Hub.{is_ready}
use Rattle.mp_wait_laws.specs.Waits.{OnlyOf, could_pair}
use Rattle.cl_deadlock_laws.specs.Stuck.{is_among, is_member}
use Rattle.cl_deadlock.proofs.requests.has_one_up_to.Goals as goal

pub loop-place-preserved : goal.loop-place-preserved
loop-place-preserved c =
    below_more _ _ c.loop-place.invariant (λ both. iff_false c.holds_back.ensures c.if-holds_back.false both)

pub returns-then-holds_back : goal.returns-then-holds_back
returns-then-holds_back c =
    let both = c.holds_back.ensures.0 c.if-holds_back.true in (
      λ its. (
        c.loop-place.place,
        get_or c.args.posts.now c.loop-place.place 0,
        slice_get-get_or c.args.posts.now c.loop-place.place 0 c.loop-place-test.true,
        both.0,
        both.1,
      ),
      λ some. refl,
    )

pub returns : goal.returns
returns c = (
  λ no. absurd (cc),
  λ some.
      let posts = c.args.posts.now in
      let inside = slice_get_within posts some.0 some.1 some.2 in
      let same : get_or posts some.0 0 ≡ some.1 = get_or_from_slice_get posts some.0 some.1 0 some.2 in
      absurd
      (c.loop-place.invariant some.0 (omega (arith, inside, c.loop-place-test.false))
      (subst (λ p. (is_ready c.args.hub.now c.args.rank p ≡ false)
      × OnlyOf (is_among c.args.among.now) (could_pair (is_member c.args.site.now) (line_of c.args.hub.now.board p)))
      (sym same) (some.3, some.4))),
)
