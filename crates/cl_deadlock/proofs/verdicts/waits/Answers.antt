use Rattle.std.proofs.Common.{◌≡◌, Some, slice_get, subst, ◌∙◌, arith}
use Rattle.std.proofs.lemmas.Option.{slice_get_past, slice_get_read}
use Rattle.cl_deadlock.proofs.Waits.{nobody, there, told}
use Rattle.cl_deadlock.proofs.verdicts.waits.Goals as goal

pub returns-then-place-len : goal.returns-then-place-len
returns-then-place-len c = λ image cluster stands. (
  λ no. absurd (cc),
  λ some.
      let ranks = c.args.state.now.ranks in
      absurd (nobody image c.args.state.now cluster stands c.args.rank (slice_get_past ranks.items c.args.rank
      (omega (arith, c.if-place-len.true, c.from-place.ensures, c.len.ensures, ranks.ok.0))) some),
)

pub returns : goal.returns
returns c = λ image cluster stands.
    let own = c.index-own.result.now in
    let ranks = c.args.state.now.ranks in
    let here = subst (λ r. slice_get ranks.items r ≡ Some own) c.from-place.ensures
    (slice_get_read ranks.items c.len.result c.from-place.result own (c.len.ensures ∙ ranks.ok.0)
    c.if-place-len.false c.index-own.ensures) in (
      λ its. there image c.args.state.now cluster stands c.args.rank own here (c.has_waiting.ensures.0 its),
      λ some. c.has_waiting.ensures.1 (told image c.args.state.now cluster stands c.args.rank own here some),
    )
