use Rattle.std.proofs.Common.{arith, refl, sym, ◌∙◌}
use Rattle.std.proofs.lemmas.Option.{slice_get_within}
use Rattle.mp_alike.specs.InnerAlike.{KeepsSend}
use Rattle.mp_alike.proofs.posts.keeps_sends_behind.Goals as goal
use borrow.Author.Count.{below_more}

pub loop-behind-preserved : goal.loop-behind-preserved
loop-behind-preserved c =
    below_more (KeepsSend c.args.to.now c.args.lines.now c.args.place c.args.s.now) c.loop-behind.behind
    c.loop-behind.invariant (c.keeps_send.ensures.0 c.if-not-keeps_send.false)

pub returns-then-not-keeps_send : goal.returns-then-not-keeps_send
returns-then-not-keeps_send c = (
  λ is. absurd (cc),
  λ keeps. sym c.if-not-keeps_send.true ∙ c.keeps_send.ensures.1 (keeps c.loop-behind.behind),
)

pub returns : goal.returns
returns c = (
  λ is behind t before there.
      (let within = slice_get_within c.args.lines.now behind _ there in
      c.loop-behind.invariant behind (omega (arith, within, c.loop-behind-test.false)) t before there),
  λ keeps. refl,
)
