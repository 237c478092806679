use Rattle.std.proofs.Common.{ℕ, arith, refl, sym, ◌∙◌}
use Rattle.std.proofs.lemmas.Option.{slice_get_within}
use Rattle.mp_match.specs.declared.posts.Sent.{Sent}
use Rattle.mp_alike_laws.specs.Alike.{IsUnpaired}
use Rattle.mp_alike.specs.InnerAlike.{KeepsSend}
use Rattle.mp_alike.proofs.posts.keeps_sends.Goals as goal
use borrow.Author.Count.{below_more}

pub loop-place-preserved : goal.loop-place-preserved
loop-place-preserved c =
    below_more (λ k. (s : Sent) → IsUnpaired c.args.lines.now k s → (behind : ℕ)
    → KeepsSend c.args.to.now c.args.lines.now k s behind) c.loop-place.place
    c.loop-place.invariant (c.keeps_sends_at.ensures.0 c.if-not-keeps_sends_at.false)

pub returns-then-not-keeps_sends_at : goal.returns-then-not-keeps_sends_at
returns-then-not-keeps_sends_at c = (
  λ is. absurd (cc),
  λ keeps. sym c.if-not-keeps_sends_at.true ∙ c.keeps_sends_at.ensures.1 (keeps c.loop-place.place),
)

pub returns : goal.returns
returns c = (
  λ is place s there.
      (let within = slice_get_within c.args.lines.now place _ there in
      c.loop-place.invariant place (omega (arith, within, c.loop-place-test.false)) s there),
  λ keeps. refl,
)
