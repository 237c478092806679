use Rattle.std.proofs.Common.{◌≡◌, Some, subst, sym}
use Rattle.std.specs.Prelude.{◌≢◌, IfSome}
use Rattle.rvmc_answers.specs.Below.{Fault}
use Rattle.rvmc_hints.specs.Sources.{IsSo, whole_text}
use Rattle.rvmc_hints.specs.Texts.{hint_text}
use Rattle.rvmc_advice.specs.Hints.{IsBytesHint}
use Rattle.rvmc_advice.proofs.Told.{in_both, told_text}
use Rattle.rvmc_advice.proofs.hints.of_bytes.Goals as goal

pub returns-in-Source : goal.returns-in-Source
returns-in-Source c =
    let at = c.in-Source.fault in
    let hint = c.source_hint.result in
    let told = in_both (at.line ≢ 0) (at.line ≡ 0) (IsSo at.line at.kind)
    (λ h. whole_text at.kind ≡ Some (hint_text h)) hint c.source_hint.ensures.said
    (λ zero. told_text hint_text hint (whole_text at.kind) (c.source_hint.ensures.whole zero)) in
    subst (λ (f : Fault). IfSome hint (IsBytesHint c.args.bytes.now f)) (sym c.in-Source.is) told
