use Rattle.std.proofs.Common.{◌≡◌, ◌∙◌, [], ap, length, sym}
use Rattle.clap.specs.Words.{is_simple, is_simple_and_free}
use Rattle.rvmc_cli.specs.Meaning.{faults_in}
use Rattle.rvmc_cli.proofs.FromClap.{command_is, faults_are, has_matches, is_exact, nonempty, refused_words, taken, texts, told}
use Rattle.rvmc_cli.proofs.parsing.parse.Goals as goal

pub returns-in-Err-clause-parsed : goal.returns-in-Err-clause-parsed
returns-in-Err-clause-parsed c =
    let ws = c.args.words.now in
    let app = c.in_ok-rvmc.ensures.app in
    let some = nonempty (length ws) (sym c.is_empty.ensures ∙ c.if-is_empty.false) in
    refused_words ws c.in-Err.error _ _ some app c.shown.ensures (c.in-Err.ensures.kinds (ap is_simple_and_free app ∙ is_exact))

pub returns-in-Ok-clause-parsed : goal.returns-in-Ok-clause-parsed
returns-in-Ok-clause-parsed c =
    let ws = c.args.words.now in
    let app = c.in_ok-rvmc.ensures.app in
    let some = nonempty (length ws) (sym c.is_empty.ensures ∙ c.if-is_empty.false) in
    let none : faults_in (texts ws) ≡ [] = sym (faults_are _ (texts ws) app) ∙ c.in-Ok.ensures.kinds (ap is_simple_and_free app ∙ is_exact) in
    let found = (c.in-Ok.ensures.matches (ap is_simple app ∙ has_matches)).1 ∙ command_is _ (texts ws) app in
    told ws _ _ (taken ws _ some none (sym found)) none c.told.ensures
