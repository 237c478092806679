use Rattle.std.proofs.Common.{◌≡◌, ◌++◌, List, ℕ, subst}
use Rattle.std.specs.Prelude.{IfOk, codes, string_bytes}
use Rattle.std.specs.Fmt.{decimal}
use Rattle.rvmc_report.specs.Report.{newline}
use Rattle.rvmc_inspect.proofs.unreceived.head.Goals as goal

pub returns : goal.returns
returns c =
    subst (λ (word : List ℕ). IfOk c.format.result (λ text. string_bytes text
    ≡ codes "rank "
    ++ (decimal c.args.rank
    ++ (codes " unreceived: " ++ (decimal c.args.count ++ (codes " " ++ (word ++ newline)))))))
    c.message_word-word.ensures c.format.ensures.ok
