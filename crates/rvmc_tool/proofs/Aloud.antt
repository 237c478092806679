-- Lines of progress, and a hint behind them.
use Rattle.std.proofs.Common.{◌∙◌, ℕ, Bool, false, true, List, [], ◌++◌, Option, Some, None, ap}
use Rattle.std.specs.Io.KnownBytes.{Appends, Keeps}
use Rattle.std.proofs.KnownBytes.{Appends-trans}
use Rattle.cl_lines.specs.Progress.{AreProgress}
use Rattle.cl_lines.specs.Telling.{TellsProgress}
use Rattle.rvmc_hints.specs.HintLines.{AppendsHint}
use Rattle.rvmc_advice.proofs.Quiet.{hinted_behind}
use Rattle.rvmc_tool.specs.Progress.{TellsQuietly}

-- a hint alone
pub hint_alone : (wanted : Bool) (old new : Option (List ℕ)) → AppendsHint old new → TellsQuietly wanted old new
hint_alone false old new hinted = hinted
hint_alone true old new (hint, is, appends) = ([], hint, AreProgress.none, is, appends)

-- a hint behind the lines, behind what stayed as it was
pub hint_behind : (wanted : Bool) (old mid told new : Option (List ℕ)) → Keeps old mid → TellsProgress wanted mid told
    → AppendsHint told new → TellsQuietly wanted old new
hint_behind false old mid told new keeps still hinted = hinted_behind old mid new keeps (hinted_behind mid told new still hinted)
hint_behind true old mid told new keeps (lines, are, there) (hint, is, behind) =
    (lines, hint, are, is, kept old mid new keeps (Appends-trans mid told new lines hint there behind))
  where
    kept : (a b c : Option (List ℕ)) → Keeps a b → Appends b c (lines ++ hint) → Appends a c (lines ++ hint)
    kept None b c keeps appends = tt
    kept (Some x) None c keeps appends = absurd keeps
    kept (Some x) (Some y) None keeps appends = absurd appends
    kept (Some x) (Some y) (Some z) keeps appends = appends ∙ ap (λ l. l ++ (lines ++ hint)) keeps
