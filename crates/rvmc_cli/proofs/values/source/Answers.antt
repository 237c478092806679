use Rattle.std.proofs.Common.{◌≡◌, ◌∙◌, None, Option, Some, ap, find, refl, sym}
use Rattle.std.specs.Prelude.{option_and_then, option_map}
use Rattle.std.specs.Str.{bytes_eq}
use Rattle.clap.proofs.WalkLemmas.{find_row}
use Rattle.clap.specs.Facts.{Entry}
use Rattle.clap.specs.Walk.{row_of}
use Rattle.clap.specs.Words.{Row, found_of}
use Rattle.clap.specs.declared.parser.matches.MatchedArg.{MatchedArg}
use Rattle.rvmc_cli.proofs.values.source.Goals as goal

-- an entry's source is its row's
of_row : (entry : Option Entry) → option_and_then (λ (a : MatchedArg). a.source) (option_map (λ e. e.1) entry)
    ≡ option_and_then (λ (row : Row). row.source) (option_map row_of entry)
of_row None = refl
of_row (Some entry) = refl

pub returns : goal.returns
returns c =
    let entries = (found_of c.args.matches.now).entries.items in
    let name = c.args.name.now in
    c.value_source.ensures ∙ of_row (find (λ e. bytes_eq e.0.now name) entries)
    ∙ ap (option_and_then (λ (row : Row). row.source)) (sym (find_row entries name))
