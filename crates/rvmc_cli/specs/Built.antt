-- How clap's command is built from the rules.
use Rattle.std.specs.Prelude.{◌≡◌, false, if◌then◌else◌, List, [], ◌∷◌}
use Rattle.std.specs.Str.{bytes_eq}
use Rattle.clap.specs.Words.{App, Rule, Text, app_of as rules_of, new_app}
use Rattle.clap.specs.declared.builder.command.Command.{Command}
use Rattle.clap.specs.declared.builder.command.Command.TheViews.{out-Command}
use Rattle.rvmc_cli.specs.declared.parts.Part.{Part}
use Rattle.rvmc_cli.specs.declared.parts.Part.TheVariants as part
use Rattle.rvmc_cli.specs.App.{flag, option, options, texts, with_rules}
use Rattle.rvmc_cli.specs.Commands.{CommandRow, app_of, commands, from_second, from_third, rvmc_app}

-- the command of this name, of these; any other name stands for `other`
abbrev pub app_among : List CommandRow → App → Text → App
app_among [] other name = other
app_among (row ∷ rows) other name = if bytes_eq name row.name then app_of row else app_among rows other name

-- below the whole command line any other name is of a command without options: of the third part of the commands, of
-- those from the second on, and of all
abbrev pub app_below_from_third : Text → App
app_below_from_third name = app_among from_third (new_app name) name

abbrev pub app_below_from_second : Text → App
app_below_from_second name = app_among from_second (new_app name) name

abbrev pub app_below : Text → App
app_below name = app_among commands (new_app name) name

-- and by itself it stands for the whole command line
abbrev pub app_named : Text → App
app_named name = app_among commands rvmc_app name

-- clap's command is built from these rules, and none of its arguments is global
pub record StandsFor (rules : App) (command : Command) : Type 0 where
  pub app : rules_of command ≡ rules
  pub local : (out-Command command).has_globals ≡ false

-- a part of a command, without what help says of it
abbrev pub rule_of_part : Part → Rule
rule_of_part (part.Flag name help) = flag name.now
rule_of_part (part.Option name value help) = option name.now
rule_of_part (part.Options name value help) = options name.now
rule_of_part (part.Texts name value help) = texts name.now

-- a command with these rules more than the old one has
abbrev pub AddsRules : List Rule → Command → Command → Type 0
AddsRules rules old new = (app : App) → StandsFor app old → StandsFor (with_rules app rules) new
