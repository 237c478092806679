-- The command line as data: what clap reads of each command, option and flag.
use Rattle.std.specs.Prelude.{List, [], ◌∷◌, Some, true, codes}
use Rattle.clap.specs.Lexer.{usize_max}
use Rattle.clap.specs.Words.{App, Rule, Text, new_app, new_rule, with_rule, with_subcommand}
use Rattle.clap.specs.declared.builder.action.ArgAction.TheVariants.{Append, SetTrue}

-- `--name`
abbrev pub flag : Text → Rule
flag name = record (new_rule name) { long = Some name; action = Some SetTrue }

-- `--name TEXT`
abbrev pub option : Text → Rule
option name = record (new_rule name) { long = Some name; value_names = 1 }

-- the same, given any number of times
abbrev pub options : Text → Rule
options name = record (option name) { action = Some Append }

-- `TEXT..`: one text or more behind the command
abbrev pub texts : Text → Rule
texts name = record (new_rule name) {
  required = true;
  value_names = 1;
  range = Some (record { start_inclusive = 1; end_inclusive = usize_max });
}

-- a command with these flags, options and texts
abbrev pub with_rules : App → List Rule → App
with_rules app [] = app
with_rules app (rule ∷ rules) = with_rules (with_rule app rule) rules

-- a command with these commands below it
abbrev pub with_commands : App → List App → App
with_commands app [] = app
with_commands app (below ∷ others) = with_commands (with_subcommand app below.top) others

-- `rvmc`, before its commands: `--help`, `--version` and the command `help` are clap's own
abbrev pub top_app : App
top_app =
    let named = new_app (codes "rvmc") in
    record named {
      top = record named.top {
        no_binary_name = true;
        subcommand_required = true;
        has_version = true;
      };
    }
