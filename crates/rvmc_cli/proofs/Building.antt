-- What a command is built from, step by step.
use Rattle.std.proofs.Common.{◌≡◌, ◌∙◌, ◌||◌, ◌++◌, Bool, Bor, List, [], ◌∷◌, None, Option, Some, ap, ap₂, cond, false, find, map, refl, subst, sym, true, ℕ}
use Rattle.std.specs.Prelude.{Err, IfOk, IfSome, IsOkAnd, Ok, Result}
use Rattle.std.specs.Str.{bytes_eq}
use Rattle.std.proofs.lemmas.Map.Made.{IfSome-find_same}
use Rattle.std.proofs.lemmas.Slice.Eq.{bytes_eq-Decides}
use Rattle.clap.specs.Words.{AddsArg, AddsSubcommand, App, Rule, Text, new_app, rule_of, with_rule, with_subcommand}
use Rattle.clap.specs.Simple.{app_of_fields}
use Rattle.clap.specs.declared.builder.arg.Arg.{Arg}
use Rattle.clap.specs.declared.builder.command.Command.{Command}
use Rattle.clap.specs.declared.builder.command.Command.TheOpen.{Command-F}
use Rattle.clap.specs.declared.builder.command.Command.TheViews.{out-Command as fields_of}
use Rattle.clap.specs.declared.builder.texts.Texts.TheVariants.{One}
use Rattle.rvmc_cli.specs.App.{with_commands, with_rules}
use Rattle.rvmc_cli.specs.Built.{AddsRules, StandsFor, app_among, app_below, app_named}
use Rattle.rvmc_cli.specs.Commands.{CommandRow, app_of, commands, rvmc_app}

-- `--name VALUE` with its help, of an argument of which only the name is known
pub takes_value : (name value text : Bor (List ℕ)) (old long named shown : Arg) → long ≡ record old { long = Some name } → named ≡ record long { val_names = One value } → shown ≡ record named { help = Some text }
    → rule_of shown ≡ record (rule_of old) { long = Some name.now; value_names = 1 }
takes_value name value text old long named shown is_long is_named is_shown =
    ap rule_of is_shown ∙ (ap rule_of is_named ∙ ap (λ (a : Arg). record (rule_of a) { value_names = 1 }) is_long)

pub with_arg : (x : App) (r : Rule) (old new : Command) (a : Arg) → StandsFor x old → rule_of a ≡ r → a.global ≡ false → AddsArg old a new → StandsFor (with_rule x r) new
with_arg x r old new a stands rule local adds = record {
  app = adds.shape local ∙ ap₂ with_rule stands.app rule;
  local = adds.globals ∙ ap₂ (λ p q. p || q) stands.local local;
}

pub with_command : (x y : App) (old sub new : Command) → StandsFor x old → StandsFor y sub → AddsSubcommand old sub new → StandsFor (with_subcommand x y.top) new
with_command x y old sub new stands below adds = record {
  app = adds.shape below.local ∙ ap₂ with_subcommand stands.app (ap (λ (a : App). a.top) below.app);
  local = adds.globals ∙ ap₂ (λ p q. p || q) stands.local below.local;
}

-- the same, where it could be built
pub with_built : {E : Type 0} (x y : App) (old new : Command) (below : Result Command E) → StandsFor x old → IfOk below (StandsFor y) → IsOkAnd below (λ sub. AddsSubcommand old sub new)
    → StandsFor (with_subcommand x y.top) new
with_built x y old new (Ok sub) stands is adds = with_command x y old sub new stands is adds
with_built x y old new (Err e) stands is adds = absurd adds

with_last : (a : App) (xs : List App) (x : App)
    → with_commands a (xs ++ x ∷ []) ≡ with_subcommand (with_commands a xs) x.top
with_last a [] x = refl
with_last a (y ∷ ys) x = with_last (with_subcommand a y.top) ys x

-- the same behind others
pub with_next : {E : Type 0} (a : App) (before after : List App) (next : App) (old new : Command) (below : Result Command E)
    → StandsFor (with_commands a before) old → IfOk below (StandsFor next)
    → IsOkAnd below (λ sub. AddsSubcommand old sub new) → after ≡ before ++ next ∷ []
    → StandsFor (with_commands a after) new
with_next a before after next old new below stands built adds is =
    subst (λ (x : App). StandsFor x new) (sym (ap (with_commands a) is ∙ with_last a before next))
    (with_built (with_commands a before) next old new below stands built adds)

with_last_rule : (a : App) (xs : List Rule) (x : Rule)
    → with_rules a (xs ++ x ∷ []) ≡ with_rule (with_rules a xs) x
with_last_rule a [] x = refl
with_last_rule a (y ∷ ys) x = with_last_rule (with_rule a y) ys x

-- a rule behind others
pub adds_next : (rules more : List Rule) (rule : Rule) (old mid new : Command) → AddsRules rules old mid
    → AddsRules (rule ∷ []) mid new → more ≡ rules ++ rule ∷ [] → AddsRules more old new
adds_next rules more rule old mid new adds one is app stands =
    let whole = ap (with_rules app) is ∙ with_last_rule app rules rule in
    subst (λ (x : App). StandsFor x new) (sym whole) (one (with_rules app rules) (adds app stands))

-- the settings of the whole command line
pub with_settings : (x : App) (version : Bor (List ℕ)) (old versioned bare new : Command) → StandsFor x old → fields_of versioned ≡ record (fields_of old) { version = Some version }
    → fields_of bare ≡ record (fields_of versioned) { no_binary_name = true } → fields_of new ≡ record (fields_of bare) { subcommand_required = true }
    → StandsFor (record x { top = record x.top { has_version = true; no_binary_name = true; subcommand_required = true } }) new
with_settings x version old versioned bare new stands is_versioned is_bare is_new =
    let set : fields_of new ≡ record (fields_of old) { version = Some version; no_binary_name = true; subcommand_required = true } =
    is_new ∙ ap (λ (c : Command-F Command). record c { subcommand_required = true }) (is_bare ∙ ap (λ (c : Command-F Command). record c { no_binary_name = true }) is_versioned) in
    record {
      app = ap app_of_fields set ∙ ap (λ (a : App). record a { top = record a.top { has_version = true; no_binary_name = true; subcommand_required = true } }) stands.app;
      local = ap (λ c. c.has_globals) set ∙ stands.local;
    }

-- the name that usage shows is no rule
pub with_bin_name : (x : App) (old new : Command) → StandsFor x old → fields_of new ≡ record (fields_of old) { bin_name = (fields_of new).bin_name } → StandsFor x new
with_bin_name x old new stands named = record {
  app = ap app_of_fields named ∙ stands.app;
  local = ap (λ f. f.has_globals) named ∙ stands.local;
}

-- ---- a command by its name

-- a name that is found is that of a row, whatever another name stands for
pub found_among : (rows : List CommandRow) (a b : App) (name short : Text)
    → Some short ≡ find (bytes_eq name) (map (λ (row : CommandRow). row.name) rows) → app_among rows a name ≡ app_among rows b name
found_among [] a b name short found = absurd cc
found_among (row ∷ rows) a b name short found =
    go (bytes_eq name row.name) (app_of row) row.name (find (bytes_eq name) (map (λ (row : CommandRow). row.name) rows)) _ _
    (found_among rows a b name short) found
  where
    go : (is : Bool) (this : App) (first : Text) (later : Option Text) (p q : App) → (Some short ≡ later → p ≡ q)
        → Some short ≡ cond is (Some first) later → cond is this p ≡ cond is this q
    go true this first later p q same found = refl
    go false this first later p q same found = same found

-- and any other name stands for that
pub not_among : (rows : List CommandRow) (a : App) (name : Text)
    → None ≡ find (bytes_eq name) (map (λ (row : CommandRow). row.name) rows) → app_among rows a name ≡ a
not_among [] a name none = refl
not_among (row ∷ rows) a name none =
    go (bytes_eq name row.name) (app_of row) row.name (find (bytes_eq name) (map (λ (row : CommandRow). row.name) rows)) _
    (not_among rows a name) none
  where
    go : (is : Bool) (this : App) (first : Text) (later : Option Text) (p : App) → (None ≡ later → p ≡ a)
        → None ≡ cond is (Some first) later → cond is this p ≡ a
    go true this first later p same none = absurd cc
    go false this first later p same none = same none

-- what is found is the name
pub is_name : (names : List Text) (name short : Text) → Some short ≡ find (bytes_eq name) names → short ≡ name
is_name names name short found =
    subst (λ (o : Option Text). IfSome o (λ k. k ≡ name)) (sym found) (IfSome-find_same bytes_eq-Decides name names)

pub app_by_name : (name short : Text)
    → Some short ≡ find (bytes_eq name) (map (λ (row : CommandRow). row.name) commands) → app_below short ≡ app_named name
app_by_name name short found =
    ap app_below (is_name (map (λ (row : CommandRow). row.name) commands) name short found) ∙ found_among commands (new_app name) rvmc_app name short found
