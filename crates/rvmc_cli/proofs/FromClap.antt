-- From what clap promises to what the words mean.
use Rattle.std.proofs.Common.{◌≡◌, ◌<◌, ◌∙◌, ℕ, zero, suc, Bool, true, false, refl, sym, subst, ap, arith, List, [], ◌∷◌, length, map, Option, None, Bor, inl, inr, true≢false, cond, ◌==◌}
use Rattle.std.specs.Prelude.{Result, Ok, Err}
use Rattle.std.specs.Option.{option_and_then}
use Rattle.std.proofs.lemmas.Bool.{eqb-true}
use Rattle.clap.specs.Words.{App, Row, Text, fault_of, is_simple, is_simple_and_free, kind_of, subcommand_of}
use Rattle.clap.specs.Kinds.{HasKind, IsAmong, Kinds, or_else}
use Rattle.clap.specs.declared.error.Error.{Error}
use Rattle.clap.specs.declared.error.kind.ErrorKind.{ErrorKind}
use Rattle.clap.specs.declared.error.kind.ErrorKind.TheVariants as kind
use Rattle.clap.proofs.OnLiterals.{clap_on_literals}
use Rattle.rvmc_cli.specs.Commands.{line_in, rvmc_app}
use Rattle.rvmc_cli.specs.Meaning.{IsParseFault, Parses, command_in, faults_in, is_request, meaning_of}
use Rattle.rvmc_cli.specs.Meaning.{refusals_of}
use Rattle.rvmc_cli.specs.Parsing.{Finds, IsTold, Tells}
use Rattle.rvmc_line.specs.declared.line.ParseFault.{ParseFault}
use Rattle.rvmc_line.specs.declared.line.ParseFault.TheVariants as parse
use Rattle.rvmc_line.specs.declared.line.CommandLine.{CommandLine}
use Rattle.rvmc_cli.specs.declared.wrong.Wrong.{Wrong}
use Rattle.rvmc_cli.specs.declared.wrong.Wrong.TheVariants as wrong

pub is_exact : is_simple_and_free rvmc_app ≡ true
unfolding clap_on_literals
is_exact = refl

pub has_matches : is_simple rvmc_app ≡ true
unfolding clap_on_literals
has_matches = refl

abbrev pub texts : List (Bor Text) → List Text
texts ws = map (λ w. w.now) ws

pub faults_are : (a : App) (ws : List Text) → a ≡ rvmc_app → fault_of a ws ≡ faults_in ws
unfolding faults_in
faults_are a ws e = ap (λ x. fault_of x ws) e

pub command_is : (a : App) (ws : List Text) → a ≡ rvmc_app → subcommand_of a ws ≡ command_in ws
unfolding command_in
command_is a ws e = ap (λ x. subcommand_of x ws) e

-- clap took the words
pub taken : (ws : List (Bor Text)) (found : Option (Text × List Row)) → 0 < length ws → faults_in (texts ws) ≡ [] → command_in (texts ws) ≡ found
    → meaning_of (texts ws) ≡ option_and_then (λ p. line_in p.0 p.1) found
taken [] found lt none is = absurd (omega (arith, lt))
taken (w ∷ ws) found lt none is = rw (none, is) refl

some_kind : (k : ErrorKind) (ks : Kinds) → IsAmong k ks → length ks ≡ 0 → ⊥
some_kind k [] among e = among
some_kind k (x ∷ xs) among e = omega (arith, e)

-- or not
pub not_taken : (ws : List (Bor Text)) (k : ErrorKind) → 0 < length ws → IsAmong k (faults_in (texts ws)) → meaning_of (texts ws) ≡ None
not_taken [] k lt among = absurd (omega (arith, lt))
not_taken (w ∷ ws) k lt among = go (length (faults_in (texts (w ∷ ws))) == 0) refl
  where
    go : (b : Bool) → (length (faults_in (texts (w ∷ ws))) == 0) ≡ b → cond b (option_and_then (λ p. line_in p.0 p.1) (command_in (texts (w ∷ ws)))) None ≡ None
    go true e = absurd (some_kind k _ among (eqb-true _ _ e))
    go false e = refl

pub nonempty : (n : ℕ) → (n == 0) ≡ false → 0 < n
nonempty zero e = absurd (true≢false e)
nonempty (suc n) e = omega arith

-- what is refused is refused for a reason that the words give
among_refusals : (k : ErrorKind) (ks : Kinds) → IsAmong k ks → IsAmong k (or_else ks (kind.ValueValidation ∷ []))
among_refusals k [] among = absurd among
among_refusals k (x ∷ xs) among = among

-- a refusal, of words that mean nothing
pub refusal : (ws : List (Bor Text)) (k : ErrorKind) (r : ParseFault) → meaning_of (texts ws) ≡ None → IsAmong k (refusals_of (texts ws)) → IsParseFault k r → Parses (texts ws) (Err r)
refusal ws k parse.Memory none among is = tt
refusal ws k (parse.Asked text) none among is = (none, (k, among, is))
refusal ws k (parse.Refused text) none among is = (none, (k, among, is))

-- memory was wanting, or a fault was found
memory_or : (k : ErrorKind) (r : ParseFault) → k ≡ kind.OutOfMemory → IsParseFault k r → r ≡ parse.Memory
memory_or k parse.Memory memory is = refl
memory_or k (parse.Asked text) memory is = absurd (true≢false (sym is ∙ ap is_request memory))
memory_or k (parse.Refused text) memory is = absurd (is.1 memory)

-- clap refused the words
pub refused_words : (ws : List (Bor Text)) (e : Error) (app : App) (r : ParseFault) → 0 < length ws → app ≡ rvmc_app → IsParseFault (kind_of e) r → HasKind (fault_of app (texts ws)) e
    → Parses (texts ws) (Err r)
refused_words ws e app r lt is shown (inl memory) =
    subst (λ (x : ParseFault). Parses (texts ws) (Err x)) (sym (memory_or (kind_of e) r memory shown)) tt
refused_words ws e app r lt is shown (inr among) =
    let found : IsAmong (kind_of e) (faults_in (texts ws)) = subst (IsAmong (kind_of e)) (faults_are app (texts ws) is) among in
    refusal ws (kind_of e) r (not_taken ws (kind_of e) lt found) (among_refusals (kind_of e) (faults_in (texts ws)) found) shown

-- clap took the words, and a value is none
refused_value : (ws : List (Bor Text)) (r : ParseFault) → meaning_of (texts ws) ≡ None → faults_in (texts ws) ≡ [] → IsParseFault kind.ValueValidation r
    → Parses (texts ws) (Err r)
refused_value ws r none nothing is =
    refusal ws kind.ValueValidation r none (subst (λ ks. IsAmong kind.ValueValidation (or_else ks (kind.ValueValidation ∷ []))) (sym nothing) (inl refl)) is

-- what is told of a value that isn't one
tells_none : (r : ParseFault) (meant : Option CommandLine) → meant ≡ None → IsParseFault kind.ValueValidation r → Tells meant (Err r)
tells_none parse.Memory meant none is = tt
tells_none (parse.Asked text) meant none is = absurd cc
tells_none (parse.Refused text) meant none is = none

-- or that memory was wanting for it
pub tells : (w : Wrong) (r : ParseFault) (meant : Option CommandLine) → Finds meant (Err w) → IsTold w r → Tells meant (Err r)
tells wrong.Memory r meant found memory = subst (λ (x : ParseFault). Tells meant (Err x)) (sym memory) tt
tells other r meant found shown = tells_none r meant found shown

-- what is told of the command is what is told of the words, which clap took
pub told : (ws : List (Bor Text)) (r : Result CommandLine ParseFault) (meant : Option CommandLine) → meaning_of (texts ws) ≡ meant → faults_in (texts ws) ≡ [] → Tells meant r
    → Parses (texts ws) r
told ws (Ok line) meant is nothing tells = is ∙ tells
told ws (Err parse.Memory) meant is nothing tells = tt
told ws (Err (parse.Asked text)) meant is nothing tells = absurd tells
told ws (Err (parse.Refused text)) meant is nothing tells =
    refused_value ws (parse.Refused text) (is ∙ tells) nothing (refl, λ e. absurd cc)
