-- Words that name nothing stay as they are.
use Rattle.std.proofs.Common.{◌≡◌, ◌∙◌, ◌++◌, ◌∷◌, List, [], Some, None, Option, Bool, true, false, ap, append-nil, append_assoc, arith, length, refl, sym}
use Rattle.std.specs.Prelude.{if◌then◌else◌}
use Rattle.std.proofs.lemmas.Bool.{ne_eqb, true≢false}
use Rattle.clap.specs.Words.{Text}
use Rattle.rvmc_cli.specs.Files.{Names, Takes, finished, is_among, is_output_asked, named_in, takes_by_name, unnamed, walked}
use Rattle.rvmc_cli.specs.Naming.{ArePlain}
use Rattle.rvmc_cli.specs.declared.files.Asks.{Asks}
use Rattle.rvmc_cli.specs.declared.files.Asks.TheVariants as asks

-- a plain word doesn't ask the next one to be an output
either_is_quiet : (among : Bool) → is_output_asked (if among then asks.Value else asks.Nothing) ≡ false
either_is_quiet true = refl
either_is_quiet false = refl

abbrev with_words : Names → List Text → Names
with_words names words = record names { words = names.words ++ words }

-- one more word in front of the others
one_more : (names : Names) (word : Text) (words : List Text)
    → with_words (with_words names (word ∷ [])) words ≡ with_words names (word ∷ words)
one_more names word words =
    ap (λ (l : List Text). record names { words = l }) (append_assoc names.words (word ∷ []) words)

-- they are left, in their order
all_left : (options : List Text) (ask : Asks) (names : Names) (words : List Text) → is_output_asked ask ≡ false
    → ArePlain words → walked options ask names words ≡ Some (with_words names words)
all_left options ask names [] quiet plain =
    rw quiet (ap (λ (l : List Text). Some (record names { words = l })) (sym (append-nil names.words)))
all_left options asks.Nothing names (word ∷ words) quiet plain =
    rw (plain.0, plain.1)
    (all_left options (if is_among options word then asks.Value else asks.Nothing) (with_words names (word ∷ [])) words
    (either_is_quiet (is_among options word)) plain.2 ∙ ap Some (one_more names word words))
all_left options asks.Value names (word ∷ words) quiet plain =
    all_left options asks.Nothing (with_words names (word ∷ [])) words refl plain.2 ∙ ap Some (one_more names word words)
all_left options asks.Output names (word ∷ words) quiet plain = absurd (true≢false quiet)

-- whether the first word is a command or not
stays : (takes : Option Takes) (command : Text) (words : List Text) → ArePlain (command ∷ words)
    → takes_by_name command ≡ takes → named_in (command ∷ words) ≡ unnamed (command ∷ words)
stays (Some takes) command words plain is =
    rw (is, all_left takes.options asks.Nothing (unnamed (command ∷ [])) words refl plain.2) (by_source takes.source)
  where
    by_source : (source : Bool) → finished source (unnamed (command ∷ words)) ≡ unnamed (command ∷ words)
    by_source true = refl
    by_source false = refl
stays None command words plain is =
    rw (is, all_left [] asks.Nothing (unnamed []) (command ∷ words) refl plain, ne_eqb (length (command ∷ words)) 0 (λ e. omega (arith, e))) refl

pub plain_words_stay : (words : List Text) → ArePlain words → named_in words ≡ unnamed words
plain_words_stay [] plain = refl
plain_words_stay (command ∷ words) plain = stays (takes_by_name command) command words plain refl
