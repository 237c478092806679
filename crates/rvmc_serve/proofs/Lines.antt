-- From bytes, as they come, to lines.
use Rattle.std.specs.Prelude.{ℕ, ◌≡◌, ◌==◌, Bool, true, false, List, [], ◌∷◌, ◌++◌, cond}
use Rattle.std.specs.List.{onto_first}
use Rattle.std.proofs.Common.{refl, sym, ap, subst, ◌∙◌, append_assoc}
use Rattle.std.proofs.lemmas.List.{append-nil}
use Rattle.cl_debug.specs.Debugging.{Debugging}
use Rattle.rvmc_gdb.proofs.Walks.{alone}
use Rattle.rvmc_serve.specs.Lines.{AnswersAll, AnswersLine, AnswersLines, AnswersSome, lines_in, typed_byte}
use Rattle.rvmc_serve.specs.Typing.{EndsLine, HearsAll, HearsSome, TakesAll, TakesAs, Typed, begun}

-- ---- a line that has begun, and the lines of what comes behind it

abbrev prefixed : List ℕ → List (List ℕ) → List (List ℕ)
prefixed line [] = line ∷ []
prefixed line (first ∷ others) = (line ++ first) ∷ others

-- the lines of bytes that begin with this one, which is a newline or not
abbrev split_at : Bool → ℕ → List (List ℕ) → List (List ℕ)
split_at newline byte lines = cond newline ([] ∷ lines) (onto_first byte lines)

prefixed_by_none : (newline : Bool) (byte : ℕ) (lines : List (List ℕ))
    → prefixed [] (split_at newline byte lines) ≡ split_at newline byte lines
prefixed_by_none true byte lines = refl
prefixed_by_none false byte [] = refl
prefixed_by_none false byte (line ∷ lines) = refl

prefixed_none : (bytes : List ℕ) → prefixed [] (lines_in bytes) ≡ lines_in bytes
prefixed_none [] = refl
prefixed_none (byte ∷ bytes) = prefixed_by_none (typed_byte byte == 10) (typed_byte byte) (lines_in bytes)

prefixed_more : (line : List ℕ) (byte : ℕ) (lines : List (List ℕ))
    → prefixed line (onto_first byte lines) ≡ prefixed (line ++ byte ∷ []) lines
prefixed_more line byte [] = refl
prefixed_more line byte (first ∷ lines) = ap (λ (t : List ℕ). t ∷ lines) (sym (append_assoc line (byte ∷ []) first))

-- ---- all of them

-- the line that has begun ends with a newline
ended : (old mid : Typed) (first : List ℕ) → EndsLine old mid first
    → AnswersLine old.debugging (old.line ++ []) mid.debugging first
ended old mid first ends =
    subst (λ (l : List ℕ). AnswersLine old.debugging l mid.debugging first) (sym (append-nil old.line)) ends.answers

module _ (new : Typed) (other : List ℕ) where
  -- these bytes are taken, and then the last line ends
  abbrev Answered : Typed → List ℕ → List ℕ → Type 0
  Answered old bytes one =
      AnswersLines old.debugging (prefixed old.line (lines_in bytes)) new.debugging (one ++ other)

  abbrev AnsweredBy : Bool → Typed → ℕ → List ℕ → List ℕ → Type 0
  AnsweredBy newline old byte bytes one =
      AnswersLines old.debugging (prefixed old.line (split_at newline byte (lines_in bytes))) new.debugging (one ++ other)

  one_more : (newline : Bool) (old mid : Typed) (byte : ℕ) (bytes first rest one : List ℕ) → TakesAs newline old byte mid first
      → Answered mid bytes rest → one ≡ first ++ rest → AnsweredBy newline old byte bytes one
  one_more true old mid byte bytes first rest one ends later is = (
    mid.debugging,
    first,
    rest ++ other,
    ended old mid first ends,
    subst (λ (ls : List (List ℕ)). AnswersLines mid.debugging ls new.debugging (rest ++ other)) (prefixed_none bytes)
        (subst (λ (l : List ℕ). AnswersLines mid.debugging (prefixed l (lines_in bytes)) new.debugging (rest ++ other))
        ends.empty later),
    ap (λ (t : List ℕ). t ++ other) is ∙ append_assoc first rest other,
  )
  one_more false old mid byte bytes first rest one (stands, none) later is =
      subst (λ (t : List ℕ). AnswersLines old.debugging (prefixed old.line (onto_first byte (lines_in bytes))) new.debugging (t ++ other))
      (sym (is ∙ ap (λ (t : List ℕ). t ++ rest) none))
      (subst (λ (ls : List (List ℕ)). AnswersLines old.debugging ls new.debugging (rest ++ other))
      (sym (prefixed_more old.line byte (lines_in bytes)))
      (subst (λ (s : Typed). Answered s bytes rest) stands later))

  whole : (old last : Typed) (bytes one : List ℕ) → TakesAll old bytes last one → EndsLine last new other → Answered old bytes one
  whole old last [] one (is, none) ends =
      subst (λ (t : List ℕ). AnswersLines old.debugging ((old.line ++ []) ∷ []) new.debugging (t ++ other)) (sym none)
      (alone AnswersLine old.debugging (old.line ++ []) new.debugging other
      (ended old new other (subst (λ (s : Typed). EndsLine s new other) is ends)))
  whole old last (byte ∷ bytes) one (mid, first, rest, takes, later, is) ends =
      one_more (typed_byte byte == 10) old mid (typed_byte byte) bytes first rest one takes
      (whole mid last bytes rest later ends) is

pub all_lines : (old : Debugging) (behind text : List ℕ) → HearsAll (begun old) behind text → AnswersAll old behind text
all_lines old behind text hears = (
  hears.new.debugging,
  subst (λ (t : List ℕ). AnswersLines old (lines_in behind) hears.new.debugging t) (sym hears.is)
      (subst (λ (ls : List (List ℕ)). AnswersLines old ls hears.new.debugging (hears.one ++ hears.other)) (prefixed_none behind)
      (whole hears.new hears.other (begun old) hears.last behind hears.one hears.takes hears.ends)),
)

-- ---- some of them

-- of the lines that begin with this one
abbrev FirstOf : Debugging → List (List ℕ) → List ℕ → Type 0
FirstOf old all text =
    (lines : List (List ℕ)) × (others : List (List ℕ)) × (all ≡ lines ++ others)
    × (new : Debugging) × AnswersLines old lines new text

first_more : (newline : Bool) (old mid : Typed) (byte : ℕ) (bytes first rest text : List ℕ) → TakesAs newline old byte mid first
    → FirstOf mid.debugging (prefixed mid.line (lines_in bytes)) rest → text ≡ first ++ rest
    → FirstOf old.debugging (prefixed old.line (split_at newline byte (lines_in bytes))) text
first_more true old mid byte bytes first rest text ends (lines, others, all, new, answers) is = (
  (old.line ++ []) ∷ lines,
  others,
  ap (λ (t : List (List ℕ)). (old.line ++ []) ∷ t)
      (sym (prefixed_none bytes) ∙ ap (λ (l : List ℕ). prefixed l (lines_in bytes)) (sym ends.empty) ∙ all),
  new,
  (mid.debugging, first, rest, ended old mid first ends, answers, is),
)
first_more false old mid byte bytes first rest text (stands, none) later is =
    subst (λ (t : List ℕ). FirstOf old.debugging (prefixed old.line (onto_first byte (lines_in bytes))) t)
    (sym (is ∙ ap (λ (t : List ℕ). t ++ rest) none))
    (subst (λ (ls : List (List ℕ)). FirstOf old.debugging ls rest) (sym (prefixed_more old.line byte (lines_in bytes)))
    (subst (λ (s : Typed). FirstOf s.debugging (prefixed s.line (lines_in bytes)) rest) stands later))

firsts : (old new : Typed) (heard unheard text : List ℕ) → TakesAll old heard new text
    → FirstOf old.debugging (prefixed old.line (lines_in (heard ++ unheard))) text
firsts old new [] unheard text (is, none) =
    ([], prefixed old.line (lines_in unheard), refl, old.debugging, (refl, none))
firsts old new (byte ∷ heard) unheard text (mid, first, rest, takes, later, is) =
    first_more (typed_byte byte == 10) old mid (typed_byte byte) (heard ++ unheard) first rest text takes
    (firsts mid new heard unheard rest later) is

pub some_lines : (old : Debugging) (behind text : List ℕ) → HearsSome (begun old) behind text → AnswersSome old behind text
some_lines old behind text (heard, unheard, all, new, takes) =
    subst (λ (bytes : List ℕ). FirstOf old (lines_in bytes) text) (sym all)
    (subst (λ (ls : List (List ℕ)). FirstOf old ls text) (prefixed_none (heard ++ unheard))
    (firsts (begun old) new heard unheard text takes))
