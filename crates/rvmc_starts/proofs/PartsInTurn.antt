-- Parts that are read one after another.
use Rattle.std.proofs.Common.{◌≡◌, ◌<◌, ◌≤◌, ◌+◌, ◌-◌, ◌∙◌, ◌&&◌, ℕ, true, refl, sym, ap, arith, List, [], ◌∷◌, ◌++◌, length, drop, append_assoc, append-nil, drop-drop, length-append, length-drop, subst}
use Rattle.std.proofs.Math.Seq.{drop-length}
use Rattle.std.proofs.lemmas.Grind.{flat_map-append}
use Rattle.rvmc_starts.specs.Joining.{AreParts, AreTexts, IsFaulty, IsNext, IsNotNext, are_behind, is_of_split}
use Rattle.rvmc_starts.specs.Parts.{is_part, part_text, parts_text}
use Rattle.rvmc_starts.specs.declared.joining.JoinFault.{JoinFault}
use Rattle.rvmc_starts.specs.declared.joining.JoinFault.TheVariants.{Memory, NotAText, OtherSplit}
use Rattle.rvmc_starts.specs.declared.parts.Part.{Part}
use Rattle.rvmc_starts.proofs.Hexes.{both}

behind_more : (before parts : List Part) (part : Part) → are_behind before parts ≡ true → is_part part ≡ true → is_of_split (before ++ parts) part ≡ true
    → are_behind before (parts ++ part ∷ []) ≡ true
behind_more before [] part are is same = rw (is, sym (ap (λ parts. is_of_split parts part) (append-nil before)) ∙ same) refl
behind_more before (one ∷ parts) part are is same =
    let halves = both (is_part one && is_of_split before one) (are_behind (before ++ one ∷ []) parts) are in
    rw (halves.0, behind_more (before ++ one ∷ []) parts part halves.1 is (ap (λ parts. is_of_split parts part) (append_assoc before (one ∷ []) parts) ∙ same)) refl

-- the bytes are the texts of these parts, and the rest behind so many bytes
pub record AreRead (bytes : List ℕ) (parts : List Part) (at : ℕ) : Type 0 where
  pub are : AreParts parts
  pub within : at ≤ length bytes
  pub bytes_are : bytes ≡ parts_text parts ++ drop at bytes

pub none_read : (bytes : List ℕ) → AreRead bytes [] 0
none_read bytes = record { are = refl; within = omega arith; bytes_are = refl }

texts_more : (parts : List Part) (part : Part) (rest : List ℕ) → parts_text parts ++ (part_text part ++ rest) ≡ parts_text (parts ++ part ∷ []) ++ rest
texts_more parts part rest =
    sym (append_assoc (parts_text parts) (part_text part) rest)
    ∙ ap (λ text. text ++ rest) (ap (λ last. parts_text parts ++ last) (sym (append-nil (part_text part))) ∙ sym (flat_map-append part_text parts (part ∷ [])))

-- one part more
pub one_more : (bytes : List ℕ) (parts new : List Part) (at len : ℕ) → AreRead bytes parts at → IsNext parts (drop at bytes) new len
    → AreRead bytes new (at + len)
one_more bytes parts new at len read next =
    let short : len ≤ length (drop at bytes) = omega (arith, ap length next.text, length-append (part_text next.part) (drop len (drop at bytes)), next.length_is) in
    let are : are_behind [] (parts ++ next.part ∷ []) ≡ true = behind_more [] parts next.part read.are next.is next.same in
    let text : bytes ≡ parts_text (parts ++ next.part ∷ []) ++ drop (at + len) bytes =
    read.bytes_are ∙ (ap (λ rest. parts_text parts ++ rest) next.text ∙ (texts_more parts next.part (drop len (drop at bytes))
    ∙ ap (λ rest. parts_text (parts ++ next.part ∷ []) ++ rest) (drop-drop len at bytes))) in
    record {
      are = ap (are_behind []) next.new_is ∙ are;
      within = omega (arith, short, length-drop at bytes, read.within);
      bytes_are = text ∙ ap (λ parts. parts_text parts ++ drop (at + len) bytes) (sym next.new_is);
    }

-- a refusal of the next part is one of the whole
pub faulty : (bytes : List ℕ) (parts : List Part) (at : ℕ) (fault : JoinFault) → AreRead bytes parts at → IsNotNext parts (drop at bytes) fault
    → IsFaulty bytes fault
faulty bytes parts at Memory read not = tt
faulty bytes parts at (NotAText number) read not =
    record { parts = parts; are = read.are; rest = drop at bytes; bytes_are = read.bytes_are; number_is = not.0; none = not.1 }
faulty bytes parts at (OtherSplit number) read not =
    record {
      parts = parts;
      are = read.are;
      other = not.other;
      rest = not.rest;
      bytes_are = read.bytes_are ∙ ap (λ rest. parts_text parts ++ rest) not.text;
      number_is = not.number_is;
      is = not.is;
      differs = not.differs;
    }

-- a text of a part has a byte
some_text : (part : Part) → 0 < length (part_text part)
unfolding part_text
some_text part = omega arith

-- less is left
pub fewer : (bytes : List ℕ) (parts new : List Part) (at len : ℕ) → AreRead bytes parts at → IsNext parts (drop at bytes) new len
    → length bytes - (at + len) < length bytes - at
fewer bytes parts new at len read next =
    omega (arith, (one_more bytes parts new at len read next).within, some_text next.part, next.length_is)

-- nothing is left
pub all_read : (bytes : List ℕ) (parts new : List Part) (at len : ℕ) → AreRead bytes parts at → IsNext parts (drop at bytes) new len
    → at + len ≡ length bytes → AreTexts bytes new
all_read bytes parts new at len read next end =
    let more = one_more bytes parts new at len read next in
    let nothing : drop (at + len) bytes ≡ [] = ap (λ n. drop n bytes) end ∙ drop-length bytes in
    let one_at_least : 0 < length (parts ++ next.part ∷ []) = omega (arith, length-append parts (next.part ∷ [])) in
    record {
      are = more.are;
      some = subst (λ parts. 0 < length parts) (sym next.new_is) one_at_least;
      bytes_are = more.bytes_are ∙ (ap (λ rest. parts_text new ++ rest) nothing ∙ append-nil (parts_text new));
    }
