-- What was added in turn is the whole.
use Rattle.std.proofs.Common.{◌≡◌, ◌∙◌, ℕ, Bool, List, [], ◌∷◌, ◌++◌, length, Option, append_assoc}
use Rattle.std.specs.Prelude.{sum_by}
use Rattle.rvmc_starts.specs.Joining.{any_unending, kept_ends, last_line, text_of, told_texts}
use Rattle.rvmc_starts.specs.Telling.{unending_line}
use Rattle.rvmc_starts.specs.declared.joining.ToldEnd.{ToldEnd}
use Rattle.rvmc_starts.specs.declared.parts.Part.{Part}

colon : (old one two : List ℕ) → ((old ++ one) ++ 58 ∷ []) ++ two ≡ old ++ (one ++ 58 ∷ two)
colon old one two = append_assoc (old ++ one) (58 ∷ []) two ∙ append_assoc old one (58 ∷ two)

-- five texts with a colon between each two
pub colons : (old a b c d e : List ℕ)
    → ((((((((old ++ a) ++ 58 ∷ []) ++ b) ++ 58 ∷ []) ++ c) ++ 58 ∷ []) ++ d) ++ 58 ∷ []) ++ e
    ≡ old ++ (a ++ 58 ∷ (b ++ 58 ∷ (c ++ 58 ∷ (d ++ 58 ∷ e))))
colons old a b c d e =
    let one = (old ++ a) ++ 58 ∷ [] in
    let two = (one ++ b) ++ 58 ∷ [] in
    let three = (two ++ c) ++ 58 ∷ [] in
    colon three d e ∙ (colon two c (d ++ 58 ∷ e) ∙ (colon one b (c ++ 58 ∷ (d ++ 58 ∷ e)) ∙ colon old a (b ++ 58 ∷ (c ++ 58 ∷ (d ++ 58 ∷ e)))))

pub joined_is : (parts : List Part) (count : ℕ) (lacking : Option ℕ) (ends : List ToldEnd) (one two three last : List ℕ) (unending : Bool) (states : ℕ)
    → ends ≡ kept_ends parts → unending ≡ any_unending parts → states ≡ sum_by (λ part. part.states) parts
    → one ≡ told_texts 1 ends → two ≡ one ++ unending_line unending
    → last ≡ last_line (record { ends = length ends; states = states; count = count; lacking = lacking }) → three ≡ two ++ last
    → three ≡ text_of parts count lacking
unfolding text_of
joined_is parts count lacking ends one two three last unending states e u s a b l t =
    rw (t, b, a, l, u, s, e) (append_assoc (told_texts 1 (kept_ends parts)) (unending_line (any_unending parts)) _)
