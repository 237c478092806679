-- The texts of several starts, joined.
use Rattle.std.specs.Prelude.{ℕ, ◌+◌, ◌-◌, ◌≡◌, ◌<◌, Bool, true, false, ◌&&◌, ◌==◌, IsTrue, List, [], ◌∷◌, ◌++◌, Option, Some, None, codes, drop, fold, if◌then◌else◌, is_none, length, nat_eq, slice_get, sum_by}
use Rattle.std.specs.Fmt.{decimal}
use Rattle.std.specs.List.{flat_map, list_any}
use Rattle.std.specs.Option.{option_map_or}
use Rattle.std.specs.Cmp.Lexicographic.{pointwise}
use Rattle.rvmc_starts.specs.PartRead.{BeginsWithNone}
use Rattle.rvmc_starts.specs.Parts.{is_part, part_text, parts_text}
use Rattle.rvmc_starts.specs.Telling.{count_text, summary, unending_line}
use Rattle.rvmc_starts.specs.Using.{lacking, used}
use Rattle.rvmc_starts.specs.declared.joining.JoinFault.{JoinFault}
use Rattle.rvmc_starts.specs.declared.joining.JoinFault.TheVariants.{Memory, NotAText, OtherSplit}
use Rattle.rvmc_starts.specs.declared.joining.Found.{Found}
use Rattle.rvmc_starts.specs.declared.joining.Joined.{Joined}
use Rattle.rvmc_starts.specs.declared.joining.ToldEnd.{ToldEnd}
use Rattle.rvmc_starts.specs.declared.parts.EndText.{EndText}
use Rattle.rvmc_starts.specs.declared.parts.Part.{Part}

-- ---- the different ends

-- the ends of a start, from this number on
abbrev pub ends_from : ℕ → ℕ → List EndText → List ToldEnd
ends_from number start [] = []
ends_from number start (end ∷ ends) =
    record { name = record { number = number; start = start }; body = end.body } ∷ ends_from (number + 1) start ends

-- the ends of a part, from number 1 on
abbrev pub ends_of : Part → List ToldEnd
ends_of part = ends_from 1 part.number part.ends

-- one of the ends has this text
abbrev pub is_kept : List ToldEnd → List ℕ → Bool
is_kept kept body = list_any (λ end. pointwise nat_eq end.body body) kept

-- an end more, if its text isn't there yet
abbrev pub with_end : List ToldEnd → ToldEnd → List ToldEnd
with_end kept end = if is_kept kept end.body then kept else (kept ++ end ∷ [])

-- the different ends of parts, each as it is told first
abbrev pub kept_ends : List Part → List ToldEnd
kept_ends parts = fold with_end [] (flat_map ends_of parts)

-- ---- their text

-- `outcome 3: outcome 1 of start 2`, and the text
abbrev pub told_text : ℕ → ToldEnd → List ℕ
told_text number end =
    codes "outcome " ++ (decimal number ++ (codes ": outcome " ++ (decimal end.name.number
    ++ (codes " of start " ++ (decimal end.name.start ++ (codes "\n" ++ end.body))))))

-- the first has this number
abbrev pub told_texts : ℕ → List ToldEnd → List ℕ
told_texts number [] = []
told_texts number (end ∷ ends) = told_text number end ++ told_texts (number + 1) ends

-- `no other outcome with buffered sends` only where each start is told whole. Ranks may need buffers before a start, where no
-- part looks for them
abbrev pub verdict : Option ℕ → List ℕ
verdict None = codes "no other outcome with buffered sends"
verdict (Some start) = codes "not all: start " ++ (decimal start ++ codes " isn't told whole")

-- `3 outcomes of 45 states of 12 starts: no other outcome with buffered sends`
abbrev pub last_line : Found → List ℕ
last_line found =
    summary found.ends found.states
    ++ (codes " of " ++ (count_text found.count (codes "start") ++ (codes ": " ++ (verdict found.lacking ++ codes "\n"))))

-- ---- the whole

abbrev pub any_unending : List Part → Bool
any_unending parts = list_any (λ part. part.unending) parts

abbrev pub any_status : List Part → ℕ → Bool
any_status parts status = list_any (λ part. part.status == status) parts

-- of the parts that count, of this many starts
unfoldable pub text_of : List Part → ℕ → Option ℕ → List ℕ
text_of parts count lacking =
    let ends = kept_ends parts in
    told_texts 1 ends ++ (unending_line (any_unending parts)
    ++ last_line (record { ends = length ends; states = sum_by (λ part. part.states) parts; count = count; lacking = lacking }))

-- 4 where some start isn't told whole, else 3 where a part has that, else 7 where one has that, else 8 where one has that,
-- else 0
unfoldable pub status_together : List Part → Bool → ℕ
status_together parts is_all =
    if is_all
    then (if any_status parts 3 then 3 else (if any_status parts 7 then 7 else (if any_status parts 8 then 8 else 0)))
    else 4

-- how many starts the first part speaks of
abbrev pub count_of : List Part → ℕ
count_of [] = 0
count_of (part ∷ parts) = part.count

abbrev pub joined_text : List Part → List ℕ
joined_text parts = text_of (used [] parts) (count_of parts) (lacking parts 1 (count_of parts))

abbrev pub joined_status : List Part → ℕ
joined_status parts = status_together (used [] parts) (is_none (lacking parts 1 (count_of parts)))

-- ---- which texts are joined

-- two parts are told of the same search
abbrev pub is_same_split : Part → Part → Bool
is_same_split one other =
    ((one.count == other.count) && (one.split == other.split))
    && (((one.image.size == other.image.size) && (one.image.digest == other.image.digest)) && pointwise nat_eq one.harts other.harts)

-- the part is of the search of the last of these, if there are any
abbrev pub is_of_split : List Part → Part → Bool
is_of_split parts other = option_map_or (λ last. is_same_split last other) (slice_get parts (length parts - 1)) true

-- parts behind others: each is told of the same search as the part before it
abbrev pub are_behind : List Part → List Part → Bool
are_behind before [] = true
are_behind before (part ∷ parts) = (is_part part && is_of_split before part) && are_behind (before ++ part ∷ []) parts

-- parts of one search
abbrev pub AreParts : List Part → Type 0
AreParts parts = IsTrue (are_behind [] parts)

-- the bytes are the texts of such parts, at least one
pub record AreTexts (bytes : List ℕ) (parts : List Part) : Type 0 where
  pub are : AreParts parts
  pub some : 0 < length parts
  pub bytes_are : bytes ≡ parts_text parts

-- the bytes are the texts of parts, of which this is what they tell together
pub record IsJoined (bytes : List ℕ) (joined : Joined) : Type 0 where
  pub parts : List Part
  pub are : AreTexts bytes parts
  pub text_is : joined.text.items ≡ joined_text parts
  pub status_is : joined.status ≡ joined_status parts

-- behind the texts of all but this many parts of one search no text of a part follows
pub record NoText (bytes : List ℕ) (number : ℕ) : Type 0 where
  pub parts : List Part
  pub are : AreParts parts
  pub rest : List ℕ
  pub bytes_are : bytes ≡ parts_text parts ++ rest
  pub number_is : number ≡ length parts + 1
  pub none : BeginsWithNone rest

-- behind them the text of a part of another search follows
pub record OtherText (bytes : List ℕ) (number : ℕ) : Type 0 where
  pub parts : List Part
  pub are : AreParts parts
  pub other : Part
  pub rest : List ℕ
  pub bytes_are : bytes ≡ parts_text parts ++ (part_text other ++ rest)
  pub number_is : number ≡ length parts + 1
  pub is : IsTrue (is_part other)
  pub differs : is_of_split parts other ≡ false

-- what each refusal says
abbrev pub IsFaulty : List ℕ → JoinFault → Type 0
IsFaulty bytes Memory = Unit {0}
IsFaulty bytes (NotAText number) = NoText bytes number
IsFaulty bytes (OtherSplit number) = OtherText bytes number

-- ---- one part more

-- the bytes begin with the text, of this length, of a part that goes on with the search of the others
pub record IsNext (old : List Part) (bytes : List ℕ) (new : List Part) (len : ℕ) : Type 0 where
  pub part : Part
  pub is : IsTrue (is_part part)
  pub new_is : new ≡ old ++ part ∷ []
  pub same : is_of_split old part ≡ true
  pub text : bytes ≡ part_text part ++ drop len bytes
  pub length_is : len ≡ length (part_text part)

-- the bytes begin with the text of a part of another search
pub record IsOther (old : List Part) (bytes : List ℕ) (number : ℕ) : Type 0 where
  pub other : Part
  pub rest : List ℕ
  pub text : bytes ≡ part_text other ++ rest
  pub number_is : number ≡ length old + 1
  pub is : IsTrue (is_part other)
  pub differs : is_of_split old other ≡ false

abbrev pub IsNotNext : List Part → List ℕ → JoinFault → Type 0
IsNotNext old bytes Memory = Unit {0}
IsNotNext old bytes (NotAText number) = (number ≡ length old + 1) × BeginsWithNone bytes
IsNotNext old bytes (OtherSplit number) = IsOther old bytes number
