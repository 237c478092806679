-- The names of how calls end, which are the columns of their table.
use Rattle.std.specs.Prelude.{ℕ, ◌==◌, if◌then◌else◌, List, [], ◌∷◌, ◌++◌, codes}

-- the row of a number; where there is none, another name
abbrev pub name_for : List ℕ → ℕ → List (ℕ × List ℕ) → List ℕ
name_for other number [] = other
name_for other number (row ∷ rows) = if (number == row.0) then row.1 else name_for other number rows

-- how a call ended, by the number in a0, as docs/CALLS.md lists it
abbrev pub code_rows : List (ℕ × List ℕ)
code_rows =
    (0, codes "OK") ∷
    (1, codes "BAD_BUFFER") ∷
    (2, codes "BAD_COUNT") ∷
    (3, codes "BAD_TAG") ∷
    (4, codes "BAD_RANK") ∷
    (5, codes "BAD_COMM") ∷
    (6, codes "BAD_REQUEST") ∷
    (7, codes "TRUNCATED") ∷
    (8, codes "FULL") ∷
    (9, codes "BAD_PARTITION") ∷
    (10, codes "NO_CHANNEL") ∷
    (11, codes "SHAPE") ∷
    (12, codes "ACTIVE") ∷
    (13, codes "BAD_CALL") ∷
    (14, codes "BAD_MESSAGE") ∷
    (15, codes "ALREADY_READY") ∷
    (16, codes "NOT_ACTIVE") ∷
    []

abbrev pub code_name : ℕ → List ℕ
code_name number = name_for (codes "no code") number code_rows

-- how a call ended, by its column: with a code, or so
abbrev pub other_outcome_rows : List (ℕ × List ℕ)
other_outcome_rows = (18, codes "waits") ∷ (19, codes "ended") ∷ (20, codes "trapped") ∷ []

abbrev pub outcome_name : ℕ → List ℕ
outcome_name place = name_for (code_name place) place other_outcome_rows
