-- The numbers and the names of the calls.
use Rattle.std.specs.Prelude.{ℕ, ◌-◌, ◌≡◌, ◌==◌, Bool, true, List, codes, map, Option, is_some, nat_eq, option_map, unwrap_or}
use Rattle.std.specs.List.{IsDistinct, find}
use Rattle.std.specs.Str.{bytes_eq}
use Rattle.cl_calls.specs.Calls.{call_rows}
use Rattle.cl_calls.specs.declared.names.CallName.{CallName}

-- the numbers with their names, which stand in the rows whatever the arguments are
abbrev pub call_names : List (ℕ × List ℕ)
call_names = map (λ row. (row.number, row.name)) (call_rows (λ n. 0))

-- the name in the row of a number, and the number in the row of a name
abbrev pub name_in : ℕ → List (ℕ × List ℕ) → Option (List ℕ)
name_in number rows = option_map (λ row. row.1) (find (λ row. row.0 == number) rows)

abbrev pub number_in : List ℕ → List (ℕ × List ℕ) → Option ℕ
number_in name rows = option_map (λ row. row.0) (find (λ row. bytes_eq row.1 name) rows)

-- what is told of a call: its name, or that there is none
unfoldable pub call_name : ℕ → List ℕ
call_name number = unwrap_or (name_in number call_names) (codes "no call")

unfoldable pub is_call_number : ℕ → Bool
is_call_number number = is_some (name_in number call_names)

unfoldable pub call_number : List ℕ → Option ℕ
call_number name = number_in name call_names

-- all numbers are below this one, which is one more than the greatest of them
abbrev pub numbers_end : ℕ
numbers_end = 44

-- no number and no name stands twice, and the number just below the end is a call's
pub record CallNumbersLaw : Type 0 where
  pub numbers : IsDistinct nat_eq (map (λ row. row.0) call_names)
  pub names : IsDistinct bytes_eq (map (λ row. row.1) call_names)
  pub last : is_call_number (numbers_end - 1) ≡ true

-- a row of the code's table
abbrev pub row_view : CallName → ℕ × List ℕ
row_view row = (row.number, row.name.now)
