-- Posts by other numbers.
use Rattle.std.specs.Prelude.{ℕ, zero, suc, ◌≡◌, map}
use Rattle.std.specs.Option.{option_map}
use mathlib.Core.Path.{refl, ap, ◌∙◌}
use Rattle.mp_types.specs.declared.requests.Request.{Request}
use Rattle.mp_types.specs.declared.requests.Request.TheVariants as request
use Rattle.mp_match.specs.declared.posts.Line.{Line}

-- each place has another one, and no two places have the same. A post's place is its number less 1
pub record Renaming : Type 0 where
  pub to : ℕ → ℕ
  pub back : ℕ → ℕ
  pub there : (place : ℕ) → back (to place) ≡ place
  pub again : (place : ℕ) → to (back place) ≡ place

-- ---- renamings of their own

abbrev pub no_renaming : Renaming
no_renaming = record { to = λ place. place; back = λ place. place; there = λ place. refl; again = λ place. refl }

abbrev pub turned : Renaming → Renaming
turned names = record { to = names.back; back = names.to; there = names.again; again = names.there }

abbrev pub followed_by : Renaming → Renaming → Renaming
followed_by names more = record {
  to = λ place. more.to (names.to place);
  back = λ place. names.back (more.back place);
  there = λ place. ap names.back (more.there (names.to place)) ∙ names.there place;
  again = λ place. ap more.to (names.again (more.back place)) ∙ more.again place;
}

-- ---- what is renamed

-- 0 is no post's number
abbrev pub number_by : Renaming → ℕ → ℕ
number_by names zero = zero
number_by names (suc place) = suc (names.to place)

-- the post is the same, and its partner is renamed
abbrev pub line_by : Renaming → Line → Line
line_by names line = record { post = line.post; partner = option_map names.to line.partner }

-- a rank names posts by the numbers that it was told. A claim's number is its message's handle, which guests hold
abbrev pub request_by : Renaming → Request → Request
request_by names (request.Collect post) = request.Collect (number_by names post)
request_by names (request.Finished post) = request.Finished (number_by names post)
request_by names (request.All posts) = request.All (map (number_by names) posts)
request_by names q = q
