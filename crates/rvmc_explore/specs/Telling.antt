-- What `explore` prints.
use Rattle.std.specs.Prelude.{ℕ, ◌+◌, ◌≡◌, ◌++◌, ◌==◌, ◌&&◌, ◌||◌, List, [], ◌∷◌, Bool, false, nat_lt, true, not, Option, Some, None, codes, if◌then◌else◌, length, slice_get}
use Rattle.std.specs.Fmt.{decimal}
use Rattle.std.specs.List.{enumerate_from, flat_map, list_any}
use Rattle.rv_image_types.specs.declared.images.ImageParts.{ImageParts}
use Rattle.cl_moves.specs.Standing.{first_node}
use Rattle.cl_explore.specs.Ends.{Findings}
use Rattle.cl_explore.specs.declared.companies.Company.{Company}
use Rattle.cl_explore.specs.declared.kept.KeptNode.{KeptNode}
use Rattle.cl_explore.specs.declared.needs.Needs.{Needs}
use Rattle.cl_explore.specs.declared.needs.Needs.TheVariants as known
use Rattle.rvmc_report.specs.Report.{has_trapped, newline}
use Rattle.rvmc_explore.specs.Endless.{SaysEndsAnyway, SaysGoing, SaysNoneNeed, SaysNoneStuck, SaysUnending}
use Rattle.rvmc_explore.specs.Ends.{one_waits}
use Rattle.rvmc_explore.specs.Hangs.{SaysHanging}
use Rattle.rvmc_explore.specs.Outcomes.{AreApart, IsHeard, IsListOf, any_need}
use Rattle.rvmc_explore.specs.declared.outcomes.Outcome.{Outcome}

-- ---- one outcome

-- `outcome N`
abbrev pub outcome_number : ℕ → List ℕ
outcome_number number = codes "outcome " ++ decimal number

-- a text with the line of an outcome behind it: its number, and something by which it differs from the first one
abbrev pub AddsHead : ℕ → List ℕ → List ℕ → Type 0
AddsHead number old new = (more : List ℕ) × (new ≡ old ++ (outcome_number number ++ (more ++ newline)))

-- a text with all that is told of an outcome behind it
abbrev pub AddsOutcome : ℕ → Outcome → List ℕ → List ℕ → Type 0
AddsOutcome number outcome old new =
    (headed : List ℕ) × AddsHead number old headed × (new ≡ headed ++ outcome.body.items)

-- ---- all of them

-- the first has this number
abbrev pub AddsOutcomes : ℕ → List Outcome → List ℕ → List ℕ → Type 0
AddsOutcomes number [] old new = new ≡ old
AddsOutcomes number (outcome ∷ outcomes) old new =
    (mid : List ℕ) × AddsOutcome number outcome old mid × AddsOutcomes (number + 1) outcomes mid new

-- `3 ends look like outcome 1`, of an outcome that two or more ends have
abbrev pub ends_line : ℕ → ℕ → List ℕ
ends_line number ends =
    if nat_lt ends 2 then [] else (decimal ends ++ (codes " ends look like " ++ (outcome_number number ++ newline)))

-- those of these outcomes, of which the first has this number, in their order
abbrev pub ends_lines : ℕ → List Outcome → List ℕ
ends_lines number told = flat_map (λ outcome. ends_line outcome.0 outcome.1.ends) (enumerate_from number told)

-- outcomes, however far a search came: each is of an end to which its turns lead by the order, or of the most ranks that need
-- buffers where they lead; of such ranks there are none if every send is buffered. No two have the same text
pub record IsBegun (image : ImageParts) (order : List ℕ) (buffered : Bool) (text : List ℕ) : Type 0 where
  pub told : List Outcome
  pub each : (k : ℕ) (outcome : Outcome) → slice_get told k ≡ Some outcome → IsHeard order image outcome
  pub no_need : buffered ≡ true → any_need told ≡ false
  pub apart : AreApart told
  pub lines : AddsOutcomes 1 told [] text

-- `1 outcome`, `2 outcomes`
abbrev pub count_text : ℕ → List ℕ → List ℕ
count_text count word =
    if (count == 1) then codes "1 " ++ word else (decimal count ++ (codes " " ++ (word ++ codes "s")))

-- it isn't known whether ranks need buffers
abbrev pub is_unknown : Needs → Bool
is_unknown known.Unknown = true
is_unknown _ = false

-- some do
abbrev pub is_somebody : Needs → Bool
is_somebody known.Somebody = true
is_somebody _ = false

-- why states are left whose moves weren't made: a rank that took more turns by itself than it was let, or as many states
-- as were allowed
abbrev pub want : ℕ → Option ℕ → ℕ → List ℕ
want left (Some rank) turns =
    codes "not all: rank " ++ (decimal rank ++ (codes " takes more than " ++ (decimal turns ++ codes " turns alone")))
want left None turns = codes "not all: " ++ (decimal left ++ codes " states are left")

-- where standard sends mightn't wait for their receives, ranks may need buffers of which nothing is told
abbrev pub none_other : Bool → List ℕ
none_other true = codes "no other outcome"
none_other false = codes "no other outcome with buffered sends"

-- where ranks only wait for named ranks it doesn't matter how long messages take
abbrev pub on_the_way : Bool → List ℕ
on_the_way true = codes ", also with messages on their way"
on_the_way false = []

-- `no other outcome` only where no state is left whose moves weren't made
abbrev pub verdict : ℕ → Bool → Bool → Option ℕ → ℕ → List ℕ
verdict left may_wait only_waits long turns =
    if (left == 0) then none_other may_wait ++ on_the_way only_waits else want left long turns

-- where some state leads to no end
abbrev pub unending_line : Bool → List ℕ
unending_line unending = if unending then codes "some runs go on for ever" ++ newline else []

-- ranks that need buffers were looked for, and it isn't known whether there are any
abbrev pub unknown_line : List ℕ
unknown_line = codes "not all: whether ranks need buffers is unknown; raise --states, or use --buffered" ++ newline

-- they weren't looked for, though nobody said that sends buffer
abbrev pub unsought_line : List ℕ
unsought_line = codes "whether ranks need buffers wasn't checked: they have several harts" ++ newline

-- why it isn't known whether ranks need buffers, unless standard sends are to buffer
abbrev pub needs_line : Bool → Needs → List ℕ
needs_line buffered known.Unsought = if buffered then [] else unsought_line
needs_line buffered known.Unknown = unknown_line
needs_line buffered _ = []

-- `2 outcomes of 20 states`
abbrev pub counts_text : ℕ → ℕ → List ℕ
counts_text outcomes states =
    count_text outcomes (codes "outcome") ++ (codes " of " ++ count_text states (codes "state"))

-- `2 outcomes of 20 states: no other outcome`
abbrev pub last_line : ℕ → ℕ → ℕ → Bool → Bool → Option ℕ → ℕ → List ℕ
last_line outcomes states left may_wait only_waits long turns =
    counts_text outcomes states ++ (codes ": " ++ (verdict left may_wait only_waits long turns ++ newline))

-- ---- the status

-- a hart trapped in the node
abbrev pub trapped_in : KeptNode → Bool
trapped_in node = list_any (λ rank. has_trapped rank.harts) node.cluster.ranks

-- a hart that takes turns waits there
abbrev pub waits_in : List ℕ → KeptNode → Bool
waits_in order node = list_any (λ rank. one_waits order rank.harts) node.cluster.ranks

abbrev pub holds_of : (KeptNode → Bool) → Option KeptNode → Bool
holds_of p None = false
holds_of p (Some node) = p node

-- it holds of one of the ends
abbrev pub any_end : (KeptNode → Bool) → List KeptNode → List ℕ → Bool
any_end p kept ends = list_any (λ node. holds_of p (slice_get kept node)) ends

-- all is told: no state is left, and where ranks that need buffers were looked for it is known whether there are any
abbrev pub is_all : ℕ → Needs → Bool
is_all left needs = (left == 0) && not (is_unknown needs)

-- 4 where not all is told, else 3 where a hart trapped at an end, else 7 where one waits for ever, ranks need buffers, or runs hang if
-- sends wait, else 8 where some runs go on for ever, else 0
abbrev pub search_status : Bool → Bool → Bool → Bool → ℕ
search_status all trapped stuck unending =
    if all then (if trapped then 3 else (if stuck then 7 else (if unending then 8 else 0))) else 4

abbrev pub is_some_company : List Company → Bool
is_some_company companies = not (length companies == 0)

-- a hart that takes turns waits at an end, or some ranks are stuck anywhere
abbrev pub has_stuck : List ℕ → Findings → Bool
has_stuck order found = any_end (waits_in order) found.kept found.ends || is_some_company found.companies

abbrev pub findings_status : List ℕ → Findings → Needs → Bool → Bool → ℕ
findings_status order found needs hanging unending =
    search_status (is_all found.left needs) (any_end trapped_in found.kept found.ends)
    ((has_stuck order found || is_somebody needs) || hanging) unending

-- ---- the whole

-- each outcome that is told is one to which a run by the order leads, no two have the same text, and they are all where it
-- says so, as it does unless the moves of as many states as are allowed were made, or a rank took more turns by itself.
-- Runs of any length come to what is told of those that never end, of ranks that are stuck, and where standard sends might
-- wait, of ranks that need buffers
pub record Tells (image : ImageParts) (order : List ℕ) (buffered : Bool) (states turns : ℕ) (text : List ℕ) (status : ℕ)
    : Type 0 where
  pub told : List Outcome
  pub listed : IsListOf image order buffered states turns told
  pub long : Option ℕ
  pub unending : Bool
  pub unending_is : SaysUnending image order (first_node image) (listed.found).left unending
  pub none_stuck : SaysNoneStuck image order (first_node image) (listed.found).left (listed.found).companies
  pub none_need : SaysNoneNeed image order (first_node image) (listed.found).left (listed.found).may_wait
  pub ends_anyway : SaysEndsAnyway order (first_node image) (listed.found).left (listed.found).may_wait
  pub body : List ℕ
  pub lines : AddsOutcomes 1 told [] body
  pub going : List ℕ
  pub going_is : SaysGoing image order unending going
  pub spelled : text
      ≡ body
      ++ (ends_lines 1 told
      ++ (going
      ++ (unending_line unending
      ++ (needs_line buffered listed.needs
      ++ last_line (length told) (length (listed.found).kept) (listed.found).left (listed.found).may_wait
      (listed.found).only_waits long turns))))
  pub hanging : Bool
  pub hanging_is : SaysHanging image order told listed.needs unending hanging
  pub status_is : status ≡ findings_status order listed.found listed.needs hanging unending
