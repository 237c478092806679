-- What the report of a run tells whose ranks were told to stop.
use Rattle.std.specs.Prelude.{ℕ, Bool, false, if◌then◌else◌, nat_lt, List, ◌++◌, codes, Option, Some}
use Rattle.std.specs.Fmt.{decimal}
use Rattle.std.specs.List.{enumerate_from, flat_map}
use Rattle.cl_rank.specs.declared.stops.Stop.{Stop}
use Rattle.cl_rank.specs.declared.stops.Stop.TheVariants.{Budget}
use Rattle.rvmc_report.specs.Report.{RankEnd, harts_text, newline, output_text, stop_line}

-- the rank was told to stop before the turns were used up that its plan gives
abbrev pub is_told : ℕ → Option Stop → ℕ → Bool
is_told budget (Some Budget) turns = nat_lt turns budget
is_told budget other turns = false

-- `rank R stop stuck turns T` of such a rank, or another word in place of `stuck`; and of any other why it stopped
abbrev pub end_line : List ℕ → ℕ → ℕ → Option Stop → ℕ → List ℕ
end_line word budget rank stop turns =
    if is_told budget stop turns
    then codes "rank "
    ++ (decimal rank ++ (codes " stop " ++ (word ++ (codes " turns " ++ (decimal turns ++ newline)))))
    else stop_line rank stop turns

-- a rank's output, its harts in order, and that line
unfoldable pub told_rank : List ℕ → ℕ → ℕ → RankEnd → List ℕ
told_rank word budget rank end =
    output_text rank end.output ++ (harts_text rank 0 end.harts ++ end_line word budget rank end.stop end.turns)

-- these ranks in order, the first of which has this number
abbrev pub told_ranks : List ℕ → ℕ → ℕ → List RankEnd → List ℕ
told_ranks word budget number ranks = flat_map (λ rank. told_rank word budget rank.0 rank.1) (enumerate_from number ranks)

-- all ranks in order, each of which has so many turns by its plan
abbrev pub told_report : List ℕ → ℕ → List RankEnd → List ℕ
told_report word budget ranks = told_ranks word budget 0 ranks
