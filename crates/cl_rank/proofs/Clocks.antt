-- The clock of a hub stays below 2^62.
use Rattle.std.proofs.Common.{◌<◌, ◌^◌, ℕ, List, [], ◌∷◌, ◌++◌, lit<, arith}
use Rattle.rv_image_types.specs.declared.images.Link.{Link}
use Rattle.cl_journal.specs.Below.{Call}
use Rattle.cl_journal.specs.declared.entries.Entry.{Entry}
use Rattle.cl_journal.specs.declared.journal.HubFault.{HubFault}
use Rattle.cl_journal.specs.declared.journal.HubFault.TheVariants as fault
use Rattle.cl_journal.specs.Journal.{call_of, stamp_after}
use Rattle.cl_journal.specs.Replaying.{HubHistory, clock_of, Follows, Replays}
use Rattle.cl_journal.specs.Calls.{IsRefusal}
use Rattle.cl_rank.specs.Turning.{IsFault}

below_after : (links : List Link) (before : List Call) (clock : ℕ) (es : List Entry) → clock < 2 ^ 62
    → Follows links before clock es → stamp_after clock es < 2 ^ 62
below_after links before clock [] low follows = low
below_after links before clock (e ∷ es) low follows =
    below_after links (before ++ call_of e ∷ []) e.stamp es follows.0.below follows.1

pub clock_below : (j : HubHistory) → Replays j → clock_of j < 2 ^ 62
clock_below j replays = below_after j.links [] 0 j.entries (lit< tt) replays

-- what a refusal of the hub carries, at a clock below 2^62
pub is_fault : (j : HubHistory) (rank clock : ℕ) (f : HubFault) → Replays j → clock < 2 ^ 62 → IsRefusal j rank clock f
    → IsFault f
is_fault j rank clock fault.Memory replays low refusal = tt
is_fault j rank clock (fault.ClockFull c) replays low refusal =
    let below : clock_of j < 2 ^ 62 = clock_below j replays in omega (arith, below, low, refusal.1, refusal.2)
is_fault j rank clock (fault.Calls n) replays low refusal = refusal.0
