-- What the row of a turn is, by what the turn asks.
use Rattle.std.proofs.Common.{◌≡◌, ℕ, List, [], ◌∷◌, length, Bool, true, false, Option, Some, None, refl, sym}
use Rattle.std.proofs.Common.{subst, inl, inr, zero, suc, take, ◌≤◌, ◌+◌, ◌*◌, arith}
use Rattle.std.specs.Prelude.{not, ◌⊎◌, nat_lt}
use Rattle.rv_memory.specs.Memory.{bytes_at}
use Rattle.rv_image_types.specs.declared.images.ImageVersion.{ImageVersion}
use Rattle.mp_types.specs.declared.requests.Request.{Request}
use Rattle.mp_types.specs.declared.requests.Request.TheVariants as request
use Rattle.mp_request.specs.declared.entries.Partitions.{Partitions}
use Rattle.mp_request.specs.declared.entries.Transfer.{Transfer}
use Rattle.mp_request.specs.declared.entries.Transfer.TheVariants.{SendPartitions}
use Rattle.mp_request.specs.Table.{Table, request_at}
use Rattle.part_phase.specs.declared.phases.Phase.{Phase}
use Rattle.part_phase.specs.declared.receiving.RecvPhase.{RecvPhase}
use Rattle.part_phase.specs.declared.sending.SendPhase.{SendPhase}
use Rattle.part_phase.specs.Limits.{are_parts, box_bytes, is_size, padded}
use Rattle.part_phase.specs.Phases.{sending_at, receiving_at}
use Rattle.part_phase.specs.Receiving.{next_box, next_box_of}
use Rattle.part_phase.specs.Sending.{all_freed, is_part_ready, next_to_free}
use Rattle.cl_calls.specs.Checks.{holds_of_sender, sending_side, sends_in}
use Rattle.cl_calls.specs.declared.calls.Call.TheVariants as call
use Rattle.cl_calls.specs.declared.sites.Site.{Site}
use Rattle.cl_state.specs.declared.asking.Ask.{Ask}
use Rattle.cl_state.specs.declared.asking.Ask.TheVariants as ask
use Rattle.cl_state.specs.declared.asking.Doing.{Doing}
use Rattle.cl_state.specs.declared.asking.Doing.TheVariants.{Go}
use Rattle.cl_state.specs.declared.row.Outcome.{Outcome}
use Rattle.cl_state.specs.declared.row.Outcome.TheVariants as outcome
use Rattle.cl_state.specs.declared.row.Row.{Row}
use Rattle.cl_state.specs.declared.row.Row.TheVariants.{AtOnce, OnReply, OnBox}
use Rattle.cl_state.specs.declared.row.Visit.TheVariants.{Readies, Frees, Takes, Sees}
use Rattle.cl_state.specs.declared.row.Wanted.{Wanted}
use Rattle.cl_state.specs.declared.row.Wanted.TheVariants as wanted
use Rattle.cl_state.specs.Asked.{Part, asked_in}
use Rattle.cl_state.specs.Moves.{link_of, started_in}
use Rattle.cl_state.specs.Partitions.{asked_ready}
use Rattle.cl_state.specs.Table.{row_in}
use Rattle.cl_state.proofs.Forms.{Forms, by_form}
use Rattle.cl_state.proofs.Passed.{HasPassed, left_holds}

-- ---- what a row is

-- what is done at once begins a phase on this link, or on none; it opens no request that sends partitions
abbrev pub StartsAs : Outcome → Option ℕ → Type 0
StartsAs (outcome.BeginsPhase handle link) started = started ≡ Some link
StartsAs (outcome.Opens r) started = (started ≡ None) × (sends_in r.transfer ≡ None)
StartsAs _ started = started ≡ None

-- the row of a turn that asks nobody
abbrev pub AloneRow : Option ℕ → Row → Type 0
AloneRow started (AtOnce o) = StartsAs o started
AloneRow started (OnReply m w) = started ≡ None
AloneRow started (OnBox v) = ⊥

-- what is wanted of the hub, of this request
abbrev pub WantedOf : ImageVersion → Request → Wanted → Type 0
WantedOf version r (wanted.SendingLink t) = (are_parts t.parts ≡ true) × (is_size version t.size ≡ true)
WantedOf version r (wanted.ReceivingLink t) = (are_parts t.parts ≡ true) × (is_size version t.size ≡ true)
WantedOf version r (wanted.Cut m link) = r ≡ request.Cut link
WantedOf version r (wanted.Post why t) = sends_in t ≡ None
WantedOf version r _ = Unit {0}

abbrev pub HubRow : ImageVersion → Request → Row → Type 0
HubRow version r (AtOnce o) = ⊥
HubRow version r (OnReply m w) = WantedOf version r w
HubRow version r (OnBox v) = ⊥

-- a partition can be made ready
pub record CanReady (p : SendPhase) (part : ℕ) : Type 0 where
  pub there : nat_lt part p.parts ≡ true
  pub going : all_freed p ≡ false
  pub unready : is_part_ready p part ≡ false

-- the bytes are those of a request's partition, as they stand in a box
pub record IsOfRequest (version : ImageVersion) (table : Table) (link : ℕ) (bytes : List ℕ) : Type 0 where
  pub handle : ℕ
  pub side : Partitions
  pub there : sending_side (request_at table handle) ≡ Some side
  pub of : side.link ≡ link
  pub raw : List ℕ
  pub filled : bytes ≡ padded version raw
  pub count : length raw ≤ side.size

pub record IsReadying (version : ImageVersion) (table : Table) (phases : List Phase) (link part : ℕ) (bytes : List ℕ)
    (does : Row) : Type 0 where
  pub row : does ≡ OnBox (Readies link part)
  pub can : CanReady (sending_at phases link) part
  pub of : IsOfRequest version table link bytes

-- a partition can be found taken
abbrev pub CanFree : SendPhase → ℕ → Type 0
CanFree p part = (next_to_free p ≡ Some part) × (is_part_ready p part ≡ true)

abbrev pub FreesAt : List Phase → ℕ → ℕ → Row → Type 0
FreesAt phases link part (AtOnce o) = ⊥
FreesAt phases link part (OnReply m w) = ⊥
FreesAt phases link part (OnBox (Frees m at target)) = (at ≡ link) × CanFree (sending_at phases link) part
FreesAt phases link part (OnBox _) = ⊥

-- a box can be taken
pub record CanTake (p : RecvPhase) (box : ℕ) : Type 0 where
  pub active : p.active ≡ true
  pub next : (next_box p ≡ Some box) ⊎ ((part : ℕ) × (next_box_of p part ≡ Some box))

abbrev pub TakesAt : List Phase → ℕ → ℕ → Row → Type 0
TakesAt phases link box (AtOnce o) = ⊥
TakesAt phases link box (OnReply m w) = ⊥
TakesAt phases link box (OnBox (Takes m side at target)) =
    (side.link ≡ link) × (at ≡ box) × CanTake (receiving_at phases link) box
TakesAt phases link box (OnBox (Sees side at asked)) =
    (side.link ≡ link) × (at ≡ box) × CanTake (receiving_at phases link) box
TakesAt phases link box (OnBox _) = ⊥

-- the row of a turn that asks this
abbrev pub RowFits : ImageVersion → Table → List Phase → Option ℕ → Ask → Row → Type 0
RowFits version table phases started ask.Plain row = (started ≡ None) × AloneRow started row
RowFits version table phases started ask.Local row = AloneRow started row
RowFits version table phases started ask.Held row = AloneRow started row
RowFits version table phases started ask.Idle row = AloneRow started row
RowFits version table phases started (ask.Hub r) row = HubRow version r row
RowFits version table phases started (ask.Ready link part bytes) row = IsReadying version table phases link part bytes row
RowFits version table phases started (ask.Freed link part) row = FreesAt phases link part row
RowFits version table phases started (ask.Look link part) row = TakesAt phases link part row

-- ---- all rows

no_sender : (t : Transfer) → link_of t ≡ None → sends_in t ≡ None
no_sender (SendPartitions side) none = absurd (cc)
no_sender _ none = refl

not_true : (b : Bool) → not b ≡ true → b ≡ false
not_true true h = sym h
not_true false h = refl

short : (xs : List ℕ) (n : ℕ) → length (take n xs) ≤ n
short [] zero = omega arith
short [] (suc n) = omega arith
short (x ∷ xs) zero = omega arith
short (x ∷ xs) (suc n) = let less : length (take n xs) ≤ n = short xs n in omega (arith, less)

no_longer : (xs : List ℕ) (n : ℕ) → length (take n xs) ≤ length xs
no_longer [] zero = omega arith
no_longer [] (suc n) = omega arith
no_longer (x ∷ xs) zero = omega arith
no_longer (x ∷ xs) (suc n) = let less : length (take n xs) ≤ length xs = no_longer xs n in omega (arith, less)

-- the first bytes of a partition are no more than it has
first_short : (xs : List ℕ) (n size : ℕ) → length xs ≤ size → length (take n xs) ≤ size
first_short xs n size low = let less = no_longer xs n in omega (arith, less, low)

module _ (site : Site) (part : Part) where
  readies_so : (handle ready : ℕ) (side : Partitions) → sending_side (request_at part.requests handle) ≡ Some side
      → HasPassed site part (Go (call.Pready handle ready))
      → RowFits site.version part.requests part.phases None (asked_ready site part.memory ready (Some side))
      (OnBox (Readies side.link ready))
  readies_so handle ready side is passed = record {
    row = refl;
    can = record {
      there = by (λ p. nat_lt ready p.parts) passed.1.1.1.1.1.1.1.0;
      going = not_true _ (by (λ p. not (all_freed p)) passed.1.1.1.1.1.1.1.1.1.1.1.0);
      unready = not_true _ (by (λ p. not (is_part_ready p ready)) passed.1.1.1.1.1.1.1.1.1.1.1.1.0);
    };
    of = record {
      handle = handle;
      side = side;
      there = is;
      of = refl;
      raw = take (box_bytes site.version) (bytes_at part.memory (side.buffer + ready * side.size) side.size);
      filled = refl;
      count = first_short _ (box_bytes site.version) side.size (short _ side.size);
    };
  }
    where
      by : (holds : SendPhase → Bool)
          → holds_of_sender holds part.phases (sending_side (request_at part.requests handle)) ≡ true
          → holds (sending_at part.phases side.link) ≡ true
      by holds h = subst (λ s. holds_of_sender holds part.phases s ≡ true) is h

  rows : (hart : ℕ)
      → Forms site hart part.memory part.requests part.phases
      (λ started d asks row.
      HasPassed site part d → RowFits site.version part.requests part.phases started asks row)
  rows hart = record {
    steps = λ passed. (refl, refl);
    refused = λ c passed. refl;
    stopped = λ passed. refl;
    polls_message = λ c post target passed. tt;
    polls_send = λ c post passed. tt;
    polls_other = λ c post passed. tt;
    stays = λ passed. refl;
    exits = λ value passed. refl;
    puts = λ buffer count passed. refl;
    ends = λ c end value passed. refl;
    completes = λ c source target passed. refl;
    completes_all = λ c value s of passed. refl;
    finds_nothing = λ c value status passed. refl;
    arrives = λ c side target passed. refl;
    holds = λ c passed. refl;
    makes = λ c t of none passed. (refl, no_sender t none);
    opens = λ c t of none passed. (refl, no_sender t none);
    starts = λ handle passed. refl;
    begins = λ handle link passed. refl;
    frees = λ handle passed. refl;
    sends = λ c why sync buffer count dest tag comm is of passed. refl;
    receives = λ c why now buffer capacity source tag comm is passed. refl;
    receives_claimed = λ c buffer capacity message passed. refl;
    starts_claimed = λ handle buffer capacity passed. refl;
    comes = λ c comm source tag target passed. tt;
    comes_claimed = λ c message target passed. tt;
    links_sending = λ t passed. (
      left_holds (are_parts t.parts) true passed.1.1.1.1.1.1.1.0,
      left_holds (is_size site.version t.size) true passed.1.1.1.1.1.1.1.1.0,
    );
    links_receiving = λ t passed. (
      left_holds (are_parts t.parts) true passed.1.1.1.1.1.1.1.0,
      left_holds (is_size site.version t.size) true passed.1.1.1.1.1.1.1.1.0,
    );
    collects = λ c m post target passed. tt;
    finishes = λ c m post target passed. tt;
    gathers = λ c m value s post posts of passed. tt;
    sees = λ c m comm source tag value status passed. tt;
    claims = λ c m comm source tag status passed. tt;
    cuts = λ c m link going unknown passed. refl;
    readies = readies_so;
    frees_part = λ c m link free target going next ready passed. (refl, (next, ready));
    takes = λ c m side box target going next passed. (refl, refl, record { active = going; next = inl next });
    looks = λ c side box asked going next passed. (refl, refl, record { active = going; next = inr (asked, next) });
  }

pub row_fits : (site : Site) (hart : ℕ) (part : Part) (d : Doing) → HasPassed site part d
    → RowFits site.version part.requests part.phases (started_in part.requests d)
    (asked_in site part.memory part.requests part.phases d)
    (row_in site hart part.memory part.requests part.phases d)
row_fits site hart part =
    by_form site hart part.memory part.requests part.phases _ (rows site part hart)
