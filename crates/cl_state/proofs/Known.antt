-- What a turn knows of the phase that it asks about.
use Rattle.std.proofs.Common.{◌≡◌, ◌+◌, ℕ, refl, subst, Bool, true, false, List, length, length-append, Option}
use Rattle.std.proofs.Common.{Some, None, IsTrue, arith}
use Rattle.std.proofs.lemmas.Bool.{ltb-true}
use Rattle.std.proofs.lemmas.List.{length-replicate, length-take}
use Rattle.std.specs.Prelude.{◌*◌, ◌&&◌, if◌then◌else◌, not, nat_lt, replicate, take, ◌-◌}
use Rattle.rv_memory.specs.Memory.{bytes_at}
use Rattle.mp_request.specs.declared.entries.Partitions.{Partitions}
use Rattle.mp_request.specs.Table.{request_at}
use Rattle.part_phase.specs.declared.receiving.RecvPhase.{RecvPhase}
use Rattle.part_phase.specs.Limits.{are_parts, box_bytes, is_size}
use Rattle.part_phase.specs.Phases.{receiving_at, sending_at}
use Rattle.part_phase.specs.Receiving.{is_left, lowest_from, overlaps}
use Rattle.part_phase.specs.Sending.{all_freed, is_part_ready}
use Rattle.part_phase.proofs.Lowest.{found}
use Rattle.rv_image_types.specs.declared.images.ImageVersion.{ImageVersion}
use Rattle.cl_calls.specs.declared.calls.Call.TheVariants as call
use Rattle.cl_calls.specs.declared.sites.Site.{Site}
use Rattle.cl_calls.specs.Checks.{holds_of_sender, sending_side}
use Rattle.cl_state.specs.declared.asking.Doing.TheVariants.{Go}
use Rattle.cl_state.specs.Asked.{Part, asked, doing, part_of}
use Rattle.cl_state.specs.Moves.{AsksLook, AsksReady, Known, KnownLaw}
use Rattle.cl_state.specs.Partitions.{boxed}
use Rattle.cl_state.proofs.Forms.{Forms, by_form}
use Rattle.cl_state.proofs.Passed.{HasPassed, left_holds, passed}

if_active : (b : Bool) (o : Option ℕ) (box : ℕ) → b ≡ true → (if b then o else None) ≡ Some box → o ≡ Some box
if_active true o box on is = is
if_active false o box on is = absurd (cc)

-- the lowest of the boxes that pass a test which says that they are left
looks_at : (p : RecvPhase) (passes : ℕ → Bool) (box : ℕ) → (passes box ≡ true → is_left p.taken box ≡ true)
    → p.active ≡ true → (if p.active then lowest_from passes 0 p.boxes else None) ≡ Some box → AsksLook p box
looks_at p passes box left going next =
    let is = found passes 0 p.boxes box (if_active p.active (lowest_from passes 0 p.boxes) box going next) in
    record { going = going; known = omega (arith, is.1); there = omega (arith, is.1); left = left is.0 }

boxed_width : (version : ImageVersion) (bytes : List ℕ) → length (boxed version bytes) ≡ box_bytes version
boxed_width version bytes =
    let kept : List ℕ = take (box_bytes version) bytes in
    let zeros : List ℕ = replicate (box_bytes version - length kept) 0 in
    omega (
      arith,
      length-take (box_bytes version) bytes,
      length-append kept zeros,
      length-replicate {A = ℕ} (box_bytes version - length kept) 0,
    )

not_true : (b : Bool) → IsTrue (not b) → b ≡ false
not_true true is = absurd (cc)
not_true false is = refl

module _ (site : Site) (part : Part) where
  readies_so : (handle ready : ℕ) (side : Partitions) → sending_side (request_at part.requests handle) ≡ Some side
      → HasPassed site part (Go (call.Pready handle ready))
      → AsksReady site part.memory (sending_at part.phases side.link) ready
      (boxed site.version (bytes_at part.memory (side.buffer + ready * side.size) side.size))
  readies_so handle ready side is passed =
      let there =
      subst (λ o. IsTrue (holds_of_sender (λ p. nat_lt ready p.parts) part.phases o)) is passed.1.1.1.1.1.1.1.0 in
      let going =
      subst (λ o. IsTrue (holds_of_sender (λ p. not (all_freed p)) part.phases o)) is passed.1.1.1.1.1.1.1.1.1.1.1.0 in
      let unready =
      subst (λ o. IsTrue (holds_of_sender (λ p. not (is_part_ready p ready)) part.phases o)) is
      passed.1.1.1.1.1.1.1.1.1.1.1.1.0 in
      record {
        going = going;
        there = ltb-true ready (sending_at part.phases side.link).parts there;
        unready = not_true (is_part_ready (sending_at part.phases side.link) ready) unready;
        address = side.buffer + ready * side.size;
        size = side.size;
        copied = refl;
        width = boxed_width site.version (bytes_at part.memory (side.buffer + ready * side.size) side.size);
      }

  knows : (hart : ℕ)
      → Forms site hart part.memory part.requests part.phases
      (λ started d asks row. HasPassed site part d → Known site part.memory part.phases asks)
  knows hart = record {
    steps = λ passed. tt;
    refused = λ c passed. tt;
    stopped = λ passed. tt;
    polls_message = λ c post target passed. tt;
    polls_send = λ c post passed. tt;
    polls_other = λ c post passed. tt;
    stays = λ passed. tt;
    exits = λ value passed. tt;
    puts = λ buffer count passed. tt;
    ends = λ c end value passed. tt;
    completes = λ c source target passed. tt;
    completes_all = λ c value s of passed. tt;
    finds_nothing = λ c value status passed. tt;
    arrives = λ c side target passed. tt;
    holds = λ c passed. tt;
    makes = λ c t of none passed. tt;
    opens = λ c t of none passed. tt;
    starts = λ handle passed. tt;
    begins = λ handle link passed. tt;
    frees = λ handle passed. tt;
    sends = λ c why sync buffer count dest tag comm is of passed. tt;
    receives = λ c why now buffer capacity source tag comm is passed. tt;
    receives_claimed = λ c buffer capacity message passed. tt;
    starts_claimed = λ handle buffer capacity passed. tt;
    comes = λ c comm source tag target passed. tt;
    comes_claimed = λ c message target passed. tt;
    links_sending = λ t passed. record {
      count = left_holds (are_parts t.parts) true passed.1.1.1.1.1.1.1.0;
      bytes = left_holds (is_size site.version t.size) true passed.1.1.1.1.1.1.1.1.0;
    };
    links_receiving = λ t passed. record {
      count = left_holds (are_parts t.parts) true passed.1.1.1.1.1.1.1.0;
      bytes = left_holds (is_size site.version t.size) true passed.1.1.1.1.1.1.1.1.0;
    };
    collects = λ c m post target passed. tt;
    finishes = λ c m post target passed. tt;
    gathers = λ c m value s post posts of passed. tt;
    sees = λ c m comm source tag value status passed. tt;
    claims = λ c m comm source tag status passed. tt;
    cuts = λ c m link going unknown passed. record { going = going; unknown = unknown };
    readies = readies_so;
    frees_part = λ c m link free target going next ready passed. record { going = going; next = next; ready = ready };
    takes = λ c m side box target going next passed.
        looks_at (receiving_at part.phases side.link) (is_left (receiving_at part.phases side.link).taken) box
        (λ left. left) going next;
    looks = λ c side box asked going next passed.
        (let p = receiving_at part.phases side.link in
        looks_at p (λ box. is_left p.taken box && overlaps p asked box) box
        (left_holds (is_left p.taken box) (overlaps p asked box)) going next);
  }

pub known : KnownLaw
unfolding asked
known rank hart =
    let part = part_of rank hart in
    by_form rank.site hart part.memory part.requests part.phases _ (knows rank.site part hart)
    (doing rank.site part) (passed rank.site part)
