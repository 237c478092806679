-- What a call leaves of its hart, of the other harts and of the memory.
use Rattle.std.proofs.Common.{◌≡◌, ◌≤◌, inl, inr, ◌+◌, ◌*◌, ◌-◌, ℕ, zero, suc, Bool, true, false, refl, sym, ap, ◌∙◌, subst, arith, List, [], ◌∷◌, ◌++◌, length, take, drop, get_or, Option, Some, None, append_assoc}
use Rattle.std.specs.Prelude.{◌==◌, ◌||◌, ◌&&◌, nat_le, if◌then◌else◌}
use Rattle.std.proofs.lemmas.Bool.{leb-true}
use Rattle.std.proofs.lemmas.List.{get_or_append_left, get_or-append-add, get_or-take, get_or-drop, length-append, get_or-set_other, get_or-set_same}
use Rattle.rv_memory.specs.Memory.{Memory, with_bytes, bytes_of}
use Rattle.rv_memory.specs.Access.{is_inside}
use Rattle.rv_hart.specs.State.{State, in_mode}
use Rattle.rv_hart.specs.declared.state.Mode.TheVariants.{Waiting}
use Rattle.rv_hart.specs.declared.state.Wait.TheVariants.{Post, Again}
use Rattle.mp_types.specs.declared.codes.Code.{Code}
use Rattle.mp_types.specs.declared.codes.Code.TheVariants as code
use Rattle.mp_types.specs.declared.messages.Envelope.{Envelope}
use Rattle.mp_types.specs.declared.messages.Message.{Message}
use Rattle.mp_types.specs.declared.replies.Reply.{Reply}
use Rattle.mp_types.specs.declared.replies.Reply.TheVariants as reply
use Rattle.mp_request.specs.declared.entries.OpenRequest.{OpenRequest}
use Rattle.mp_request.specs.declared.entries.Partitions.{Partitions}
use Rattle.mp_request.specs.declared.entries.Progress.{Progress}
use Rattle.mp_request.specs.declared.entries.Progress.TheVariants as progress
use Rattle.mp_request.specs.declared.entries.Transfer.{Transfer}
use Rattle.mp_request.specs.Table.{Table, lowest_free}
use Rattle.part_phase.specs.declared.phases.Phase.{Phase}
use Rattle.part_phase.specs.Phases.{sending_at, receiving_at, changed_at, on_sending}
use Rattle.part_phase.specs.Receiving.{is_cut}
use Rattle.part_phase.specs.Sending.{all_freed, one_freed}
use Rattle.cl_calls.specs.declared.calls.Several.{Several}
use Rattle.cl_calls.specs.declared.sites.Site.{Site}
use Rattle.cl_calls.specs.Calls.{any, no_rank}
use Rattle.cl_calls.specs.Handles.{handles_in}
use Rattle.cl_calls.specs.Needs.{array_at}
use Rattle.cl_state.specs.declared.asking.Answer.{Answer}
use Rattle.cl_state.specs.declared.asking.Answer.TheVariants as answer
use Rattle.cl_state.specs.declared.asking.Doing.{Doing}
use Rattle.cl_state.specs.declared.pending.Manner.{Manner}
use Rattle.cl_state.specs.declared.pending.Manner.TheVariants.{Immediate, Blocking, Posting, Polling}
use Rattle.cl_state.specs.declared.pending.Pending.{Pending}
use Rattle.cl_state.specs.declared.pending.Pending.TheVariants as pending
use Rattle.cl_state.specs.declared.pending.Target.{Target}
use Rattle.cl_state.specs.declared.row.Outcome.{Outcome}
use Rattle.cl_state.specs.declared.row.Outcome.TheVariants as outcome
use Rattle.cl_state.specs.declared.row.Purpose.{Purpose}
use Rattle.cl_state.specs.declared.row.Purpose.TheVariants as purpose
use Rattle.cl_state.specs.declared.row.Row.{Row}
use Rattle.cl_state.specs.declared.row.Row.TheVariants.{AtOnce, OnReply, OnBox}
use Rattle.cl_state.specs.declared.row.Visit.{Visit}
use Rattle.cl_state.specs.declared.row.Visit.TheVariants.{Readies, Frees, Takes, Sees}
use Rattle.cl_state.specs.declared.row.Wanted.{Wanted}
use Rattle.cl_state.specs.declared.row.Wanted.TheVariants as wanted
use Rattle.cl_state.specs.Asked.{Part, no_hart, part_of, doing}
use Rattle.cl_state.specs.Several.{post_of, pendings, are_fit, got_for_post, left_of, given_one, given, with_all_bytes, with_statuses, bytes_of_status, statuses_of}
use Rattle.cl_state.specs.Table.{begun_outcome, row_in}
use Rattle.cl_state.specs.Rank.{Rank}
use Rattle.cl_state.specs.Told.{arrived, arrived_from, completed_all, cut_known, done, ended, found, found_at, found_nothing, freed, freed_one, gathered, gathered_if, made_side_at, not_yet, opened_at, part_readied, phase_begun, received, received_from, received_message, replied, returned, seen_one, taken_one, told, told_in, told_row, visited, with_taken_box, with_status}
use Rattle.cl_state.specs.Written.{written}
use Rattle.cl_state.proofs.Forms.{Forms, by_form}
use Rattle.cl_state_laws.specs.Leaves.{IsLeft, has_returned, is_waiting, has_ended, is_kept, Range, IsOutside, IsOutsideAll, status_range, target_ranges, box_range, buffers_of, statuses_range, several_ranges, ranges_of, IsNoStep, HartLaw, BytesLaw}

-- ---- bytes that are written

abbrev at : Memory → ℕ → ℕ
at memory i = get_or memory.bytes i 0

-- as many as are asked for are taken, where there are so many
short : (xs : List ℕ) (n : ℕ) → n ≤ length xs → length (take n xs) ≡ n
short xs zero le = refl
short [] (suc n) le = absurd (omega (arith, le))
short (x ∷ xs) (suc n) le = ap suc (short xs n (omega (arith, le)))

-- other bytes of a list stay
other_bytes : (bytes new : List ℕ) (start i : ℕ) → start + length new ≤ length bytes → IsOutside i (start, length new)
    → get_or (take start bytes ++ new ++ drop (start + length new) bytes) i 0 ≡ get_or bytes i 0
other_bytes bytes new start i fits (inl before) =
    let front : length (take start bytes) ≡ start = short bytes start (omega (arith, fits)) in
    ap (λ xs. get_or xs i 0) (append_assoc (take start bytes) new (drop (start + length new) bytes))
    ∙ get_or_append_left (take start bytes) (new ++ drop (start + length new) bytes) 0 i (omega (arith, before, front))
    ∙ get_or-take start bytes i 0 before
other_bytes bytes new start i fits (inr behind) =
    let front : length (take start bytes) ≡ start = short bytes start (omega (arith, fits)) in
    let k = i - (start + length new) in
    let first : i ≡ length (take start bytes) + (length new + k) = omega (arith, behind, front) in
    let second : (start + length new) + k ≡ i = omega (arith, behind) in
    ap (λ xs. get_or xs i 0) (append_assoc (take start bytes) new (drop (start + length new) bytes))
    ∙ ap (λ n. get_or (take start bytes ++ (new ++ drop (start + length new) bytes)) n 0) first
    ∙ get_or-append-add (take start bytes) (new ++ drop (start + length new) bytes) (length new + k) 0
    ∙ get_or-append-add new (drop (start + length new) bytes) k 0
    ∙ get_or-drop (start + length new) bytes k 0
    ∙ ap (λ n. get_or bytes n 0) second

other_written : (memory : Memory) (address : ℕ) (bytes : List ℕ) (i : ℕ) → IsOutside i (address, length bytes)
    → at (written memory address bytes) i ≡ at memory i
other_written memory address bytes i past = go (length bytes == 0) refl (is_inside memory address (length bytes)) refl
  where
    inner : (none : Bool) → (length bytes == 0) ≡ none → (inside : Bool)
        → is_inside memory address (length bytes) ≡ inside → (text : Bool)
        → at (if (none || (inside && text))
        then (if none then memory else with_bytes memory address bytes) else memory) i
        ≡ at memory i
    inner true e inside f text = refl
    inner false e true f true =
        other_bytes memory.bytes bytes address i (leb-true (address + length bytes) (length memory.bytes) f) past
    inner false e true f false = refl
    inner false e false f text = refl

    go : (none : Bool) → (length bytes == 0) ≡ none → (inside : Bool)
        → is_inside memory address (length bytes) ≡ inside
        → at (written memory address bytes) i ≡ at memory i
    go none e inside f =
        ap (λ b. at (if (b || (is_inside memory address (length bytes) && nat_le memory.text address))
        then (if b then memory else with_bytes memory address bytes) else memory) i) e
        ∙ ap (λ b. at (if (none || (b && nat_le memory.text address))
        then (if none then memory else with_bytes memory address bytes) else memory) i) f
        ∙ inner none e inside f (nat_le memory.text address)

-- no more bytes than the range has are written into it
part_of_range : (i address most count : ℕ) → count ≤ most → IsOutside i (address, most) → IsOutside i (address, count)
part_of_range i address most count few (inl before) = inl before
part_of_range i address most count few (inr behind) = inr (omega (arith, few, behind))

take_few : (n : ℕ) (xs : List ℕ) → length (take n xs) ≤ n
take_few zero xs = omega arith
take_few (suc n) [] = omega arith
take_few (suc n) (x ∷ xs) = (let few = take_few n xs in omega (arith, few))

other_taken : (memory : Memory) (address most : ℕ) (bytes : List ℕ) (i : ℕ) → IsOutside i (address, most)
    → at (written memory address (take most bytes)) i ≡ at memory i
other_taken memory address most bytes i past =
    other_written memory address (take most bytes) i
    (part_of_range i address most (length (take most bytes)) (take_few most bytes) past)

no_take : (n : ℕ) → length (take {A = ℕ} n []) ≡ 0
no_take zero = refl
no_take (suc n) = refl

-- no bytes
none_outside : (i address : ℕ) → IsOutside i (address, 0)
none_outside zero zero = inr (omega arith)
none_outside (suc i) zero = inr (omega arith)
none_outside zero (suc address) = inl (omega arith)
none_outside (suc i) (suc address) = elim (none_outside i address) [
  | inl lt ↦ inl (omega (arith, lt))
  | inr le ↦ inr (omega (arith, le))
]

other_status : (memory : Memory) (address source tag count i : ℕ) → IsOutsideAll i (status_range address)
    → at (with_status memory address source tag count) i ≡ at memory i
unfolding with_status
other_status memory address source tag count i past = go (address == 0) past
  where
    go : (none : Bool) → IsOutsideAll i (if none then [] else (address, 24) ∷ [])
        → at (if none then memory
        else written memory address (bytes_of source 8 ++ bytes_of tag 8 ++ bytes_of count 8)) i
        ≡ at memory i
    go true past = refl
    go false past = other_written memory address (bytes_of source 8 ++ bytes_of tag 8 ++ bytes_of count 8) i past.0

append_outside : (i : ℕ) (rs ss : List Range) → IsOutsideAll i (rs ++ ss) → IsOutsideAll i rs × IsOutsideAll i ss
append_outside i [] ss past = (tt, past)
append_outside i (r ∷ rs) ss past =
    (let p = append_outside i rs ss past.1 in ((past.0, p.0), p.1))

-- ---- several receives

other_given : (site : Site) (ps : List Pending) (gots : List (Option Message)) (memory : Memory) (i : ℕ)
    → IsOutsideAll i (buffers_of ps) → at (with_all_bytes memory (given site ps gots)) i ≡ at memory i
other_given site [] gots memory i past = refl
other_given site (pending.Message post buffer capacity ∷ ps) gots memory i past =
    other_given site ps (left_of (Some post) gots) _ i past.1
    ∙ one (got_for_post (Some post) gots)
  where
    one : (o : Option Message)
        → at (written memory (given_one site (pending.Message post buffer capacity) o).buffer
        (given_one site (pending.Message post buffer capacity) o).bytes) i ≡ at memory i
    one None = other_written memory 0 [] i (none_outside i 0)
    one (Some m) = other_taken memory buffer capacity m.bytes i past.0
other_given site (pending.Nothing ∷ ps) gots memory i past =
    other_given site ps gots _ i past ∙ other_written memory 0 [] i (none_outside i 0)
other_given site (pending.FromNull ∷ ps) gots memory i past =
    other_given site ps gots _ i past ∙ other_written memory 0 [] i (none_outside i 0)
other_given site (pending.Word post ∷ ps) gots memory i past =
    other_given site ps (left_of (Some post) gots) _ i past ∙ other_written memory 0 [] i (none_outside i 0)

statuses_length : (site : Site) (ps : List Pending) (gots : List (Option Message))
    → length (statuses_of (given site ps gots)) ≡ 24 * length ps
unfolding bytes_of_status
statuses_length site [] gots = refl
statuses_length site (p ∷ ps) gots =
    (let rest = statuses_length site ps (left_of (post_of p) gots) in
    let both = length-append (bytes_of_status (given_one site p (got_for_post (post_of p) gots)))
    (statuses_of (given site ps (left_of (post_of p) gots))) in
    let one : length (bytes_of_status (given_one site p (got_for_post (post_of p) gots))) ≡ 24 = refl in
    omega (arith, rest, both, one))

other_statuses : (site : Site) (ps : List Pending) (gots : List (Option Message)) (memory : Memory) (address i : ℕ)
    → IsOutsideAll i (statuses_range address ps)
    → at (with_statuses memory address (given site ps gots)) i ≡ at memory i
other_statuses site ps gots memory address i past = go (address == 0) past
  where
    go : (none : Bool) → IsOutsideAll i (if none then [] else (address, 24 * length ps) ∷ [])
        → at (if none then memory else written memory address (statuses_of (given site ps gots))) i ≡ at memory i
    go true past = refl
    go false past =
        other_written memory address (statuses_of (given site ps gots)) i
        (subst (λ n. IsOutside i (address, n)) (sym (statuses_length site ps gots)) past.0)

-- ---- what a part of a rank is left with

record Leaves (i : ℕ) (ranges : List Range) (old new : Part) : Type 0 where
  hart : IsLeft old.hart new.hart
  byte : IsOutsideAll i ranges → at new.memory i ≡ at old.memory i

-- a call that ends, and writes no memory
ends : (i : ℕ) (ranges : List Range) (c : Code) (value : ℕ) (old new : Part) → new.hart ≡ old.hart
    → (IsOutsideAll i ranges → at new.memory i ≡ at old.memory i)
    → Leaves i ranges old (ended c value new)
ends i ranges c value old new same byte =
    record { hart = has_returned c value (ap (returned c value) same); byte = byte }

ends_so : (i : ℕ) (ranges : List Range) (c : Code) (value : ℕ) (part : Part) → Leaves i ranges part (ended c value part)
ends_so i ranges c value part = ends i ranges c value part part refl (λ past. refl)

left_not_yet : (i : ℕ) (ranges : List Range) (m : Manner) (old new : Part) → new.hart ≡ old.hart
    → (IsOutsideAll i ranges → at new.memory i ≡ at old.memory i)
    → Leaves i ranges old (not_yet m new)
left_not_yet i ranges Immediate old new same byte = ends i ranges code.Ok 0 old new same byte
left_not_yet i ranges Blocking old new same byte =
    record { hart = is_waiting Again (ap (λ (h : State). in_mode h (Waiting Again)) same); byte = byte }
left_not_yet i ranges Polling old new same byte = record { hart = is_kept same; byte = byte }
left_not_yet i ranges Posting old new same byte = ends i ranges code.BadRequest 0 old new same byte

left_received : (i : ℕ) (target : Target) (source tag : ℕ) (bytes : List ℕ) (part : Part)
    → Leaves i (target_ranges target) part (received target source tag bytes part)
unfolding received
left_received i target source tag bytes part = record {
  hart = has_returned _ target.value refl;
  byte = λ past.
      other_status (written part.memory target.buffer (take target.capacity bytes)) target.status source tag
      (length (take target.capacity bytes)) i past.1
      ∙ other_taken part.memory target.buffer target.capacity bytes i past.0;
}

-- a receive of nothing writes its status alone
left_completed : (i : ℕ) (target : Target) (source tag : ℕ) (old new : Part) → new.hart ≡ old.hart
    → at new.memory i ≡ at old.memory i
    → Leaves i (status_range target.status) old (received target source tag [] new)
unfolding received
left_completed i target source tag old new same before = record {
  hart = has_returned _ target.value (ap (returned _ target.value) same);
  byte = λ past.
      other_status (written new.memory target.buffer (take target.capacity [])) target.status source tag
      (length (take target.capacity [])) i past
      ∙ other_written new.memory target.buffer (take target.capacity []) i
      (subst (λ n. IsOutside i (target.buffer, n)) (sym (no_take target.capacity)) (none_outside i target.buffer))
      ∙ before;
}

left_from : (i : ℕ) (o : Option ℕ) (target : Target) (message : Message) (part : Part)
    → Leaves i (target_ranges target) part (received_from o target message part)
left_from i None target message part = ends_so i _ code.BadRequest 0 part
left_from i (Some place) target message part =
    left_received i target place message.envelope.tag message.bytes part

left_message : (i : ℕ) (site : Site) (target : Target) (message : Message) (part : Part)
    → Leaves i (target_ranges target) part (received_message site target message part)
unfolding received_message
left_message i site target message part = left_from i _ target message part

left_opened : (i : ℕ) (o : Option ℕ) (request : OpenRequest) (part : Part) → Leaves i [] part (opened_at o request part)
left_opened i None request part = ends_so i [] code.Full 0 part
left_opened i (Some handle) request part = ends i [] code.Ok handle part _ refl (λ past. refl)

left_freed : (i handle : ℕ) (part : Part) → Leaves i [] part (freed handle part)
unfolding freed
left_freed i handle part = ends i [] code.Ok 0 part _ refl (λ past. refl)

left_all : (i : ℕ) (site : Site) (value : ℕ) (s : Several) (gots : List (Option Message)) (part : Part)
    → Leaves i (several_ranges part.memory part.requests s) part
    (completed_all site value s.statuses (handles_in part.memory (array_at s.array s.count)) gots part)
unfolding completed_all
left_all i site value s gots part =
    let ps = pendings part.requests (handles_in part.memory (array_at s.array s.count)) in
    record {
      hart = has_returned _ value refl;
      byte = λ past.
          (let p = append_outside i (statuses_range s.statuses ps) (buffers_of ps) past in
          other_statuses site ps gots (with_all_bytes part.memory (given site ps gots)) s.statuses i p.0
          ∙ other_given site ps gots part.memory i p.1);
    }

left_gathered : (i : ℕ) (site : Site) (value : ℕ) (s : Several) (gots : List (Option Message)) (part : Part)
    → Leaves i (several_ranges part.memory part.requests s) part
    (gathered site value s.statuses (handles_in part.memory (array_at s.array s.count)) gots part)
left_gathered i site value s gots part =
    go (are_fit site (pendings part.requests (handles_in part.memory (array_at s.array s.count))) gots)
  where
    go : (b : Bool)
        → Leaves i (several_ranges part.memory part.requests s) part
        (gathered_if b site value s.statuses (handles_in part.memory (array_at s.array s.count)) gots part)
    go true = left_all i site value s gots part
    go false = ends_so i _ code.BadRequest 0 part

left_found_at : (i : ℕ) (o : Option ℕ) (value status : ℕ) (envelope : Envelope) (part : Part)
    → Leaves i (status_range status) part (found_at o value status envelope part)
left_found_at i None value status envelope part = ends_so i _ code.BadRequest 0 part
left_found_at i (Some place) value status envelope part =
    ends i _ code.Ok value part _ refl
    (λ past. other_status part.memory status place envelope.tag envelope.count i past)

left_found : (i : ℕ) (site : Site) (value status : ℕ) (envelope : Envelope) (part : Part)
    → Leaves i (status_range status) part (found site value status envelope part)
unfolding found
left_found i site value status envelope part = left_found_at i _ value status envelope part

left_nothing : (i value status : ℕ) (part : Part)
    → Leaves i (status_range status) part (found_nothing value status part)
unfolding found_nothing
left_nothing i value status part =
    ends i _ code.Ok value part _ refl (λ past. other_status part.memory status no_rank any 0 i past)

left_side_at : (i : ℕ) (o : Option ℕ) (t : Transfer) (link : ℕ) (shape : Phase → Phase) (part : Part)
    → Leaves i [] part (made_side_at o t link shape part)
left_side_at i None t link shape part = ends_so i [] code.Full 0 part
left_side_at i (Some handle) t link shape part = ends i [] code.Ok handle part _ refl (λ past. refl)

left_if : (i : ℕ) (ranges : List Range) (b : Bool) (old x y : Part) → Leaves i ranges old x → Leaves i ranges old y
    → Leaves i ranges old (if b then x else y)
left_if i ranges true old x y p q = p
left_if i ranges false old x y p q = q

left_begun_phase : (i handle link : ℕ) (part : Part) → Leaves i [] part (phase_begun handle link part)
unfolding phase_begun
left_begun_phase i handle link part = ends i [] code.Ok 0 part _ refl (λ past. refl)

left_readied : (i link ready : ℕ) (part : Part) → Leaves i [] part (part_readied link ready part)
unfolding part_readied
left_readied i link ready part = ends i [] code.Ok 0 part _ refl (λ past. refl)

left_arrived_from : (i : ℕ) (ranges : List Range) (o : Option ℕ) (side : Partitions) (target : Target) (old new : Part)
    → new.hart ≡ old.hart
    → (IsOutsideAll i ranges → (at new.memory i ≡ at old.memory i) × IsOutsideAll i (status_range target.status))
    → Leaves i ranges old (arrived_from o side target new)
left_arrived_from i ranges None side target old new same before =
    ends i ranges code.BadRequest 0 old new same (λ past. (before past).0)
left_arrived_from i ranges (Some place) side target old new same before =
    ends i ranges code.Ok target.value old _ same (λ past.
    other_status new.memory target.status place side.tag (side.parts * side.size) i (before past).1 ∙ (before past).0)

left_arrived : (i : ℕ) (ranges : List Range) (site : Site) (side : Partitions) (target : Target) (old new : Part)
    → new.hart ≡ old.hart
    → (IsOutsideAll i ranges → (at new.memory i ≡ at old.memory i) × IsOutsideAll i (status_range target.status))
    → Leaves i ranges old (arrived site side target new)
unfolding arrived
left_arrived i ranges site side target old new same before =
    left_arrived_from i ranges _ side target old new same before

left_freed_one : (i : ℕ) (m : Manner) (link : ℕ) (target : Target) (part : Part)
    → Leaves i (status_range target.status) part (freed_one m link target part)
unfolding freed_one
left_freed_one i m link target part =
    left_if i _ (all_freed (sending_at (changed_at link (on_sending one_freed) part.phases) link)) part _ _
    (left_completed i target any any part _ refl refl) (left_not_yet i _ m part _ refl (λ past. refl))

-- a box is written into its place
other_box : (side : Partitions) (box : ℕ) (bytes : List ℕ) (part : Part) (i : ℕ)
    → IsOutside i (box_range part.phases side box) → at (with_taken_box side box bytes part).memory i ≡ at part.memory i
other_box side box bytes part i past =
    other_taken part.memory (side.buffer + box * (receiving_at part.phases side.link).bytes)
    (receiving_at part.phases side.link).bytes bytes i past

left_taken : (i : ℕ) (site : Site) (m : Manner) (side : Partitions) (box : ℕ) (target : Target) (bytes : List ℕ)
    (part : Part)
    → Leaves i (box_range part.phases side box ∷ status_range target.status) part
    (taken_one site m side box target bytes part)
unfolding taken_one
left_taken i site m side box target bytes part =
    left_if i _ (receiving_at (with_taken_box side box bytes part).phases side.link).active part _ _
    (left_not_yet i _ m part _ refl (λ past. other_box side box bytes part i past.0))
    (left_arrived i _ site side target part _ refl (λ past. (other_box side box bytes part i past.0, past.1)))

left_seen : (i : ℕ) (side : Partitions) (box asked : ℕ) (bytes : List ℕ) (part : Part)
    → Leaves i (box_range part.phases side box ∷ []) part (seen_one side box asked bytes part)
unfolding seen_one
left_seen i side box asked bytes part =
    ends i _ code.Ok _ part _ refl (λ past. other_box side box bytes part i past.0)

-- ---- a row

abbrev pub IsNoStepRow : Row → Type 0
IsNoStepRow (AtOnce outcome.Steps) = ⊥
IsNoStepRow row = Unit {0}

-- what a row leaves
abbrev LeavesBy : ℕ → Row → Part → Part → Type 0
LeavesBy i row old new = Leaves i (ranges_of old.memory old.requests old.phases row) old new

left_done : (i : ℕ) (site : Site) (o : Outcome) (part : Part) → IsNoStepRow (AtOnce o)
    → LeavesBy i (AtOnce o) part (done site o part)
left_done i site outcome.Steps part call = absurd call
left_done i site outcome.Stays part call = record { hart = is_kept refl; byte = λ past. refl }
left_done i site (outcome.Exits value) part call = record { hart = has_ended value refl; byte = λ past. refl }
left_done i site (outcome.Ends c value) part call = ends_so i [] c value part
left_done i site (outcome.Waits post) part call = record { hart = is_waiting (Post post) refl; byte = λ past. refl }
left_done i site (outcome.Puts buffer count) part call = ends i [] code.Ok 0 part _ refl (λ past. refl)
left_done i site (outcome.Opens request) part call = left_opened i (lowest_free part.requests) request part
left_done i site (outcome.Starts handle p) part call = ends i [] code.Ok 0 part _ refl (λ past. refl)
left_done i site (outcome.Frees handle) part call = left_freed i handle part
left_done i site (outcome.Completes source target) part call = left_completed i target source any part part refl refl
left_done i site (outcome.FindsNothing value status) part call = left_nothing i value status part
left_done i site (outcome.CompletesAll value s) part call = left_all i site value s [] part
left_done i site (outcome.BeginsPhase handle link) part call = left_begun_phase i handle link part
left_done i site outcome.Holds part call = record { hart = is_waiting Again refl; byte = λ past. refl }
left_done i site (outcome.Arrives side target) part call =
    left_arrived i _ site side target part part refl (λ past. (refl, past))

-- what is begun writes no memory
left_begun : (i : ℕ) (site : Site) (why : Purpose) (t : Transfer) (p : Progress) (part : Part)
    → Leaves i [] part (done site (begun_outcome why t p) part)
left_begun i site purpose.Send t progress.Finished part = ends_so i [] code.Ok 0 part
left_begun i site purpose.Send t (progress.Sent post) part = ends_so i [] code.Ok 0 part
left_begun i site purpose.Send t (progress.OnPost post) part =
    record { hart = is_waiting (Post post) refl; byte = λ past. refl }
left_begun i site purpose.Send t progress.InPhase part = ends_so i [] code.BadRequest 0 part
left_begun i site purpose.Open t p part = left_opened i (lowest_free part.requests) _ part
left_begun i site (purpose.Start handle) t p part = ends i [] code.Ok 0 part _ refl (λ past. refl)

left_cut : (i : ℕ) (site : Site) (m n : Manner) (link boxes bytes : ℕ) (part : Part)
    → LeavesBy i (OnReply m (wanted.Cut n link)) part (cut_known site n link boxes bytes part)
left_cut i site m n link boxes bytes part =
    left_if i [] (is_cut site.version (receiving_at part.phases link) boxes bytes) part _ _
    (left_not_yet i [] n part _ refl (λ past. refl)) (ends_so i [] code.BadRequest 0 part)

left_replied : (i : ℕ) (site : Site) (m : Manner) (w : Wanted) (r : Reply) (part : Part)
    → LeavesBy i (OnReply m w) part (replied site w r part)
left_replied i site m (wanted.Post why t) (reply.Posted post paired) part = left_begun i site why t _ part
left_replied i site m (wanted.MessageOrPost target) (reply.Posted post paired) part =
    record { hart = is_waiting (Post post) refl; byte = λ past. refl }
left_replied i site m (wanted.MessageOrPost target) (reply.Got message) part = left_message i site target message part
left_replied i site m (wanted.Message target) (reply.Got message) part = left_message i site target message part
left_replied i site m (wanted.Word target) reply.Done part = left_completed i target any any part part refl refl
left_replied i site m wanted.Sent reply.Done part = ends_so i [] code.Ok 0 part
left_replied i site m (wanted.All value s) (reply.AllGot gots) part = left_gathered i site value s gots part
left_replied i site m (wanted.Sight value status) (reply.Seen envelope) part =
    left_found i site value status envelope part
left_replied i site m (wanted.Claim status) (reply.Held message envelope) part =
    left_found i site message status envelope part
left_replied i site m (wanted.SendingLink t) (reply.Link link) part =
    left_if i [] _ part _ _ (left_side_at i _ _ link _ part) (ends_so i [] code.BadRequest 0 part)
left_replied i site m (wanted.ReceivingLink t) (reply.Link link) part =
    left_if i [] _ part _ _ (left_side_at i _ _ link _ part) (ends_so i [] code.BadRequest 0 part)
left_replied i site m (wanted.Cut n link) (reply.Cut boxes bytes) part = left_cut i site m n link boxes bytes part
left_replied i site m w r part = ends_so i _ code.BadRequest 0 part

left_visited : (i : ℕ) (site : Site) (v : Visit) (a : Answer) (part : Part)
    → LeavesBy i (OnBox v) part (visited site v a part)
left_visited i site (Readies link ready) answer.Alone part = left_readied i link ready part
left_visited i site (Frees m link target) answer.Freed part = left_freed_one i m link target part
left_visited i site (Frees m link target) answer.Missed part = left_not_yet i _ m part part refl (λ past. refl)
left_visited i site (Takes m side box target) (answer.Taken bytes) part =
    left_taken i site m side box target bytes part
left_visited i site (Takes m side box target) answer.Missed part = left_not_yet i _ m part part refl (λ past. refl)
left_visited i site (Sees side box asked) (answer.Taken bytes) part = left_seen i side box asked bytes part
left_visited i site (Sees side box asked) answer.Missed part = left_not_yet i _ Immediate part part refl (λ past. refl)
left_visited i site v a part = ends_so i _ code.BadRequest 0 part

left_row : (i : ℕ) (site : Site) (row : Row) (a : Answer) (part : Part) → IsNoStepRow row
    → LeavesBy i row part (told_row site row a part)
left_row i site (AtOnce o) a part call = left_done i site o part call
left_row i site (OnReply m w) (answer.Reply reply.NotYet) part call = left_not_yet i _ m part part refl (λ past. refl)
left_row i site (OnReply m w) (answer.Reply (reply.Code c)) part call = ends_so i _ c 0 part
left_row i site (OnReply m w) (answer.Reply r) part call = left_replied i site m w r part
left_row i site (OnReply m w) a part call = ends_so i _ code.BadRequest 0 part
left_row i site (OnBox v) a part call = left_visited i site v a part

-- ---- no row but an instruction's is an instruction

module _ (site : Site) (hart : ℕ) (memory : Memory) (table : Table) (phases : List Phase) where
  rows : Forms site hart memory table phases (λ started d asks row. IsNoStep d → IsNoStepRow row)
  rows = record {
    steps = λ call. absurd call;
    refused = λ c call. tt;
    stopped = λ call. tt;
    polls_message = λ c post target call. tt;
    polls_send = λ c post call. tt;
    polls_other = λ c post call. tt;
    stays = λ call. tt;
    exits = λ value call. tt;
    puts = λ buffer count call. tt;
    ends = λ c end value call. tt;
    completes = λ c source target call. tt;
    completes_all = λ c value s of call. tt;
    finds_nothing = λ c value status call. tt;
    arrives = λ c side target call. tt;
    holds = λ c call. tt;
    makes = λ c t of none call. tt;
    opens = λ c t of none call. tt;
    starts = λ handle call. tt;
    begins = λ handle link call. tt;
    frees = λ handle call. tt;
    sends = λ c why sync buffer count dest tag comm is of call. tt;
    receives = λ c why now buffer capacity source tag comm is call. tt;
    receives_claimed = λ c buffer capacity message call. tt;
    starts_claimed = λ handle buffer capacity call. tt;
    comes = λ c comm source tag target call. tt;
    comes_claimed = λ c message target call. tt;
    links_sending = λ t call. tt;
    links_receiving = λ t call. tt;
    collects = λ c m post target call. tt;
    finishes = λ c m post target call. tt;
    gathers = λ c m value s post posts of call. tt;
    sees = λ c m comm source tag value status call. tt;
    claims = λ c m comm source tag status call. tt;
    cuts = λ c m link going unknown call. tt;
    readies = λ handle ready side is call. tt;
    frees_part = λ c m link free target going next ready call. tt;
    takes = λ c m side box target going next call. tt;
    looks = λ c side box asked going next call. tt;
  }

  pub turn_no_step : (d : Doing) → IsNoStep d → IsNoStepRow (row_in site hart memory table phases d)
  turn_no_step = by_form site hart memory table phases _ rows

left_turn : (i : ℕ) (rank : Rank) (hart : ℕ) (a : Answer) (d : Doing) → IsNoStep d
    → LeavesBy i (row_in rank.site hart rank.memory rank.requests rank.phases d) (part_of rank hart)
    (told_in rank.site hart d a (part_of rank hart))
left_turn i rank hart a d call =
    left_row i rank.site _ a (part_of rank hart)
    (turn_no_step rank.site hart rank.memory rank.requests rank.phases d call)

-- what a turn that is no instruction leaves of its hart
pub left_hart : (rank : Rank) (hart : ℕ) (a : Answer) (d : Doing) → IsNoStep d
    → IsLeft (part_of rank hart).hart (told_in rank.site hart d a (part_of rank hart)).hart
left_hart rank hart a d call = (left_turn 0 rank hart a d call).hart

-- ---- the laws

pub hart_law : HartLaw
unfolding told
hart_law = record {
  own = λ rank hart a stamp call there.
      subst (λ s. IsLeft (part_of rank hart).hart s)
      (sym (get_or-set_same rank.harts hart
      (told_in rank.site hart (doing rank.site (part_of rank hart)) a (part_of rank hart)).hart no_hart there))
      (left_hart rank hart a (doing rank.site (part_of rank hart)) call);
  others = λ rank hart other a stamp apart.
      get_or-set_other rank.harts hart other
      (told_in rank.site hart (doing rank.site (part_of rank hart)) a (part_of rank hart)).hart no_hart apart;
}

pub bytes_law : BytesLaw
unfolding told
bytes_law rank hart a stamp address call past =
    (left_turn address rank hart a (doing rank.site (part_of rank hart)) call).byte past
