-- Turns at boxes, and what they leave of a rank.
use Rattle.std.proofs.Common.{◌≡◌, ◌∙◌, ℕ, zero, suc, ◌+◌, ◌*◌, ◌≤◌, ◌⊎◌, inl, inr, refl, sym, ap, subst, arith, Bool, true, false, List, [], ◌∷◌, length, Option, Some, None, get_or-take}
use Rattle.std.specs.Prelude.{◌==◌, ◌&&◌, ◌||◌, nat_le, if◌then◌else◌, get_or, map, set, take}
use Rattle.std.specs.List.{slice_get, slice_set}
use Rattle.std.proofs.Math.ListN.{get_or-map as maps}
use Rattle.std.proofs.lemmas.Bool.{and_parts, leb-true}
use Rattle.std.proofs.lemmas.List.{map-set, set-get_or}
use Rattle.std.proofs.lemmas.Option.{same_Some}
use Rattle.rv_memory.specs.Access.{is_inside, is_writable, word_at}
use Rattle.rv_memory.specs.Memory.{Memory, overwritten, value_at, with_bytes}
use Rattle.rv_memory.proofs.Paged.{take-overwritten}
use Rattle.rv_memory.proofs.Values.{value_at-same}
use Rattle.rv_hart.specs.State.{State as Hart, in_mode}
use Rattle.rv_hart.specs.declared.state.Mode.{Mode}
use Rattle.rv_hart.specs.declared.state.Mode.TheVariants.{Running, Waiting, Ended, Trapped}
use Rattle.rv_hart.specs.declared.state.Wait.TheVariants.{Post, Again}
use Rattle.mp_types.specs.declared.requests.Request.TheVariants as request
use Rattle.mp_request.specs.declared.entries.Partitions.{Partitions}
use Rattle.part_phase.specs.Phases.{receiving_at}
use Rattle.cl_calls.specs.Calls.{call_named, no_rank}
use Rattle.cl_calls.specs.Handles.{handles_in}
use Rattle.cl_calls.specs.Needs.{array_at}
use Rattle.cl_calls.specs.Site.{members, position_of}
use Rattle.cl_calls.specs.declared.calls.Call.{Call}
use Rattle.cl_calls.specs.declared.calls.Call.TheVariants as call
use Rattle.cl_calls.specs.declared.sites.Site.{Site}
use Rattle.cl_state.specs.declared.asking.Answer.{Answer}
use Rattle.cl_state.specs.declared.asking.Answer.TheVariants as answer
use Rattle.cl_state.specs.declared.asking.Ask.{Ask}
use Rattle.cl_state.specs.declared.asking.Doing.{Doing}
use Rattle.cl_state.specs.declared.asking.Doing.TheVariants.{Step as DoesStep, Go, Poll}
use Rattle.cl_state.specs.declared.pending.Manner.{Manner}
use Rattle.cl_state.specs.declared.pending.Manner.TheVariants.{Immediate, Blocking, Posting, Polling}
use Rattle.cl_state.specs.declared.pending.Target.{Target}
use Rattle.cl_state.specs.declared.row.Row.{Row}
use Rattle.cl_state.specs.declared.row.Row.TheVariants.{AtOnce, OnReply, OnBox}
use Rattle.cl_state.specs.declared.row.Visit.{Visit}
use Rattle.cl_state.specs.declared.row.Visit.TheVariants as visit
use Rattle.cl_state.specs.Asked.{Part, asked, asked_in, checked, doing, doing_in, is_ecall, no_hart, part_of}
use Rattle.cl_state.specs.Rank.{Rank}
use Rattle.cl_state.specs.Several.{pendings, posts_pending}
use Rattle.cl_state.specs.Table.{row_in}
use Rattle.cl_state.specs.Told.{arrived, arrived_from, not_yet, returned, seen_one, taken_one, told, told_row, visited, with_part, with_taken_box}
use Rattle.cl_state.specs.Transfers.{source_of, tag_of}
use Rattle.cl_state.specs.Written.{written}
use Rattle.cl_state_laws.specs.Awake.{StandsAtCall, awake, awake_hart, woken}
use Rattle.cl_state_laws.specs.Laws.{IsLook, missed as missed_hart}
use Rattle.cl_state_laws.specs.Vain.{IsWaiting, waits_on}
use Rattle.cl_state_laws.specs.VainLaws.{at_clock}
use Rattle.cl_state_laws.proofs.Misses.{missed_in_vain, no_look_all, no_look_if, no_look_poll}
use Rattle.cl_state_laws.proofs.Wakes.{wake_law}
use Rattle.cl_trace.specs.declared.events.Kind.{Kind}
use Rattle.cl_machine.specs.declared.steps.Step.{Step}
use Rattle.cl_machine.specs.Boxes.{Box, Holds, IsEmpty, box_number, with_made, with_taken}
use Rattle.cl_machine.specs.Cluster.{CaseOf, Cluster, ranks_told}
use Rattle.cl_order_laws.specs.Orders.{is_miss}
use Rattle.cl_order_laws.specs.Turns.{IsBox, IsTurn}
use Rattle.cl_order_laws.proofs.Turns.{turns_law}
use Rattle.cl_first_laws.specs.Laws.{Turn}
use Rattle.cl_reduction_laws.specs.Clusters.{IsAtBox}

-- ---- where a turn at a box leads

-- the rank was told this, the hub is as it was, and the boxes are these
pub record Leaves (r hart : ℕ) (c new : Cluster) (rank : Rank) (a : Answer) (stamp : ℕ) (now : List Box) : Type 0 where
  pub ranks : new.ranks ≡ slice_set c.ranks r (told rank hart a stamp)
  pub journal : new.journal ≡ c.journal
  pub boxes : new.boxes ≡ now

-- it is made ready, or taken, or was taken; or the look misses
pub data AtBox (r hart : ℕ) (c new : Cluster) (rank : Rank) : Type 0 where
  readied : (link part : ℕ) (bytes : List ℕ) (box : Box) (stamp : ℕ) → asked rank hart ≡ Ask.Ready link part bytes
      → IsBox c link part box → IsEmpty box
      → Leaves r hart c new rank answer.Alone stamp (slice_set c.boxes (box_number link part) (with_made box stamp bytes))
      → AtBox r hart c new rank
  took : (link part : ℕ) (bytes : List ℕ) (box : Box) (stamp : ℕ) → asked rank hart ≡ Ask.Look link part
      → IsBox c link part box → Holds box bytes
      → Leaves r hart c new rank (answer.Taken bytes) stamp (slice_set c.boxes (box_number link part) (with_taken box stamp))
      → AtBox r hart c new rank
  freed : (link part : ℕ) (box : Box) (stamp : ℕ) → asked rank hart ≡ Ask.Freed link part
      → IsBox c link part box → IsEmpty box
      → Leaves r hart c new rank answer.Freed stamp c.boxes
      → AtBox r hart c new rank
  misses : (stamp : ℕ) → IsLook (asked rank hart) → Leaves r hart c new rank answer.Missed stamp c.boxes
      → AtBox r hart c new rank

pub at_box : (r hart : ℕ) (c new : Cluster) (rank : Rank) → slice_get c.ranks r ≡ Some rank → IsAtBox (asked rank hart)
    → Turn r hart c new
    → AtBox r hart c new rank
at_box r hart c new rank there at turn = go (asked rank hart) refl
  where
    e : Step
    e = turn.step

    is_turn : IsTurn c e rank (asked rank hart) new
    is_turn =
        subst (λ h. IsTurn c e rank (asked rank h) new) turn.hart
        (turns_law c new e rank (ap (slice_get c.ranks) turn.rank ∙ there) turn.leads)

    left : (a : Answer) (now : List Box)
        → (let k : Cluster = record { ranks = ranks_told c e rank a; journal = c.journal; boxes = now } in new ≡ k)
        → Leaves r hart c new rank a e.stamp now
    left a now is = record {
      ranks = ap (λ (k : Cluster). k.ranks) is
          ∙ ap (λ k. slice_set c.ranks k (told rank e.hart a e.stamp)) turn.rank
          ∙ ap (λ h. slice_set c.ranks r (told rank h a e.stamp)) turn.hart;
      journal = ap (λ (k : Cluster). k.journal) is;
      boxes = ap (λ (k : Cluster). k.boxes) is;
    }

    look : (link part : ℕ) → asked rank hart ≡ Ask.Look link part → IsTurn c e rank (Ask.Look link part) new
        → AtBox r hart c new rank
    look link part is (inl t) = misses e.stamp (subst IsLook (sym is) tt) (left answer.Missed c.boxes t.1)
    look link part is (inr t) =
        let s = t.1 in
        took link part s.0 s.1 e.stamp is s.2 s.3
        (left (answer.Taken s.0) (slice_set c.boxes (box_number link part) (with_taken s.1 e.stamp)) s.4)

    ask : (link part : ℕ) → asked rank hart ≡ Ask.Freed link part → IsTurn c e rank (Ask.Freed link part) new
        → AtBox r hart c new rank
    ask link part is (inl t) = misses e.stamp (subst IsLook (sym is) tt) (left answer.Missed c.boxes t.1)
    ask link part is (inr t) =
        freed link part (t.1).0 e.stamp is (t.1).1 (t.1).2 (left answer.Freed c.boxes (t.0).1)

    make : (link part : ℕ) (bytes : List ℕ) → asked rank hart ≡ Ask.Ready link part bytes
        → IsTurn c e rank (Ask.Ready link part bytes) new
        → AtBox r hart c new rank
    make link part bytes is t =
        let s = t.1 in
        readied link part bytes s.0 e.stamp is s.1 s.2
        (left answer.Alone (slice_set c.boxes (box_number link part) (with_made s.0 e.stamp bytes)) s.3)

    go : (a : Ask) → asked rank hart ≡ a → AtBox r hart c new rank
    go (Ask.Ready link part bytes) is = make link part bytes is (subst (λ a. IsTurn c e rank a new) is is_turn)
    go (Ask.Look link part) is = look link part is (subst (λ a. IsTurn c e rank a new) is is_turn)
    go (Ask.Freed link part) is = ask link part is (subst (λ a. IsTurn c e rank a new) is is_turn)
    go Ask.Plain is = absurd (subst IsAtBox is at)
    go Ask.Local is = absurd (subst IsAtBox is at)
    go Ask.Held is = absurd (subst IsAtBox is at)
    go Ask.Idle is = absurd (subst IsAtBox is at)
    go (Ask.Hub q) is = absurd (subst IsAtBox is at)

-- a turn that misses looks at a box
pub miss_leaves : (r hart : ℕ) (c new : Cluster) (rank : Rank) → slice_get c.ranks r ≡ Some rank
    → (turn : Turn r hart c new) → is_miss turn.step.kind ≡ true
    → IsLook (asked rank hart) × Leaves r hart c new rank answer.Missed turn.step.stamp c.boxes
miss_leaves r hart c new rank there turn missed = go turn.step.kind missed turn.leads.3
  where
    e : Step
    e = turn.step

    same : turn.leads.0 ≡ rank
    same = same_Some turn.leads.0 rank (sym turn.leads.1 ∙ ap (slice_get c.ranks) turn.rank ∙ there)

    asks : asked turn.leads.0 e.hart ≡ asked rank hart
    asks = ap (λ z. asked z e.hart) same ∙ ap (asked rank) turn.hart

    looks : (link part : ℕ)
        → ((asked turn.leads.0 e.hart ≡ Ask.Look link part) ⊎ (asked turn.leads.0 e.hart ≡ Ask.Freed link part))
        → IsLook (asked rank hart)
    looks link part (inl look) = subst IsLook (sym look ∙ asks) tt
    looks link part (inr ask) = subst IsLook (sym ask ∙ asks) tt

    go : (kind : Kind) → is_miss kind ≡ true → CaseOf c e turn.leads.0 kind new
        → IsLook (asked rank hart) × Leaves r hart c new rank answer.Missed e.stamp c.boxes
    go Kind.Miss is k = (
      looks k.0 k.1 k.2,
      record {
        ranks = ap (λ (n : Cluster). n.ranks) k.4
            ∙ ap (λ i. slice_set c.ranks i (told turn.leads.0 e.hart answer.Missed e.stamp)) turn.rank
            ∙ ap (λ z. slice_set c.ranks r (told z e.hart answer.Missed e.stamp)) same
            ∙ ap (λ h. slice_set c.ranks r (told rank h answer.Missed e.stamp)) turn.hart;
        journal = ap (λ (n : Cluster). n.journal) k.4;
        boxes = ap (λ (n : Cluster). n.boxes) k.4;
      },
    )
    go _ is k = absurd (cc)

-- ---- what a hart does that looks at a box

-- a hart that makes a call, for the first time or anew, runs when it is awake
makes_call : (site : Site) (p : Part) (c : Call) → doing site p ≡ Go c → woken p.hart.mode ≡ Running
unfolding doing
makes_call site p c goes = go p.hart.mode goes
  where
    go : (m : Mode) → doing_in m site p ≡ Go c → woken m ≡ Running
    go Running e = refl
    go (Waiting Again) e = refl
    go (Waiting (Post post)) e = absurd (cc)
    go (Ended value) e = absurd (cc)
    go (Trapped cause pc) e = absurd (cc)

-- what a look that misses leaves of a hart that waits on: the hart itself, but for who is awake
missed_waits : (site : Site) (p : Part) (d : Doing) → doing site p ≡ d → waits_on d ≡ true
    → IsLook (asked_in site p.memory p.requests p.phases d)
    → awake_hart (missed_hart d p.hart) ≡ awake_hart p.hart
missed_waits site p (Go (call.Wait c)) is on look = ap (in_mode p.hart) (sym (makes_call site p (call.Wait c) is))
missed_waits site p (Go (call.Probe q)) is on look =
    absurd (no_look_if (q.source == no_rank) (request.Probe q.comm (source_of site q.comm q.source) (tag_of q.tag)) look)
missed_waits site p (Go (call.Mprobe q)) is on look =
    absurd (no_look_if (q.source == no_rank) (request.Claim q.comm (source_of site q.comm q.source) (tag_of q.tag)) look)
missed_waits site p (Go (call.Waitall s)) is on look =
    absurd (no_look_all (posts_pending (pendings p.requests (handles_in p.memory (array_at s.array s.count)))) look)
missed_waits site p (Poll c post) is on look = absurd (no_look_poll c post look)
missed_waits site p _ is on look = absurd (cc)

-- and the hart waits
pub waits_in : (rank : Rank) (hart : ℕ) → waits_on (doing rank.site (part_of rank hart)) ≡ true → IsLook (asked rank hart)
    → IsWaiting (missed_hart (doing rank.site (part_of rank hart)) (part_of rank hart).hart).mode
unfolding asked
waits_in rank hart on look = go (doing rank.site (part_of rank hart)) on look
  where
    p : Part
    p = part_of rank hart

    go : (d : Doing) → waits_on d ≡ true → IsLook (asked_in rank.site p.memory p.requests p.phases d)
        → IsWaiting (missed_hart d p.hart).mode
    go (Go (call.Wait c)) on look = tt
    go (Go (call.Probe q)) on look =
        absurd (no_look_if (q.source == no_rank) (request.Probe q.comm (source_of rank.site q.comm q.source) (tag_of q.tag)) look)
    go (Go (call.Mprobe q)) on look =
        absurd (no_look_if (q.source == no_rank) (request.Claim q.comm (source_of rank.site q.comm q.source) (tag_of q.tag)) look)
    go (Go (call.Waitall s)) on look =
        absurd (no_look_all (posts_pending (pendings p.requests (handles_in p.memory (array_at s.array s.count)))) look)
    go (Poll c post) on look = absurd (no_look_poll c post look)
    go _ on look = absurd (cc)

-- a rank that waits on is left as it was, awake, but for its clock
pub missed_awake : (rank : Rank) (hart stamp : ℕ) → waits_on (doing rank.site (part_of rank hart)) ≡ true
    → IsLook (asked rank hart)
    → awake (told rank hart answer.Missed stamp) ≡ at_clock (awake rank) stamp
unfolding asked
missed_awake rank hart stamp on look =
    let p = part_of rank hart in
    let d = doing rank.site p in
    let harts : map awake_hart (set rank.harts hart (missed_hart d p.hart)) ≡ map awake_hart rank.harts =
    map-set awake_hart rank.harts hart (missed_hart d p.hart)
    ∙ ap (set (map awake_hart rank.harts) hart)
    (missed_waits rank.site p d refl on look ∙ sym (maps awake_hart rank.harts hart no_hart))
    ∙ set-get_or (map awake_hart rank.harts) hart no_hart in
    ap awake (missed_in_vain rank hart stamp look) ∙ (λ i. record rank { harts = harts i; clock = stamp })

-- ---- a hart that is to make its call anew stands at it, whatever it was told

-- text is never written
word_kept : (m : Memory) (address pc : ℕ) (bytes : List ℕ) → word_at (written m address bytes) pc ≡ word_at m pc
word_kept m address pc bytes =
    go (is_writable m address (length bytes)) refl (length bytes == 0) refl
  where
    in_text : (b : Bool) → nat_le (pc + 4) m.text ≡ b → address + length bytes ≤ length m.bytes → m.text ≤ address
        → (if b then Some (value_at (overwritten m.bytes address bytes) pc 4) else None)
        ≡ (if b then Some (value_at m.bytes pc 4) else None)
    in_text false e inside behind = refl
    in_text true e inside behind =
        let low = leb-true (pc + 4) m.text e in
        ap (λ (n : ℕ). Some n) (value_at-same (overwritten m.bytes address bytes) m.bytes pc pc 4
        (λ i small.
        sym (get_or-take address (overwritten m.bytes address bytes) (pc + i) 0 (omega (arith, low, behind, small)))
        ∙ ap (λ xs. get_or xs (pc + i) 0) (take-overwritten m.bytes bytes address address (omega arith) (omega (arith, inside)))
        ∙ get_or-take address m.bytes (pc + i) 0 (omega (arith, low, behind, small))))

    go : (w : Bool) → is_writable m address (length bytes) ≡ w → (e : Bool) → (length bytes == 0) ≡ e
        → word_at (if w then (if e then m else with_bytes m address bytes) else m) pc ≡ word_at m pc
    go false is e none = refl
    go true is true none = refl
    go true is false none =
        let inside = is_inside m address (length bytes) in
        let both = and_parts inside (nat_le m.text address)
        (ap (λ k. k || (inside && nat_le m.text address)) (sym none) ∙ is) in
        in_text (nat_le (pc + 4) m.text) refl (leb-true (address + length bytes) (length m.bytes) both.0)
        (leb-true m.text address both.1)

-- a hart that looks at a box stands at its call
stands_now : (rank : Rank) (hart : ℕ) → StandsAtCall rank hart → IsAtBox (asked rank hart)
    → is_ecall (word_at rank.memory (part_of rank hart).hart.pc) ≡ true
unfolding asked doing
stands_now rank hart stands look = go (part_of rank hart).hart.mode refl look
  where
    p : Part
    p = part_of rank hart

    by_word : (b : Bool) → is_ecall (word_at p.memory p.hart.pc) ≡ b
        → IsAtBox (asked_in rank.site rank.memory rank.requests rank.phases (if b then checked rank.site p else DoesStep))
        → is_ecall (word_at p.memory p.hart.pc) ≡ true
    by_word true e look = e
    by_word false e look = absurd look

    polls : (c : Call) (post : ℕ) → IsAtBox (asked_in rank.site rank.memory rank.requests rank.phases (Poll c post)) → ⊥
    polls (call.Ssend s) post look = look
    polls _ post look = look

    go : (m : Mode) → p.hart.mode ≡ m
        → IsAtBox (asked_in rank.site rank.memory rank.requests rank.phases (doing_in m rank.site p))
        → is_ecall (word_at p.memory p.hart.pc) ≡ true
    go Running is look = by_word (is_ecall (word_at p.memory p.hart.pc)) refl look
    go (Waiting Again) is look = stands is
    go (Waiting (Post post)) is look = absurd (polls (call_named p.hart) post look)
    go (Ended value) is look = absurd look
    go (Trapped cause pc) is look = absurd look

-- the hart of this part stands at its call, if it is to make it anew
abbrev StandsIn : Part → Type 0
StandsIn p = p.hart.mode ≡ Waiting Again → is_ecall (word_at p.memory p.hart.pc) ≡ true

runs_on : Running ≡ Waiting Again → ⊥
runs_on e = absurd (cc)

stands_arrived : (o : Option ℕ) (side : Partitions) (target : Target) (p : Part) → StandsIn (arrived_from o side target p)
unfolding returned
stands_arrived None side target p again = absurd (runs_on again)
stands_arrived (Some place) side target p again = absurd (runs_on again)

stands_not_yet : (m : Manner) (p : Part) → is_ecall (word_at p.memory p.hart.pc) ≡ true → StandsIn (not_yet m p)
unfolding returned
stands_not_yet Immediate p at again = absurd (runs_on again)
stands_not_yet Blocking p at again = at
stands_not_yet Polling p at again = at
stands_not_yet Posting p at again = absurd (runs_on again)

stands_if : (b : Bool) (p q : Part) → StandsIn p → StandsIn q → StandsIn (if b then p else q)
stands_if true p q one other = one
stands_if false p q one other = other

stands_visited : (site : Site) (v : Visit) (bytes : List ℕ) (p : Part) → is_ecall (word_at p.memory p.hart.pc) ≡ true
    → StandsIn (visited site v (answer.Taken bytes) p)
unfolding taken_one seen_one arrived returned
stands_visited site (visit.Takes m side box target) bytes p at =
    let after = with_taken_box side box bytes p in
    let size = (receiving_at p.phases side.link).bytes in
    stands_if (receiving_at after.phases side.link).active (not_yet m after)
    (arrived_from (position_of side.peer (members site side.comm)) side target after)
    (stands_not_yet m after
    (ap is_ecall (word_kept p.memory (side.buffer + box * size) p.hart.pc (take size bytes)) ∙ at))
    (stands_arrived (position_of side.peer (members site side.comm)) side target after)
stands_visited site (visit.Sees side box part) bytes p at = λ again. absurd (runs_on again)
stands_visited site (visit.Readies link ready) bytes p at = λ again. absurd (runs_on again)
stands_visited site (visit.Frees m link target) bytes p at = λ again. absurd (runs_on again)

-- what is set at a place stands there, or the place isn't there
set_there : (xs : List Hart) (i : ℕ) (x : Hart)
    → (get_or (set xs i x) i no_hart ≡ x) ⊎ (get_or (set xs i x) i no_hart ≡ no_hart)
set_there [] i x = inr refl
set_there (y ∷ xs) zero x = inl refl
set_there (y ∷ xs) (suc i) x = set_there xs i x

stands_with : (rank : Rank) (hart stamp : ℕ) (new : Part) → StandsIn new → StandsAtCall (with_part rank hart new stamp) hart
stands_with rank hart stamp new at again = elim (set_there rank.harts hart new.hart) [
  | inl there ↦
      ap (λ (s : Hart). is_ecall (word_at new.memory s.pc)) there
      ∙ at (sym (ap (λ (s : Hart). s.mode) there) ∙ again)
  | inr gone ↦ absurd (stopped (sym (ap (λ (s : Hart). s.mode) gone) ∙ again))
]
  where
    stopped : Ended 0 ≡ Waiting Again → ⊥
    stopped e = absurd (cc)

abbrev row_at : Rank → ℕ → Row
row_at rank hart = row_in rank.site hart rank.memory rank.requests rank.phases (doing rank.site (part_of rank hart))

-- the rank goes on the same, where its row does
left_same : (rank : Rank) (hart stamp : ℕ) (a b : Answer)
    → told_row rank.site (row_at rank hart) b (part_of rank hart) ≡ told_row rank.site (row_at rank hart) a (part_of rank hart)
    → told rank hart b stamp ≡ told rank hart a stamp
unfolding told
left_same rank hart stamp a b same = ap (λ p. with_part rank hart p stamp) same

-- the bytes of a partition too
pub stands_taken : (rank : Rank) (hart stamp : ℕ) (bytes : List ℕ) → StandsAtCall rank hart → IsAtBox (asked rank hart)
    → StandsAtCall (told rank hart (answer.Taken bytes) stamp) hart
unfolding told
stands_taken rank hart stamp bytes stands look = go (row_at rank hart) refl
  where
    p : Part
    p = part_of rank hart

    alone : (row : Row) → row_at rank hart ≡ row
        → told_row rank.site row (answer.Taken bytes) p ≡ told_row rank.site row answer.Alone p
        → StandsAtCall (told rank hart (answer.Taken bytes) stamp) hart
    alone row is same =
        subst (λ (z : Rank). StandsAtCall z hart)
        (sym (left_same rank hart stamp answer.Alone (answer.Taken bytes)
        (ap (λ w. told_row rank.site w (answer.Taken bytes) p) is ∙ same
        ∙ sym (ap (λ w. told_row rank.site w answer.Alone p) is))))
        ((wake_law.stands) rank hart stamp answer.Alone stands tt)

    go : (row : Row) → row_at rank hart ≡ row → StandsAtCall (told rank hart (answer.Taken bytes) stamp) hart
    go (AtOnce o) is = alone (AtOnce o) is refl
    go (OnReply m w) is = alone (OnReply m w) is refl
    go (OnBox v) is =
        stands_with rank hart stamp (told_row rank.site (row_at rank hart) (answer.Taken bytes) p)
        (subst (λ w. StandsIn (told_row rank.site w (answer.Taken bytes) p)) (sym is)
        (stands_visited rank.site v bytes p (stands_now rank hart stands look)))
