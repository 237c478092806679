-- What each call did, for who holds both sides: the gate rule is that of `Channel::agree` right after the call.
use Rattle.std.proofs.Common.{◌≡◌, ◌≢◌, ℕ, ◌+◌, ◌≤◌, List, [], ◌∷◌, ◌++◌, length, Bool, true, false, Option, Some}
use Rattle.std.proofs.Common.{None, refl, sym, ap, ◌∙◌, subst, ⊎_elim, unwrap_or}
use Rattle.std.specs.Prelude.{slice_get, max, if◌then◌else◌}
use Rattle.std.proofs.lemmas.Bool.{cases_eq}
use Rattle.part_box.specs.declared.view.Sending.{Sending}
use Rattle.part_box.specs.declared.view.Receiving.{Receiving}
use Rattle.part_box.specs.Gate.{ready_stamp, taken_stamp, last_take}
use Rattle.part_box.specs.Steps.{with_look}
use Rattle.part_box.specs.Keys.{Sender, Receiver, after_look, after_freed}
use Rattle.part_box.specs.Rule.{GateRule}
use Rattle.part_box.proofs.Agreed.{ready_now, freed_now, empty_now}
use Rattle.part_channel.specs.declared.progress.Progress.TheVariants.{AllFreed, NotReady, Freed}
use Rattle.part_channel.specs.declared.progress.Take.TheVariants as take
use Rattle.part_channel.specs.Words.{bytes_of_words}
use Rattle.part_channel.specs.Sending.{SendView, is_ready, all_freed, made_of, readied, looks_at, looked, shown, tested}
use Rattle.part_channel.specs.Sending.{modified, shown_progress, test_progress}
use Rattle.part_channel.specs.Receiving.{RecvView, got_of, shown_take, lane_shown, lane_took, marked, took}
use Rattle.part_channel.proofs.Lists.{some_same, modified_at, modified_other}
use Rattle.part_channel.proofs.Received.{missed, taken}

-- ---- `ready`

-- the key of the partition made one thing; nothing else changed
pub ready_made : (side : SendView) (part : ℕ) (given : List ℕ) (stamp : ℕ) (s s' : Sender)
    → slice_get side.keys part ≡ Some s → slice_get (readied side part given stamp).keys part ≡ Some s'
    → s'.view.made ≡ s.view.made ++ record { stamp = stamp; words = given } ∷ []
ready_made side part given stamp s s' old new =
    sym (ap (λ (k : Sender). k.view.made) (modified_at side.keys part (made_of given stamp) s s' old new))

pub ready_others : (side : SendView) (part : ℕ) (given : List ℕ) (stamp j : ℕ) → j ≢ part
    → slice_get (readied side part given stamp).keys j ≡ slice_get side.keys j
ready_others side part given stamp j ne = modified_other side.keys part j (made_of given stamp) ne

-- and all that was made in its box was got
pub ready_agrees : (width : ℕ) (words : List ℕ) (side : SendView) (part : ℕ) (given : List ℕ) (stamp : ℕ)
    (s s' : Sender) (r : Receiving) → slice_get side.keys part ≡ Some s
    → slice_get (readied side part given stamp).keys part ≡ Some s' → GateRule width words s'.view r
    → length r.got ≤ length s.view.made → length s.view.made ≡ length r.got
ready_agrees width words side part given stamp s s' r old new g before =
    let made : made_of given stamp s ≡ s' = modified_at side.keys part (made_of given stamp) s s' old new in
    ready_now width words (record s.view { filled = given }) r stamp
    (subst (λ (k : Sender). GateRule width words k.view r) (sym made) g) before

-- ---- `test`

-- no test makes anything
keeps_made : (side : SendView) (gate : ℕ) (b : Bool) (o : Option ℕ) (i : ℕ) (s s' : Sender)
    → slice_get side.keys i ≡ Some s → slice_get (if b then shown (looked side gate) o else side).keys i ≡ Some s'
    → s'.view.made ≡ s.view.made
keeps_made side gate false o i s s' old new =
    ap (λ (k : Sender). k.view.made) (some_same s' s (sym new ∙ old))
keeps_made side gate true o i s s' old new = ⊎_elim
    (λ (e : i ≡ side.freed).
    let here = subst (λ j. slice_get side.keys j ≡ Some s) e old in
    let there = subst (λ j. slice_get (looked side gate).keys j ≡ Some s') e (keys o ∙ new) in
    sym (ap (λ (k : Sender). k.view.made) (modified_at side.keys side.freed (λ k. after_freed k gate) s s' here there)))
    (λ (ne : i ≡ side.freed → ⊥).
    let same = modified_other side.keys side.freed i (λ k. after_freed k gate) ne in
    ap (λ (k : Sender). k.view.made) (some_same s' s (sym (keys o ∙ new) ∙ (same ∙ old))))
    (cases_eq i side.freed)
  where
    keys : (o : Option ℕ) → slice_get (looked side gate).keys i ≡ slice_get (shown (looked side gate) o).keys i
    keys None = refl
    keys (Some t) = refl

pub test_keeps_made : (side : SendView) (gate i : ℕ) (s s' : Sender) → slice_get side.keys i ≡ Some s
    → slice_get (tested side gate).keys i ≡ Some s' → s'.view.made ≡ s.view.made
test_keeps_made side gate i s s' old new = keeps_made side gate (looks_at side) (taken_stamp gate) i s s' old new

-- a test that answers Freed found a take in the gate
freed_shown : (clock stamp : ℕ) (o : Option ℕ) → shown_progress clock o ≡ Freed stamp
    → (t : ℕ) × (o ≡ Some t) × (stamp ≡ max clock t + 1)
freed_shown clock stamp None e = absurd (cc)
freed_shown clock stamp (Some t) e = (t, refl, cc)

freed_looks : (side : SendView) (clock stamp : ℕ) (o : Option ℕ) (over ready : Bool)
    → (if over then AllFreed else if ready then shown_progress clock o else NotReady) ≡ Freed stamp
    → (over ≡ false) × (ready ≡ true) × (shown_progress clock o ≡ Freed stamp)
freed_looks side clock stamp o true ready e = absurd (cc)
freed_looks side clock stamp o false true e = (refl, refl, e)
freed_looks side clock stamp o false false e = absurd (cc)

-- all that was made in its box was got, and the answer is the stamp behind the clock and the last take's
pub test_agrees : (width : ℕ) (words : List ℕ) (side : SendView) (clock gate stamp : ℕ) (s s' : Sender) (r : Receiving)
    → test_progress side clock gate ≡ Freed stamp → slice_get side.keys side.freed ≡ Some s
    → slice_get (tested side gate).keys side.freed ≡ Some s' → GateRule width words s'.view r
    → (length s'.view.made ≡ length r.got) × (stamp ≡ max clock (last_take r.got) + 1)
test_agrees width words side clock gate stamp s s' r answer old new g =
    let looks = freed_looks side clock stamp (taken_stamp gate) (all_freed side) (is_ready side side.freed) answer in
    let found = freed_shown clock stamp (taken_stamp gate) looks.2 in
    let on : looks_at side ≡ true =
    ap (λ (b : Bool). if b then false else is_ready side side.freed) looks.0 ∙ looks.1 in
    let is : tested side gate ≡ shown (looked side gate) (Some found.0) =
    ap (λ (b : Bool). if b then shown (looked side gate) (taken_stamp gate) else side) on
    ∙ ap (shown (looked side gate)) found.1 in
    let new' : slice_get (looked side gate).keys side.freed ≡ Some s' =
    sym (ap (λ (v : SendView). slice_get v.keys side.freed) is) ∙ new in
    let key : after_freed s gate ≡ s' = modified_at side.keys side.freed (λ k. after_freed k gate) s s' old new' in
    let rule = subst (λ (k : Sender). GateRule width words k.view r) (sym key) g in
    let told = freed_now width words s.view r gate found.0 rule found.1 in (
      sym (ap (λ (k : Sender). length k.view.made) key) ∙ told.0,
      found.2 ∙ ap (λ n. max clock n + 1) told.1,
    )

-- ---- `take`

-- the keys that a take leaves
took_keys : (side : RecvView) (box : ℕ) (o : Option ℕ) → (marked side box o).keys ≡ side.keys
took_keys side box None = refl
took_keys side box (Some t) = refl

took_key : (side : RecvView) (box gate clock : ℕ) (given : List ℕ) (r r' : Receiver) → slice_get side.keys box ≡ Some r
    → slice_get (took side box gate given clock).keys box ≡ Some r' → lane_took gate given clock r ≡ r'
took_key side box gate clock given r r' old new =
    let now : RecvView = record side { keys = modified side.keys box (lane_took gate given clock) } in
    modified_at side.keys box (lane_took gate given clock) r r' old
    (sym (ap (λ l. slice_get l box) (took_keys now box (ready_stamp gate))) ∙ new)

pub take_others : (side : RecvView) (box gate clock : ℕ) (given : List ℕ) (j : ℕ) → j ≢ box
    → slice_get (took side box gate given clock).keys j ≡ slice_get side.keys j
take_others side box gate clock given j ne =
    let now : RecvView = record side { keys = modified side.keys box (lane_took gate given clock) } in
    ap (λ l. slice_get l j) (took_keys now box (ready_stamp gate))
    ∙ modified_other side.keys box j (lane_took gate given clock) ne

-- one that answers Missed gets nothing
pub take_missed : (side : RecvView) (box gate clock : ℕ) (given : List ℕ) (stamp : ℕ) (r r' : Receiver)
    → take.Missed stamp ≡ shown_take clock given (ready_stamp gate) → slice_get side.keys box ≡ Some r
    → slice_get (took side box gate given clock).keys box ≡ Some r' → r'.view.got ≡ r.view.got
take_missed side box gate clock given stamp r r' answer old new =
    let none = missed clock given (ready_stamp gate) stamp answer in
    sym (ap (λ (k : Receiver). k.view.got)
    (sym (ap (lane_shown gate given clock r) none) ∙ took_key side box gate clock given r r' old new))

-- One that answers Taken gets the one thing that was left in its box: its stamp t and its words
pub take_agrees : (width : ℕ) (words : List ℕ) (side : RecvView) (box gate clock : ℕ) (given bytes : List ℕ) (stamp : ℕ)
    (s : Sending) (r r' : Receiver) → take.Taken bytes stamp ≡ shown_take clock given (ready_stamp gate)
    → slice_get side.keys box ≡ Some r → slice_get (took side box gate given clock).keys box ≡ Some r'
    → GateRule width words s r'.view → length s.made ≤ length r.view.got + 1
    → (t : ℕ) × (length s.made ≡ length r.view.got + 1)
    × (slice_get s.made (length r.view.got) ≡ Some (record { stamp = t; words = given }))
    × (bytes ≡ bytes_of_words given) × (stamp ≡ max clock t + 1)
    × (r'.view.got ≡ r.view.got ++ record { stamp = t; words = given; taken = stamp } ∷ [])
take_agrees width words side box gate clock given bytes stamp s r r' answer old new g before =
    let found = taken clock given (ready_stamp gate) bytes stamp answer in
    let t = found.0 in
    let both : take.Taken bytes stamp ≡ take.Taken (bytes_of_words given) (max clock t + 1) =
    answer ∙ ap (shown_take clock given) found.1 in
    let told : stamp ≡ max clock t + 1 = cc in
    let spelled : bytes ≡ bytes_of_words given = cc in
    let key : got_of given (max clock t + 1) (after_look r gate) ≡ r' =
    sym (ap (lane_shown gate given clock r) found.1) ∙ took_key side box gate clock given r r' old new in
    let seen : unwrap_or (ready_stamp gate) 0 ≡ t = ap (λ (o : Option ℕ). unwrap_or o 0) found.1 in
    let was : Receiving = record (with_look r.view gate) { copied = given } in
    let left = empty_now width words s was (max clock t + 1)
    (subst (λ (k : Receiver). GateRule width words s k.view) (sym key) g) before in (
      t,
      left.0,
      left.1 ∙ ap (λ n. Some (record { stamp = n; words = given })) seen,
      spelled,
      told,
      sym (ap (λ (k : Receiver). k.view.got) key)
          ∙ ap (λ (x : ℕ × ℕ). r.view.got ++ record { stamp = x.0; words = given; taken = x.1 } ∷ [])
          (λ i. (seen i, sym told i)),
    )
