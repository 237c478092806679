use Rattle.std.proofs.Common.{ℕ, ◌≡◌, ◌∙◌, ◌++◌, List, [], Bool, true, false, if◌then◌else◌, OnOk, Some, ap, length, refl, rules, slice_get, subst, sym}
use Rattle.std.proofs.lemmas.List.{append-nil}
use Rattle.std.proofs.lemmas.Option.{slice_get_read}
use Rattle.rv_image_types.specs.declared.images.ImageParts.{ImageParts}
use Rattle.cl_replay.specs.declared.states.ClusterState.{ClusterState}
use Rattle.cl_rests.specs.Sets.{in_set}
use Rattle.cl_state.specs.Room.{rank_of}
use Rattle.cl_state.specs.declared.state.RankState.{RankState}
use Rattle.rvmc_inspect.specs.Why.{is_live}
use Rattle.rvmc_explore.specs.HangTexts.{awake_text, hang_rank_text, hang_text_at, running}
use Rattle.rvmc_explore.specs.Needs.{held_text}
use Rattle.rvmc_explore.proofs.hang_texts.put_rank.Goals as goal

module _ (image : ImageParts) (state : ClusterState) (resting number : ℕ) (own : RankState)
    (there : slice_get state.ranks.items number ≡ Some own) where
  -- the text of the rank that is there
  its_text : hang_rank_text image state resting number ≡ hang_text_at image state resting number (Some own)
  its_text = ap (hang_text_at image state resting number) there

  stopped_text : is_live (rank_of own) ≡ false → hang_rank_text image state resting number ≡ []
  stopped_text asleep = its_text ∙ ap (λ (live : Bool). if live
      then (if in_set resting number then held_text image state number
      else awake_text image state number own (running (slice_get (rank_of own).harts 0)))
      else []) asleep

  resting_text : is_live (rank_of own) ≡ true → in_set resting number ≡ true
      → hang_rank_text image state resting number ≡ held_text image state number
  resting_text live rests = its_text ∙ ap (λ (lives : Bool). if lives
      then (if in_set resting number then held_text image state number
      else awake_text image state number own (running (slice_get (rank_of own).harts 0)))
      else []) live ∙ ap (λ (is : Bool). if is then held_text image state number
      else awake_text image state number own (running (slice_get (rank_of own).harts 0))) rests

  going_text : is_live (rank_of own) ≡ true → in_set resting number ≡ false
      → hang_rank_text image state resting number
      ≡ awake_text image state number own (running (slice_get (rank_of own).harts 0))
  going_text live awake = its_text ∙ ap (λ (lives : Bool). if lives
      then (if in_set resting number then held_text image state number
      else awake_text image state number own (running (slice_get (rank_of own).harts 0)))
      else []) live ∙ ap (λ (is : Bool). if is then held_text image state number
      else awake_text image state number own (running (slice_get (rank_of own).harts 0))) awake

pub returns-then-not-is_live : goal.returns-then-not-is_live
returns-then-not-is_live c =
    let old = c.args.text.now.items in
    let found = c.in-Some.ensures.lookup in
    let ranks = c.deref.result.now in
    let at = slice_get_read ranks (length ranks) c.from-number.result c.in-Some.own.now refl found.3.0 found.1 in
    let there : slice_get c.args.state.now.ranks.items c.args.rank ≡ Some c.in-Some.own.now =
    sym (λ i. slice_get (c.deref.ensures.value i) (c.from-number.ensures i)) ∙ at in
    let asleep : is_live (rank_of c.in-Some.own.now) ≡ false = search rules in
    sym (append-nil old)
    ∙ sym (ap (λ more. old ++ more)
    (stopped_text c.args.image.now c.args.state.now c.args.resting c.args.rank c.in-Some.own.now there asleep))

pub returns-then-has : goal.returns-then-has
returns-then-has c =
    let old = c.args.text.now.items in
    let found = c.in-Some.ensures.lookup in
    let ranks = c.deref.result.now in
    let at = slice_get_read ranks (length ranks) c.from-number.result c.in-Some.own.now refl found.3.0 found.1 in
    let there : slice_get c.args.state.now.ranks.items c.args.rank ≡ Some c.in-Some.own.now =
    sym (λ i. slice_get (c.deref.ensures.value i) (c.from-number.ensures i)) ∙ at in
    let live : is_live (rank_of c.in-Some.own.now) ≡ true = search rules in
    let rests : in_set c.args.resting c.args.rank ≡ true = search rules in
    subst (λ more. OnOk c.put_held.result (c.put_held.new.text.items ≡ old ++ more))
    (sym (resting_text c.args.image.now c.args.state.now c.args.resting c.args.rank c.in-Some.own.now there live rests))
    c.put_held.ensures

pub returns : goal.returns
returns c =
    let old = c.args.text.now.items in
    let image = c.args.image.now in
    let found = c.in-Some.ensures.lookup in
    let ranks = c.deref.result.now in
    let at = slice_get_read ranks (length ranks) c.from-number.result c.in-Some.own.now refl found.3.0 found.1 in
    let there : slice_get c.args.state.now.ranks.items c.args.rank ≡ Some c.in-Some.own.now =
    sym (λ i. slice_get (c.deref.ensures.value i) (c.from-number.ensures i)) ∙ at in
    let live : is_live (rank_of c.in-Some.own.now) ≡ true = search rules in
    let awake : in_set c.args.resting c.args.rank ≡ false = search rules in
    let symbols : image.symbols ≡ c.as_slice-symbols.result.now = search rules in
    let told : OnOk c.put_awake.result (c.put_awake.new.text.items ≡ old ++ awake_text image c.args.state.now
    c.from-number.result c.in-Some.own.now (running (slice_get (rank_of c.in-Some.own.now).harts 0)))
    = c.put_awake.ensures image symbols in
    subst (λ more. OnOk c.put_awake.result (c.put_awake.new.text.items ≡ old ++ more))
    (sym (going_text image c.args.state.now c.args.resting c.args.rank c.in-Some.own.now there live awake))
    (subst (λ number. OnOk c.put_awake.result (c.put_awake.new.text.items ≡ old ++ awake_text image c.args.state.now
    number c.in-Some.own.now (running (slice_get (rank_of c.in-Some.own.now).harts 0)))) c.from-number.ensures told)
