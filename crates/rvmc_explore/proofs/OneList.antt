-- What is told of one image and one order is one, where no state is left.
use Rattle.std.specs.Prelude.{ℕ, suc, ◌<◌, ◌≡◌, ◌++◌, ◌||◌, ◌==◌, List, [], ◌∷◌, Bool, true, false, Option, Some, None, length, map, not, slice_get}
use Rattle.std.specs.List.{list_any}
use Rattle.std.proofs.Common.{refl, sym, ap, ◌∙◌, subst, arith, inl, inr}
use Rattle.std.proofs.lemmas.Bool.{eqb-true}
use Rattle.std.proofs.lemmas.List.Folds.{list_any_at}
use Rattle.std.proofs.lemmas.Option.{get_or_from_slice_get, same_Some, slice_get_within}
use Rattle.rv_image_types.specs.Image.{IsImage}
use Rattle.rv_image_types.specs.declared.images.ImageParts.{ImageParts}
use Rattle.cl_state.specs.Rank.{Rank}
use Rattle.cl_state.specs.Room.{rank_of}
use Rattle.cl_machine.specs.Cluster.{Cluster, IsRun, loaded_cluster}
use Rattle.cl_machine.specs.declared.steps.Step.{Step}
use Rattle.cl_order_laws.specs.Closed.{FollowPlans, IsEnd, Node, none_had, had_after}
use Rattle.cl_outcome_laws.specs.Unending.{MayEnd}
use Rattle.cl_patient_laws.specs.Patient.{HangsIfSendsWait}
use Rattle.cl_explore.specs.Below.{AreBelow}
use Rattle.cl_deadlock_laws.proofs.Reached.{comes_reached}
use Rattle.cl_explore.specs.Below.{IsOrder}
use Rattle.cl_moves.specs.Standing.{by_order, first_node, node_of}
use Rattle.cl_explore.specs.Ends.{AreAlikeEnds, Explored, Findings}
use Rattle.cl_explore.specs.declared.companies.Company.{Company}
use Rattle.cl_explore.specs.declared.kept.KeptNode.{KeptNode}
use Rattle.cl_explore.specs.declared.needs.Needs.{Needs}
use Rattle.cl_explore.proofs.Lists.{at_inside}
use Rattle.cl_replay.specs.Kept.{Snapshot}
use Rattle.rvmc_report.specs.Report.{has_trapped}
use Rattle.rvmc_explore.specs.Endless.{AllMayEnd, NeverNeeds, SaysUnending, SomeNeverEnds}
use Rattle.rvmc_explore.specs.Ends.{one_waits, IsWaitText, any_waits}
use Rattle.rvmc_explore.specs.OneList.{LeadsToText, OneListLaw, TellsEnd, lines_from}
use Rattle.rvmc_explore.specs.Hangs.{SaysHanging}
use Rattle.rvmc_explore.specs.Outcomes.{IsListOf, IsOutcome, any_need}
use Rattle.rvmc_explore.specs.Recorded.{Leads, LeadsTo, numbered}
use Rattle.rvmc_explore.proofs.Listed.{end_told}
use Rattle.rvmc_explore.proofs.ToEnds.{numbered_at, told_way}
use Rattle.rvmc_explore.specs.Telling.{Tells, any_end, has_stuck, holds_of, is_all, is_some_company, is_somebody, search_status, trapped_in, waits_in}
use Rattle.rvmc_explore.specs.declared.outcomes.Outcome.{Outcome}
use Rattle.rvmc_explore.proofs.EndTexts.{found_way, lines_alike, lines_of_states, ranks_kept, traps_alike, waits_alike, waits_of_states}

-- ---- the text of an end

module _ (image : ImageParts) (order : List ℕ) (buffered : Bool) (states turns : ℕ) (told : List Outcome)
    (listed : IsListOf image order buffered states turns told) where
  abbrev explored : Explored image order listed.found
  explored = (listed.searched).explored

  -- of a cluster that is alike an end that was found
  pub tells_alike : (end : Cluster) (k i : ℕ) (node : Node) → slice_get (listed.found).ends k ≡ Some i
      → slice_get explored.nodes i ≡ Some node → AreAlikeEnds end node.cluster
      → TellsEnd image order buffered states turns told listed end
  tells_alike end k i node noted there alike =
      let body = end_told order image listed.found told listed.are k i noted in
      let kept = (body.2).is in
      let text = (body.2).told in
      let ranks : map rank_of (body.2).state.ranks.items ≡ node.cluster.ranks =
      ap (λ (s : Snapshot). s.ranks) kept.same
      ∙ sym (ranks_kept image order (first_node image) listed.found explored i kept.what node kept.there there) in
      record {
        number = i;
        node = node;
        there = there;
        alike = alike;
        body = body.0;
        told_is = body.1;
        is = body.2;
        waiting = text.waiting;
        begins = text.spelled
            ∙ ap (λ lines. lines ++ text.waiting)
            (lines_of_states order 0 (body.2).state.ranks.items
            ∙ ap (lines_from order 0) ranks ∙ lines_alike order end node.cluster alike);
        alone = λ none.
            let waits : any_waits order (body.2).state.ranks.items ≡ false =
            waits_of_states order (body.2).state.ranks.items
            ∙ ap (list_any (λ (rank : Rank). one_waits order rank.harts)) ranks ∙ waits_alike order end node.cluster alike
            ∙ none in
            subst (λ b. IsWaitText b image (body.2).state text.waiting) waits text.told;
      }

  tells_end : (listed.found).left ≡ 0 → (steps : List Step) (end : Cluster) → IsRun (loaded_cluster image) steps end
      → FollowPlans (by_order order) none_had steps → IsEnd (by_order order) end
      → TellsEnd image order buffered states turns told listed end
  tells_end whole steps end run follow is =
      let v = explored.all whole steps end run follow is in tells_alike end v.0 v.1 v.2 v.3 v.4 v.5

-- ---- ranks that need buffers

-- where runs never come to any, no outcome of any search is of such ranks
pub unneeded : (image : ImageParts) (order : List ℕ) (found : Findings) (outcome : Outcome)
    → NeverNeeds image order (first_node image) → IsOutcome order image found outcome → outcome.need ≡ true → ⊥
unneeded image order found outcome never (inl end) is = let no : true ≡ false = sym is ∙ end.no_need in absurd (cc)
unneeded image order found outcome never (inr (inl stuck)) is = let no : true ≡ false = sym is ∙ stuck.no_need in absurd (cc)
unneeded image order found outcome never (inr (inr (inr hang))) is = let no : true ≡ false = sym is ∙ hang.no_need in absurd (cc)
unneeded image order found outcome never (inr (inr (inl needs))) is =
    let there = (needs.node).cluster in
    let count = (comes_reached image outcome.way there (needs.led).run).count in
    never outcome.way there (needs.led).run (needs.led).follow needs.ranks
    (subst (AreBelow needs.ranks) count (needs.need).are_ranks) (needs.need).need

-- ---- the status

bools : (a b : Bool) → (a ≡ true → b ≡ true) → (b ≡ true → a ≡ true) → a ≡ b
bools true b there back = sym (there refl)
bools false true there back = back refl
bools false false there back = refl

any_some : {A : Type 0} (p : A → Bool) (xs : List A) → list_any p xs ≡ true
    → (k : ℕ) × (x : A) × (slice_get xs k ≡ Some x) × (p x ≡ true)
any_some {A = A} p [] is = absurd (cc)
any_some {A = A} p (x ∷ xs) is = of (λ any. any_some p xs any) (p x) refl is
  where
    of : (list_any p xs ≡ true → (k : ℕ) × (y : A) × (slice_get xs k ≡ Some y) × (p y ≡ true)) → (b : Bool) → p x ≡ b
        → (b || list_any p xs) ≡ true → (k : ℕ) × (y : A) × (slice_get (x ∷ xs) k ≡ Some y) × (p y ≡ true)
    of rest true here any = (0, x, refl, here)
    of rest false here any = let v = rest any in (suc v.0, v.1, v.2, v.3)

pub some_any : {A : Type 0} (p : A → Bool) (xs : List A) (k : ℕ) (x : A) → slice_get xs k ≡ Some x → p x ≡ true
    → list_any p xs ≡ true
some_any p xs k x at is =
    list_any_at p xs k x (slice_get_within xs k x at) (ap p (get_or_from_slice_get xs k x x at) ∙ is)

holds_some : (p : KeptNode → Bool) (o : Option KeptNode) → holds_of p o ≡ true
    → (what : KeptNode) × (o ≡ Some what) × (p what ≡ true)
holds_some p None is = absurd (cc)
holds_some p (Some what) is = (what, refl, is)

-- where something holds of an end by its ranks, whatever their posts are called, then of an end of each search
module _ (image : ImageParts) (order : List ℕ) (found other : Findings) (one : Explored image order found)
    (two : Explored image order other) (whole : other.left ≡ 0) (p : KeptNode → Bool) (q : List Rank → Bool)
    (is : (what : KeptNode) → p what ≡ q what.cluster.ranks)
    (same : (a b : Cluster) → AreAlikeEnds a b → q b.ranks ≡ q a.ranks) where
  end_there : any_end p found.kept found.ends ≡ true → any_end p other.kept other.ends ≡ true
  end_there any =
      let e = any_some (λ i. holds_of p (slice_get found.kept i)) found.ends any in
      let kept = holds_some p (slice_get found.kept e.1) e.3 in
      let end = one.sound e.0 e.1 e.2 in
      let node = end.0 in
      let way = found_way image order (first_node image) found one e.1 node end.1 in
      let v = two.all whole way.0 node.cluster (way.1).run (way.1).follow end.2 in
      let low = slice_get_within two.nodes v.1 v.2 v.4 in
      let what = at_inside other.kept v.1 (omega (arith, low, (two.are).many)) in
      let holds : p what.0 ≡ true =
      is what.0
      ∙ ap q (sym (ranks_kept image order (first_node image) other two v.1 what.0 v.2 what.1 v.4))
      ∙ same node.cluster v.2.cluster v.5
      ∙ ap q (ranks_kept image order (first_node image) found one e.1 kept.0 node kept.1 end.1)
      ∙ sym (is kept.0)
      ∙ kept.2 in
      some_any (λ i. holds_of p (slice_get other.kept i)) other.ends v.0 v.1 v.3
      (ap (holds_of p) what.1 ∙ holds)

some_is : (companies : List Company) → is_some_company companies ≡ true → 0 < length companies
some_is [] some = absurd (cc)
some_is (company ∷ companies) some = omega arith

none_is : (companies : List Company) → is_some_company companies ≡ false → length companies ≡ 0
none_is companies none = of (length companies == 0) refl none
  where
    of : (b : Bool) → (length companies == 0) ≡ b → not b ≡ false → length companies ≡ 0
    of true is none = eqb-true (length companies) 0 is
    of false is none = absurd (cc)

either : (a b c d : Bool) → (a ≡ true → c ≡ true) → (b ≡ true → d ≡ true) → (a || b) ≡ true → (c || d) ≡ true
either true b true d first second is = refl
either true b false d first second is = absurd (let no = first refl in cc)
either false true true true first second is = refl
either false true false true first second is = refl
either false true c false first second is = absurd (let no = second refl in cc)
either false false c d first second is = absurd (cc)

module _ (image : ImageParts) (order : List ℕ) (buffered copied : Bool) (states turns more longer : ℕ) (text other : List ℕ)
    (status its : ℕ) (right : IsImage image) (harts : IsOrder image.harts order)
    (one : Tells image order buffered states turns text status) (whole : ((one.listed).found).left ≡ 0)
    (two : Tells image order copied more longer other its) (all : ((two.listed).found).left ≡ 0) where
  abbrev first : Explored image order (one.listed).found
  first = ((one.listed).searched).explored

  abbrev second : Explored image order (two.listed).found
  second = ((two.listed).searched).explored

  traps_there : any_end trapped_in ((one.listed).found).kept ((one.listed).found).ends ≡ true
      → any_end trapped_in ((two.listed).found).kept ((two.listed).found).ends ≡ true
  traps_there =
      end_there image order (one.listed).found (two.listed).found first second all trapped_in
      (λ ranks. list_any (λ (rank : Rank). has_trapped rank.harts) ranks) (λ what. refl) traps_alike

  -- ranks that are stuck in a node of one are stuck in some of the other
  company_there : is_some_company ((one.listed).found).companies ≡ true
      → is_some_company ((two.listed).found).companies ≡ true
  company_there some = of (is_some_company ((two.listed).found).companies) refl
    where
      of : (b : Bool) → is_some_company ((two.listed).found).companies ≡ b
          → is_some_company ((two.listed).found).companies ≡ true
      of true is = is
      of false is =
          let low = some_is ((one.listed).found).companies some in
          let company = at_inside ((one.listed).found).companies 0 low in
          let at = first.stuck right 0 company.0 company.1 in
          let way = found_way image order (first_node image) (one.listed).found first company.0.node at.0 at.1 in
          let count = (comes_reached image way.0 at.0.cluster (way.1).run).count in
          let never = two.none_stuck all (none_is ((two.listed).found).companies is) in
          absurd (never way.0 at.0.cluster (way.1).run (way.1).follow company.0.ranks.items
          (subst (AreBelow company.0.ranks.items) count (at.2).are_ranks)
          (record { stuck = (at.2).stuck; waits = ((at.2).deadlock).waits }))

  stuck_there : has_stuck order (one.listed).found ≡ true → has_stuck order (two.listed).found ≡ true
  stuck_there =
      either (any_end (waits_in order) ((one.listed).found).kept ((one.listed).found).ends)
      (is_some_company ((one.listed).found).companies)
      (any_end (waits_in order) ((two.listed).found).kept ((two.listed).found).ends)
      (is_some_company ((two.listed).found).companies)
      (end_there image order (one.listed).found (two.listed).found first second all (waits_in order)
      (λ ranks. list_any (λ (rank : Rank). one_waits order rank.harts) ranks) (λ what. refl) (waits_alike order))
      company_there

  -- a run that can't end any more is one of any search
  unending_there : one.unending ≡ true → two.unending ≡ true
  unending_there some = of two.unending refl
    where
      of : (b : Bool) → two.unending ≡ b → two.unending ≡ true
      of true is = is
      of false is =
          let never : SomeNeverEnds image order =
          subst (SaysUnending image order (first_node image) ((one.listed).found).left) some one.unending_is in
          let may : AllMayEnd order (first_node image) =
          subst (SaysUnending image order (first_node image) ((two.listed).found).left) is two.unending_is all harts in
          let way = never.way in
          let goes = may never.steps (never.there).cluster way.run way.follow in
          let same : node_of (never.there).cluster (had_after none_had never.steps) ≡ never.there =
          (λ i. record { cluster = (never.there).cluster; had = (sym way.had) i }) in
          let ends : MayEnd (by_order order) never.there = subst (MayEnd (by_order order)) same goes in
          absurd (never.never ends.0 ends.1 ends.2)

status_same : (status its : ℕ) (w a b c v x y z : Bool) → w ≡ v → status ≡ search_status w a b c
    → its ≡ search_status v x y z → a ≡ x → b ≡ y → c ≡ z → status ≡ its
status_same status its w a b c v x y z all is are first second third =
    is ∙ (λ i. search_status (all i) (first i) (second i) (third i)) ∙ sym are

-- two searches that know the same of ranks that need buffers, and of runs that go on for ever, tell the same of runs that hang if
-- sends wait
hanging_there : (image : ImageParts) (order : List ℕ) (told other : List Outcome) (known its : Needs) (unending endless : Bool)
    → (b c : Bool) → SaysHanging image order told known unending b → SaysHanging image order other its endless c
    → known ≡ its → unending ≡ endless → b ≡ true → c ≡ true
hanging_there image order told other known its unending endless true true one two needs ends is = refl
hanging_there image order told other known its unending endless true false one two needs ends is =
    let l = one.2 in
    let same : node_of (l.node).cluster (had_after none_had l.steps) ≡ l.node =
    (λ i. record { cluster = (l.node).cluster; had = (sym (l.way).had) i }) in
    absurd (two (sym needs ∙ one.0) (sym ends ∙ one.1) l.steps (l.node).cluster (l.way).run (l.way).follow
    (subst (HangsIfSendsWait (by_order order)) (sym same) l.hangs))
hanging_there image order told other known its unending endless false c one two needs ends is = absurd (cc)

hanging_same : (image : ImageParts) (order : List ℕ) (told other : List Outcome) (known its : Needs) (unending endless : Bool)
    (b c : Bool) → SaysHanging image order told known unending b → SaysHanging image order other its endless c → known ≡ its
    → unending ≡ endless → b ≡ c
hanging_same image order told other known its unending endless b c one two needs ends =
    bools b c (hanging_there image order told other known its unending endless b c one two needs ends)
    (hanging_there image order other told its known endless unending c b two one (sym needs) (sym ends))

leads_there : (image : ImageParts) (order : List ℕ) (left : ℕ) (steps : List Step) (o : Option Outcome)
    → Leads image order left o (Some steps) → (outcome : Outcome) × (o ≡ Some outcome) × LeadsTo image order left outcome steps
leads_there image order left steps None leads = absurd leads
leads_there image order left steps (Some outcome) leads = (outcome, refl, leads)

leads_to_text : (image : ImageParts) (order : List ℕ) (left : ℕ) (told : List Outcome) (number : ℕ) (steps : List Step)
    → Leads image order left (numbered told number) (Some steps) → LeadsToText image order left told number steps
leads_to_text image order left told number steps leads =
    let led = leads_there image order left steps (numbered told number) leads in
    let at = numbered_at told number led.0 led.1 in
    record { outcome = led.0; place = at.0; numbered_from_1 = at.1; there = at.2; leads = led.2 }

-- no list tells of ranks that need buffers where runs never come to any
none_needed : (image : ImageParts) (order : List ℕ) (copied : Bool) (more longer : ℕ) (other : List Outcome)
    → IsListOf image order copied more longer other → NeverNeeds image order (first_node image) → any_need other ≡ false
none_needed image order copied more longer other listed never = of (any_need other) refl
  where
    of : (b : Bool) → any_need other ≡ b → any_need other ≡ false
    of false is = is
    of true is =
        let one = any_some (λ (outcome : Outcome). outcome.need) other is in
        absurd (unneeded image order listed.found one.1 never ((listed.are).each one.0 one.1 one.2) one.3)

pub one_list_law : OneListLaw
one_list_law = record {
  each = λ image order buffered states turns told listed k outcome at.
      told_way image order listed.found outcome ((listed.are).each k outcome at);
  every = λ image order buffered states turns told listed whole steps end run follow is.
      tells_end image order buffered states turns told listed whole steps end run follow is;
  ends = λ image order buffered copied states turns more longer told other one listed whole k i node at there.
      let explored = (one.searched).explored in
      let end = explored.sound k i at in
      let same : end.0 ≡ node = same_Some end.0 node (sym end.1 ∙ there) in
      let way = found_way image order (first_node image) one.found explored i node there in
      tells_end image order copied more longer other listed whole way.0 node.cluster (way.1).run (way.1).follow
      (subst (λ (n : Node). IsEnd (by_order order) n.cluster) same end.2);
  record_leads = λ image order buffered states turns number steps recorded.
      leads_to_text image order ((recorded.listed).found).left recorded.told number steps recorded.leads;
  record_leads_from = λ image start states turns number steps recorded.
      leads_to_text image start.harts ((recorded.listed).found).left recorded.told number steps recorded.leads;
  records = λ image order buffered copied states turns more longer number steps other recorded listed whole.
      let left = ((recorded.listed).found).left in
      let led = leads_there image order left steps (numbered recorded.told number) recorded.leads in
      let way = led.2.way in (
        (led.2.node).cluster,
        led.2.run,
        λ is. tells_end image order copied more longer other listed whole led.0.way (led.2.node).cluster way.run way.follow is,
      );
  none_need = λ image order buffered copied states turns more longer text status other one whole waiting listed.
      none_needed image order copied more longer other listed (one.none_need whole waiting);
  statuses = λ image order buffered copied states turns more longer text other status its right harts one whole two all.
      let unending = bools one.unending two.unending
      (unending_there image order buffered copied states turns more longer text other status its right harts one whole two all)
      (unending_there image order copied buffered more longer states turns other text its status right harts two all one
      whole) in (
        unending,
        λ needs. status_same status its (is_all ((one.listed).found).left (one.listed).needs)
            (any_end trapped_in ((one.listed).found).kept ((one.listed).found).ends)
            ((has_stuck order (one.listed).found || is_somebody (one.listed).needs) || one.hanging) one.unending
            (is_all ((two.listed).found).left (two.listed).needs)
            (any_end trapped_in ((two.listed).found).kept ((two.listed).found).ends)
            ((has_stuck order (two.listed).found || is_somebody (two.listed).needs) || two.hanging) two.unending
            (λ i. is_all ((whole ∙ sym all) i) (needs i)) one.status_is two.status_is
            (bools _ _
            (traps_there image order buffered copied states turns more longer text other status its right harts one whole two all)
            (traps_there image order copied buffered more longer states turns other text its status right harts two all one
            whole))
            (λ i. (bools _ _
            (stuck_there image order buffered copied states turns more longer text other status its right harts one whole two all)
            (stuck_there image order copied buffered more longer states turns other text its status right harts two all one
            whole) i
            || is_somebody (needs i)) || hanging_same image order one.told two.told (one.listed).needs (two.listed).needs one.unending
            two.unending one.hanging two.hanging one.hanging_is two.hanging_is needs unending i)
            unending,
      );
}
