-- One schedule, followed to its end.
use Rattle.std.specs.Prelude.{ℕ, ◌+◌, ◌≡◌, ◌<◌, List, [], ◌∷◌, ◌++◌, length, slice_get, Option, Some, None, Bool, false, true, IfSome}
use Rattle.std.proofs.Common.{refl, sym, ap, ◌∙◌, subst, arith, inl, inr}
use Rattle.std.proofs.lemmas.List.{length-append}
use Rattle.std.proofs.lemmas.Option.{same_Some}
use Rattle.rv_image_types.specs.declared.images.ImageParts.{ImageParts}
use Rattle.cl_machine.specs.declared.steps.Step.{Step}
use Rattle.cl_deeds.specs.Orders.{in_slot}
use Rattle.cl_order_laws.specs.Closed.{Node}
use Rattle.cl_moves.specs.Ahead.{GoesAhead}
use Rattle.cl_moves.specs.Ends.{TellsEnd}
use Rattle.cl_moves.specs.Moves.{AreTurnsOf}
use Rattle.cl_moves.specs.Standing.{IsNextHart, Takes, Took, by_order}
use Rattle.cl_moves.specs.declared.standing.Standing.{Standing}
use Rattle.cl_explore.specs.Covering.{AreLeads, AreNodes, Grows, LeadsGrow}
use Rattle.cl_explore.specs.Diving.{Dives, Ends, Follows, IsEndAt, IsNextTurn}
use Rattle.cl_explore.specs.Ends.{ExploredFrom, ExploresFrom, Findings, IsBounded, IsVisitedNode, StillExplores}
use Rattle.cl_explore.specs.How.{How}
use Rattle.cl_explore.specs.Kept.{IsLiveOf}
use Rattle.cl_explore.specs.Orders.{IsChosen}
use Rattle.cl_explore.specs.Searching.{Adds}
use Rattle.cl_explore.specs.declared.companies.Company.{Company}
use Rattle.cl_explore.specs.declared.kept.KeptNode.{KeptNode}
use Rattle.cl_explore.specs.declared.leads.Lead.{Lead}
use Rattle.cl_explore.specs.declared.search.Search.{Search}
use Rattle.cl_explore.proofs.Lists.{at_inside, stays_at, was_or_new}
use Rattle.cl_explore.proofs.Keeping.{before_at, no_way}
use Rattle.cl_explore.proofs.Covers.{closed_more, closed_over, leads_more, reaches_more}
use Rattle.cl_explore.proofs.Tries.{live_at}

-- ---- turns

-- a turn that is chosen among those of the next hart is one of its turns
pub chosen_is_next : (order : List ℕ) (standing : Standing) (rank hart : ℕ) (turns : List Step) (misses : Bool) (o : Option Step)
    → IsNextHart order standing rank (Some hart) → AreTurnsOf rank hart turns → IsChosen turns misses o
    → IfSome o (IsNextTurn order standing)
chosen_is_next order standing rank hart turns misses None next own is = tt
chosen_is_next order standing rank hart turns misses (Some e) next own is =
    let of = own (is.0).0 e (is.0).1 in (
      next.0,
      subst (λ r. slice_get standing.had.items r ≡ Some next.0) (sym of.rank_is) next.1,
      of.hart_is ∙ next.2,
    )

pub nowhere : (order : List ℕ) (standing : Standing) → Follows order standing standing
nowhere order standing = λ image start here stands way. (here, stands, way)

pub on : (order : List ℕ) (old mid new : Standing) → Follows order old mid → Follows order mid new → Follows order old new
on order old mid new one other = λ image start here stands way.
    let v = one image start here stands way in other image start v.0 v.1 v.2

pub took : (old : Standing) (e : Step) (new : Standing) (b : Bool) → b ≡ true → Takes old e new b → Took old e new
took old e new b is takes = subst (Takes old e new) is takes

-- a turn of the next hart, and others behind it that need only their rank
pub goes : (order : List ℕ) (old mid new : Standing) (e : Step) → IsNextTurn order old e → Took old e mid
    → GoesAhead order mid new
    → Follows order old new
goes order old mid new e next took ahead = λ image start here stands way.
    let by : e.hart ≡ by_order order e.rank (here.had e.rank) =
    next.2 ∙ ap (in_slot order) (sym (stands.had e.rank next.0 next.1)) in
    let v = took image (by_order order) start here stands way by in
    let w = ahead image start _ v.2 v.3 in
    (w.0, w.1, w.2)

pub ended : (order : List ℕ) (old new : Standing) → Follows order old new → TellsEnd new.cluster order true → Ends order old new
ended order old new follows tells = λ image start here stands way.
    let v = follows image start here stands way in
    (v.0, v.1, v.2, (tells image (v.0).cluster (v.1).stands (v.1).few).0 refl)

-- ---- one node more

-- the end of a schedule from a node is kept
pub dives : (how : How) (order : List ℕ) (old new : Search) (from number : ℕ) (k : KeptNode) (live there : Standing)
    → slice_get old.nodes.items from ≡ Some k → IsLiveOf k live → Ends order live there
    → Adds order old.nodes.items from there new.nodes.items number → new.leads ≡ old.leads
    → Dives how order old from new (Some number)
dives how order old new from number k live there at is ends adds same = (
  ((adds.0).0, (adds.0).1, ap (λ ls. ls.items) same),
  λ image nodes node found here.
      let plans = by_order order in
      let stands = live_at order old.nodes.items from k at live is image nodes node found.are here in
      let v = ends image node node stands.stands (no_way plans node live.steps.items stands.steps) in
      let kept = adds.1 image nodes node v.0 found.are v.1 (before_at image nodes from node here) v.2 in
      record {
        more = kept.more;
        grows = kept.grows;
        found = record {
          are = kept.are;
          leads = subst (λ ls. AreLeads how order kept.more ls.items) (sym same)
              (leads_more how order nodes kept.more old.leads.items kept.grows found.leads);
        };
        leads = subst (λ ls. LeadsGrow old.leads.items ls.items) (sym same) (λ k lead there. there);
        holds = (v.0, kept.holds, v.3);
      },
)

-- ---- what is told then

abbrev pub told : List KeptNode → List ℕ → List Company → List Lead → ℕ → Bool → List ℕ → Findings
told kept ends companies leads left may_wait resting = record {
  kept = kept;
  ends = ends;
  companies = companies;
  leads = leads;
  left = left;
  may_wait = may_wait;
  only_waits = false;
  resting = resting;
}

module _ (image : ImageParts) (order : List ℕ) (start : Node) (kept more : List KeptNode) (last : KeptNode)
    (ends : List ℕ) (companies : List Company) (leads : List Lead) (left number : ℕ) (may_wait : Bool) (resting : List ℕ)
    (longer : more ≡ kept ++ last ∷ []) where
  abbrev before : Findings
  before = told kept ends companies leads left may_wait resting

  abbrev after : Findings
  after = told more (ends ++ number ∷ []) companies leads (left + 1) may_wait resting

  module _ (e : ExploredFrom image order start before) (nodes : List Node) (grows : Grows e.nodes nodes)
      (are : AreNodes image order more nodes) (is_end : IsEndAt order nodes number) where
    many : length nodes ≡ length e.nodes + 1
    many =
        are.many ∙ ap length longer ∙ length-append kept (last ∷ [])
        ∙ sym (ap (λ n. n + 1) (e.are).many)

    -- the nodes whose moves were made are those of before
    was : (i : ℕ) (node : Node) → IsVisitedNode nodes (left + 1) i node → IsVisitedNode e.nodes left i node
    was i node visited =
        let inside : i + left < length e.nodes = (let l = visited.0 in let m = many in omega (arith, l, m)) in
        let v = at_inside e.nodes i (omega (arith, inside)) in
        (inside, v.1 ∙ sym (grows i v.0 v.1) ∙ visited.1)

    pub tells_more : (x : ExploredFrom image order start after) × (x.how ≡ e.how)
    tells_more = (
      record {
        nodes = nodes;
        are = are;
        how = e.how;
        start_is = reaches_more e.how order e.nodes nodes start grows e.start_is;
        begins = e.begins;
        room = e.room;
        leads = leads_more e.how order e.nodes nodes leads grows e.leads;
        follows = λ i r node visited.
            closed_more e.how order leads leads i e.nodes nodes node r grows (λ k lead there. there)
            (e.follows i r node (was i node visited));
        closed = λ i r node visited.
            closed_over e.how order leads i nodes node r
            (closed_more e.how order leads leads i e.nodes nodes node r grows (λ k lead there. there)
            (e.follows i r node (was i node visited)));
        few = λ i node visited. e.few i node (was i node visited);
        fit = λ i node visited. e.fit i node (was i node visited);
        sound = λ k i at. elim (was_or_new ends number k i at) [
          | inl old ↦ let v = e.sound k i old in (v.0, grows i v.0 v.1, v.2)
          | inr new ↦
              let same : number ≡ i = same_Some number i new.1 in
              (is_end.0, subst (λ j. slice_get nodes j ≡ Some is_end.0) same is_end.1, is_end.2)
        ];
        told = λ i node visited ended.
            let k = e.told i node (was i node visited) ended in (k.0, stays_at ends number k.0 i k.1);
        stuck = λ right k company at. (let v = e.stuck right k company at in (v.0, grows company.node v.0 v.1, v.2));
        visited = λ k company at. (let low = e.visited k company at in let m = many in omega (arith, low, m));
        judged = λ right i node visited. e.judged right i node (was i node visited);
        all = λ none. absurd (omega (arith, none));
        waits = e.waits;
        named = λ none. absurd (cc);
        unneeded = λ right is i node visited. e.unneeded right is i node (was i node visited);
        counted =
            let so = e.counted in
            let long = ap length longer ∙ length-append kept (last ∷ []) in
            omega (arith, so, long);
        rested = λ right is i node visited. e.rested right is i node (was i node visited);
      },
      refl,
    )

abbrev ToldFrom : How → ImageParts → List ℕ → Node → Findings → Type 0
ToldFrom how image order start found = (e : ExploredFrom image order start found) × (e.how ≡ how)

-- the end of the schedule is told beside what was told before, from whichever node the search began at
pub still_explores : (how : How) (order : List ℕ) (old new : Search) (from number : ℕ) (ends : List ℕ)
    (companies : List Company) (left after : ℕ) (may_wait : Bool) (resting : List ℕ)
    → Dives how order old from new (Some number)
    → from + left ≡ length old.nodes.items → (left ≡ 0 → ⊥) → after ≡ left + 1
    → StillExplores how order (told old.nodes.items ends companies old.leads.items left may_wait resting)
    (told new.nodes.items (ends ++ number ∷ []) companies new.leads.items after may_wait resting)
still_explores how order old new from number ends companies left after may_wait resting dives at some is =
    λ standing explores image here stands way may.
    let v = explores image here stands way may in
    let e = v.0 in
    let leads = subst (λ h. AreLeads h order e.nodes old.leads.items) v.1 e.leads in
    let inside : from < length e.nodes = (let m = (e.are).many in omega (arith, at, some, m)) in
    let node = at_inside e.nodes from inside in
    let far = dives.1 image e.nodes node.0 (record { are = e.are; leads = leads }) node.1 in
    let x = tells_more image order here old.nodes.items new.nodes.items (dives.0).0 ends companies old.leads.items left number
    may_wait resting (dives.0).1 e far.more far.grows (far.found).are far.holds in
    subst (λ n. ToldFrom how image order here
    (told new.nodes.items (ends ++ number ∷ []) companies new.leads.items n may_wait resting)) (sym is)
    (subst (λ ls. ToldFrom how image order here
    (told new.nodes.items (ends ++ number ∷ []) companies ls (left + 1) may_wait resting)) (sym (dives.0).2) (x.0, x.1 ∙ v.1))

-- ---- where it was cut

-- and it is still bounded
pub still_bounded : (states : ℕ) (enough : Option ℕ) (most : ℕ) (kept more : List KeptNode) (last : KeptNode) (left after : ℕ)
    → more ≡ kept ++ last ∷ [] → (left ≡ 0 → ⊥) → after ≡ left + 1 → IsBounded states enough most kept left
    → IsBounded states enough most more after
still_bounded states enough most kept more last left after longer some is (inl none) = absurd (some none)
still_bounded states enough most kept more last left after longer some is (inr (inl all)) =
    let long = ap length longer ∙ length-append kept (last ∷ []) in
    inr (inl (omega (arith, long, all, is)))
still_bounded states None most kept more last left after longer some is (inr (inr (inl least))) = absurd least
still_bounded states (Some n) most kept more last left after longer some is (inr (inr (inl least))) =
    inr (inr (inl (omega (arith, least, is))))
still_bounded states enough most kept more last left after longer some is (inr (inr (inr long))) =
    inr (inr (inr (long.0, long.1, subst (λ ks. slice_get ks long.0 ≡ Some long.1) (sym longer) (stays_at kept last long.0 long.1 long.2), long.3)))

-- nothing was found
pub same_explores : (how : How) (order : List ℕ) (old new : Search) (from : ℕ) (ends : List ℕ) (companies : List Company)
    (left : ℕ) (may_wait : Bool) (resting : List ℕ) → Dives how order old from new None
    → StillExplores how order (told old.nodes.items ends companies old.leads.items left may_wait resting)
    (told new.nodes.items ends companies new.leads.items left may_wait resting)
same_explores how order old new from ends companies left may_wait resting same = λ standing explores.
    subst (λ ks. ExploresFrom how order standing (told ks ends companies new.leads.items left may_wait resting)) (sym same.0)
    (subst (λ ls. ExploresFrom how order standing (told old.nodes.items ends companies ls left may_wait resting)) (sym same.1)
    explores)

pub longer_by : (how : How) (order : List ℕ) (old new : Search) (from number : ℕ) → Dives how order old from new (Some number)
    → length new.nodes.items ≡ length old.nodes.items + 1
longer_by how order old new from number dives = ap length (dives.0).1 ∙ length-append old.nodes.items ((dives.0).0 ∷ [])
