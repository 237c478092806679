-- A record of an outcome, and that there is none.
use Rattle.std.proofs.Common.{ℕ, Bool, ◌≡◌, ◌≤◌, ◌∙◌, zero, suc, ap, length, List, None, Option, Some, inl, inr, refl, slice_get, subst, sym}
use Rattle.std.proofs.lemmas.Option.{slice_get_past}
use Rattle.rv_image_types.specs.Image.{IsImage}
use Rattle.rv_image_types.specs.declared.images.ImageParts.{ImageParts}
use Rattle.cl_machine.specs.declared.steps.Step.{Step}
use Rattle.cl_order_laws.specs.Closed.{Node}
use Rattle.cl_moves.specs.Standing.{IsWay, by_order, first_node}
use Rattle.cl_explore.specs.Ends.{Findings}
use Rattle.rvmc_explore.specs.InnerRecorded.{IsInOrder, RecordsIn}
use Rattle.rvmc_explore.specs.Outcomes.{AreTold, IsListOf, IsOutcome, IsTextAt}
use Rattle.rvmc_explore.specs.Recorded.{Leads, LeadsTo, RecordsEnd, numbered}
use Rattle.rvmc_explore.specs.Starting.{IsListFrom, RecordsEndBehind}
use Rattle.rvmc_explore.specs.declared.outcomes.Outcome.{Outcome}
use Rattle.rvmc_starts.specs.declared.starts.Start.{Start}

-- ---- where an outcome's turns lead

module _ (image : ImageParts) (order : List ℕ) (found : Findings) (outcome : Outcome) where
  -- to a node of which its text tells
  pub told_way : IsOutcome order image found outcome
      → (node : Node) × IsWay (by_order order) (first_node image) outcome.way node
      × IsTextAt image order found.left node outcome.body.items
  told_way (inl end) =
      (end.node, end.led, record { state = end.state; stands = end.stands; spelled = inl (end.end, end.told) })
  told_way (inr (inl stuck)) =
      let told = stuck.told in
      let ranks = (stuck.company).ranks.items in (
        stuck.node,
        stuck.led,
        record {
          state = told.state;
          stands = stuck.stands;
          spelled = inr (inl (ranks, stuck.stuck, stuck.others, told.spelled));
        },
      )
  told_way (inr (inr (inl needs))) = (
    needs.node,
    needs.led,
    record { state = needs.state; stands = needs.stands; spelled = inr (inr (inl (needs.ranks, needs.need, needs.told))) },
  )
  told_way (inr (inr (inr hang))) = (
    hang.node,
    hang.led,
    record {
      state = hang.state;
      stands = hang.stands;
      spelled = inr (inr (inr (hang.set, hang.resting, hang.hangs, hang.told)));
    },
  )

  -- and in the order of a record
  leads_to : (steps : List Step) → IsImage image → IsInOrder outcome.way steps → IsOutcome order image found outcome
      → LeadsTo image order found.left outcome steps
  leads_to steps limits sorted is =
      let at = told_way is in
      let its = sorted image (at.0).cluster limits (at.1).run in
      record { node = at.0; way = at.1; told_at = at.2; sorted = its.0; run = its.1 }

-- ---- the outcome of a number

pub numbered_at : (told : List Outcome) (number : ℕ) (outcome : Outcome) → numbered told number ≡ Some outcome
    → (k : ℕ) × (number ≡ suc k) × (slice_get told k ≡ Some outcome)
numbered_at told zero outcome is = absurd (cc)
numbered_at told (suc before) outcome is = (before, refl, is)

pub numbered_some : (told : List Outcome) (number k : ℕ) (one : Outcome) → number ≡ suc k → slice_get told k ≡ Some one
    → numbered told number ≡ Some one
numbered_some told number k one is at = ap (numbered told) is ∙ at

pub numbered_none : (told : List Outcome) (number k : ℕ) → number ≡ suc k → length told ≤ k → numbered told number ≡ None
numbered_none told number k is past = ap (numbered told) is ∙ slice_get_past told k past

-- ---- the record

pub records_told : (image : ImageParts) (order : List ℕ) (found : Findings) → IsImage image → (told : List Outcome)
    → AreTold order image found told → (number : ℕ) (steps : Option (List Step)) → RecordsIn told number steps
    → Leads image order found.left (numbered told number) steps
records_told image order found limits told are number None none =
    subst (λ o. Leads image order found.left o None) (sym none) tt
records_told image order found limits told are number (Some steps) (outcome, is, sorted) =
    let at = numbered_at told number outcome is in
    subst (λ o. Leads image order found.left o (Some steps)) (sym is)
    (leads_to image order found outcome steps limits sorted (are.each at.0 outcome at.2))

pub records_end : (image : ImageParts) (order : List ℕ) (buffered : Bool) (states turns : ℕ) (told : List Outcome)
    (number : ℕ) (steps : Option (List Step)) → IsImage image → IsListOf image order buffered states turns told
    → RecordsIn told number steps → RecordsEnd image order buffered states turns number steps
records_end image order buffered states turns told number steps limits listed records = record {
  told = told;
  listed = listed;
  leads = records_told image order listed.found limits told listed.are number steps records;
}

pub records_behind : (image : ImageParts) (start : Start) (states turns : ℕ) (told : List Outcome) (number : ℕ)
    (steps : Option (List Step)) → IsImage image → IsListFrom image start states turns told → RecordsIn told number steps
    → RecordsEndBehind image start states turns number steps
records_behind image start states turns told number steps limits listed records = record {
  told = told;
  listed = listed;
  leads = records_told image start.harts listed.found limits told listed.are number steps records;
}
