use Rattle.std.proofs.Common.{List, Option, ℕ, ◌≡◌, ◌∙◌, ◌++◌, ap, refl, rules, subst, sym}
use Rattle.rv_image_types.specs.declared.images.Symbol.{Symbol}
use Rattle.cl_state.specs.declared.state.RankState.{RankState}
use Rattle.rvmc_explore.specs.HangTexts.{going_text, ranks_going}
use Rattle.rvmc_explore.specs.InnerGoing.{AddsGoings, IsInside}
use Rattle.rvmc_explore.proofs.going.put_goings.Goals as goal

pub state_at-requires : goal.state_at-requires
state_at-requires c = subst (IsInside c.args.nodes.now) c.in-Some.is c.requires

pub returns : goal.returns
returns c =
    let image = c.args.image.now in
    let order = c.args.order.now in
    let old = c.args.text.now.items in
    let new = c.put_ranks.new.text.items in
    let state = c.in_ok-state.state in
    let ranks = state.ranks.items in
    let symbols : c.as_slice-symbols.result.now ≡ image.symbols = search rules in
    let adds : new ≡ old ++ going_text image order state =
    c.in_ok-put_ranks.ensures
    ∙ ap (λ (rs : List RankState). old ++ ranks_going c.as_slice-symbols.result.now order 0 rs) c.as_slice-ranks.ensures.value
    ∙ ap (λ (ss : List Symbol). old ++ ranks_going ss order 0 ranks) symbols in
    subst (λ (o : Option ℕ). AddsGoings image order c.args.nodes.now o old new) (sym c.in-Some.is)
    (going_text image order state, record { state = state; is = c.in_ok-state.ensures; spelled = refl }, adds)
