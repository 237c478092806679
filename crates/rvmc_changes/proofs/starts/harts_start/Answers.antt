use Rattle.std.proofs.Common.{◌<◌, ◌∙◌, ◌++◌, ◌∷◌, [], List, ap, length, sym, take, arith}
use Rattle.std.specs.Prelude.{map}
use Rattle.std.proofs.lemmas.List.{map-append, map_more}
use Rattle.rvmc_changes.specs.Seen.{SeenHart, seen_hart}
use Rattle.rvmc_changes.specs.Walks.{hart_at_start}
use Rattle.rvmc_changes.specs.declared.starts.HartStart.{HartStart}
use Rattle.rvmc_changes.proofs.starts.harts_start.Goals as goal

pub loop-hart-preserved : goal.loop-hart-preserved
loop-hart-preserved c =
    let harts = c.args.harts.now in
    let n = c.loop-hart.hart-index in
    let below : n < length harts = omega arith in
    ap (λ (l : List HartStart). map hart_at_start l) c.in_ok-push.ensures.items
    ∙ map-append hart_at_start c.loop-hart.starts.items (c.in_ok-hart_start.field-0 ∷ [])
    ∙ ap (λ (l : List SeenHart). l ++ hart_at_start c.in_ok-hart_start.field-0 ∷ []) c.loop-hart.invariant
    ∙ ap (λ x. map seen_hart (take n harts) ++ x ∷ []) (c.in_ok-hart_start.ensures ∙ ap seen_hart c.hart-item.is)
    ∙ sym (map_more seen_hart harts n c.hart-item.result below)
