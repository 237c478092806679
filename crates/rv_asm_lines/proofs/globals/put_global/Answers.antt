use Rattle.std.proofs.Common.{◌≡◌, ◌∙◌, map, ap}
use Rattle.std.specs.BTreeSet.{insert_key}
use Rattle.std.specs.Cmp.Lexicographic.{slice_cmp}
use Rattle.std.specs.Ordering.{nat_cmp}
use Rattle.rv_asm_lines.specs.LayoutView.{names_view}
use Rattle.rv_asm_lines.proofs.GlobalNames.{inserted_view}
use Rattle.rv_asm_lines.proofs.globals.put_global.Goals as goal

pub returns : goal.returns
returns c =
    let names = names_view c.args.globals.now in
    let keys : names_view c.insert.new.self ≡ insert_key (slice_cmp nat_cmp) names c.in_ok-key.key.items = ap (map (λ w. w.items)) c.in_ok-insert.ensures.keys ∙ inserted_view c.in_ok-key.key c.args.globals.now.keys in
    keys ∙ ap (insert_key (slice_cmp nat_cmp) names) c.in_ok-key.ensures.items
