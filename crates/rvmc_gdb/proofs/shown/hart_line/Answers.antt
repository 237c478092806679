use Rattle.std.proofs.Common.{◌∙◌, ap}
use Rattle.rv_image_types.specs.declared.images.ImageParts.{ImageParts}
use Rattle.rvmc_gdb.specs.Shown.{line_at}
use Rattle.rvmc_gdb.proofs.shown.hart_line.Goals as goal

pub returns : goal.returns
returns c =
    let symbols_are = c.as_slice-symbols.ensures ∙ ap (λ (x : ImageParts). x.symbols) c.parts.ensures.parts
    ∙ ap (λ (x : ImageParts). x.symbols) c.image.ensures in (
      c.state.result.now,
      c.state.ensures,
      c.in_ok-rank_line.ensures ∙ ap (λ names. line_at names c.state.result.now c.args.who.rank c.args.who.hart) symbols_are,
    )
