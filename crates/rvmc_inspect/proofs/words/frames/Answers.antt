use Rattle.std.proofs.Common.{◌∙◌, ap, refl}
use Rattle.rv_image_types.specs.declared.images.ImageParts.{ImageParts}
use Rattle.cl_state.specs.Room.{rank_of}
use Rattle.rvmc_inspect.specs.WordTexts.{frames_text}
use Rattle.rvmc_inspect.proofs.words.frames.Goals as goal

pub returns-clause-does : goal.returns-clause-does
returns-clause-does c =
    let owner = c.in_ok-owner.owner.now in
    let hart = c.in_ok-shown.shown.now in
    let symbols_are = c.as_slice-symbols.ensures ∙ ap (λ (x : ImageParts). x.symbols) c.parts.ensures.parts
    ∙ ap (λ (x : ImageParts). x.symbols) c.image.ensures in (
      refl,
      rank_of owner,
      c.in_ok-owner.ensures.shown,
      hart,
      c.in_ok-shown.ensures.shown,
      c.in_ok-frames_text.ensures ∙ ap (λ symbols. frames_text symbols c.args.rank c.args.hart owner.memory hart) symbols_are,
    )
