use Rattle.std.proofs.Common.{◌∙◌, ap}
use Rattle.rv_image_types.specs.declared.images.ImageParts.{ImageParts}
use Rattle.rvmc_gdb.proofs.Methods.{names_told}
use Rattle.rvmc_gdb.proofs.session.Session.names.Goals as goal

pub returns : goal.returns
returns c =
    let symbols_are = c.as_slice-symbols.ensures ∙ ap (λ (x : ImageParts). x.symbols) c.parts.ensures.parts
    ∙ ap (λ (x : ImageParts). x.symbols) c.image.ensures in
    names_told _ _ c.as_slice-symbols.result.now c.state-state.result.now _ c.self.view_is c.state-state.ensures symbols_are
    c.in_ok-names_in.ensures
