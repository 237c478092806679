use Rattle.std.proofs.Common.{◌∙◌, ◌∷◌, ◌++◌, [], refl, sym, ap, length}
use Rattle.std.proofs.lemmas.List.{length-map, length-set}
use Rattle.std.proofs.lemmas.Option.{slice_get_read}
use Rattle.part_box.specs.Keys.{new_sender}
use Rattle.part_channel.specs.Sending.{SendView}
use Rattle.cl_machine.proofs.Lists.{get-set_other}
use Rattle.cl_record.specs.declared.wiring.Ends.{Ends}
use Rattle.cl_record.proofs.Links.{wired_more}
use Rattle.cl_record.proofs.wiring.Wiring.add.Goals as goal

pub returns : goal.returns
returns c = λ links wired.
    let old = c.args.self.now in
    let l = c.args.link in
    let channel = c.in_ok-channel.channel in
    let x = c.index_mut.result.now in
    let z = c.index_mut-2.result.now in
    let ends = old.ends in
    let long = sym (length-map channel.boxes new_sender)
    ∙ ap (λ (s : SendView). length s.keys) (sym c.in_ok-channel.ensures.sends ∙ sym c.send.view_is)
    ∙ c.send.invariant.kept.long in
    let number = c.len-number.ensures ∙ old.channels.ok.0 ∙ wired.channels_count in
    let at_from = slice_get_read ends.items _ l.from x refl c.requires.link.from_there c.index_mut.ensures.value in
    let y : Ends = record { sends = c.push-2.new.self; recvs = x.recvs } in
    let w : Ends = record { sends = z.sends; recvs = c.push-3.new.self } in
    let at_to = sym (get-set_other ends.items l.from l.to y (λ e. c.requires.link.differ (sym e)))
    ∙ slice_get_read _ _ l.to z (sym (length-set ends.items l.from y)) c.requires.link.to_there c.index_mut-2.ensures.value in
    wired_more c.args.version links old _ l channel x y z w wired long
    (c.in_ok-channel.ensures.wide
    ∙ c.box_words.ensures) c.requires.link.differ c.in_ok-push.ensures.items at_from at_to refl
    (c.in_ok-push-2.ensures.items
    ∙ (λ i. x.sends.items ++ (number i, c.in_ok-channel.ensures.sends i) ∷ [])) refl refl
    (c.in_ok-push-3.ensures.items
    ∙ (λ i. z.recvs.items ++ (number i, c.in_ok-channel.ensures.receives i) ∷ []))
