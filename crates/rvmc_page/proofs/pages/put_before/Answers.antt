use Rattle.std.proofs.Common.{rules}
use Rattle.std.specs.List.{flat_map}
use Rattle.rvmc_page.specs.Pages.{before_steps, first_parts, part_lines, picture_text, steps_opening}
use Rattle.rvmc_page.specs.declared.frame.TheConstants.{BODY, HEAD}
use Rattle.rvmc_page.proofs.Joined.{joined_five}
use Rattle.rvmc_page.proofs.pages.put_before.Goals as goal

pub returns : goal.returns
unfolding before_steps
returns c =
    joined_five c.args.text.now.items HEAD.now (picture_text c.args.page.now.shown) BODY.now
    (flat_map (part_lines c.args.image.now c.args.page.now) first_parts) steps_opening
    c.extend_from_slice.new.self.items c.put_picture.new.text.items c.extend_from_slice-2.new.self.items
    c.put_these.new.text.items c.open_steps.new.text.items
    (search rules) (search rules) (search rules) (search rules) (search rules)
