use Rattle.std.proofs.Common.{rules}
use Rattle.std.specs.List.{flat_map}
use Rattle.rvmc_page.specs.Pages.{behind_steps, last_parts, part_lines, steps_closing}
use Rattle.rvmc_page.specs.declared.frame.TheConstants.{FOOT}
use Rattle.rvmc_page.specs.declared.script.TheConstants.{SCRIPT}
use Rattle.rvmc_page.specs.declared.show.TheConstants.{SHOW}
use Rattle.rvmc_page.proofs.Joined.{joined_five}
use Rattle.rvmc_page.proofs.pages.put_behind.Goals as goal

pub returns : goal.returns
unfolding behind_steps
returns c =
    joined_five c.args.text.now.items steps_closing
    (flat_map (part_lines c.args.image.now c.args.page.now) last_parts) SCRIPT.now SHOW.now FOOT.now
    c.extend_from_slice.new.self.items c.put_last.new.text.items c.extend_from_slice-2.new.self.items
    c.extend_from_slice-3.new.self.items c.extend_from_slice-4.new.self.items
    (search rules) (search rules) (search rules) (search rules) (search rules)
