use Rattle.std.proofs.Common.{rules}
use Rattle.rvmc_report.specs.Listing.{word_lines}
use Rattle.rvmc_report.proofs.Digits.{flat_map-range_more}
use Rattle.rvmc_report.proofs.listing.listing.Goals as goal

pub loop-number-preserved : goal.loop-number-preserved
loop-number-preserved c =
    let more = flat_map-range_more (word_lines c.args.image.now) c.loop-number.number in
    search rules
