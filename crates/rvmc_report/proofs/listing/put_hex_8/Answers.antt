use Rattle.std.proofs.Common.{rules}
use Rattle.rvmc_report.proofs.Digits.{padded_by_zeros}
use Rattle.rvmc_report.proofs.listing.put_hex_8.Goals as goal

pub returns : goal.returns
returns c = search (rules, padded_by_zeros)
