use Rattle.std.proofs.Common.{rules, ◌*◌}
use Rattle.rvmc_inspect.specs.WordTexts.{bytes_line, line_bytes}
use Rattle.rvmc_report.proofs.Digits.{flat_map-range_more}
use Rattle.rvmc_inspect.proofs.ByteLines.{line_cut}
use Rattle.rvmc_inspect.proofs.word_texts.bytes_text.Goals as goal

pub loop-number-preserved : goal.loop-number-preserved
loop-number-preserved c =
    let number = c.loop-number.number in
    let more = flat_map-range_more (λ n. bytes_line (line_bytes c.args.bytes.now n)) number in
    let cut = line_cut c.args.bytes.now (16 * number) c.min.result (search rules) (search rules) in
    search rules
