use Rattle.std.proofs.Common.{◌≡◌, ◌≤◌, ◌+◌, drop}
use Rattle.std.specs.Prelude.{map}
use Rattle.rv_memory.specs.Held.{is_there, shown}
use Rattle.rv_memory.specs.MorePages.{missing_pages, missing_from}
use Rattle.rv_memory.proofs.pages.missing.Given as goal

abbrev pub invariant-loop-page : goal.invariant-loop-page
invariant-loop-page l = (l.missing + missing_from l.page (drop l.page (map is_there (shown l.text l.pages))) l.address l.count ≡ missing_pages (map is_there (shown l.text l.pages)) l.address l.count) × (l.missing ≤ l.page)
