use Rattle.std.proofs.Common.{◌≡◌, ◌+◌, ◌++◌, take, drop, length}
use Rattle.std.specs.Prelude.{map}
use Rattle.rv_memory.specs.Held.{is_there, all_bytes, shown, AreWhole}
use Rattle.rv_memory.specs.Pages.{written_pages}
use Rattle.rv_memory.specs.MorePages.{missing_pages, missing_from}
use Rattle.rv_memory.proofs.pages.place.Given as goal

abbrev pub invariant-loop-page : goal.invariant-loop-page
invariant-loop-page l = record {
  there : map is_there (shown l.text l.pages.items) ≡ take l.page (written_pages (map is_there (shown l.text l.fn.pages.items)) l.address l.count) ++ drop l.page (map is_there (shown l.text l.fn.pages.items));
  bytes : all_bytes (shown l.text l.pages.items) ≡ all_bytes (shown l.text l.fn.pages.items);
  whole : AreWhole (shown l.text l.pages.items);
  long : length l.pages.items ≡ length l.fn.pages.items;
  taken : l.spares + missing_pages (map is_there (shown l.text l.fn.pages.items)) l.address l.count ≡ l.fn.spares + missing_from l.page (drop l.page (map is_there (shown l.text l.fn.pages.items))) l.address l.count;
}
