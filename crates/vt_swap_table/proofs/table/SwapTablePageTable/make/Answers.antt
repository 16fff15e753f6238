use Rattle.std.proofs.Common.{◌≡◌, ℕ, ap, subst}
use Rattle.std.proofs.lemmas.List.Elements.{All-weaker}
use Rattle.vt_page_table.specs.Readers.{AreHome}
use Rattle.vt_swap.specs.Making.{IsNewReader}
use Rattle.vt_swap.specs.Readers.{ReaderView}
use Rattle.vt_swap_table.specs.declared.table.SwapReader.{SwapReader}
use Rattle.vt_swap_table.specs.SwapReaders.{IsReaderFor}
use Rattle.vt_swap_table.proofs.Making.{each_home}
use Rattle.vt_swap_table.proofs.table.SwapTablePageTable.make.Goals as goal

pub returns-clause-home : goal.returns-clause-home
returns-clause-home g c =
    let cache = c.in_ok-streamer.streamer.cache in
    let all = c.join_readers.ensures.each cache c.page_count-pages.result
    (All-weaker (IsNewReader cache) (λ (r : ReaderView). r.cache ≡ cache) (λ r is. ap (λ (x : ReaderView). x.cache) is) c.in_ok-streamer.made.elements
    c.in_ok-streamer.ensures.each) c.in_ok-spares.ensures.pages in
    subst (λ (n : ℕ). AreHome {R = SwapReader} (λ k r. IsReaderFor cache n r) c.args.samplers c.join_readers.new.readers.elements) c.page_count-pages.ensures.pages
    (each_home cache c.page_count-pages.result c.args.samplers c.join_readers.new.readers.elements c.join_readers.ensures.number all)
