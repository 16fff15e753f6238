use Rattle.std.proofs.Common.{sym, subst}
use Rattle.vt_page_table.specs.Readers.{AreHome}
use Rattle.vt_sampler.specs.Sizes.{sizes_of}
use Rattle.vt_sampler.specs.GraceTypes.views.WriterView.{WriterView}
use Rattle.vt_word_table.specs.declared.table.WordReader.{WordReader}
use Rattle.vt_word_table.specs.WordReaders.{IsAtHome}
use Rattle.vt_word_table.proofs.Homes.{first_home}
use Rattle.vt_word_table.proofs.table.WordTablePageTable.make.Goals as goal

pub returns-clause-home : goal.returns-clause-home
returns-clause-home g c =
    subst (λ (x : WriterView). AreHome {R = WordReader} (λ k r. IsAtHome x k r.pass) c.args.samplers c.in_ok-readers.readers.elements)
    (sym c.in_ok-words.ensures.writer)
    (first_home (sizes_of c.args.geometry.now c.args.frames c.args.samplers) c.in_ok-readers.readers.elements c.in_ok-readers.ensures.number
    c.in_ok-readers.ensures.none)
