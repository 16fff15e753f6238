use Rattle.vt_word_table.specs.Views.{StreamerView}
use Rattle.vt_grace.specs.Sizes.{sizes_of}
use Rattle.vt_grace.specs.WriterViews.{first_writer}
use Rattle.vt_word_table.proofs.Homes.{first_home}
use Rattle.vt_pass.proofs.parts.kit_parts.Goals as goal

pub returns-clause-pool : goal.returns-clause-pool
returns-clause-pool c =
    let z = sizes_of c.args.geometry.now 1 c.args.crew.now.samplers in
    let w : StreamerView = record c.in_ok-_words.writer { writer = first_writer z } in
    (c.in_ok-pool.ensures.idle w (first_home z c.in_ok-readers.readers.elements c.in_ok-readers.ensures.number c.in_ok-readers.ensures.none)).pool

pub returns-clause-none : goal.returns-clause-none
returns-clause-none c = λ k a is.
    let z = sizes_of c.args.geometry.now 1 c.args.crew.now.samplers in
    let w : StreamerView = record c.in_ok-_words.writer { writer = first_writer z } in
    ((c.in_ok-pool.ensures.idle w (first_home z c.in_ok-readers.readers.elements c.in_ok-readers.ensures.number c.in_ok-readers.ensures.none)).home k a is).none

pub returns-clause-rows : goal.returns-clause-rows
returns-clause-rows c =
    let z = sizes_of c.args.geometry.now 1 c.args.crew.now.samplers in
    let w : StreamerView = record c.in_ok-_words.writer { writer = first_writer z } in
    (c.in_ok-pool.ensures.idle w (first_home z c.in_ok-readers.readers.elements c.in_ok-readers.ensures.number c.in_ok-readers.ensures.none)).rows
