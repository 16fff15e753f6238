use Rattle.std.proofs.Common.{◌∙◌, refl}
use Rattle.vt_draw.proofs.DrawnPixels.{finest_moved}
use Rattle.vt_plain_bilinear.specs.Served.{pages_about}
use Rattle.vt_plain_bilinear.proofs.Kept.{goes_on, served_later}
use Rattle.vt_plain_bilinear.proofs.served.words_by.Goals as goal

pub word_of_texel-requires-clause-inside : goal.word_of_texel-requires-clause-inside
word_of_texel-requires-clause-inside g c = (c.requires.level, c.requires.inside.column, c.requires.inside.line)

pub word_of_texel-requires-clause-finest : goal.word_of_texel-requires-clause-finest
word_of_texel-requires-clause-finest g c = c.requires.first

pub word_of_texel-requires-2-clause-shape : goal.word_of_texel-requires-2-clause-shape
word_of_texel-requires-2-clause-shape g c = c.word_of_texel.ensures.on.shape ∙ c.requires.shape

pub word_of_texel-requires-2-clause-inside : goal.word_of_texel-requires-2-clause-inside
word_of_texel-requires-2-clause-inside g c = (c.requires.level, c.requires.inside.next_column, c.requires.inside.line)

pub word_of_texel-requires-2-clause-finest : goal.word_of_texel-requires-2-clause-finest
word_of_texel-requires-2-clause-finest g c =
    let s = c.args.geometry.now in
    let on = c.word_of_texel.ensures.on in
    finest_moved s s (g.K.Lookup.version c.args.lookup.now) (g.K.Lookup.version c.word_of_texel.new.lookup) (g.K.Lookup.says c.args.lookup.now)
    (g.K.Lookup.says c.word_of_texel.new.lookup) (pages_about s c.args.level c.args.at.now).second c.args.second.now refl on.version on.said
    c.requires.second

pub word_of_texel-requires-3-clause-shape : goal.word_of_texel-requires-3-clause-shape
word_of_texel-requires-3-clause-shape g c =
    c.word_of_texel-2.ensures.on.shape ∙ c.word_of_texel.ensures.on.shape ∙ c.requires.shape

pub word_of_texel-requires-3-clause-inside : goal.word_of_texel-requires-3-clause-inside
word_of_texel-requires-3-clause-inside g c = (c.requires.level, c.requires.inside.column, c.requires.inside.next_line)

pub word_of_texel-requires-3-clause-finest : goal.word_of_texel-requires-3-clause-finest
word_of_texel-requires-3-clause-finest g c =
    let s = c.args.geometry.now in
    let on = goes_on c.word_of_texel.ensures.on c.word_of_texel-2.ensures.on in
    finest_moved s s (g.K.Lookup.version c.args.lookup.now) (g.K.Lookup.version c.word_of_texel-2.new.lookup) (g.K.Lookup.says c.args.lookup.now)
    (g.K.Lookup.says c.word_of_texel-2.new.lookup) (pages_about s c.args.level c.args.at.now).third c.args.third.now refl on.version on.said
    c.requires.third

pub word_of_texel-requires-4-clause-shape : goal.word_of_texel-requires-4-clause-shape
word_of_texel-requires-4-clause-shape g c =
    c.word_of_texel-3.ensures.on.shape ∙ c.word_of_texel-2.ensures.on.shape ∙ c.word_of_texel.ensures.on.shape ∙ c.requires.shape

pub word_of_texel-requires-4-clause-inside : goal.word_of_texel-requires-4-clause-inside
word_of_texel-requires-4-clause-inside g c = (c.requires.level, c.requires.inside.next_column, c.requires.inside.next_line)

pub word_of_texel-requires-4-clause-finest : goal.word_of_texel-requires-4-clause-finest
word_of_texel-requires-4-clause-finest g c =
    let s = c.args.geometry.now in
    let on = goes_on (goes_on c.word_of_texel.ensures.on c.word_of_texel-2.ensures.on) c.word_of_texel-3.ensures.on in
    finest_moved s s (g.K.Lookup.version c.args.lookup.now) (g.K.Lookup.version c.word_of_texel-3.new.lookup) (g.K.Lookup.says c.args.lookup.now)
    (g.K.Lookup.says c.word_of_texel-3.new.lookup) (pages_about s c.args.level c.args.at.now).fourth c.args.fourth.now refl on.version on.said
    c.requires.fourth

pub returns-clause-on : goal.returns-clause-on
returns-clause-on g c =
    goes_on (goes_on (goes_on c.word_of_texel.ensures.on c.word_of_texel-2.ensures.on) c.word_of_texel-3.ensures.on) c.word_of_texel-4.ensures.on

pub returns-clause-served : goal.returns-clause-served
returns-clause-served g c =
    let s = c.args.geometry.now in
    let k = c.args.level in
    let at = c.args.at.now in
    let v = g.K.Lookup.version c.args.lookup.now in
    let says = g.K.Lookup.says c.args.lookup.now in
    let last = g.K.Lookup.says c.word_of_texel-4.new.lookup in
    let one = c.word_of_texel.ensures.on in
    let two = goes_on one c.word_of_texel-2.ensures.on in
    let three = goes_on two c.word_of_texel-3.ensures.on in
    let rest = c.word_of_texel-4.ensures.on in
    let back = goes_on c.word_of_texel-3.ensures.on rest in
    let behind = goes_on c.word_of_texel-2.ensures.on back in
    let all = goes_on one behind in
    record {
      first = served_later s v v says (g.K.Lookup.says c.word_of_texel.new.lookup) last k at.column at.line c.word_of_texel.result
          c.args.first.now refl all.said behind.said c.requires.first c.word_of_texel.ensures.read;
      second = served_later s v (g.K.Lookup.version c.word_of_texel.new.lookup) says (g.K.Lookup.says c.word_of_texel-2.new.lookup) last k
          at.next_column at.line c.word_of_texel-2.result c.args.second.now one.version all.said back.said c.requires.second
          c.word_of_texel-2.ensures.read;
      third = served_later s v (g.K.Lookup.version c.word_of_texel-2.new.lookup) says (g.K.Lookup.says c.word_of_texel-3.new.lookup) last k
          at.column at.next_line c.word_of_texel-3.result c.args.third.now two.version all.said rest.said c.requires.third
          c.word_of_texel-3.ensures.read;
      fourth = served_later s v (g.K.Lookup.version c.word_of_texel-3.new.lookup) says last last k at.next_column at.next_line
          c.word_of_texel-4.result c.args.fourth.now three.version all.said (λ note h. h) c.requires.fourth c.word_of_texel-4.ensures.read;
    }
